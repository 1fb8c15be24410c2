-- The texts of causes: one field each, with single spaces.
use Rattle.std.specs.Prelude.{ℕ, Bool, true, false, List, ◌++◌, codes, decimal}
use Rattle.std.specs.Fmt.{signed_decimal}
use Rattle.dict_value.specs.declared.fault.BadRow.{BadRow}
use Rattle.dict_value.specs.declared.fault.BlockFault.{BlockFault}
use Rattle.dict_value.specs.declared.fault.BlockFault.TheVariants as block
use Rattle.dict_value.specs.declared.fault.CallFault.{CallFault}
use Rattle.dict_value.specs.declared.fault.CallFault.TheVariants as call
use Rattle.dict_value.specs.declared.fault.Cause.{Cause}
use Rattle.dict_value.specs.declared.fault.Cause.TheVariants as cause
use Rattle.dict_value.specs.declared.fault.FetchFault.{FetchFault}
use Rattle.dict_value.specs.declared.fault.FetchFault.TheVariants as fetch
use Rattle.dict_value.specs.declared.fault.Why.{Why}
use Rattle.dict_value.specs.declared.fault.Why.TheVariants as why
use Rattle.dict_value.specs.declared.value.BadValue.{BadValue}
use Rattle.dict_value.specs.declared.value.BadValue.TheVariants as value

-- why a field is no value of its column
abbrev pub value_cause : BadValue → List ℕ
value_cause value.NotANumber = codes "number"
value_cause value.OutOfRange = codes "range"
value_cause value.BadDate = codes "date"
value_cause value.BadUuid = codes "uuid"
value_cause value.BadAddress = codes "address"
value_cause value.BadDecimal = codes "decimal"
value_cause value.NullNotAllowed = codes "null"
value_cause value.NoMemory = codes "memory"

-- why a row has no reading
abbrev pub why_cause : Why → List ℕ
why_cause (why.Escape place) = codes "escape " ++ decimal place
why_cause why.CarriageReturn = codes "cr"
why_cause why.NotOneRecord = codes "csv"
why_cause (why.FieldCount count) = codes "fields " ++ decimal count
why_cause (why.Value bad) = value_cause bad

-- row line column why
abbrev pub row_cause : BadRow → List ℕ
row_cause bad =
    codes "row " ++ (decimal bad.line ++ (codes " " ++ (decimal bad.column ++ (codes " " ++ why_cause bad.why))))

-- why a load ended without a version, behind its number
abbrev pub load_cause : Cause → List ℕ
load_cause cause.Start = codes "1 start"
load_cause cause.Read = codes "2 read"
load_cause cause.TimedOut = codes "3 timeout"
load_cause (cause.Status status) = codes "4 status " ++ signed_decimal status
load_cause cause.Killed = codes "5 killed"
load_cause (cause.Longer limit) = codes "6 longer " ++ decimal limit
load_cause cause.Rows = codes "7 rows 4194304"
load_cause (cause.Row bad) = codes "8 " ++ row_cause bad
load_cause (cause.Key key) = codes "9 key " ++ decimal key
load_cause (cause.Prefix row) = codes "10 prefix " ++ decimal row
load_cause cause.Spent = codes "11 spent"
load_cause cause.NoMemory = codes "99 memory"

-- two numbers behind a word
abbrev pub pair_cause : List ℕ → ℕ → ℕ → List ℕ
pair_cause word first second = word ++ (decimal first ++ (codes " " ++ decimal second))

-- why a block of rows got no reply
abbrev pub block_cause : BlockFault → List ℕ
block_cause block.Write = codes "write"
block_cause block.Read = codes "read"
block_cause block.TimedOut = codes "timeout"
block_cause (block.Longer limit) = codes "longer " ++ decimal limit
block_cause (block.Lacks got wanted) = pair_cause (codes "lacks ") got wanted
block_cause (block.Exceeds extra) = codes "exceeds " ++ decimal extra

-- why a fetch by key failed
abbrev pub fetch_cause : FetchFault → List ℕ
fetch_cause fetch.Start = codes "start"
fetch_cause (fetch.Block fault) = block_cause fault
fetch_cause (fetch.Status status) = codes "status " ++ signed_decimal status
fetch_cause fetch.Killed = codes "killed"
fetch_cause (fetch.Implicit got wanted) = pair_cause (codes "implicit ") got wanted
fetch_cause (fetch.Text bad) = row_cause bad
fetch_cause (fetch.Strange row) = codes "strange " ++ decimal row
fetch_cause fetch.NoMemory = codes "memory"

-- why a call of a function failed
abbrev pub call_cause : CallFault → List ℕ
call_cause call.Start = codes "start"
call_cause (call.Block fault) = block_cause fault
call_cause (call.Status status) = codes "status " ++ signed_decimal status
call_cause call.Killed = codes "killed"
call_cause (call.Text bad) = row_cause bad
call_cause call.NoMemory = codes "memory"

-- whether a load, a fetch or a call ended because memory ran out
abbrev pub load_lacks_memory : Cause → Bool
load_lacks_memory cause.NoMemory = true
load_lacks_memory _ = false

abbrev pub fetch_lacks_memory : FetchFault → Bool
fetch_lacks_memory fetch.NoMemory = true
fetch_lacks_memory _ = false

abbrev pub call_lacks_memory : CallFault → Bool
call_lacks_memory call.NoMemory = true
call_lacks_memory _ = false
