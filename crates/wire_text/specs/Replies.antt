-- The one text of a reply.
use Rattle.std.specs.Prelude.{◌<◌, ◌^◌, ℕ, Bool, List, [], ◌++◌, codes, decimal, length, if◌then◌else◌}
use Rattle.std.specs.List.{flat_map}
use Rattle.dict_value.specs.Split.{Lacks}
use Rattle.dict_value.specs.declared.letters.TheConstants.{LINE_FEED}
use Rattle.dict_value.specs.declared.value.Field.TheVariants.{Text}
use Rattle.load_core.specs.declared.dictionary.LastCause.{LastCause}
use Rattle.load_core.specs.declared.dictionary.LastCause.TheVariants as last
use Rattle.load_core.specs.declared.dictionary.State.{State}
use Rattle.load_core.specs.declared.dictionary.State.TheVariants as state
use Rattle.row_text.specs.TabRow.{field_text}
use Rattle.wire_text.specs.Causes.{call_cause, call_lacks_memory, fetch_cause, fetch_lacks_memory, load_cause}
use Rattle.wire_text.specs.Causes.{load_lacks_memory}
use Rattle.wire_text.specs.declared.reply.Line.{Line}
use Rattle.wire_text.specs.declared.reply.Mark.{Mark}
use Rattle.wire_text.specs.declared.reply.Mark.TheVariants as mark
use Rattle.wire_text.specs.declared.reply.Reply.{Reply}
use Rattle.wire_text.specs.declared.reply.Reply.TheVariants as reply
use Rattle.wire_text.specs.declared.reply.ReplyFault.{ReplyFault}
use Rattle.wire_text.specs.declared.reply.ReplyFault.TheVariants as fault
use Rattle.wire_text.specs.declared.reply.StatusLine.{StatusLine}

-- the name of a version, and of the moment of a fetch
abbrev pub version_text : ℕ → List ℕ
version_text number = codes "v" ++ decimal number

abbrev pub moment_text : ℕ → List ℕ
moment_text moment = codes "t" ++ decimal moment

abbrev pub mark_text : Mark → List ℕ
mark_text (mark.Version number) = version_text number
mark_text (mark.Moment moment) = moment_text moment
mark_text mark.Function = codes "f"

-- the number of a mark has 64 bits
abbrev pub IsNumbered : Mark → Type 0
IsNumbered (mark.Version number) = number < 2 ^ 64
IsNumbered (mark.Moment moment) = moment < 2 ^ 64
IsNumbered mark.Function = Unit {0}

-- a value of a block, behind the moment of its fetch where the block's mark is one
abbrev pub block_line : Mark → Line → List ℕ
block_line (mark.Moment moment) line = moment_text line.moment ++ (codes "\t" ++ (line.text ++ codes "\n"))
block_line (mark.Version number) line = line.text ++ codes "\n"
block_line mark.Function line = line.text ++ codes "\n"

-- the text of a line has no line feed, and its moment has 64 bits
abbrev pub IsWholeLine : Line → Type 0
IsWholeLine line = Lacks LINE_FEED line.text × (line.moment < 2 ^ 64)

-- what a line tells in a block of this mark: a moment only where the mark is one
abbrev pub told_line : Mark → Line → Line
told_line (mark.Moment moment) line = line
told_line (mark.Version number) line = record { moment = 0; text = line.text }
told_line mark.Function line = record { moment = 0; text = line.text }

abbrev pub state_name : State → List ℕ
state_name state.NotLoaded = codes "NOT_LOADED"
state_name state.Loaded = codes "LOADED"
state_name state.Failed = codes "FAILED"
state_name state.Loading = codes "LOADING"
state_name state.LoadedAndReloading = codes "LOADED_AND_RELOADING"
state_name state.FailedAndReloading = codes "FAILED_AND_RELOADING"

abbrev pub last_cause_text : LastCause → List ℕ
last_cause_text last.None = codes "-"
last_cause_text (last.Of cause) = load_cause cause

-- a field behind another
abbrev pub then_field : List ℕ → List ℕ
then_field text = codes "\t" ++ text

-- how many loads were published, how many failed, and why the last one did
abbrev pub counts_fields : StatusLine → List ℕ
counts_fields s =
    then_field (decimal s.oks) ++ (then_field (decimal s.fails) ++ then_field (last_cause_text s.cause))

abbrev pub status_fields : StatusLine → List ℕ
status_fields s = then_field (version_text s.number) ++ (then_field (state_name s.state) ++ counts_fields s)

-- why a definitions file has no reading
abbrev pub refused_text : ℕ → ℕ → List ℕ → List ℕ
refused_text line place words =
    codes "line " ++ (decimal line ++ (codes " byte " ++ (decimal place ++ (codes ": " ++ words))))

-- a refusal for a cause; a load, a fetch or a call that found no memory is refused as any request that finds none
abbrev pub caused : Bool → List ℕ → List ℕ → List ℕ
caused lacks_memory number cause = if lacks_memory then codes "99" else number ++ then_field cause

-- what a refusal says: its number and, where it has one, the line, the cause or the number that it is about
abbrev pub fault_fields : ReplyFault → List ℕ
fault_fields fault.BadRequest = codes "1"
fault_fields fault.UnknownDictionary = codes "2"
fault_fields fault.UnknownAttribute = codes "3"
fault_fields (fault.BadKey line) = codes "4" ++ then_field (decimal line)
fault_fields fault.NotLoaded = codes "5"
fault_fields fault.WrongLayout = codes "6"
fault_fields (fault.Load cause) = caused (load_lacks_memory cause) (codes "7") (load_cause cause)
fault_fields (fault.Fetch cause) = caused (fetch_lacks_memory cause) (codes "8") (fetch_cause cause)
fault_fields fault.UnknownFunction = codes "9"
fault_fields (fault.BadArgument line) = codes "10" ++ then_field (decimal line)
fault_fields (fault.Call cause) = caused (call_lacks_memory cause) (codes "11") (call_cause cause)
fault_fields (fault.Behind number) = codes "12" ++ then_field (decimal number)
fault_fields fault.LineTooLong = codes "13"
fault_fields fault.TooLarge = codes "14"
fault_fields fault.ConfigUnread = codes "15"
fault_fields (fault.ConfigRefused line place words) = codes "16" ++ then_field (refused_text line place words.now)
fault_fields (fault.ConfigNames item) = codes "17" ++ then_field (decimal item)
fault_fields fault.ConfigTooLong = codes "18"
fault_fields fault.Shut = codes "98"
fault_fields fault.NoMemory = codes "99"

-- a reply up to its first line's end, and the lines that follow it
abbrev pub reply_fields : Reply → List ℕ
reply_fields (reply.One mark text) = codes "OK" ++ (then_field (mark_text mark) ++ then_field text)
reply_fields (reply.Many mark lines) =
    codes "OK" ++ (then_field (mark_text mark) ++ then_field (decimal (length lines)))
reply_fields (reply.Status s) = codes "OK" ++ status_fields s
reply_fields (reply.Number number) = codes "OK" ++ then_field (version_text number)
reply_fields (reply.Shown text) = codes "OK" ++ (then_field (codes "show") ++ then_field (field_text (Text text)))
reply_fields (reply.Config changed published) =
    codes "OK" ++ (then_field (codes "config") ++ (then_field (decimal changed) ++ then_field (decimal published)))
reply_fields reply.Bye = codes "OK" ++ then_field (codes "bye")
reply_fields (reply.Refused fault) = codes "ERR" ++ then_field (fault_fields fault)

abbrev pub lines_behind : Reply → List ℕ
lines_behind (reply.Many mark lines) = flat_map (block_line mark) lines
lines_behind _ = []

abbrev pub reply_text : Reply → List ℕ
reply_text r = reply_fields r ++ (codes "\n" ++ lines_behind r)
