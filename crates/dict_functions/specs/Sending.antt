-- What the lines of a request write for a program: rows of values, or the first reason why they can't be sent.
use Rattle.std.specs.Prelude.{◌<◌, ℕ, List, All, Any, length}
use Rattle.std.specs.List.{AllZip}
use Rattle.cache_layout.specs.Fetching.{CanBeSent}
use Rattle.cache_layout.specs.declared.fetch.TheConstants.{MOST_KEY_BYTES}
use Rattle.dict_value.specs.declared.value.AttrType.{AttrType}
use Rattle.dict_value.specs.declared.value.Field.{Field}
use Rattle.dict_value.specs.declared.value.Format.{Format}
use Rattle.dict_value.specs.declared.value.Value.{Value}
use Rattle.row_text.specs.Written.{written_row}
use Rattle.wire_text.specs.declared.reply.ReplyFault.{ReplyFault}
use Rattle.wire_text.specs.declared.reply.ReplyFault.TheVariants as fault
use Rattle.dict_functions.specs.Keys.{IsFirstWithout, ReadsAs}

-- the fields of a line write values of these types
abbrev pub HasValues : List AttrType → List Field → Type 0
HasValues types fields = (values : List Value) × ReadsAs types fields values

-- the row of the values is too long to be sent
abbrev pub IsTooLong : Format → List AttrType → List Value → Type 0
IsTooLong format types values = MOST_KEY_BYTES < length (written_row format types values)

-- each line writes a row that a program can be sent
pub record WriteRows (format : Format) (types : List AttrType) (lines : List (List Field)) (rows : List (List Value))
    : Type 0 where
  pub read : AllZip (ReadsAs types) lines rows
  pub sent : All (CanBeSent format types) rows

-- Why lines are refused that don't: the first one that writes no values, or else that the row of one is too long.
pub data AreUnsent (format : Format) (types : List AttrType) (lines : List (List Field)) (unread : ℕ → ReplyFault)
    : ReplyFault → Type 0 where
  unread : {line : ℕ} → IsFirstWithout (HasValues types) lines line → AreUnsent format types lines unread (unread line)
  large : (rows : List (List Value)) → AllZip (ReadsAs types) lines rows → Any (IsTooLong format types) rows
      → AreUnsent format types lines unread fault.TooLarge
