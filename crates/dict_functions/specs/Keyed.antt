-- Lookups in a dictionary whose rows are fetched by key: the keys of a request, and the answer from what was fetched.
use Rattle.std.specs.Prelude.{◌≡◌, ◌-◌, ◌∷◌, ◌⊎◌, [], if◌then◌else◌, ℕ, List, Bool, true, false, Some, Result, Ok}
use Rattle.std.specs.Prelude.{Err, length, slice_get}
use Rattle.std.specs.List.{AllZip}
use Rattle.cache_layout.specs.Fetching.{FitsReply, key_types}
use Rattle.dict_schema.specs.declared.definition.Column.{Column}
use Rattle.dict_schema.specs.declared.definition.Definition.{Definition}
use Rattle.dict_value.specs.declared.value.FetchedRow.{FetchedRow}
use Rattle.dict_value.specs.declared.value.MaybeRow.{MaybeRow}
use Rattle.dict_value.specs.declared.value.MaybeRow.TheVariants.{Absent, Present}
use Rattle.dict_value.specs.declared.value.Value.{Value}
use Rattle.dict_version.specs.Keys.{attribute_place}
use Rattle.row_text.specs.Written.{printed}
use Rattle.wire_text.specs.declared.reply.Line.{Line}
use Rattle.wire_text.specs.declared.reply.Mark.TheVariants as mark
use Rattle.wire_text.specs.declared.reply.Reply.{Reply}
use Rattle.wire_text.specs.declared.reply.ReplyFault.{ReplyFault}
use Rattle.wire_text.specs.declared.reply.ReplyFault.TheVariants as fault
use Rattle.wire_text.specs.declared.request.Asked.{Asked}
use Rattle.wire_text.specs.declared.request.Verb.{Verb}
use Rattle.wire_text.specs.declared.request.Verb.TheVariants as verb
use Rattle.dict_functions.specs.Asking.{IsAttributeNamed}
use Rattle.dict_functions.specs.Refusals.{IsFitting, IsUnfitting}
use Rattle.dict_functions.specs.Replies.{IsReplyOf}
use Rattle.dict_functions.specs.Sending.{AreUnsent, WriteRows}
use Rattle.dict_functions.specs.Values.{StandsInText, flag}

-- The keys of a lookup, or the first reason why it is refused: it doesn't fit, a line has no key, or a key is too long.
abbrev pub AreKeys : Definition → Asked → Result (List (List Value)) ReplyFault → Type 0
AreKeys d q (Ok keys) = IsFitting d q × WriteRows d.source.format (key_types d) q.lines keys
AreKeys d q (Err f) =
    IsUnfitting d q f ⊎ (IsFitting d q × AreUnsent d.source.format (key_types d) q.lines fault.BadKey f)

-- one row for each key, in order, as a fetch promises them
abbrev pub AreFetched : Definition → List (List Value) → List FetchedRow → Type 0
AreFetched d keys rows = AllZip (λ key (fetched : FetchedRow). FitsReply d fetched.row) keys rows

-- the place in a fetched row of the attribute that is this column: that in a row, less the keys where it has none
abbrev pub fetched_place : Definition → ℕ → ℕ
fetched_place d column =
    if d.source.implicit then attribute_place d column - length d.keys else attribute_place d column

-- the text of the attribute in a row that was fetched, or of what stands in for it
abbrev pub IsFetchedText : Definition → Asked → ℕ → Column → MaybeRow → List ℕ → Type 0
IsFetchedText d q place column (Present row) text =
    (v : Value) × (slice_get row (fetched_place d place) ≡ Some v) × (text ≡ printed column.ty.base v)
IsFetchedText d q place column Absent text = StandsInText q column text

-- the text of an attribute for what was fetched
pub record IsFetchedAttribute (d : Definition) (q : Asked) (row : MaybeRow) (text : List ℕ) : Type 0 where
  pub place : ℕ
  pub column : Column
  pub named : IsAttributeNamed d q.attribute place column
  pub is : IsFetchedText d q place column row text

-- whether there is a row
abbrev pub is_present : MaybeRow → Bool
is_present Absent = false
is_present (Present row) = true

-- what a lookup gives for what was fetched
abbrev pub IsKeyedTextBy : Verb → Definition → Asked → MaybeRow → List ℕ → Type 0
IsKeyedTextBy verb.Get d q row text = IsFetchedAttribute d q row text
IsKeyedTextBy verb.GetOrDefault d q row text = IsFetchedAttribute d q row text
IsKeyedTextBy verb.GetOrNull d q row text = IsFetchedAttribute d q row text
IsKeyedTextBy verb.Has d q row text = text ≡ flag (is_present row)
IsKeyedTextBy _ d q row text = ⊥

-- the line of what was fetched; it tells the moment of that fetch
pub record IsKeyedLine (d : Definition) (q : Asked) (fetched : FetchedRow) (line : Line) : Type 0 where
  pub moment : line.moment ≡ fetched.moment
  pub text : IsKeyedTextBy q.verb d q fetched.row line.text

-- the moment of a reply: that of the request for a block, and that of the one fetch for a single lookup
abbrev pub moment_told : Bool → ℕ → List FetchedRow → ℕ
moment_told false now (fetched ∷ []) = fetched.moment
moment_told _ now rows = now

-- the answer at a moment from the rows that were fetched for the keys of a lookup
abbrev pub AnswersKeyed : Definition → Asked → ℕ → List FetchedRow → Reply → Type 0
AnswersKeyed d q now rows reply =
    (lines : List Line) × AllZip (IsKeyedLine d q) rows lines
    × IsReplyOf q.block (mark.Moment (moment_told q.block now rows)) lines reply
