-- The answer to a lookup from one version.
use Rattle.std.specs.Prelude.{◌≡◌, ℕ, List}
use Rattle.std.specs.Prelude.{MatchOption}
use Rattle.std.specs.List.{AllZip}
use Rattle.dict_value.specs.declared.value.Field.{Field}
use Rattle.dict_version.specs.Contents.{Contents}
use Rattle.version_slot.specs.Views.{Entered}
use Rattle.wire_text.specs.declared.reply.Line.{Line}
use Rattle.wire_text.specs.declared.reply.Mark.TheVariants as mark
use Rattle.wire_text.specs.declared.reply.Reply.{Reply}
use Rattle.wire_text.specs.declared.reply.Reply.TheVariants.{Refused}
use Rattle.wire_text.specs.declared.reply.ReplyFault.{ReplyFault}
use Rattle.wire_text.specs.declared.reply.ReplyFault.TheVariants as fault
use Rattle.wire_text.specs.declared.request.Asked.{Asked}
use Rattle.dict_functions.specs.Refusals.{IsFitting, IsRefusal}
use Rattle.dict_functions.specs.Replies.{IsReplyOf}
use Rattle.dict_functions.specs.Values.{IsText}

-- the line of a lookup in a version; it tells no moment
pub record IsLoadedLine (c : Contents) (q : Asked) (fields : List Field) (line : Line) : Type 0 where
  pub moment : line.moment ≡ 0
  pub text : IsText c q fields line.text

-- the answer from one version and its number
pub data Answers (number : ℕ) (c : Contents) (q : Asked) (reply : Reply) : Type 0 where
  refused : (f : ReplyFault) → IsRefusal c.definition q f → reply ≡ Refused f → Answers number c q reply
  answered : (lines : List Line) → IsFitting c.definition q → AllZip (IsLoadedLine c q) q.lines lines
      → IsReplyOf q.block (mark.Version number) lines reply → Answers number c q reply

-- the answer from what was seen of a slot: before the first version there is none
abbrev pub AnswersSeen : Entered Contents → Asked → Reply → Type 0
AnswersSeen seen q reply =
    MatchOption seen.version (reply ≡ Refused fault.NotLoaded) (λ c. Answers seen.number c q reply)
