use Rattle.std.proofs.Common.{◌≡◌, ◌∙◌, ℕ, Option, Some, MatchOption, ap, refl, subst, sym}
use Rattle.std.proofs.lemmas.Slice.Zip.{AllZip-long}
use Rattle.dict_version.specs.Contents.{Contents}
use Rattle.version_slot.specs.Views.{Entered}
use Rattle.wire_text.specs.declared.reply.Mark.TheVariants as mark
use Rattle.wire_text.specs.declared.reply.Reply.{Reply}
use Rattle.wire_text.specs.declared.reply.Reply.TheVariants.{Refused}
use Rattle.wire_text.specs.declared.reply.ReplyFault.TheVariants as fault
use Rattle.wire_text.specs.declared.request.Asked.{Asked}
use Rattle.dict_functions.specs.Answers.{Answers, AnswersSeen, IsLoadedLine}
use Rattle.dict_functions.specs.Replies.{IsReplyOf}
use Rattle.dict_functions.proofs.AskedLines.{one-line}
use Rattle.dict_functions.proofs.loaded.answer_loaded.Goals as goal

-- what was seen answers as its version does
seen-answers : (seen : Entered Contents) (v : Contents) (q : Asked) (reply : Reply) → seen.version ≡ Some v
    → Answers seen.number v q reply → AnswersSeen seen q reply
seen-answers seen v q reply e answers =
    subst (λ (o : Option Contents). MatchOption o (reply ≡ Refused fault.NotLoaded) (λ c. Answers seen.number c q reply)) (sym e) answers

pub reply_of-requires : goal.reply_of-requires
reply_of-requires c = λ single.
    let q = c.args.q.now in
    let answered = c.in-Ok.ensures (λ e. cc) in
    AllZip-long (IsLoadedLine c.in-Some.version.now q) q.lines c.in-Ok.lines answered.1 ∙ one-line q c.requires.0 single

pub returns-in-Ok : goal.returns-in-Ok
returns-in-Ok c = λ other.
    let q = c.args.q.now in
    let answered = c.in-Ok.ensures (λ e. cc) in
    seen-answers c.args.seen.now c.in-Some.version.now q c.reply_of.result c.in-Some.ensures.version
    (Answers.answered c.in-Ok.lines answered.0 answered.1
    (subst (λ (n : ℕ). IsReplyOf q.block (mark.Version n) c.in-Ok.lines c.reply_of.result) c.number.ensures.number c.reply_of.ensures))

pub returns-in-Err : goal.returns-in-Err
returns-in-Err c = λ other.
    let q = c.args.q.now in
    seen-answers c.args.seen.now c.in-Some.version.now q (Refused c.in-Err.fault) c.in-Some.ensures.version
    (Answers.refused c.in-Err.fault
    (c.in-Err.ensures (λ e. other (let memory : c.in-Err.fault ≡ fault.NoMemory = cc (e) in ap Refused memory))) refl)
