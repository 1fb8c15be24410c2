use Rattle.std.proofs.Common.{Some, sym, ◌∙◌, ap}
use Rattle.wire_text.specs.steps.Fields.{request_word}
use Rattle.wire_text.proofs.BlockHeads.{head_lacks, head_put}
use Rattle.wire_text.specs.declared.words.Word.{Word}
use Rattle.wire_text.proofs.heads.is_head_of_block.Goals as goal

pub returns-in-Some-read_head : goal.returns-in-Some-read_head
returns-in-Some-read_head c =
    head_put c.args.fields _ _ c.in-Some.text _ c.in-Some.ensures
    (ap request_word (sym c.as_slice.ensures) ∙ sym c.read_word.ensures ∙ c.in-Some-Many.is ∙ ap (λ (w : Word). Some w) c.in-Some-Many.field-0-is)
    c.in-Some-pop_front.ensures c.in-Some-read_head.lookup _ (sym c.read_head.ensures ∙ c.in-Some-read_head.is) c.is_empty.ensures

pub returns : goal.returns
returns c =
    head_lacks c.args.fields _ _ c.in-Some.text _ c.in-Some.ensures
    (ap request_word (sym c.as_slice.ensures) ∙ sym c.read_word.ensures ∙ c.in-Some-Many.is ∙ ap (λ (w : Word). Some w) c.in-Some-Many.field-0-is)
    c.in-Some-pop_front.ensures (sym c.read_head.ensures ∙ c.in-None.is)
