use Rattle.std.proofs.Common.{◌≡◌, ◌∷◌, ◌∙◌, ℕ, List, [], ap, subst}
use Rattle.dict_value.specs.declared.value.Field.{Field}
use Rattle.dict_value.specs.declared.value.Field.TheVariants.{Text}
use Rattle.wire_text.specs.Numbers.{IsDecimalText}
use Rattle.wire_text.proofs.RowReadings.{below_reads, text_stands}
use Rattle.wire_text.proofs.reading.read_below.Goals as goal

pub returns-in-Ok : goal.returns-in-Ok
returns-in-Ok c =
    let first = text_stands c.args.fields c.take_text.new.fields c.in-Some.name c.in-Some.ensures in
    let whole : c.args.fields ≡ Text c.in-Some.name ∷ c.in-Some-pop_front.key ∷ Text c.in-Some-only_text.digits ∷ [] =
    first ∙ ap (λ (f : List Field). Text c.in-Some.name ∷ f)
    (c.in-Some-pop_front.ensures ∙ ap (λ (f : List Field). c.in-Some-pop_front.key ∷ f) c.in-Some-only_text.ensures) in
    let number : IsDecimalText c.in-Some-only_text.digits c.in-Some-count_in.level =
    subst (λ (t : List ℕ). IsDecimalText t c.in-Some-count_in.level) c.as_slice.ensures c.in-Some-count_in.ensures.0 in
    below_reads c.args.fields c.push.new.self c.in-Some.name c.in-Some-only_text.digits c.in-Some-pop_front.key c.in-Some-count_in.level
    c.above.result whole (c.in-Ok.ensures.ok ∙ ap (λ (f : List Field). f) (cc)) number c.in-Some-count_in.ensures.1 c.above.ensures
