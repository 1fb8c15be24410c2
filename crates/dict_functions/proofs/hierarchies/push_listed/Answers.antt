use Rattle.std.proofs.Common.{◌++◌, ◌∙◌, ap, refl, get_or}
use Rattle.dict_functions.specs.steps.Lines.{listed_at}
use Rattle.dict_functions.proofs.Listed.{listed-more}
use Rattle.dict_functions.proofs.hierarchies.push_listed.Goals as goal

pub loop-place-preserved : goal.loop-place-preserved
loop-place-preserved c =
    let p = c.loop-place.place in
    let n = get_or c.args.numbers.now p 0 in
    c.in_ok-push_at.ensures ∙ ap (λ l. l ++ listed_at p n) c.loop-place.invariant
    ∙ listed-more c.args.out.now c.args.numbers.now p n 0 c.loop-place-test.true refl
