use Rattle.std.proofs.Common.{List, [], ◌∷◌, ◌++◌, ◌∙◌, ap, sym, map, arith}
use Rattle.std.specs.List.{range_with_len}
use Rattle.std.proofs.lemmas.List.FromFn.{map-range_with_len_more}
use Rattle.load_core.specs.declared.world.WorldDict.{WorldDict}
use Rattle.load_core.specs.WorldSteps.{empty_dict}
use Rattle.load_core.proofs.world.unpublished.Goals as goal

pub loop-number-preserved : goal.loop-number-preserved
loop-number-preserved c =
    let n = c.loop-number.number in
    c.in_ok-push.ensures.ok
    ∙ ap (λ (all : List WorldDict). all ++ c.empty.result ∷ []) c.loop-number.invariant
    ∙ ap (λ (x : WorldDict). map empty_dict (range_with_len 0 n) ++ x ∷ []) c.empty.ensures
    ∙ sym (map-range_with_len_more empty_dict 0 n n (omega arith))
