use Rattle.std.proofs.Common.{◌∙◌, ◌++◌, ◌∷◌, [], List, ap, sym}
use Rattle.dict_value.specs.declared.value.Value.{Value}
use Rattle.overlay.specs.Overlays.{keys_of}
use Rattle.overlay.proofs.Standing.{take-more-at}
use Rattle.overlay.proofs.keys.keys_of.Goals as goal

pub loop-place-preserved : goal.loop-place-preserved
loop-place-preserved c =
    let key : List Value = c.in_ok-key_at.field-0 in
    c.in_ok-push.ensures.ok ∙ ap (λ (list : List (List Value)). list ++ key ∷ []) c.loop-place.invariant
    ∙ sym (take-more-at (keys_of c.args.keys c.args.rows.now) c.loop-place.place key c.in_ok-key_at.ensures)
