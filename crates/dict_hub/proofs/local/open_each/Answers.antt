use Rattle.std.proofs.Common.{◌≡◌, ◌<◌, ◌∷◌, ◌++◌, ◌∙◌, [], List, ap, arith, length, sym, take}
use Rattle.dict_hub.specs.Plain.{PlainState, opened}
use Rattle.dict_hub.proofs.Opened.{opened-next}
use Rattle.dict_hub.proofs.local.open_each.Goals as goal

pub loop-place-preserved : goal.loop-place-preserved
loop-place-preserved g c =
    let items = c.args.items.now in
    let place = c.loop-place.place in
    let lt : c.loop-place.place < length c.args.items.now = omega (arith, c.loop-place-test.true) in
    c.in_ok-push.ensures.ok
    ∙ ap (λ (ys : List PlainState). ys ++ c.in_ok-dictionary.dictionary ∷ []) c.loop-place.invariant
    ∙ ap (λ (ys : List PlainState). opened c.args.folder.now c.args.seed 0 (take place items) ++ ys) (sym c.in_ok-dictionary.ensures)
    ∙ sym (opened-next c.args.folder.now c.args.seed items place c.index-items-place.result lt c.index-items-place.is)
