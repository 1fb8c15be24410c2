use Rattle.std.proofs.Common.{◌≡◌, ◌∙◌, length, refl, subst, sym, true, false}
use Rattle.std.proofs.lemmas.Option.{same_Some, slice_get_read}
use Rattle.dict_value.specs.FindByKey.{HasKeyAt}
use Rattle.overlay.proofs.keys.is_first_behind.Goals as goal

pub returns-then-has : goal.returns-then-has
returns-then-has c = λ list t.
    let keys = c.args.keys.now in
    let key = c.index-keys-place.result in
    let at : HasKeyAt keys key c.args.place = slice_get_read keys (length keys) c.args.place key refl c.requires.within c.index-keys-place.is in
    let found = (c.has.ensures list t).0 c.if-has.true in
    ((λ wrong. cc), λ w. absurd (w.0 key at found.0 found.1))

pub returns : goal.returns
returns c = λ list t.
    let keys = c.args.keys.now in
    let key = c.index-keys-place.result in
    let at : HasKeyAt keys key c.args.place = slice_get_read keys (length keys) c.args.place key refl c.requires.within c.index-keys-place.is in (
      (λ holds. (
        (λ named has other found.
            let same : named ≡ key = same_Some named key (sym has ∙ at) in
            let had : c.has.result ≡ true = (c.has.ensures list t).1 (other, subst (λ k. HasKeyAt list k other) same found) in
            let wrong : false ≡ true = sym c.if-has.false ∙ had in
            cc),
        c.is_first.ensures.0 holds,
      )),
      λ w. c.is_first.ensures.1 w.1,
    )
