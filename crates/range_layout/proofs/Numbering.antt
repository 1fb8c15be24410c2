-- The number of a key is the least place with it.
use Rattle.std.proofs.Common.{ℕ, zero, suc, ◌<◌, List, [], ◌∷◌, Some, length, get_or, refl, sym, ◌∙◌, subst, arith}
use Rattle.std.proofs.lemmas.Option.{slice_get_within}
use Rattle.dict_value.specs.FindByKey.{HasKeyAt, IsLeastPlace}
use Rattle.dict_value.specs.declared.value.Value.{Value}
use Rattle.dict_value.proofs.FirstPlaces.{one-found}
use Rattle.range_layout.proofs.Taken.{IsNumberOf}

pub key-at : (keys : List (List Value)) (row : ℕ) → row < length keys → (key : List Value) × HasKeyAt keys key row
key-at [] row l = absurd (omega (arith, l))
key-at (key ∷ keys) zero l = (key, refl)
key-at (key ∷ keys) (suc row) l = key-at keys row (omega (arith, l))

module _ (keys : List (List Value)) (numbers : List ℕ) (least : (row : ℕ) (key : List Value) → HasKeyAt keys key row → IsLeastPlace keys key (get_or numbers row 0)) where
  pub number-within : (row : ℕ) → row < length keys → get_or numbers row 0 < length keys
  number-within row l =
      let k = key-at keys row l in
      slice_get_within keys (get_or numbers row 0) k.0 (least row k.0 k.1).equal

  pub number-of : (key : List Value) (place : ℕ) → IsLeastPlace keys key place → IsNumberOf keys numbers key place
  number-of key place is = record {
    own = λ row l e.
        let k = key-at keys row l in
        let there : HasKeyAt keys k.0 place = subst (HasKeyAt keys k.0) e (least row k.0 k.1).equal in
        k.1 ∙ (sym there ∙ is.equal);
    mine = λ row has.
        let same = one-found keys key (Some (get_or numbers row 0)) (Some place) (least row key has) is in
        cc;
  }
