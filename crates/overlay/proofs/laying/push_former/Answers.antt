use Rattle.std.proofs.Common.{◌≡◌, ◌<◌, ◌+◌, ◌∙◌, ◌++◌, ◌∷◌, [], ℕ, List, Some, ap, sym, subst, arith, get_or, slice_get, length, true, false}
use Rattle.std.proofs.lemmas.List.{length_push}
use Rattle.std.proofs.lemmas.Option.{slice_get-get_or}
use Rattle.dict_value.specs.declared.value.Value.{Value}
use Rattle.packed_rows.specs.Columns.{RowList}
use Rattle.packed_rows.specs.Packs.{Building}
use Rattle.overlay.specs.Overlays.{IsFirst}
use Rattle.overlay.specs.steps.Standing.{IsBetween, IsFirstBehind, StandTo}
use Rattle.overlay.proofs.Standing.{added, between-added, first-behind, get-behind, stand-more, stand-skip, with_row}
use Rattle.overlay.proofs.laying.push_former.Goals as goal
use Rattle.overlay.proofs.laying.push_former.Goals.{then-is_first_behind+in_ok-push_row, else-is_first_behind}

-- the first place behind as many other keys
behind : (before keys : List (List Value)) (first : RowList) (place : ℕ) → length before ≡ length first → IsFirstBehind before keys place → IsFirst (before ++ keys) (length first + place)
behind before keys first place same h = subst (λ (n : ℕ). IsFirst (before ++ keys) (n + place)) same ((first-behind before keys place).1 h)

before-it : (before keys : List (List Value)) (first : RowList) (place : ℕ) → length before ≡ length first → IsFirst (before ++ keys) (length first + place) → IsFirstBehind before keys place
before-it before keys first place same h = (first-behind before keys place).0 (subst (λ (n : ℕ). IsFirst (before ++ keys) (n + place)) (sym same) h)

pub loop-place-preserved : goal.loop-place-preserved
loop-place-preserved c =
    let rows = c.args.rows.now in
    let keys = c.args.keys.now in
    let place = c.loop-place.place in
    let old = c.loop-place.out in
    let within : place < length rows = omega (arith, c.loop-place-test.true, c.len-place-end.ensures) in
    elim c.if-is_first_behind.branch [
      | then-is_first_behind+in_ok-push_row w ↦ (let row : List Value = get_or rows place [] in
          let at : slice_get rows place ≡ Some row = slice_get-get_or rows place [] within in
          let e : c.if-is_first_behind.out ≡ with_row old row = w.out-is ∙ added old w.push_row.new.out rows place row at w.in_ok-push_row.ensures in
          let list : c.if-is_first_behind.out.rows ≡ old.rows ++ row ∷ [] = ap (λ (b : Building). b.rows) e in record {
            between = between-added c.args.types.now old c.if-is_first_behind.out row c.loop-place.invariant.between e;
            few = omega (arith, ap length list, length_push old.rows row, c.loop-place.invariant.few);
            stand = λ before first same table h. (let n : length first + place + 1 ≡ length first + (place + 1) = omega arith in
                subst (λ (k : ℕ). StandTo (before ++ keys) (first ++ rows) k c.if-is_first_behind.out.rows) n
                (subst (StandTo (before ++ keys) (first ++ rows) (length first + place + 1)) (sym list)
                (stand-more (before ++ keys) (first ++ rows) (length first + place) old.rows (c.loop-place.invariant.stand before first same table h) row (behind before keys first place same ((c.is_first_behind.ensures before table).0 w.if-is_first_behind.true)) (get-behind first rows place ∙ at))));
          })
      | else-is_first_behind w ↦ (let list : c.if-is_first_behind.out.rows ≡ old.rows = ap (λ (b : Building). b.rows) w.out-is in record {
        between = subst (IsBetween c.args.types.now) (sym w.out-is) c.loop-place.invariant.between;
        few = omega (arith, ap length list, c.loop-place.invariant.few);
        stand = λ before first same table h. (let n : length first + place + 1 ≡ length first + (place + 1) = omega arith in
            subst (λ (k : ℕ). StandTo (before ++ keys) (first ++ rows) k c.if-is_first_behind.out.rows) n
            (subst (StandTo (before ++ keys) (first ++ rows) (length first + place + 1)) (sym list)
            (stand-skip (before ++ keys) (first ++ rows) (length first + place) old.rows (c.loop-place.invariant.stand before first same table h) (λ it. let had : c.is_first_behind.result ≡ true = (c.is_first_behind.ensures before table).1 (before-it before keys first place same it) in
            let wrong : false ≡ true = sym w.if-is_first_behind.false ∙ had in cc))));
      })
    ]
