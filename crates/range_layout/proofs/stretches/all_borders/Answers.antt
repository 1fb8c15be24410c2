-- One stretch more.
use Rattle.std.specs.Option.{option_to_list}
use Rattle.std.specs.Prelude.{Contains, MatchOption}
use Rattle.std.proofs.Common.{◌≡◌, ◌<◌, ◌≤◌, ◌++◌, ◌∷◌, ℕ, List, Option, Some, None, length, inl, inr, sym, subst, ap, ◌∙◌, arith, length-append}
use Rattle.std.proofs.lemmas.Bool.{cases_lt}
use Rattle.std.proofs.lemmas.List.Elements.{Contains-append_cases, Contains-append_left, Contains-append_right}
use Rattle.range_layout.specs.Stretches.{IsBorder, end_of, stretch_at, stretch_start}
use Rattle.range_layout.specs.declared.stretches.Stretch.{Stretch}
use Rattle.range_layout.proofs.Both.{both-second, in-both, length-both}
use Rattle.range_layout.proofs.stretches.all_borders.Goals as goal

-- the two borders of a row
module _ (stretches : List Stretch) (count row start : ℕ) (inner : Option ℕ) (s : start ≡ stretch_start (stretch_at stretches row))
    (o : MatchOption inner (count ≤ (stretch_at stretches row).high) (λ end. ((stretch_at stretches row).high < count) × (end ≡ end_of (stretch_at stretches row)))) where
  borders : (border : ℕ) → IsBorder stretches count row border → Contains (start ∷ option_to_list inner) border
  borders border (inl e) = (0, omega arith, s ∙ sym e)
  borders border (inr (l, e)) = both-second start inner border (told inner o)
    where
      told : (i : Option ℕ) → MatchOption i (count ≤ (stretch_at stretches row).high) (λ end. ((stretch_at stretches row).high < count) × (end ≡ end_of (stretch_at stretches row))) → i ≡ Some border
      told None m = absurd (omega (arith, m, l))
      told (Some x) m = ap Some (m.1 ∙ sym e)

  from : (border : ℕ) → Contains (start ∷ option_to_list inner) border → IsBorder stretches count row border
  from border h = elim (in-both start inner border h) [
    | inl e ↦ inl (e ∙ s)
    | inr e ↦ inr (told inner o e)
  ]
    where
      told : (i : Option ℕ) → MatchOption i (count ≤ (stretch_at stretches row).high) (λ end. ((stretch_at stretches row).high < count) × (end ≡ end_of (stretch_at stretches row))) → i ≡ Some border
          → ((stretch_at stretches row).high < count) × (border ≡ end_of (stretch_at stretches row))
      told None m e = cc
      told (Some x) m e = let q : x ≡ border = cc in (m.0, sym q ∙ m.1)

pub loop-stretch-preserved : goal.loop-stretch-preserved
loop-stretch-preserved c =
    let i = c.loop-stretch.invariant in
    let stretches = c.args.stretches.now in
    let count = c.args.count in
    let at = c.loop-stretch.stretch-index in
    let old = c.loop-stretch.all.items in
    let both = c.start_of.result ∷ option_to_list c.inner_end_of.result in
    let is : c.push_both.new.all.items ≡ old ++ both = c.in_ok-push_both.ensures in
    record {
      each = λ row border l b. subst (λ (z : List ℕ). Contains z border) (sym is) (elim (cases_lt row at) [
        | inl less ↦ Contains-append_left old both border (i.each row border less b)
        | inr most ↦
            let e : row ≡ at = omega (arith, l, most) in
            Contains-append_right old both border (borders stretches count at _ _ c.start_of.ensures c.inner_end_of.ensures border (subst (λ r. IsBorder stretches count r border) e b))
      ]);
      origin = λ border h. elim (Contains-append_cases old both border (subst (λ (z : List ℕ). Contains z border) is h)) [
        | inl before ↦ let o = i.origin border before in let l = o.1 in (o.0, omega (arith, l), o.2)
        | inr here ↦ (at, omega arith, from stretches count at _ _ c.start_of.ensures c.inner_end_of.ensures border here)
      ];
      len =
          let l = i.len in
          let m = length-both c.start_of.result c.inner_end_of.result in
          omega (arith, l, m, length-append old both, ap length is);
    }

pub returns-clause-each : goal.returns-clause-each
returns-clause-each c = λ row border l b. c.loop-stretch.invariant.each row border (omega (arith, l)) b

pub returns-clause-origin : goal.returns-clause-origin
returns-clause-origin c = λ border h. let o = c.loop-stretch.invariant.origin border h in let l = o.1 in (o.0, omega (arith, l), o.2)
