-- A step of a search by halves.
use Rattle.std.specs.List.{slice_get}
use Rattle.std.proofs.Common.{◌≡◌, ℕ, ◌+◌, ◌*◌, ◌^◌, ◌<◌, ◌≤◌, inl, inr, refl, arith, ap, subst, List, get_or, Some}
use Rattle.std.proofs.lemmas.Bool.{cases_lt}
use Rattle.std.proofs.lemmas.Option.{get_or_from_slice_get}
use Rattle.std.proofs.Math.Nat.{mul-le-mul_left}
use Rattle.std.proofs.lemmas.Nat.{pow-add}
use Rattle.range_layout.specs.Halves.{AreHalves, IsHalved, Rises}
use Rattle.range_layout.specs.Kept.{AreFew}

pub halved-none : (size amount : ℕ) → IsHalved size size amount amount
halved-none size amount = record { steps = 0; halves = inl refl; left = omega arith; spent = omega arith }

left-of : (p q next size : ℕ) → q ≡ p * 2 → p * (next + next) ≤ size → q * next ≤ size
left-of p q next size e h = rw e (omega (arith, h))

pub halved-more : (size gap next amount now later : ℕ) → 0 < gap → next + next ≤ gap → later ≤ now + 1 → IsHalved size gap amount now → IsHalved size next amount later
halved-more size gap next amount now later some less one h =
    let p : 2 ^ (h.steps + 1) ≡ 2 ^ h.steps * 2 = pow-add 2 h.steps 1 in
    let a : 2 ^ h.steps * (next + next) ≤ 2 ^ h.steps * gap = mul-le-mul_left (2 ^ h.steps) less in
    let b : 2 ^ h.steps * 1 ≤ 2 ^ h.steps * gap = mul-le-mul_left (2 ^ h.steps) (omega arith) in
    let l = h.left in
    let s = h.spent in
    record {
      steps = h.steps + 1;
      halves = inr (omega (arith, p, b, l));
      left = left-of (2 ^ h.steps) (2 ^ (h.steps + 1)) next size (omega arith) (omega (arith, a, l));
      spent = omega (arith, s);
    }

module _ (edges : List ℕ) (start end point middle x : ℕ) (r : Rises edges start end) (after : start ≤ middle) (within : middle < end) (read : slice_get edges middle ≡ Some x) where
  here : get_or edges middle 0 ≡ x
  here = get_or_from_slice_get edges middle x 0 read

  pub below-more : x ≤ point → (i : ℕ) → start ≤ i → i < middle + 1 → get_or edges i 0 ≤ point
  below-more h i a b = elim (cases_lt i middle) [
    | inl less ↦ let u = r i middle a less within in let e = here in omega (arith, u, e, h)
    | inr most ↦
        let q : middle ≡ i = omega (arith, most, b) in
        let e = here in
        subst (λ k. get_or edges k 0 ≤ point) q (omega (arith, e, h))
  ]

  pub above-more : point < x → (i : ℕ) → middle ≤ i → i < end → point < get_or edges i 0
  above-more h i a b = elim (cases_lt middle i) [
    | inl less ↦ let u = r middle i after less b in let e = here in omega (arith, u, e, h)
    | inr most ↦
        let q : middle ≡ i = omega (arith, most, a) in
        let e = here in
        subst (λ k. point < get_or edges k 0) q (omega (arith, e, h))
  ]

-- the steps of a search by halves and two more are few for the rows with a key
pub few-steps : (size rows steps old mid new : ℕ) → size ≤ 2 * rows → 0 < rows → AreHalves size steps → mid ≤ old + 1 → new ≤ mid + (steps + 1) → (s : ℕ) × AreFew rows s × (new ≤ old + s)
few-steps size rows steps old mid new most some halves one more =
    let p : 2 ^ (steps + 2) ≡ 2 ^ steps * 4 = pow-add 2 steps 2 in
    let few : 2 ^ (steps + 2) ≤ 16 * rows = elim halves [
      | inl none ↦
          let e : 2 ^ steps ≡ 1 = ap (λ n. 2 ^ n) none in
          omega (arith, p, e, some)
      | inr less ↦ omega (arith, p, less, most)
    ] in
    (steps + 2, inr few, omega (arith, one, more))
