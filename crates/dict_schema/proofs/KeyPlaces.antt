-- Keys that name a column twice.
use Rattle.std.proofs.Common.{◌≡◌, ◌<◌, ℕ, ◌+◌, List, length, Some, Bool, true, false, MatchBool, Contains, slice_get, get_or, arith, sym, ◌∙◌, ap, subst, inl, inr}
use Rattle.std.proofs.lemmas.Bool.{cases_eq, cases_order}
use Rattle.std.proofs.lemmas.Option.{slice_get-get_or, slice_get_within, same_Some}
use Rattle.dict_schema.specs.Table.{IsKeyTwice}

-- no key before this one names the column
abbrev pub IsNever : List ℕ → ℕ → ℕ → Type 0
IsNever keys place i = (k : ℕ) → k < i → slice_get keys k ≡ Some place → ⊥

-- just one key before this one does
pub record IsOnce (keys : List ℕ) (place i : ℕ) : Type 0 where
  pub at : ℕ
  pub before : at < i
  pub here : slice_get keys at ≡ Some place
  pub only : (k : ℕ) → k < i → slice_get keys k ≡ Some place → k ≡ at

-- whether a key before this one was seen to name the column
abbrev pub IsSeen : List ℕ → ℕ → ℕ → Bool → Type 0
IsSeen keys place i seen = MatchBool seen (IsOnce keys place i) (IsNever keys place i)

never-twice : (keys : List ℕ) (place : ℕ) → IsNever keys place (length keys) → IsKeyTwice keys place → ⊥
never-twice keys place never t = never t.0 (slice_get_within keys t.0 place t.3) t.3

once-twice : (keys : List ℕ) (place : ℕ) → IsOnce keys place (length keys) → IsKeyTwice keys place → ⊥
once-twice keys place once t =
    let j : t.0 ≡ once.at = once.only t.0 (slice_get_within keys t.0 place t.3) t.3 in
    let k : t.1 ≡ once.at = once.only t.1 (slice_get_within keys t.1 place t.4) t.4 in
    let lt = t.2 in
    omega arith

never-once : (keys : List ℕ) (place i : ℕ) → IsNever keys place i → slice_get keys i ≡ Some place → IsOnce keys place (i + 1)
never-once keys place i never here = record {
  at = i;
  before = omega arith;
  here = here;
  only = λ k lt is. elim (cases_order k i) [
    | inl e ↦ e
    | inr (inl below) ↦ absurd (never k below is)
    | inr (inr above) ↦ absurd (omega arith)
  ];
}

once-more : (keys : List ℕ) (place i : ℕ) → IsOnce keys place i → (slice_get keys i ≡ Some place → ⊥) → IsOnce keys place (i + 1)
once-more keys place i once other = record {
  at = once.at;
  before = let lt = once.before in omega arith;
  here = once.here;
  only = λ k lt is. elim (cases_eq k i) [
    | inl e ↦ absurd (other (ap (slice_get keys) (sym e) ∙ is))
    | inr n ↦ once.only k (omega arith) is
  ];
}

never-more : (keys : List ℕ) (place i : ℕ) → IsNever keys place i → (slice_get keys i ≡ Some place → ⊥) → IsNever keys place (i + 1)
never-more keys place i never other k lt is = elim (cases_eq k i) [
  | inl e ↦ other (ap (slice_get keys) (sym e) ∙ is)
  | inr n ↦ never k (omega arith) is
]

pub seen-first : (keys : List ℕ) (place i : ℕ) (s t : Bool) → IsSeen keys place i s → s ≡ false → slice_get keys i ≡ Some place → t ≡ true → IsSeen keys place (i + 1) t
seen-first keys place i true t h unseen here seen = absurd (cc unseen)
seen-first keys place i false t h unseen here seen = subst (IsSeen keys place (i + 1)) (sym seen) (never-once keys place i h here)

pub seen-other : (keys : List ℕ) (place i : ℕ) (s t : Bool) → IsSeen keys place i s → (slice_get keys i ≡ Some place → ⊥) → t ≡ s → IsSeen keys place (i + 1) t
seen-other keys place i true t h other same = subst (IsSeen keys place (i + 1)) (sym same) (once-more keys place i h other)
seen-other keys place i false t h other same = subst (IsSeen keys place (i + 1)) (sym same) (never-more keys place i h other)

pub seen-twice : (keys : List ℕ) (place i : ℕ) (s : Bool) → IsSeen keys place i s → s ≡ true → slice_get keys i ≡ Some place → IsKeyTwice keys place
seen-twice keys place i true h seen here = (h.at, i, h.before, h.here, here)
seen-twice keys place i false h seen here = absurd (cc seen)

pub seen-never : (keys : List ℕ) (place : ℕ) (s : Bool) → IsSeen keys place (length keys) s → IsKeyTwice keys place → ⊥
seen-never keys place true h t = once-twice keys place h t
seen-never keys place false h t = never-twice keys place h t

-- the key that a place has
pub key-at : (keys : List ℕ) (i key place : ℕ) → i < length keys → key ≡ get_or keys i 0 → key ≡ place → slice_get keys i ≡ Some place
key-at keys i key place lt is same = slice_get-get_or keys i 0 lt ∙ ap (λ (k : ℕ). Some k) (sym is ∙ same)

pub key-not-at : (keys : List ℕ) (i key place : ℕ) → i < length keys → key ≡ get_or keys i 0 → (key ≡ place → ⊥) → slice_get keys i ≡ Some place → ⊥
key-not-at keys i key place lt is other here = other (is ∙ same_Some _ _ (sym (slice_get-get_or keys i 0 lt) ∙ here))
