-- Each script has one outcome.
use Rattle.std.proofs.Common.{◌≡◌, ◌<◌, ◌≤◌, ℕ, zero, suc, ◌+◌, List, [], length, Bool, true, false, ◌||◌, ◌==◌, nat_lt, ◌⊎◌, inl, inr, refl, ap, sym, ◌∙◌, arith, lit<}
use Rattle.std.proofs.lemmas.Bool.Decides.{nat_tests}
use Rattle.child_io.specs.Told.{read_fails, read_times_out, read_size}
use Rattle.child_io.specs.Outcomes.{taken_by, pieces_by, input_fails, is_read, is_last_read, EndsAt, end_at, IsHeard, IsOutcome}
use Rattle.child_io.specs.declared.run.TheConstants.{READ_ROOM}
use Rattle.child_io.specs.declared.child.Script.{Script}
use Rattle.child_io.specs.declared.pieces.PieceEnd.{PieceEnd}
use Rattle.child_io.specs.declared.pieces.PieceEnd.TheVariants.{NotStarted, WriteFailed}
use Rattle.child_io.proofs.Hears.{size_at-some}
use borrow.Author.Count.{below_more}

-- the first number of which a test holds, or none below a bound
abbrev First : (ℕ → Bool) → ℕ → Type 0
First test k = ((j : ℕ) → j < k → test j ≡ false) × (test k ≡ true)

first-next : (test : ℕ → Bool) (n : ℕ) (found : Bool) → test n ≡ found → ((k : ℕ) × First test k) ⊎ ((j : ℕ) → j < n → test j ≡ false) → ((k : ℕ) × First test k) ⊎ ((j : ℕ) → j < suc n → test j ≡ false)
first-next test n found e (inl first) = inl first
first-next test n true e (inr none) = inl (n, (none, e))
first-next test n false e (inr none) = inr (λ j less. below_more (λ j. test j ≡ false) n none e j (omega (arith, less)))

first-below : (test : ℕ → Bool) (n : ℕ) → ((k : ℕ) × First test k) ⊎ ((j : ℕ) → j < n → test j ≡ false)
first-below test zero = inr (λ j less. absurd (omega (arith, less)))
first-below test (suc n) = first-next test n (test n) refl (first-below test n)

-- a read that isn't the last one doesn't find the end
not-read : (f t z l : Bool) → (f || (t || (z || l))) ≡ false → z ≡ false
not-read true t z l e = cc
not-read false true z l e = cc
not-read false false true l e = cc
not-read false false false l e = refl

-- such a read brings some of what is left
brings : (s : Script) (taken k : ℕ) → taken ≤ length s.output → (taken == length s.output) ≡ false → (0 < read_size s taken k READ_ROOM) × (taken + read_size s taken k READ_ROOM ≤ length s.output)
brings s taken k within more =
    let some = size_at-some s.sizes k READ_ROOM (lit< tt) in
    (grind (arith, nat_tests, some), omega (arith, within))

-- so each of them takes the reads further
goes-on : (s : Script) (input : List ℕ) (limit k : ℕ) → ((j : ℕ) → j < k → is_last_read s input limit j ≡ false) → (k ≤ taken_by s k) × (taken_by s k ≤ length s.output)
goes-on s input limit zero none = (omega arith, omega arith)
goes-on s input limit (suc k) none =
    let before = goes-on s input limit k (λ j less. none j (omega (arith, less))) in
    let more = not-read (read_fails s input k) (read_times_out s true k) (is_read s k) (nat_lt limit (taken_by s (suc k))) (none k (omega arith)) in
    let b = brings s (taken_by s k) k before.1 more in
    (omega (arith, before, b), b.1)

some-end : (s : Script) (input : List ℕ) (limit : ℕ) → ((k : ℕ) × EndsAt s input limit k) ⊎ ((j : ℕ) → j < suc (length s.output) → is_last_read s input limit j ≡ false) → (k : ℕ) × EndsAt s input limit k
some-end s input limit (inl first) = first
some-end s input limit (inr none) = absurd (omega (arith, goes-on s input limit (suc (length s.output)) none))

ends : (s : Script) (input : List ℕ) (limit : ℕ) → (k : ℕ) × EndsAt s input limit k
ends s input limit = some-end s input limit (first-below (is_last_read s input limit) (suc (length s.output)))

exists : (s : Script) (input : List ℕ) (limit : ℕ) (start write : Bool) → s.start_fails ≡ start → input_fails s input ≡ write → (pieces : List (List ℕ)) × ((end : PieceEnd) × IsOutcome s input limit pieces end)
exists s input limit true write e f = ([], (NotStarted, ((λ _. (refl, refl)), λ starts. let a = sym starts ∙ e in cc)))
exists s input limit false true e f = ([], (WriteFailed, ((λ fails. let a = sym fails ∙ e in cc), λ _. ((λ _. (refl, refl)), λ holds. let a = sym holds ∙ f in cc))))
exists s input limit false false e f =
    let k = ends s input limit in
    (pieces_by s k.0, (end_at s input k.0, ((λ fails. let a = sym fails ∙ e in cc), λ _. ((λ fails. let a = sym fails ∙ f in cc), λ _. (k.0, k.1, refl, refl)))))

pub some-outcome : (s : Script) (input : List ℕ) (limit : ℕ) → (pieces : List (List ℕ)) × ((end : PieceEnd) × IsOutcome s input limit pieces end)
some-outcome s input limit = exists s input limit s.start_fails (input_fails s input) refl refl

-- the last read is one
one-read : (test : ℕ → Bool) (k j : ℕ) (less more : Bool) → nat_lt k j ≡ less → nat_lt j k ≡ more → First test k → First test j → k ≡ j
one-read test k j true more e f first other = let a = sym (other.0 k (grind (arith, nat_tests, e))) ∙ first.1 in cc
one-read test k j false true e f first other = let a = sym (first.0 j (grind (arith, nat_tests, f))) ∙ other.1 in cc
one-read test k j false false e f first other = grind (arith, nat_tests, e, f)

one-heard : (s : Script) (input : List ℕ) (limit : ℕ) (pieces others : List (List ℕ)) (end other : PieceEnd) → IsHeard s input limit pieces end → IsHeard s input limit others other → (pieces ≡ others) × (end ≡ other)
one-heard s input limit pieces others end other h i =
    let same = one-read (is_last_read s input limit) h.0 i.0 (nat_lt h.0 i.0) (nat_lt i.0 h.0) refl refl h.1 i.1 in
    (h.2 ∙ ap (pieces_by s) same ∙ sym i.2, h.3 ∙ ap (end_at s input) same ∙ sym i.3)

one-by : (s : Script) (input : List ℕ) (limit : ℕ) (pieces others : List (List ℕ)) (end other : PieceEnd) (start write : Bool) → s.start_fails ≡ start → input_fails s input ≡ write → IsOutcome s input limit pieces end → IsOutcome s input limit others other
    → (pieces ≡ others) × (end ≡ other)
one-by s input limit pieces others end other true write e f p q = ((p.0 e).0 ∙ sym (q.0 e).0, (p.0 e).1 ∙ sym (q.0 e).1)
one-by s input limit pieces others end other false true e f p q =
    let a = (p.1 e).0 f in
    let b = (q.1 e).0 f in
    (a.0 ∙ sym b.0, a.1 ∙ sym b.1)
one-by s input limit pieces others end other false false e f p q = one-heard s input limit pieces others end other ((p.1 e).1 f) ((q.1 e).1 f)

pub one-outcome : (s : Script) (input : List ℕ) (limit : ℕ) (pieces others : List (List ℕ)) (end other : PieceEnd) → IsOutcome s input limit pieces end → IsOutcome s input limit others other → (pieces ≡ others) × (end ≡ other)
one-outcome s input limit pieces others end other p q = one-by s input limit pieces others end other s.start_fails (input_fails s input) refl refl p q
