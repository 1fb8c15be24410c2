-- Pieces written one after another.
use Rattle.std.proofs.Common.{◌≡◌, ◌+◌, ◌++◌, ℕ, List, Option, Result, Ok, Err, IsErr, length, take, ap, sym, ◌∙◌, arith, inl, inr, refl}
use Rattle.std.proofs.Math.Seq.{take-append-add, take-length}
use Rattle.std.proofs.lemmas.List.{length-append, take-append-le}
use Rattle.std.specs.Io.KnownBytes.{append_known}
use Rattle.dict_io.specs.Outside.{WritesPrefix}
use Rattle.dict_io.specs.declared.outside.Failed.{Failed}
use Rattle.dict_io.proofs.Known.{append_known-twice}
use Rattle.dictd.specs.Statuses.{TellsText}

-- a second piece behind a whole first one
pub wrote-both : (old mid new : Option (List ℕ)) (first second : List ℕ) (result : Result (Unit {0}) Failed) → mid ≡ append_known old first → WritesPrefix mid new second result → WritesPrefix old new (first ++ second) result
wrote-both old mid new first second (Ok _) a b = b ∙ ap (λ z. append_known z second) a ∙ append_known-twice old first second
wrote-both old mid new first second (Err _) a (n, low, b) = (
  length first + n,
  (let e = length-append first second in omega (arith, e, low)),
  b ∙ ap (λ z. append_known z (take n second)) a ∙ append_known-twice old first (take n second) ∙ ap (append_known old) (sym (take-append-add first second n)),
)

-- a first piece that failed
pub wrote-first : (old new : Option (List ℕ)) (first second : List ℕ) (failed other : Failed) → WritesPrefix old new first (Err failed) → WritesPrefix old new (first ++ second) (Err other)
wrote-first old new first second failed other (n, low, a) = (
  n,
  (let e = length-append first second in omega (arith, e, low)),
  a ∙ ap (append_known old) (sym (take-append-le n first second low)),
)

-- a text that was written, or a front of it where a write failed
pub tells : (old new : Option (List ℕ)) (text : List ℕ) (failed : Type 0) (result : Result (Unit {0}) Failed) → WritesPrefix old new text result → (IsErr result → failed) → TellsText old new text failed
tells old new text failed (Ok u) w cause = record { count = length text; front = omega arith; written = w ∙ ap (append_known old) (sym (take-length text)); whole = inl refl }
tells old new text failed (Err e) w cause = record { count = w.0; front = w.1; written = w.2; whole = inr (cause refl) }
