-- One child, from its start to its end.
use Rattle.std.proofs.Common.{◌≡◌, ◌≢◌, ◌<◌, ℕ, List, [], ◌∷◌, ◌++◌, length, take, Bool, true, false, ◌+◌, ◌-◌, ◌^◌, min, if◌then◌else◌, Option, Some, None, Ok, Err, refl, ap, sym, ◌∙◌, subst, arith, append-nil}
use Rattle.std.proofs.Math.Seq.{take-length}
use Rattle.std.proofs.lemmas.Grind.{common_steps}
use Rattle.std.proofs.lemmas.Bool.Decides.{nat_tests}
use Rattle.std.proofs.lemmas.List.Folds.{concat-append}
use Rattle.std.proofs.lemmas.List.Elements.{All-nil}
use Rattle.std.specs.List.{concat}
use Rattle.dict_value.specs.Memory.{UnlessNoMemory}
use Rattle.dict_io.specs.Outside.{HasCause}
use Rattle.dict_io.specs.declared.outside.Failed.{Failed}
use Rattle.child_io.specs.Told.{Told, fresh, IsFresh, RanAs, StartTold, read_fails, read_times_out}
use Rattle.child_io.specs.Gathers.{gathered_outcome, Gathers, HasWholeOutput, outcome_of}
use Rattle.child_io.specs.Outcomes.{is_read, taken_by, input_fails, IsHeard, IsChildOutcome}
use Rattle.child_io.specs.Runs.{HandsOn, RanToEnd, RunTold}
use Rattle.child_io.specs.steps.Fed.{FeedTold}
use Rattle.child_io.specs.steps.Heard.{HearTold}
use Rattle.child_io.proofs.Hears.{concat-pieces_by}
use Rattle.child_io.specs.declared.child.Script.{Script}
use Rattle.child_io.specs.declared.child.StartFault.TheVariants.{Failed as StartFailed, NoMemory as StartNoMemory}
use Rattle.dict_value.specs.declared.fault.Exit.{Exit}
use Rattle.child_io.specs.declared.child.Outcome.TheVariants as outcome
use Rattle.child_io.specs.declared.pieces.Gathered.{Gathered}
use Rattle.child_io.specs.declared.pieces.PieceEnd.{PieceEnd}
use Rattle.child_io.specs.declared.pieces.PieceEnd.TheVariants.{NotStarted, WriteFailed, Cut, TooLong, WaitFailed, Ended, NoMemory}

all-taken : (s : Script) (k : ℕ) → is_read s k ≡ true → take (taken_by s k) s.output ≡ s.output
all-taken s k e =
    let all : taken_by s k ≡ length s.output = grind (arith, nat_tests) in
    ap (λ n. take n s.output) all ∙ take-length s.output

-- what an end at the end of the output says
ended-choose : (f t z w : Bool) (exit e : Exit) → Ended e ≡ (if f then Cut false else if t then Cut true else if z then (if w then WaitFailed else Ended exit) else TooLong) → (z ≡ true) × (e ≡ exit)
ended-choose true t z w exit e h = cc
ended-choose false true z w exit e h = cc
ended-choose false false true true exit e h = cc
ended-choose false false true false exit e h = (refl, cc)
ended-choose false false false w exit e h = cc

heard-whole : (s : Script) (input : List ℕ) (limit : ℕ) (pieces : List (List ℕ)) (e : Exit) → IsHeard s input limit pieces (Ended e) → (concat pieces ≡ s.output) × (e ≡ s.exit)
heard-whole s input limit pieces e h =
    let p = ended-choose (read_fails s input h.0) (read_times_out s true h.0) (is_read s h.0) s.wait_fails s.exit e h.3 in
    (ap concat h.2 ∙ concat-pieces_by s h.0 ∙ all-taken s h.0 p.0, p.1)

-- a child that was fed, closed and heard
pub child-heard : (started fed closed : Option Told) (input : List ℕ) (limit : ℕ) (pieces : List (List ℕ)) (end : PieceEnd) → FeedTold started fed input (Ok tt) → closed ≡ fed → HearTold closed limit end pieces
    → (s : Script) → started ≡ Some (fresh s) → (input_fails s input ≡ false) × IsHeard s input limit pieces end
child-heard started fed closed input limit pieces end f same h s e =
    let w = f s e in
    let t = w.1 in (
      w.0,
      subst (λ z. IsHeard z input limit pieces end) t.script (subst (λ z. IsHeard t.now.script z limit pieces end) t.written (h t.now (same ∙ t.told_now) t.taken t.reads)),
    )

pub outcome-heard : (started fed closed : Option Told) (input : List ℕ) (limit : ℕ) (pieces : List (List ℕ)) (end : PieceEnd) → FeedTold started fed input (Ok tt) → closed ≡ fed → HearTold closed limit end pieces
    → (s : Script) → started ≡ Some (fresh s) → IsChildOutcome s input limit pieces end
outcome-heard started fed closed input limit pieces end f same h s e =
    let w = child-heard started fed closed input limit pieces end f same h s e in
    ((λ fails. let a = sym fails ∙ w.0 in cc), λ _. w.1)

pub outcome-unwritten : (started fed : Option Told) (input : List ℕ) (limit : ℕ) (failed : Failed) → FeedTold started fed input (Err failed) → (s : Script) → started ≡ Some (fresh s) → IsChildOutcome s input limit [] WriteFailed
outcome-unwritten started fed input limit failed f s e = ((λ _. (refl, refl)), λ holds. let a = sym holds ∙ f s e in cc)

-- the pieces of a run to its end have its fact
pub pieces-ran : (ran : List (List ℕ) → List ℕ → Exit → Type 0) (words : List (List ℕ)) (started : Option Told) (input : List ℕ) (limit : ℕ) (pieces : List (List ℕ)) (end : PieceEnd) → RanAs ran words started → IsFresh started
    → ((s : Script) → started ≡ Some (fresh s) → IsHeard s input limit pieces end) → RanToEnd ran words end pieces
pieces-ran ran words started input limit pieces NotStarted r i h = tt
pieces-ran ran words started input limit pieces WriteFailed r i h = tt
pieces-ran ran words started input limit pieces (Cut timed_out) r i h = tt
pieces-ran ran words started input limit pieces TooLong r i h = tt
pieces-ran ran words started input limit pieces WaitFailed r i h = tt
pieces-ran ran words None input limit pieces (Ended exit) r i h = r (concat pieces) exit
pieces-ran ran words (Some t) input limit pieces (Ended exit) r i h =
    let p = heard-whole t.script input limit pieces exit (h t.script (ap Some i)) in
    rw (p.0, p.1) r
pieces-ran ran words started input limit pieces NoMemory r i h = tt

-- a run of the spawner's next script
module _ {C : Type 0} (told : C → Option Told) (input : List ℕ) (limit : ℕ) where
  pub run-not_started : (old new : Option (List Script)) → StartTold told old new (Err StartFailed) → RunTold old new input limit NotStarted []
  run-not_started None new h = h
  run-not_started (Some []) new h = (h.0, refl, refl)
  run-not_started (Some (s ∷ rest)) new h = (h.0, ((λ e. cc), λ _. ((λ _. (refl, refl)), λ starts. let a = sym starts ∙ h.1 in cc)))

  pub run-no_memory : (old new : Option (List Script)) → StartTold told old new (Err StartNoMemory) → RunTold old new input limit NoMemory []
  run-no_memory None new h = h
  run-no_memory (Some []) new h = let a = h.1 in cc
  run-no_memory (Some (s ∷ rest)) new h = (h.0, ((λ _. h.1), λ some. absurd (some refl)))

  pub run-told : (old new : Option (List Script)) (c : C) (pieces : List (List ℕ)) (end : PieceEnd) → end ≢ NoMemory → StartTold told old new (Ok c) → ((s : Script) → told c ≡ Some (fresh s) → IsChildOutcome s input limit pieces end) → RunTold old new input limit end pieces
  run-told None new c pieces end some h is = h
  run-told (Some []) new c pieces end some h is = let a = h.1 in cc
  run-told (Some (s ∷ rest)) new c pieces end some h is = (h.0, ((λ e. absurd (some e)), λ _. ((λ fails. let a = sym fails ∙ h.1.1 in cc), λ _. is s h.1.0)))

-- nothing was handed on
pub hands-none : (took : List (List ℕ) → Type 0) (limit : ℕ) (told child full : List (List ℕ) → Type 0) → took [] → told [] → child [] → full [] → HandsOn took limit told child full
hands-none took limit told child full h t c f = record { pieces = []; handed = h; some = All-nil (λ piece. 0 < length piece); within = omega arith; told = t; child = c; full = f }

-- faults that are counted from a later state that has the same count
pub cause-from : (before mid now : ℕ) (failed : Type 0) → mid ≡ before → HasCause mid now failed → HasCause before now failed
cause-from before mid now failed same h = subst (λ z. HasCause z now failed) same h

-- an outcome with all bytes
pub whole-of : (g : Gathered) (end : PieceEnd) (lost : Bool) (pieces : List (List ℕ)) → (lost ≡ false → g.bytes ≡ concat pieces) → UnlessNoMemory outcome.NoMemory (if lost then outcome.NoMemory else outcome_of end g.bytes) ((if lost then outcome.NoMemory else outcome_of end g.bytes) ≡ outcome_of end (concat pieces))
whole-of g end true pieces h = λ some. absurd (some refl)
whole-of g end false pieces h = λ some. ap (outcome_of end) (h refl)

pub starts-of : (end : PieceEnd) (bytes : List ℕ) → outcome_of end bytes ≡ outcome.NotStarted → end ≡ NotStarted
starts-of NotStarted bytes e = refl
starts-of WriteFailed bytes e = cc
starts-of (Cut timed_out) bytes e = cc
starts-of TooLong bytes e = cc
starts-of WaitFailed bytes e = cc
starts-of (Ended exit) bytes e = cc
starts-of NoMemory bytes e = cc

pub gathered-starts : (g : Gathered) (end : PieceEnd) (lost : Bool) → (if lost then outcome.NoMemory else outcome_of end g.bytes) ≡ outcome.NotStarted → end ≡ NotStarted
gathered-starts g end true e = cc
gathered-starts g end false e = starts-of end g.bytes e

-- one more piece is gathered
pub gathers-next : (counted next : ℕ) (kept more piece : List ℕ) (lost : Bool) (pieces : List (List ℕ)) → next ≡ min (counted + 1) (2 ^ 64 - 1) → (lost ≡ false → more ≡ kept ++ piece) → (counted ≡ min (length pieces) (2 ^ 64 - 1)) × (lost ≡ false → kept ≡ concat pieces) → (next ≡ min (length (pieces ++ piece ∷ [])) (2 ^ 64 - 1)) × (lost ≡ false → more ≡ concat (pieces ++ piece ∷ []))
gathers-next counted next kept more piece lost pieces up grows g =
    let size : length (pieces ++ piece ∷ []) ≡ length pieces + 1 = grind (arith, common_steps) in (
      omega (arith, up, g.0, size),
      λ l. grows l ∙ ap (λ z. z ++ piece) (g.1 l) ∙ ap (λ z. concat pieces ++ z) (sym (append-nil piece)) ∙ sym (concat-append pieces (piece ∷ [])),
    )

whole-starts : (g : Gathered) (end : PieceEnd) (lost : Bool) → lost ≡ false → end ≡ NotStarted → (if lost then outcome.NoMemory else outcome_of end g.bytes) ≡ outcome.NotStarted
whole-starts g end lost l e = rw (l, e) refl

-- a run whose pieces were gathered
pub whole-run : (g : Gathered) (end : PieceEnd) (limit : ℕ) (by_script by_child in_full : List (List ℕ) → Type 0) → (end ≡ NotStarted → g.lost ≡ false) → HandsOn (Gathers g) limit by_script by_child in_full → HandsOn (HasWholeOutput (gathered_outcome g end) end) limit by_script by_child in_full
whole-run g end limit by_script by_child in_full l h = record {
  pieces = h.pieces;
  handed = ((λ e. whole-starts g end g.lost (l e) e), whole-of g end g.lost h.pieces h.handed.1);
  some = h.some;
  within = h.within;
  told = h.told;
  child = h.child;
  full = h.full;
}

-- it wasn't started exactly where the run wasn't
pub whole-cause : (g : Gathered) (end : PieceEnd) (before now : ℕ) → (end ≡ NotStarted → g.lost ≡ false) → HasCause before now (end ≡ NotStarted) → HasCause before now (gathered_outcome g end ≡ outcome.NotStarted)
whole-cause g end before now l h = record {
  later = h.later;
  rose = λ e. h.rose (gathered-starts g end g.lost e);
  still = λ other. h.still (λ e. other (whole-starts g end g.lost (l e) e));
}
