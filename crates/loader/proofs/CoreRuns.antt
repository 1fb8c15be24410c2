-- A core stepped by the events of a load.
use Rattle.std.proofs.Common.{◌≡◌, ◌<◌, ◌≤◌, ◌+◌, ℕ, List, [], ◌∷◌, ◌++◌, length, refl, ap, sym, ◌∙◌, subst, arith, Bool, true, false, nat_lt}
use Rattle.std.specs.Prelude.{if◌then◌else◌}
use Rattle.std.proofs.lemmas.Bool.Decides.{nat_tests}
use Rattle.load_core.specs.declared.dictionary.DictCore.{DictCore}
use Rattle.load_core.specs.declared.dictionary.DictEvent.{DictEvent}
use Rattle.load_core.specs.declared.dictionary.DictEvent.TheVariants.{Start, Piece}
use Rattle.load_core.specs.declared.dictionary.Phase.TheVariants.{Idle, Reading}
use Rattle.load_core.specs.declared.dictionary.DictEffect.TheVariants as effect
use Rattle.load_core.specs.DictSteps.{most_loads, stepped, row, refused, DictStepped}
use Rattle.loader.specs.Events.{core_after, piece_events}

pub core_after-append : (core : DictCore) (first second : List DictEvent) → core_after core (first ++ second) ≡ core_after (core_after core first) second
core_after-append core [] second = refl
core_after-append core (event ∷ first) second = core_after-append (stepped core event).core first second

-- a piece leaves a core that reads
piece-row : (t : Bool) (core : DictCore) → (if t then (let s : DictStepped = record { core = core; effect = effect.Taken } in s) else refused core).core ≡ core
piece-row true core = refl
piece-row false core = refl

piece-keeps : (core : DictCore) (count : ℕ) → core.phase ≡ Reading → (stepped core (Piece count)).core ≡ core
piece-keeps core count reading = ap (λ p. (row p (Piece count) core).core) reading ∙ piece-row (nat_lt 0 count) core

pieces-keep : (core : DictCore) (pieces : List (List ℕ)) → core.phase ≡ Reading → core_after core (piece_events pieces) ≡ core
pieces-keep core [] reading = refl
pieces-keep core (piece ∷ pieces) reading = ap (λ c. core_after c (piece_events pieces)) (piece-keeps core (length piece) reading) ∙ pieces-keep core pieces reading

-- so the last events are all that change it
pub past-pieces : (core : DictCore) (pieces : List (List ℕ)) (events : List DictEvent) → core.phase ≡ Reading → core_after core (piece_events pieces ++ events) ≡ core_after core events
past-pieces core pieces events reading = core_after-append core (piece_events pieces) events ∙ ap (λ c. core_after c events) (pieces-keep core pieces reading)

-- a load began: the loads weren't used up, and the core reads
abbrev begun_row : Bool → DictCore → DictStepped
begun_row t core = if t then (let s : DictStepped = record { core = record core { loads = core.loads + 1; phase = Reading }; effect = effect.Begun (core.loads + 1) } in s) else refused core

pub record HasBegun (old new : DictCore) : Type 0 where
  pub few : old.loads < most_loads
  pub reading : new.phase ≡ Reading
  pub published : new.published ≡ old.published
  pub loads : new.loads ≡ old.loads + 1

begun-row : (t : Bool) (core : DictCore) (number : ℕ) → nat_lt core.loads 9223372036854775807 ≡ t → effect.Begun number ≡ (begun_row t core).effect → HasBegun core (begun_row t core).core
begun-row true core number test e = record { few = grind (arith, nat_tests); reading = refl; published = refl; loads = refl }
begun-row false core number test e = cc

pub begun : (core : DictCore) (number : ℕ) → core.phase ≡ Idle → effect.Begun number ≡ (stepped core Start).effect → HasBegun core (stepped core Start).core
begun core number idle e =
    subst (λ p. HasBegun core (row p Start core).core) (sym idle) (begun-row (nat_lt core.loads 9223372036854775807) core number refl (e ∙ ap (λ p. (row p Start core).effect) idle))

-- or they were used up, and it is as it was
pub record IsUsedUp (old new : DictCore) : Type 0 where
  pub many : most_loads ≤ old.loads
  pub same : new ≡ old

spent-row : (t : Bool) (core : DictCore) → nat_lt core.loads 9223372036854775807 ≡ t → ((number : ℕ) → (begun_row t core).effect ≡ effect.Begun number → ⊥) → IsUsedUp core (begun_row t core).core
spent-row true core test none = absurd (none (core.loads + 1) refl)
spent-row false core test none = record { many = grind (arith, nat_tests); same = refl }

pub spent : (core : DictCore) → core.phase ≡ Idle → ((number : ℕ) → (stepped core Start).effect ≡ effect.Begun number → ⊥) → IsUsedUp core (stepped core Start).core
spent core idle none =
    subst (λ p. IsUsedUp core (row p Start core).core) (sym idle) (spent-row (nat_lt core.loads 9223372036854775807) core refl (λ number e. none number (ap (λ p. (row p Start core).effect) idle ∙ e)))
