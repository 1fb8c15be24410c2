-- A judgement by a table: its rules go in order, each tells its faults, and the first rule that tells one decides.
use Rattle.std.specs.Prelude.{◌≡◌, ◌+◌, ◌⊎◌, ℕ, List, [], ◌∷◌, map, Result, MatchResult}
use Rattle.std.specs.List.{range_with_len}
use Rattle.dict_schema.specs.declared.fault.DefFault.{DefFault}

-- a rule of the table: which faults it tells
abbrev pub Rule : Type 1
Rule = DefFault → Type 0

-- the rule tells no fault
abbrev pub IsClear : Rule → Type 0
IsClear rule = (f : DefFault) → rule f → ⊥

-- no rule tells a fault
abbrev pub AreClear : List Rule → Type 0
AreClear [] = Unit {0}
AreClear (rule ∷ rules) = IsClear rule × AreClear rules

-- the fault is told by the first rule that tells any
abbrev pub IsFirstFault : List Rule → DefFault → Type 0
IsFirstFault [] f = ⊥
IsFirstFault (rule ∷ rules) f = rule f ⊎ (IsClear rule × IsFirstFault rules f)

-- the answer of a judgement by one rule
abbrev pub IsTold : Rule → Result (Unit {0}) DefFault → Type 0
IsTold rule answer = MatchResult answer (λ _. IsClear rule) rule

-- the answer of a judgement: Ok where no rule tells a fault, else what the first rule tells that does
abbrev pub IsJudged : List Rule → Result (Unit {0}) DefFault → Type 0
IsJudged rules answer = MatchResult answer (λ _. AreClear rules) (IsFirstFault rules)

-- the rule of one fault, which stands where this holds
abbrev pub Where : DefFault → Type 0 → Rule
Where fault P f = (f ≡ fault) × P

-- a rule for each place of a list that has so many
abbrev pub EachOf : ℕ → (ℕ → Rule) → List Rule
EachOf count rule = map rule (range_with_len 0 count)

-- for each place the rule of a fault that tells it, counted from 1, which stands where this holds of the place
abbrev pub Numbered : (ℕ → DefFault) → ℕ → (ℕ → Type 0) → List Rule
Numbered fault count P = EachOf count (λ place. Where (fault (place + 1)) (P place))
