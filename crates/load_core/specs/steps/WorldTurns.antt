-- What an event makes of a dictionary, an event of callers among them.
use Rattle.std.specs.Prelude.{◌≡◌, ◌≤◌, ℕ, List, [], ◌∷◌, ◌++◌, length, MatchOption, slice_get, slice_set}
use Rattle.load_core.specs.declared.dictionary.DictEffect.{DictEffect}
use Rattle.load_core.specs.declared.caller.CallerEvent.{CallerEvent}
use Rattle.load_core.specs.declared.world.World.{World}
use Rattle.load_core.specs.declared.world.WorldCaller.{WorldCaller}
use Rattle.load_core.specs.declared.world.WorldDict.{WorldDict}
use Rattle.load_core.specs.declared.world.WorldEntry.{WorldEntry}
use Rattle.load_core.specs.declared.world.WorldEvent.{WorldEvent}
use Rattle.load_core.specs.declared.world.WorldEvent.TheVariants.{Enter, Learn}
use Rattle.load_core.specs.WorldSteps.{Verdicts, DictStep, dict_at, with_dict, caller_at, with_caller, knowing}
use Rattle.load_core.specs.WorldSteps.{most_bytes}

-- its core answers in some way; events of callers leave it
abbrev pub DictTurn : Verdicts → WorldDict → WorldEvent → WorldDict → Type 0
DictTurn judges x (Enter c d) y = y ≡ x
DictTurn judges x (Learn c d) y = y ≡ x
DictTurn judges x event y = (answer : DictEffect) × DictStep judges x event answer y

-- its load became an entry
abbrev pub published_as : WorldDict → ℕ → ℕ → WorldDict
published_as x number load =
    let entry : WorldEntry = record { number = number; definition = x.loading; bytes = x.bytes; load = load } in
    record x { definition = x.loading; entries = x.entries ++ entry ∷ [] }

-- it has no more bytes than a load takes
abbrev pub IsShort : WorldDict → Type 0
IsShort x = length x.bytes ≤ most_bytes

-- the dictionary at a place takes the event; where there is none, nothing changes
abbrev pub TurnsAt : Verdicts → World → ℕ → WorldEvent → World → Type 0
TurnsAt judges old d event new =
    MatchOption (dict_at old d) (new ≡ old)
    (λ x. (y : WorldDict) × DictTurn judges x event y × (new ≡ with_dict old d y))

-- what a caller knows of the dictionary at a place takes the number; where there is none, nothing changes
abbrev pub KnowsAt : List WorldCaller → ℕ → CallerEvent → List WorldCaller → Type 0
KnowsAt old d event new =
    MatchOption (slice_get old d) (new ≡ old) (λ u. new ≡ slice_set old d (knowing u event))

-- the same of a world and one of its callers
abbrev pub InformsAt : World → ℕ → ℕ → CallerEvent → World → Type 0
InformsAt old c d event new =
    MatchOption (caller_at old c d) (new ≡ old) (λ u. new ≡ with_caller old c d (knowing u event))
