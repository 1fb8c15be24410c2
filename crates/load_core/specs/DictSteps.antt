-- The table of a dictionary's loads: for an event and a phase, what it leaves and how it is answered.
use Rattle.std.specs.Prelude.{ℕ, ◌+◌, min, nat_lt, if◌then◌else◌}
use Rattle.load_core.specs.declared.dictionary.DictCore.{DictCore}
use Rattle.load_core.specs.declared.dictionary.DictEvent.{DictEvent}
use Rattle.load_core.specs.declared.dictionary.DictEvent.TheVariants.{Start, Piece, Finish, Publish, Post}
use Rattle.load_core.specs.declared.dictionary.Ending.TheVariants.{Rows, Failed}
use Rattle.load_core.specs.declared.dictionary.DictEffect.{DictEffect}
use Rattle.load_core.specs.declared.dictionary.DictEffect.TheVariants as effect
use Rattle.load_core.specs.declared.dictionary.Phase.{Phase}
use Rattle.load_core.specs.declared.dictionary.Phase.TheVariants.{Idle, Reading, Ready, ToPost}
use Rattle.load_core.specs.declared.dictionary.LastCause.TheVariants as last

-- what an event leaves, and how it is answered
pub record DictStepped : Type 0 where
  pub core : DictCore
  pub effect : DictEffect

-- no load has begun
abbrev pub empty_core : DictCore
empty_core =
    record { published = 0; loads = 0; oks = 0; fails = 0; phase = Idle; cause = last.None }

-- one more, up to the greatest number of 64 bits
abbrev pub risen : ℕ → ℕ
risen n = min (n + 1) 18446744073709551615

-- the greatest number of loads of a dictionary
abbrev pub most_loads : ℕ
most_loads = 9223372036854775807

-- the event isn't one for this phase
abbrev pub refused : DictCore → DictStepped
refused c = record { core = c; effect = effect.Refused }

-- the table, a row for each pair of phase and event that is taken
abbrev pub row : Phase → DictEvent → DictCore → DictStepped
row Idle Start c =
    if nat_lt c.loads most_loads
    then record { core = record c { loads = c.loads + 1; phase = Reading }; effect = effect.Begun (c.loads + 1) }
    else refused c
row Reading (Piece n) c =
    if nat_lt 0 n
    then record { core = c; effect = effect.Taken }
    else refused c
row Reading (Finish Rows) c =
    record { core = record c { phase = Ready }; effect = effect.Ready }
row Reading (Finish (Failed cause)) c =
    record { core = record c { fails = risen c.fails; phase = ToPost; cause = last.Of cause }; effect = effect.Failing }
row Ready (Finish (Failed cause)) c =
    record { core = record c { fails = risen c.fails; phase = ToPost; cause = last.Of cause }; effect = effect.Failing }
row Ready Publish c =
    record {
      core = record c { published = risen c.published; oks = risen c.oks; phase = ToPost; cause = last.None };
      effect = effect.Published (risen c.published);
    }
row ToPost Post c =
    record { core = record c { phase = Idle }; effect = effect.Posted }
-- any other pair
row _ _ c = refused c

abbrev pub stepped : DictCore → DictEvent → DictStepped
stepped c event = row c.phase event c
