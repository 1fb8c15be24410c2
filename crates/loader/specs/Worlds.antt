-- Loads as events of the world of the pure machine.
use Rattle.std.specs.Prelude.{◌≡◌, ℕ, pos, List, [], ◌∷◌, ◌++◌, Some, None, Ok, Err, false, codes, map, if◌then◌else◌}
use Rattle.child_io.specs.declared.child.Outcome.TheVariants.{Ended}
use Rattle.child_io.specs.declared.pieces.PieceEnd.{PieceEnd}
use Rattle.child_io.specs.declared.pieces.PieceEnd.TheVariants as piece_end
use Rattle.dict_schema.specs.declared.definition.Definition.{Definition}
use Rattle.dict_schema.specs.declared.definition.Kind.TheVariants.{Executable}
use Rattle.dict_schema.specs.declared.definition.Layout.TheVariants as layout
use Rattle.dict_schema.specs.declared.definition.RangeOf.TheVariants as range
use Rattle.dict_schema.specs.declared.definition.Update.TheVariants as update
use Rattle.dict_value.specs.declared.fault.Exit.TheVariants.{Code}
use Rattle.dict_value.specs.declared.value.ColType.TheVariants.{Str, UInt64}
use Rattle.dict_value.specs.declared.value.Format.TheVariants.{Tab}
use Rattle.dict_value.specs.declared.value.Value.TheVariants.{S, U}
use Rattle.dict_version.specs.Contents.{Contents}
use Rattle.load_core.specs.WorldSteps.{Former, Run, Verdicts, dict_at, formers}
use Rattle.load_core.specs.declared.dictionary.DictCore.{DictCore}
use Rattle.load_core.specs.declared.world.Ended.{Ended as WorldEnded}
use Rattle.load_core.specs.declared.world.Ended.TheVariants as world
use Rattle.load_core.specs.declared.world.World.{World}
use Rattle.load_core.specs.declared.world.WorldDict.{WorldDict}
use Rattle.load_core.specs.declared.world.WorldEvent.{WorldEvent}
use Rattle.load_core.specs.declared.world.WorldEvent.TheVariants.{StartWith, Piece, Finish, Publish, Post}
use Rattle.packed_rows.specs.Columns.{RowList}
use Rattle.loader.specs.Origins.{Loads}
use Rattle.loader.specs.declared.answers.LoadEnd.{LoadEnd}
use Rattle.loader.specs.declared.answers.LoadEnd.TheVariants as load

-- the dictionary of the world that can be run: FLAT, of a key and a String, with LIFETIME(0)
abbrev pub world_definition : Definition
world_definition = record {
  name = codes "d";
  columns = record {
    name = codes "id";
    ty = record { base = UInt64; nullable = false };
    default = U 0;
    hierarchical = false;
    object_id = false;
    injective = false;
  } ∷ record {
    name = codes "x";
    ty = record { base = Str; nullable = false };
    default = S [];
    hierarchical = false;
    object_id = false;
    injective = false;
  } ∷ [];
  keys = 0 ∷ [];
  source = record {
    kind = Executable;
    command = codes "c";
    format = Tab;
    direct = false;
    implicit = false;
    header = false;
    read_ms = 10000;
    write_ms = 10000;
    end_s = 10;
    pool_size = 16;
    execution_s = 10;
    update = update.None;
  };
  layout = layout.Flat 1024 500000;
  lifetime = record { min = 0; max = 0 };
  range = range.None;
  max_output = 67108864;
  comment = [];
}

-- The versions that entries stand for, by the definition of each number: each has the rows that a load of its
-- definition behind those before it is judged to give for the entry's bytes.
pub data AreVersionsOf (definition_of : ℕ → Definition) : List Former → List Contents → Type 0 where
  none : AreVersionsOf definition_of [] []
  more : (before : List Former) (versions : List Contents) (last : Former) (version : Contents)
      → AreVersionsOf definition_of before versions
      → version.definition ≡ definition_of last.definition
      → Loads version.definition versions (Ended last.bytes (Code (pos 0))) (Ok version.rows)
      → AreVersionsOf definition_of (before ++ last ∷ []) (versions ++ version ∷ [])

-- the judge by which a load is judged, for definitions with numbers
abbrev pub load_verdicts : (ℕ → Definition) → Verdicts
load_verdicts definition_of load None =
    (list : List Contents) × AreVersionsOf definition_of load.before list
    × ((rows : RowList) × Loads (definition_of load.definition) list (Ended load.bytes (Code (pos 0))) (Ok rows))
load_verdicts definition_of load (Some why) =
    (list : List Contents) × AreVersionsOf definition_of load.before list
    × Loads (definition_of load.definition) list (Ended load.bytes (Code (pos 0))) (Err why)

-- how the world is told that a child ended whose output has this bound; want of memory may end a load however its child
-- ended
abbrev pub ended_of : ℕ → PieceEnd → WorldEnded
ended_of limit piece_end.NotStarted = world.NotStarted
ended_of limit piece_end.WriteFailed = world.Broken
ended_of limit (piece_end.Cut timed_out) = if timed_out then world.TimedOut else world.Broken
ended_of limit piece_end.TooLong = world.TooLong limit
ended_of limit piece_end.WaitFailed = world.Broken
ended_of limit (piece_end.Ended exit) = world.Whole exit
ended_of limit piece_end.NoMemory = world.NoMemory

abbrev pub told_end : ℕ → PieceEnd → LoadEnd → WorldEnded
told_end limit ending load.NoMemory = world.NoMemory
told_end limit ending _ = ended_of limit ending

-- what follows the end of the child
abbrev pub closing_events : ℕ → LoadEnd → List WorldEvent
closing_events place (load.Published number) = Publish place ∷ Post place ∷ []
closing_events place _ = Post place ∷ []

-- a load of the dictionary at a place with the definition of a number
abbrev pub world_events : ℕ → ℕ → ℕ → List (List ℕ) → PieceEnd → LoadEnd → List WorldEvent
world_events place number limit pieces ending end =
    StartWith place number
    ∷ (map (Piece place) pieces ++ Finish place (told_end limit ending end) ∷ closing_events place end)

-- the events lead to a world whose dictionary at the place has this core, and whose entries stand for this list
pub record LeadsTo (definition_of : ℕ → Definition) (old : World) (place : ℕ) (events : List WorldEvent)
    (core : DictCore) (list : List Contents) : Type 0 where
  pub now : World
  pub run : Run (load_verdicts definition_of) old events now
  pub dictionary : WorldDict
  pub found : dict_at now place ≡ Some dictionary
  pub core_is : dictionary.core ≡ core
  pub stands : AreVersionsOf definition_of (formers dictionary.entries) list
