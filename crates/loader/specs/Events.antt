-- The events of a load, one piece for each read of its child that brought bytes.
use Rattle.std.specs.Prelude.{ℕ, List, [], ◌∷◌, ◌++◌, length, map}
use Rattle.dict_value.specs.declared.fault.Cause.TheVariants as cause
use Rattle.load_core.specs.DictSteps.{stepped}
use Rattle.load_core.specs.declared.dictionary.DictCore.{DictCore}
use Rattle.load_core.specs.declared.dictionary.DictEvent.{DictEvent}
use Rattle.load_core.specs.declared.dictionary.DictEvent.TheVariants.{Start, Piece, Finish, Publish, Post}
use Rattle.load_core.specs.declared.dictionary.Ending.TheVariants as ending
use Rattle.loader.specs.declared.answers.LoadEnd.{LoadEnd}
use Rattle.loader.specs.declared.answers.LoadEnd.TheVariants.{Published, Failed, NoMemory}

-- the core after these events, one after the other
abbrev pub core_after : DictCore → List DictEvent → DictCore
core_after core [] = core
core_after core (event ∷ events) = core_after (stepped core event).core events

-- the last events of a load that ended so
abbrev pub end_events : LoadEnd → List DictEvent
end_events (Published number) = Finish ending.Rows ∷ Publish ∷ Post ∷ []
end_events (Failed why) = Finish (ending.Failed why) ∷ Post ∷ []
end_events NoMemory = Finish (ending.Failed cause.NoMemory) ∷ Post ∷ []

-- the pieces of a child
abbrev pub piece_events : List (List ℕ) → List DictEvent
piece_events pieces = map (λ piece. Piece (length piece)) pieces

-- all events of a load
abbrev pub load_events : List (List ℕ) → LoadEnd → List DictEvent
load_events pieces end = Start ∷ (piece_events pieces ++ end_events end)
