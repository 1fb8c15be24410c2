-- A dictionary of one thread: what it keeps, and what its calls do.
use Rattle.std.specs.Prelude.{◌≡◌, ◌↔◌, ◌⊎◌, ℕ, suc, List, [], ◌∷◌, Bool, Option, Some, None, Result, Ok, Err}
use Rattle.std.specs.Prelude.{IsTrue, fold, length}
use Rattle.std.specs.Option.{ForSome}
use Rattle.child_io.specs.Runs.{RunTold}
use Rattle.child_io.specs.Told.{StartsTold}
use Rattle.child_io.specs.declared.pieces.PieceEnd.{PieceEnd}
use Rattle.child_io.specs.declared.pieces.PieceEnd.TheVariants.{NotStarted, NoMemory}
use Rattle.dict_schema.specs.declared.definition.Definition.{Definition}
use Rattle.dict_schema.specs.declared.definition.Item.{Item}
use Rattle.dict_schema.specs.declared.definition.Item.TheVariants.{Dictionary, Function}
use Rattle.dict_version.specs.Contents.{Contents}
use Rattle.loader.specs.Boards.{BoardTold, empty_board, posted, row_of}
use Rattle.loader.specs.Loaders.{IsAt, IsLoad, LoaderState, new_loader}
use Rattle.loader.specs.Timing.{IsDue}
use Rattle.loader.specs.declared.answers.LoadEnd.{LoadEnd}
use Rattle.loader.specs.declared.answers.StatusRow.{StatusRow}
use Rattle.loader.specs.declared.board.Posting.{Posting}
use Rattle.version_slot.specs.Views.{Entered, IsNewestOf}
use Rattle.version_slot.specs.declared.seen.EnterFault.{EnterFault}
use Rattle.version_slot.specs.declared.seen.EnterFault.TheVariants as enter
use Rattle.dict_hub.specs.Over.{Children}

-- what loads it, the list of its versions, and its board, whose tokens are numbers
pub record PlainState : Type 0 where
  pub loader : LoaderState
  pub list : List Contents
  pub board : BoardTold ℕ

abbrev pub plain_state : LoaderState → List Contents → BoardTold ℕ → PlainState
plain_state loader list board = record { loader = loader; list = list; board = board }

-- no load has begun: the definition, the folder of its programs, the seed of the run, and its number, from 0
abbrev pub new_plain : Definition → List ℕ → ℕ → ℕ → PlainState
new_plain d folder seed number = plain_state (new_loader d folder seed number) [] empty_board

-- the newest token that was posted is the list's length, and so is the count of published loads
pub record IsPosted (board : BoardTold ℕ) (list : List Contents) : Type 0 where
  pub newest : ForSome board.newest (λ number. number ≡ length list)
  pub counted : board.oks ≡ length list

-- the loader stands at the list's end, its programs lie in this folder, and the board tells what was published
pub record IsPlain (folder : List ℕ) (loader : LoaderState) (list : List Contents) (board : BoardTold ℕ) : Type 0 where
  pub at : IsAt loader list
  pub folder_is : loader.folder ≡ folder
  pub told : IsPosted board list

-- one child was run by a definition, as far as the scripts and the starts are told
pub record RunsTold (d : Definition) (before after : Children) (words : List (List ℕ)) (ending : PieceEnd)
    (pieces : List (List ℕ)) : Type 0 where
  pub script : RunTold before.scripts after.scripts [] d.max_output ending pieces
  pub words_told : StartsTold before.starts words after.starts ((ending ≡ NotStarted) ⊎ (ending ≡ NoMemory))

-- the board after these postings
abbrev pub PostsAll : BoardTold ℕ → BoardTold ℕ → List (Posting ℕ) → Type 0
PostsAll old new postings = new ≡ fold posted old postings

-- one load with a definition, of the loader, the list, the children and the board as one whole
abbrev pub PlainLoads : Definition → PlainState → Children → ℕ → LoadEnd → PlainState → Children → Type 0
PlainLoads d from before now end to after =
    IsLoad (RunsTold d before after) (after ≡ before) (λ (told : ℕ). told ≡ length to.list)
    (PostsAll from.board to.board) d now end from.loader to.loader from.list to.list

-- an entering gives the newest version; it lacks only where the handles of a version can't be counted any more
abbrev pub PlainEntered : PlainState → Result (Entered Contents) EnterFault → PlainState → Type 0
PlainEntered from (Ok seen) to = IsNewestOf from.list seen × (to ≡ from)
PlainEntered from (Err enter.NoMemory) to = to ≡ from
PlainEntered from (Err enter.Shut) to = ⊥

-- the board's row
abbrev pub PlainTaught : PlainState → StatusRow → PlainState → Type 0
PlainTaught from row to = (row ≡ row_of from.board) × (to ≡ from)

-- one load with the current definition
abbrev pub PlainLoaded : PlainState → Children → ℕ → LoadEnd → PlainState → Children → Type 0
PlainLoaded from before now end to after = PlainLoads from.loader.definition from before now end to after

-- the same where a load is due at the moment, and nothing where none is
abbrev pub PlainDue : PlainState → Children → ℕ → Option LoadEnd → PlainState → Children → Type 0
PlainDue from before now (Some end) to after =
    IsDue from.loader.timing now × PlainLoaded from before now end to after
PlainDue from before now None to after = (IsDue from.loader.timing now → ⊥) × (to ≡ from) × (after ≡ before)

-- one load with another definition
abbrev pub PlainLoadedAs : PlainState → Definition → Children → ℕ → LoadEnd → PlainState → Children → Type 0
PlainLoadedAs from d before now end to after = PlainLoads d from before now end to after

-- whether a definition is the current one
abbrev pub PlainJudged : PlainState → Definition → Bool → Type 0
PlainJudged from d said = IsTrue said ↔ (d ≡ from.loader.definition)

-- the dictionaries of items, of which no load has begun; the first item has this number
abbrev pub opened : List ℕ → ℕ → ℕ → List Item → List PlainState
opened folder seed number [] = []
opened folder seed number (Dictionary d ∷ items) =
    new_plain d folder seed number ∷ opened folder seed (suc number) items
opened folder seed number (Function f ∷ items) = opened folder seed (suc number) items
