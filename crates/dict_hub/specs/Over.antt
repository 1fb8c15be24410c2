-- The state of a desk over its parts, and what its calls do.
use Rattle.std.specs.Prelude.{◌≡◌, ◌<◌, ℕ, zero, suc, ◌+◌, List, [], ◌∷◌, All, Bool, true, false, Option, Some}
use Rattle.std.specs.Prelude.{Result, Ok, Err, length, slice_get, slice_set}
use Rattle.std.below.core.specs.declared.int.u32.TheConstants.{MAX}
use Rattle.child_io.specs.declared.child.Script.{Script}
use Rattle.dict_io.specs.Outside.{NextMoment}
use Rattle.dict_schema.specs.Parts.{is_keyed_layout}
use Rattle.dict_schema.specs.Sound.{IsSoundItem}
use Rattle.dict_schema.specs.declared.definition.Definition.{Definition}
use Rattle.dict_schema.specs.declared.definition.Item.{Item}
use Rattle.dict_schema.specs.declared.definition.Item.TheVariants.{Dictionary, Function}
use Rattle.dict_session.specs.Acts.{DeskCall, Moment, Before, Entered, Taught, Reloaded, Keyed, Called, Configured}
use Rattle.dict_session.specs.Facts.{Facts}
use Rattle.dict_session.specs.declared.desk.ConfigEnd.{ConfigEnd}
use Rattle.dict_session.specs.declared.desk.ConfigEnd.TheVariants as config
use Rattle.dict_version.specs.Contents.{Contents}
use Rattle.loader.specs.declared.answers.LoadEnd.{LoadEnd}
use Rattle.loader.specs.declared.answers.LoadEnd.TheVariants.{Published}
use Rattle.loader.specs.declared.answers.StatusRow.{StatusRow}
use Rattle.version_slot.specs.Views.{Entered as Seen}
use Rattle.version_slot.specs.declared.seen.EnterFault.{EnterFault}
use Rattle.dict_hub.specs.Changes.{AllStand, IsFirstUnlike}
use Rattle.dict_hub.specs.declared.following.Counts.{Counts}

-- what a spawner tells: the scripts that come, and the words of each start so far
pub record Children : Type 0 where
  pub scripts : Option (List Script)
  pub starts : Option (List (List (List ℕ)))

abbrev pub children_of : {S : Type 0} → (S → Option (List Script)) → (S → Option (List (List (List ℕ)))) → S → Children
children_of scripts starts spawner = record { scripts = scripts spawner; starts = starts spawner }

-- the state of a desk whose dictionaries have states of a type D, one for each item, and whose file has one of a type F
pub record OverState (D F : Type 0) : Type 0 where
  pub items : List Item
  pub file : F
  pub moments : Option (List ℕ)
  pub children : Children
  pub dictionaries : List D
  pub reloads : Bool

abbrev pub over_state : {D F : Type 0} → List Item → F → Option (List ℕ) → Children → List D → Bool → OverState D F
over_state items file moments children dictionaries reloads = record {
  items = items;
  file = file;
  moments = moments;
  children = children;
  dictionaries = dictionaries;
  reloads = reloads;
}

-- a dictionary that is fully loaded
abbrev pub IsLoaded : Item → Type 0
IsLoaded (Dictionary d) = is_keyed_layout d.layout ≡ false
IsLoaded (Function f) = ⊥

abbrev pub AllLoaded : List Item → Type 0
AllLoaded items = All IsLoaded items

-- the items of a desk: sound ones that are fully loaded, as many as have numbers
pub record AreDesks (items : List Item) : Type 0 where
  pub sound : All IsSoundItem items
  pub loaded : AllLoaded items
  pub few : length items < MAX

-- the name of an item
abbrev pub item_name : Item → List ℕ
item_name (Dictionary d) = d.name
item_name (Function f) = f.name

-- the view of the dictionary at a place, and none behind the last
abbrev pub view_at : {D : Type 0} → (D → List Contents) → List D → ℕ → List Contents
view_at view [] place = []
view_at view (d ∷ ds) zero = view d
view_at view (d ∷ ds) (suc place) = view_at view ds place

-- a count of the one at a place, and 0 behind the last
abbrev pub count_at : {A : Type 0} → (A → ℕ) → List A → ℕ → ℕ
count_at count [] place = 0
count_at count (x ∷ xs) zero = count x
count_at count (x ∷ xs) (suc place) = count_at count xs place

-- the dictionary at a place moved so, and of the rest only the children that come may differ
pub record At {D F : Type 0} (place : ℕ) (old new : OverState D F) (moves : D → Children → D → Children → Type 0)
    : Type 0 where
  pub from : D
  pub to : D
  pub is : slice_get old.dictionaries place ≡ Some from
  pub moved : moves from old.children to new.children
  pub dictionaries : new.dictionaries ≡ slice_set old.dictionaries place to
  pub moments : new.moments ≡ old.moments
  pub items : new.items ≡ old.items
  pub file : new.file ≡ old.file
  pub reloads : new.reloads ≡ old.reloads

-- a move that starts no child
abbrev pub Still : {D : Type 0} → (D → D → Type 0) → D → Children → D → Children → Type 0
Still moves from before to after = moves from to × (after ≡ before)

-- what the calls of one dictionary and of the file do
pub record Moves (D F : Type 0) : Type 1 where
  pub entered : D → Result (Seen Contents) EnterFault → D → Type 0
  pub taught : D → StatusRow → D → Type 0
  pub loaded : D → Children → ℕ → LoadEnd → D → Children → Type 0
  pub due : D → Children → ℕ → Option LoadEnd → D → Children → Type 0
  pub loaded_as : D → Definition → Children → ℕ → LoadEnd → D → Children → Type 0
  pub judged : D → Definition → Bool → Type 0
  pub reads : F → Result (List Item) ConfigEnd → F → Type 0

abbrev pub moves_of : {D F : Type 0} → (D → Result (Seen Contents) EnterFault → D → Type 0)
    → (D → StatusRow → D → Type 0) → (D → Children → ℕ → LoadEnd → D → Children → Type 0)
    → (D → Children → ℕ → Option LoadEnd → D → Children → Type 0)
    → (D → Definition → Children → ℕ → LoadEnd → D → Children → Type 0) → (D → Definition → Bool → Type 0)
    → (F → Result (List Item) ConfigEnd → F → Type 0) → Moves D F
moves_of entered taught loaded due loaded_as judged reads = record {
  entered = entered;
  taught = taught;
  loaded = loaded;
  due = due;
  loaded_as = loaded_as;
  judged = judged;
  reads = reads;
}

-- what is due at this moment was loaded in the first dictionaries, one after the other
abbrev pub DueUpTo : {D F : Type 0} → Moves D F → ℕ → ℕ → OverState D F → OverState D F → Type 0
DueUpTo moves now zero old new = new ≡ old
DueUpTo {D} {F} moves now (suc count) old new = (mid : OverState D F) × DueUpTo moves now count old mid
    × At count mid new (λ from before to after. (end : Option LoadEnd) × moves.due from before now end to after)

-- the first dictionaries were loaded once, one after the other
abbrev pub LoadUpTo : {D F : Type 0} → Moves D F → ℕ → ℕ → OverState D F → OverState D F → Type 0
LoadUpTo moves now zero old new = new ≡ old
LoadUpTo {D} {F} moves now (suc count) old new = (mid : OverState D F) × LoadUpTo moves now count old mid
    × At count mid new (λ from before to after. (end : LoadEnd) × moves.loaded from before now end to after)

-- a moment was taken, and all else is as it was
pub record Ticked {D F : Type 0} (old : OverState D F) (now : ℕ) (new : OverState D F) : Type 0 where
  pub moment : NextMoment old.moments new.moments now
  pub rest : new ≡ record old { moments = new.moments }

-- ---- the definitions file, read once more

abbrev pub no_counts : Counts
no_counts = record { changed = 0; published = 0 }

-- one more item differed, and its load ended so
abbrev pub with_end : Counts → LoadEnd → Counts
with_end counts (Published number) =
    record { changed = counts.changed + 1; published = counts.published + 1 }
with_end counts _ = record counts { changed = counts.changed + 1 }

-- a dictionary is handed the item that stands in its place now: it is the current one, or a load was made with it
pub data Follows {D : Type 0} (judged : D → Definition → Bool → Type 0)
    (loaded_as : D → Definition → Children → ℕ → LoadEnd → D → Children → Type 0) (now : ℕ) (item : Item)
    (counts : Counts) (from : D) (before : Children) (to : D) (after : Children) (later : Counts) : Type 0 where
  same : (d : Definition) → item ≡ Dictionary d → judged from d true → to ≡ from → after ≡ before
      → later ≡ counts → Follows judged loaded_as now item counts from before to after later
  other : (d : Definition) (end : LoadEnd) → item ≡ Dictionary d → judged from d false
      → loaded_as from d before now end to after → later ≡ with_end counts end
      → Follows judged loaded_as now item counts from before to after later

-- the first dictionaries were handed their items, one after the other
abbrev pub FollowUpTo : {D F : Type 0} → Moves D F → ℕ → List Item → ℕ → OverState D F → Counts → OverState D F → Type 0
FollowUpTo moves now items zero old counts new = (new ≡ old) × (counts ≡ no_counts)
FollowUpTo {D} {F} moves now items (suc count) old counts new =
    (mid : OverState D F) × (so_far : Counts) × (item : Item) × (slice_get items count ≡ Some item)
    × FollowUpTo moves now items count old so_far mid
    × At count mid new
    (λ from before to after. Follows moves.judged moves.loaded_as now item so_far from before to after counts)

-- a state behind a reading of the file
abbrev pub with_file : {D F : Type 0} → OverState D F → F → OverState D F
with_file s file = record s { file = file }

-- the file was read once more, and what differs was loaded, where all items may stand in their places
pub data Rereads {D F : Type 0} (moves : Moves D F) (old : OverState D F) (now : ℕ) (end : ConfigEnd)
    (new : OverState D F) : Type 0 where
  unread : moves.reads old.file (Err end) new.file → new ≡ with_file old new.file → Rereads moves old now end new
  unlike : (items : List Item) (number : ℕ) → moves.reads old.file (Ok items) new.file
      → IsFirstUnlike old.items items number → end ≡ config.Names number → new ≡ with_file old new.file
      → Rereads moves old now end new
  done : (items : List Item) (counts : Counts) (file : F) → moves.reads old.file (Ok items) file
      → AllStand old.items items → end ≡ config.Done counts.changed counts.published
      → FollowUpTo moves now items (length old.items) (with_file old file) counts new
      → Rereads moves old now end new

-- ---- the calls of the desk

abbrev pub OverDid : {D F : Type 0} → Moves D F → OverState D F → DeskCall → OverState D F → Type 0
OverDid moves old (Moment now) new = Ticked old now new
OverDid moves old (Before now) new =
    (old.reloads ≡ true → DueUpTo moves now (length old.dictionaries) old new) × (old.reloads ≡ false → new ≡ old)
OverDid moves old (Entered d answer) new = At d old new (Still (λ from to. moves.entered from answer to))
OverDid moves old (Taught d row) new = At d old new (Still (λ from to. moves.taught from row to))
OverDid moves old (Reloaded d now end) new =
    At d old new (λ from before to after. moves.loaded from before now end to after)
OverDid moves old (Keyed d now keys answer) new = ⊥
OverDid moves old (Called f rows answer) new = ⊥
OverDid moves old (Configured now end) new = Rereads moves old now end new

-- what a desk over these dictionaries says of its states
abbrev pub over_facts : {D F : Type 0} → (D → List Contents) → Moves D F → Facts (OverState D F)
over_facts view moves = record {
  did = OverDid moves;
  view = λ s d. view_at view s.dictionaries d;
  items = λ s. s.items;
  gave = λ d key row m. ⊥;
}
