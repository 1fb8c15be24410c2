-- A reading of the definitions file, and what comes of it.
use Rattle.std.specs.Prelude.{◌≡◌, ◌<◌, ◌≤◌, ℕ, List, length, Option, Result, Ok, Err}
use Rattle.ddl_text.specs.Faults.{place_of_fault, words_of}
use Rattle.ddl_text.specs.declared.fault.DdlFault.{DdlFault}
use Rattle.dict_io.specs.Outside.{ReadsFile}
use Rattle.dict_io.specs.declared.outside.ShelfFault.{ShelfFault}
use Rattle.dict_io.specs.declared.outside.ShelfFault.TheVariants as shelf
use Rattle.dict_schema.specs.declared.definition.Item.{Item}
use Rattle.dict_session.specs.declared.desk.ConfigEnd.{ConfigEnd}
use Rattle.dict_session.specs.declared.desk.ConfigEnd.TheVariants.{Unread, TooLong, Refused, NoMemory}
use Rattle.dict_hub.specs.Texts.{IsFaulty, TextDefines}

-- the greatest number of bytes of a definitions file
abbrev pub most_definitions : ℕ
most_definitions = 4194304

-- the text has no reading: the line and the place of its first fault, in words
pub record IsRefusedFile (text : List ℕ) (line place : ℕ) (words : List ℕ) : Type 0 where
  pub fault : DdlFault
  pub faulty : IsFaulty text line fault
  pub place_is : place ≡ place_of_fault fault
  pub words_are : words ≡ words_of fault

-- what a text within the limit gives: its items, or why it has none
abbrev pub TextGives : List ℕ → Result (List Item) ConfigEnd → Type 0
TextGives text (Ok items) = TextDefines text items
TextGives text (Err (Refused line place words)) = IsRefusedFile text line place words.now
TextGives text (Err NoMemory) = Unit {0}
TextGives text (Err _) = ⊥

-- what a text gives: a shelf that doesn't tell its files may answer one above the limit
pub record ReadGives (text : List ℕ) (result : Result (List Item) ConfigEnd) : Type 0 where
  pub within : length text ≤ most_definitions → TextGives text result
  pub above : most_definitions < length text → result ≡ Err TooLong

-- what an answer of a shelf gives
abbrev pub AnswerGives : Result (List ℕ) ShelfFault → Result (List Item) ConfigEnd → Type 0
AnswerGives (Ok text) result = ReadGives text result
AnswerGives (Err shelf.Failed) result = result ≡ Err Unread
AnswerGives (Err shelf.TooLong) result = result ≡ Err TooLong
AnswerGives (Err shelf.NoMemory) result = result ≡ Err NoMemory

-- the shelf answered for the file of this name, as it told, and the result is what that gives
pub record ReadsItems (filed : List ℕ → Result (List ℕ) ShelfFault → Type 0) (file : Option (Option (List ℕ)))
    (name : List ℕ) (result : Result (List Item) ConfigEnd) : Type 0 where
  pub answer : Result (List ℕ) ShelfFault
  pub answered : filed name answer
  pub told : ReadsFile file most_definitions answer
  pub gives : AnswerGives answer result

-- the readings that come, and the name of the file
pub record FileState (R : Type 0) : Type 0 where
  pub readings : R
  pub name : List ℕ

abbrev pub file_state : {R : Type 0} → R → List ℕ → FileState R
file_state readings name = record { readings = readings; name = name }

-- a reading of the file, behind which the later ones come
pub record ReadsOnce {R : Type 0} (filed : List ℕ → Result (List ℕ) ShelfFault → Type 0)
    (file : R → List ℕ → Option (Option (List ℕ))) (later : R → R) (old : FileState R)
    (result : Result (List Item) ConfigEnd) (new : FileState R) : Type 0 where
  pub read : ReadsItems filed (file old.readings old.name) old.name result
  pub after : new ≡ file_state (later old.readings) old.name
