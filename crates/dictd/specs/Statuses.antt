-- How a status is told: the number that the program ends with, and the text on the error output.
use Rattle.std.specs.Prelude.{◌≡◌, ◌≤◌, ℕ, List, [], ◌∷◌, ◌++◌, ◌⊎◌, Option, codes, decimal, length, take}
use Rattle.std.specs.Io.KnownBytes.{append_known}
use Rattle.dictd.specs.declared.status.Status.{Status}
use Rattle.dictd.specs.declared.status.Status.TheVariants.{Done, Usage, DefsUnread, DefsRefused, ReadFault, WriteFault}
use Rattle.dictd.specs.declared.status.Status.TheVariants.{LineTooLong, Spent, DefsTooLong, NoMemory}

-- the number that the program ends with
abbrev pub status_number : Status → ℕ
status_number Done = 0
status_number Usage = 2
status_number DefsUnread = 3
status_number (DefsRefused line place words) = 4
status_number ReadFault = 5
status_number WriteFault = 6
status_number LineTooLong = 7
status_number Spent = 8
status_number DefsTooLong = 9
status_number NoMemory = 12

-- why a definitions file has no reading: the line, the byte of the file, and words
abbrev pub fault_text : ℕ → ℕ → List ℕ → List ℕ
fault_text line place words =
    codes "definitions line " ++ (decimal line ++ (codes " byte " ++ (decimal place
    ++ (codes ": " ++ (words ++ 10 ∷ [])))))

-- the text that a status is told by
abbrev pub status_text : Status → List ℕ
status_text Done = []
status_text Usage =
    codes "usage: dictd once DEFS SEED | dictd serve DEFS ADDR WORKERS SEED | dictd demo N SEED" ++ 10 ∷ []
status_text DefsUnread = codes "cannot read definitions" ++ 10 ∷ []
status_text (DefsRefused line place words) = fault_text line place words.now
status_text ReadFault = codes "read failed" ++ 10 ∷ []
status_text WriteFault = codes "write failed" ++ 10 ∷ []
status_text LineTooLong = codes "line too long" ++ 10 ∷ []
status_text Spent = codes "too many requests" ++ 10 ∷ []
status_text DefsTooLong = codes "definitions too long" ++ 10 ∷ []
status_text NoMemory = codes "no memory" ++ 10 ∷ []

-- a text was written, or a front of it and the count of faults rose
pub record TellsText (old new : Option (List ℕ)) (text : List ℕ) (failed : Type 0) : Type 0 where
  pub count : ℕ
  pub front : count ≤ length text
  pub written : new ≡ append_known old (take count text)
  pub whole : (count ≡ length text) ⊎ failed
