-- The rule of a slot that threads share: what holds of it at every moment.
-- The slot has one list of entries, which exists in proofs alone, as a log that nothing can be taken from. Each step
-- leaves the list or appends one entry that the slot's fact allows after it (IsSlotList, Appends). So the list only
-- grows, and each list that it had come to stays a prefix of it.
-- What its publisher, a viewer or a token has is a list that the slot's list had come to (Reached). So of two of them,
-- whosever they are, the longer begins with the shorter (AreOfOneList). Five kinds of step change what they have:
-- making gives the publisher and each viewer the empty list; publishing takes the publisher's to the list with one
-- entry more; telling gives a token the list of the one that tells; entering takes a viewer's to what is shown, where
-- that is at least as long; learning takes it to the token's where that is longer.
use Rattle.std.specs.Prelude.{ℕ, ◌≡◌, ◌≤◌, ◌==◌, Bool, true, List, [], ◌∷◌, ◌++◌, length, MatchBool, ⊤}
use mathlib.Core.List.{IsPrefix}
use Rattle.logbook.specs.Pages.{Book, Named}
use Rattle.version_slot.specs.Views.{EachHasFact}

-- what names a slot: numbers that no other slot has
abbrev pub SlotName : Type 0
SlotName = Book

-- a list that a slot's list had come to, and which slot it is: what contracts see of a token and of a publisher
pub record Reached (E : Type 0) : Type 0 where
  pub list : List E
  pub slot : SlotName

-- what contracts see of a viewer: its view, the slot, and how often an entering was refused
pub record Viewing (E : Type 0) : Type 0 where
  pub list : List E
  pub slot : SlotName
  pub refusals : ℕ

module _ {E : Type 0} where
  -- a publisher or a token of a slot without an entry, and a viewer
  abbrev pub nothing_yet : SlotName → Reached E
  nothing_yet slot = record { list = []; slot = slot }

  abbrev pub no_view_yet : SlotName → Viewing E
  no_view_yet slot = record { list = []; slot = slot; refusals = 0 }

  -- the token is of this slot; it has a list of its own
  abbrev pub IsOf : SlotName → Reached E → Type 0
  IsOf slot told = told.slot ≡ slot

  -- of two lists that one list had come to, the longer begins with the shorter
  pub record AreOfOneList (xs ys : List E) : Type 0 where
    pub up : length xs ≤ length ys → IsPrefix xs ys
    pub down : length ys ≤ length xs → IsPrefix ys xs

module _ {E : Type 0} (allows : List E → E → Type 0) where
  -- The rule of the list, and of the slot's two words, of each of which it is known that it is in use: the first one
  -- is the list's length
  pub record IsSlotList (words : List (ℕ × Bool)) (list : List E) : Type 0 where
    pub counted : words ≡ (length list, true) ∷ (0, true) ∷ []
    pub fact : EachHasFact allows list

  -- what an appending tells where the list was the one that had been seen: the entry stands behind it, and its fact
  -- holds; of a longer list nothing is told
  abbrev pub Appends : ℕ → E → List E → ℕ → List E → Type 0
  Appends seen_length e seen found after =
      MatchBool (found == seen_length) ((after ≡ seen ++ e ∷ []) × EachHasFact allows after) ⊤

-- the first word of a slot
abbrev pub length_word : SlotName → Named
length_word slot = record { tracked = true; key = 0; book = slot }
