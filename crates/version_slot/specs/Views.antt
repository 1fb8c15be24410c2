-- What a view of a slot is: one list of entries, the longest that its viewer saw or was told of. It begins with what
-- was seen and told before: those lists are prefixes of it. Its length is the list's.
use Rattle.std.specs.Prelude.{◌≡◌, ℕ, zero, suc, List, ◌∷◌, ◌++◌, ◌≤◌, length, take, slice_get, Option, None}

-- what an entering gives: a number, and the entry of that number where there is one
pub record Entered (E : Type 0) : Type 0 where
  pub number : ℕ
  pub version : Option E

module _ {E : Type 0} where
  -- entry n of the view, from 1, where there is one
  abbrev pub entry : List E → ℕ → Option E
  entry view zero = None
  entry view (suc n) = slice_get view n

  -- the newest entry of the view and its number, or no entry and 0
  pub record IsNewestOf (view : List E) (seen : Entered E) : Type 0 where
    pub number : seen.number ≡ length view
    pub version : seen.version ≡ entry view (length view)

  -- each entry has the fact over the entries before it
  abbrev pub EachHasFact : (List E → E → Type 0) → List E → Type 0
  EachHasFact allows view = (before after : List E) (e : E) → view ≡ before ++ e ∷ after → allows before e

  -- each token of the slot stays one of it, and stands for the same list
  abbrev pub KeepsTokens : {S T : Type 0} → (S → T → Type 0) → (S → T → List E) → S → S → Type 0
  KeepsTokens {S} {T} is_of told_list old new =
      (t : T) → is_of old t → is_of new t × (told_list new t ≡ told_list old t)

  -- a token that is a number is of each list with so many entries, and stands for its first ones
  abbrev pub HasEntries : List E → ℕ → Type 0
  HasEntries list k = k ≤ length list

  abbrev pub first_entries : List E → ℕ → List E
  first_entries list k = take k list
