-- What the calls of the traits of the outside do.
use Rattle.std.specs.Prelude.{◌≡◌, ◌<◌, ℕ, ◌+◌, ◌-◌, ◌^◌, ◌≤◌, min, List, [], ◌∷◌, length, take, ⊤}
use Rattle.std.specs.Prelude.{Bool, true, false, Option, Some, None, Result, Ok, Err, IfSome}
use Rattle.std.specs.Io.KnownBytes.{prepend_known, append_known}
use Rattle.dict_io.specs.declared.outside.Got.{Got}
use Rattle.dict_io.specs.declared.outside.Got.TheVariants.{Bytes as GotBytes, End as GotEnd, Failed as GotFailed}
use Rattle.dict_io.specs.declared.outside.Put.{Put}
use Rattle.dict_io.specs.declared.outside.Put.TheVariants.{Bytes as PutBytes, Failed as PutFailed}
use Rattle.dict_io.specs.declared.outside.Failed.{Failed}
use Rattle.dict_io.specs.declared.outside.ShelfFault.{ShelfFault}
use Rattle.dict_io.specs.declared.outside.ShelfFault.TheVariants.{Failed as ShelfFailed, TooLong, NoMemory}
use Rattle.dict_io.specs.declared.outside.TheConstants.{LAST_MOMENT}

-- one more call, in a count that stands still at its end
abbrev pub count_up : ℕ → ℕ
count_up count = min (count + 1) (2 ^ 64 - 1)

-- a count rose, or stands at its end
abbrev pub Rose : ℕ → ℕ → Type 0
Rose before now = count_up before ≤ now

-- a count of faults never falls, and it rose where this failed
pub record RoseWhere (before now : ℕ) (failed : Type 0) : Type 0 where
  pub later : before ≤ now
  pub rose : failed → Rose before now

-- a count of faults rose where this failed, and it is as it was where this didn't
pub record HasCause (before now : ℕ) (failed : Type 0) : Type 0 where
  pub later : before ≤ now
  pub rose : failed → Rose before now
  pub still : ¬ failed → now ≡ before

-- one side of a link: its known bytes, its count of faults, and whether it came to its end
pub record Side : Type 0 where
  pub known : Option (List ℕ)
  pub faults : ℕ
  pub ended : Bool

abbrev pub side : Option (List ℕ) → ℕ → Bool → Side
side known faults ended = record { known = known; faults = faults; ended = ended }

-- an object of one side alone
abbrev pub no_side : Side
no_side = side None 0 false

-- a read found the end
abbrev pub is_end : Got → Bool
is_end (GotBytes n) = false
is_end GotEnd = true
is_end GotFailed = false

-- a read gave at least one byte, and not more than there was room for
abbrev pub GotWithin : Got → List ℕ → Type 0
GotWithin (GotBytes n) buf = (0 < n) × (n ≤ length buf)
GotWithin GotEnd buf = ⊤
GotWithin GotFailed buf = ⊤

-- a read gave the next bytes of what was left; the end came only where nothing was left
abbrev pub GotGives : Option (List ℕ) → Option (List ℕ) → Got → List ℕ → Type 0
GotGives old new (GotBytes n) buf = old ≡ prepend_known (take n buf) new
GotGives old new GotEnd buf = (new ≡ old) × IfSome old (λ xs. xs ≡ [])
GotGives old new GotFailed buf = new ≡ old

-- a write took at least one byte of the piece
abbrev pub PutWithin : Put → List ℕ → Type 0
PutWithin (PutBytes n) piece = (0 < n) × (n ≤ length piece)
PutWithin PutFailed piece = ⊤

-- a write appended the first bytes of the piece
abbrev pub PutGives : Option (List ℕ) → Option (List ℕ) → Put → List ℕ → Type 0
PutGives old new (PutBytes n) piece = new ≡ append_known old (take n piece)
PutGives old new PutFailed piece = new ≡ old

-- the whole piece was appended, or a front of it where a write failed
abbrev pub WritesPrefix : Option (List ℕ) → Option (List ℕ) → List ℕ → Result (Unit {0}) Failed → Type 0
WritesPrefix old new piece (Ok _) = new ≡ append_known old piece
WritesPrefix old new piece (Err _) = (n : ℕ) × (n ≤ length piece) × (new ≡ append_known old (take n piece))

-- a file's whole bytes where they are within the limit, and TooLong exactly above it; a fault and want of memory aside
abbrev pub ReadsText : List ℕ → ℕ → Result (List ℕ) ShelfFault → Type 0
ReadsText text limit (Ok bytes) = (bytes ≡ text) × (length text ≤ limit)
ReadsText text limit (Err ShelfFailed) = ⊤
ReadsText text limit (Err TooLong) = limit < length text
ReadsText text limit (Err NoMemory) = length text ≤ limit

-- the same of what is told of a name; a name without a file fails
abbrev pub ReadsFile : Option (Option (List ℕ)) → ℕ → Result (List ℕ) ShelfFault → Type 0
ReadsFile None limit r = ⊤
ReadsFile (Some None) limit r = r ≡ Err ShelfFailed
ReadsFile (Some (Some text)) limit r = ReadsText text limit r

-- a moment as it is read: one past the last is the last
abbrev pub moment_of : ℕ → ℕ
moment_of moment = min moment LAST_MOMENT

-- the next moment, and the last one stays
abbrev pub NextMoment : Option (List ℕ) → Option (List ℕ) → ℕ → Type 0
NextMoment None new now = new ≡ None
NextMoment (Some []) new now = new ≡ Some []
NextMoment (Some (x ∷ [])) new now = (now ≡ moment_of x) × (new ≡ Some (x ∷ []))
NextMoment (Some (x ∷ y ∷ rest)) new now = (now ≡ moment_of x) × (new ≡ Some (y ∷ rest))
