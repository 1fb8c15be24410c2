-- What stands next on a source, line by line.
use Rattle.std.specs.Prelude.{◌≡◌, ◌<◌, ◌≤◌, ◌+◌, ℕ, List, [], ◌∷◌, ◌++◌, length, take, Bool, true, false, Option}
use Rattle.std.specs.Prelude.{IfSome}
use Rattle.std.specs.Io.KnownBytes.{prepend_known}
use Rattle.dict_io.specs.declared.outside.Got.{Got}
use Rattle.dict_io.specs.declared.outside.Got.TheVariants.{Bytes as GotBytes, End as GotEnd, Failed as GotFailed}
use Rattle.dict_io.specs.Links.{Ends}
use Rattle.dict_io.specs.Outside.{HasCause}
use Rattle.dict_value.specs.Split.{Lacks}
use Rattle.dict_value.specs.declared.letters.TheConstants.{LINE_FEED}
use Rattle.line_reader.specs.declared.lines.Next.{Next}
use Rattle.line_reader.specs.declared.lines.Next.TheVariants.{Whole, Last, End, TooLong, Failed}
use Rattle.line_reader.specs.declared.lines.TheConstants.{ROOM}

-- a reader's last line, and the bytes that it has read ahead
pub record Held : Type 0 where
  pub line : List ℕ
  pub ahead : List ℕ

-- a line without its line feed
pub record IsLine (line : List ℕ) : Type 0 where
  pub lacks : Lacks LINE_FEED line
  pub short : length line < ROOM

-- more bytes without a line feed than a line may have, one more
pub record IsLong (bytes : List ℕ) : Type 0 where
  pub lacks : Lacks LINE_FEED bytes
  pub long : length bytes ≡ ROOM

-- nothing is left, where that is told
abbrev pub NothingLeft : Option (List ℕ) → Type 0
NothingLeft left = IfSome left (λ xs. xs ≡ [])

-- what a read put into a buffer from a place on, before which these bytes stand
abbrev pub ReadsAt : Option (List ℕ) → List ℕ → ℕ → Got → Option (List ℕ) → List ℕ → Type 0
ReadsAt left front at (GotBytes n) left' buf = (bytes : List ℕ) × (0 < length bytes) × (length bytes ≡ n)
    × (at + n ≤ length buf) × (left ≡ prepend_known bytes left') × (take (at + n) buf ≡ front ++ bytes)
ReadsAt left front at GotEnd left' buf = (left' ≡ left) × NothingLeft left × (take at buf ≡ front)
ReadsAt left front at GotFailed left' buf = (left' ≡ left) × (take at buf ≡ front)

-- more bytes were read ahead
abbrev pub Fills : Option (List ℕ) → List ℕ → Got → Option (List ℕ) → List ℕ → Type 0
Fills left ahead (GotBytes n) left' ahead' = (bytes : List ℕ) × (0 < length bytes) × (left ≡ prepend_known bytes left')
    × (ahead' ≡ ahead ++ bytes) × (length ahead' ≤ ROOM)
Fills left ahead GotEnd left' ahead' = (left' ≡ left) × NothingLeft left × (ahead' ≡ ahead)
Fills left ahead GotFailed left' ahead' = (left' ≡ left) × (ahead' ≡ ahead)

-- what a line takes of what stands next: the bytes read ahead, and then what is left
abbrev pub IsNext : List ℕ → Option (List ℕ) → Next → Held → Option (List ℕ) → Type 0
IsNext ahead left Whole held left' =
    IsLine held.line × (prepend_known ahead left ≡ prepend_known (held.line ++ LINE_FEED ∷ held.ahead) left')
IsNext ahead left Last held left' = IsLine held.line × (0 < length held.line) × (held.ahead ≡ []) × NothingLeft left'
    × (prepend_known ahead left ≡ prepend_known held.line left')
IsNext ahead left End held left' = (held.ahead ≡ []) × NothingLeft left' × (prepend_known ahead left ≡ left')
IsNext ahead left TooLong held left' =
    IsLong held.ahead × (prepend_known ahead left ≡ prepend_known held.ahead left')
IsNext ahead left Failed held left' =
    IsLine held.ahead × (prepend_known ahead left ≡ prepend_known held.ahead left')

-- the end of the source was met
abbrev pub meets_end : Next → Bool
meets_end Last = true
meets_end End = true
meets_end Whole = false
meets_end TooLong = false
meets_end Failed = false

-- the same of a link, whose other side stays as it was
pub record ReadsLine (ahead : List ℕ) (old : Ends) (met : Next) (held : Held) (new : Ends) : Type 0 where
  pub next : IsNext ahead old.reads.known met held new.reads.known
  pub ended : new.reads.ended ≡ meets_end met
  pub cause : HasCause old.reads.faults new.reads.faults (met ≡ Failed)
  pub writes : new.writes ≡ old.writes
