-- Which bytes of what stands next were taken as a request, and what was read in them.
use Rattle.std.specs.Prelude.{◌≡◌, ◌<◌, ◌≤◌, ℕ, List, [], ◌∷◌, ◌++◌, All, length, Option, Bool, true, false, ⊤}
use Rattle.std.specs.Io.KnownBytes.{prepend_known}
use Rattle.std.specs.List.{AllByRecursion}
use Rattle.dict_io.specs.Links.{Ends}
use Rattle.dict_io.specs.Outside.{HasCause}
use Rattle.dict_value.specs.declared.letters.TheConstants.{LINE_FEED}
use Rattle.line_reader.specs.Reading.{IsLine, IsLong, NothingLeft}
use Rattle.request_reader.specs.declared.further.Further.{Further}
use Rattle.request_reader.specs.declared.further.More.{More}
use Rattle.request_reader.specs.declared.further.More.TheVariants as more
use Rattle.request_reader.specs.declared.reader.Asking.{Asking}
use Rattle.request_reader.specs.declared.reader.Asking.TheVariants.{Asks, Bad, TooLarge, NoMemory}
use Rattle.request_reader.specs.declared.reader.Taken.{Taken}
use Rattle.request_reader.specs.declared.reader.Taken.TheVariants as taken
use Rattle.wire_text.specs.RequestTexts.{FirstLines, FirstRequest, Heard, HeardOf, IsTooLarge}
use Rattle.wire_text.specs.Requests.{LinesAfter}
use Rattle.wire_text.specs.declared.request.Request.TheVariants as request

-- What was read in a request's lines is what is heard of them. Where no memory was found, it is known whether they ask
-- to end the session.
abbrev pub IsHeardAs : List ℕ → List (List ℕ) → ℕ → List ℕ → Asking → Type 0
IsHeardAs first lines count behind (Asks asked) = HeardOf first lines count behind [] (Heard.asks asked)
IsHeardAs first lines count behind Bad = HeardOf first lines count behind [] Heard.bad
IsHeardAs first lines count behind TooLarge = HeardOf first lines count behind [] Heard.too_large
IsHeardAs first lines count behind (NoMemory true) = HeardOf first lines count behind [] (Heard.asks request.Quit)
IsHeardAs first lines count behind (NoMemory false) = ¬ (HeardOf first lines count behind [] (Heard.asks request.Quit))

-- The bytes of one request, behind which nothing stands, and what was read in them. It is the last one of an input that
-- was read to its end where it is closed.
pub record IsRequestText (closed : Bool) (text : List ℕ) (asking : Asking) : Type 0 where
  pub first : List ℕ
  pub lines : List (List ℕ)
  pub request : FirstRequest closed text first lines []
  pub is : IsHeardAs first lines request.count request.behind asking

-- lines, each with its line feed
abbrev pub fed : List (List ℕ) → List ℕ
fed [] = []
fed (line ∷ lines) = line ++ LINE_FEED ∷ fed lines

-- too few lines for a request
abbrev pub AreTooFew : List (List ℕ) → Type 0
AreTooFew [] = ⊤
AreTooFew (first ∷ lines) =
    AllByRecursion IsLine (first ∷ lines) × ((count : ℕ) × LinesAfter first count × (length lines < count))

-- a request that isn't all there, up to bytes without a line feed
pub record IsUnfinished (P : List ℕ → Type 0) (text : List ℕ) : Type 0 where
  pub lines : List (List ℕ)
  pub part : List ℕ
  pub few : AreTooFew lines
  pub is : P part
  pub text_is : text ≡ fed lines ++ part

-- what was taken of the bytes that stand next
abbrev pub TakesFor : Option (List ℕ) → Taken → List ℕ → Option (List ℕ) → Type 0
TakesFor next (taken.Request asking last) ahead left = (text : List ℕ) × (next ≡ prepend_known (text ++ ahead) left)
    × IsRequestText last text asking × (last ≡ true → (ahead ≡ []) × NothingLeft left)
TakesFor next taken.End ahead left = (next ≡ left) × (ahead ≡ []) × NothingLeft left
TakesFor next taken.TooLong ahead left = (tail : List ℕ) × (next ≡ prepend_known tail left) × IsUnfinished IsLong tail
TakesFor next taken.Failed ahead left = (tail : List ℕ) × (next ≡ prepend_known tail left) × IsUnfinished IsLine tail

-- the input was read to its end
abbrev pub is_closed : Taken → Bool
is_closed (taken.Request asking last) = last
is_closed taken.End = true
is_closed taken.TooLong = false
is_closed taken.Failed = false

-- the same of a link, whose other side stays as it was
pub record TakesRequest (ahead : List ℕ) (old : Ends) (took : Taken) (ahead' : List ℕ) (new : Ends) : Type 0 where
  pub request : TakesFor (prepend_known ahead old.reads.known) took ahead' new.reads.known
  pub ended : new.reads.ended ≡ is_closed took
  pub cause : HasCause old.reads.faults new.reads.faults (took ≡ taken.Failed)
  pub writes : new.writes ≡ old.writes

-- of further lines with so many bytes these are kept, or not all
pub record Keeps (further : Further) (lines : List (List ℕ)) (size : ℕ) : Type 0 where
  pub bytes : further.bytes ≡ size
  pub kept : further.kept ≡ true → further.lines ≡ lines
  pub short : All (λ line. length line ≤ 65537) further.lines

-- what the first line of a block that is too large says, whatever its other lines hold
abbrev pub IsLargeAs : List ℕ → Asking → Type 0
IsLargeAs first asking = (lines : List (List ℕ)) (count : ℕ) (behind : List ℕ) → 0 < count → IsTooLarge count behind []
    → IsHeardAs first lines count behind asking

-- what a block asks for whose further lines were kept so
abbrev pub BlockReads : List ℕ → ℕ → Further → Bool → Asking → Type 0
BlockReads first count further all asking =
    (lines : List (List ℕ)) (behind : List ℕ) → Keeps further lines (length behind)
    → (all ≡ true → length lines ≡ count) → (all ≡ false → length lines < count)
    → IsHeardAs first lines count behind asking

-- further lines were taken, as many as should follow or all that there are
pub record IsMore (closed : Bool) (next : Option (List ℕ)) (count : ℕ) (further : Further) (lines : List (List ℕ))
    (ahead : List ℕ) (left : Option (List ℕ)) : Type 0 where
  pub behind : List ℕ
  pub known : next ≡ prepend_known (behind ++ ahead) left
  pub stand : FirstLines closed count behind lines []
  pub keeps : Keeps further lines (length behind)

abbrev pub MoreFor : Option (List ℕ) → ℕ → More → List ℕ → Option (List ℕ) → Type 0
MoreFor next count (more.All further) ahead left =
    (lines : List (List ℕ)) × IsMore false next count further lines ahead left × (length lines ≡ count)
MoreFor next count (more.Closed further all) ahead left =
    (lines : List (List ℕ)) × IsMore true next count further lines ahead left × (ahead ≡ []) × NothingLeft left
    × (all ≡ true → length lines ≡ count) × (all ≡ false → length lines < count)
MoreFor next count more.TooLong ahead left =
    (lines : List (List ℕ)) × AllByRecursion IsLine lines × (length lines < count)
    × IsLong ahead × (next ≡ prepend_known (fed lines ++ ahead) left)
MoreFor next count more.Failed ahead left =
    (lines : List (List ℕ)) × AllByRecursion IsLine lines × (length lines < count)
    × IsLine ahead × (next ≡ prepend_known (fed lines ++ ahead) left)

abbrev pub more_is_closed : More → Bool
more_is_closed (more.All further) = false
more_is_closed (more.Closed further all) = true
more_is_closed more.TooLong = false
more_is_closed more.Failed = false

pub record Furthers (ahead : List ℕ) (old : Ends) (count : ℕ) (read : More) (ahead' : List ℕ) (new : Ends)
    : Type 0 where
  pub lines : MoreFor (prepend_known ahead old.reads.known) count read ahead' new.reads.known
  pub ended : new.reads.ended ≡ more_is_closed read
  pub cause : HasCause old.reads.faults new.reads.faults (read ≡ more.Failed)
  pub writes : new.writes ≡ old.writes
