-- What is heard of an input: the requests that stand in it one behind another, up to the first `quit`.
use Rattle.std.specs.Prelude.{◌≡◌, ◌≢◌, ◌⊎◌, ◌<◌, ◌≤◌, ◌+◌, ◌++◌, ℕ, suc, List, [], ◌∷◌, Bool, true, length, codes}
use Rattle.dict_value.specs.Split.{Lacks}
use Rattle.dict_value.specs.declared.letters.TheConstants.{LINE_FEED}
use Rattle.dict_value.specs.declared.value.Field.{Field}
use Rattle.dict_value.specs.declared.value.Field.TheVariants.{Text}
use Rattle.row_text.specs.TabRow.{IsTabRow}
use Rattle.wire_text.specs.Requests.{IsBlockLine, IsVerbHead, IsRequest, LinesAfter}
use Rattle.wire_text.specs.declared.lines.TheConstants.{MOST_BLOCK_BYTES, MOST_BLOCK_LINES, MOST_LINE_BYTES}
use Rattle.wire_text.specs.declared.lines.TheConstants.{MOST_REQUESTS}
use Rattle.wire_text.specs.declared.request.Request.{Request}
use Rattle.wire_text.specs.declared.request.Request.TheVariants as request
use Rattle.wire_text.specs.declared.request.Verb.{Verb}

-- What is heard of a request: what it asks for, that it has no reading, or that it has more lines or bytes than a
-- request may have. That the row of a key is too large for a child is found later, by its definition.
pub data Heard : Type 0 where
  asks : Request → Heard
  bad : Heard
  too_large : Heard

-- The line that stands first in a text, and what stands behind it; there is none where more bytes than a line may have
-- stand next. Where the input was read to its end, the last line may lack its line feed.
pub data FirstLine (closed : Bool) (text line : List ℕ) : List ℕ → Type 0 where
  ended : {rest : List ℕ} → Lacks LINE_FEED line → length line ≤ MOST_LINE_BYTES → text ≡ line ++ LINE_FEED ∷ rest
      → FirstLine closed text line rest
  last : closed ≡ true → Lacks LINE_FEED line → length line ≤ MOST_LINE_BYTES → line ≢ [] → text ≡ line
      → FirstLine closed text line []

-- So many lines that stand first in a text, and what stands behind them. Where the input was read to its end, they may
-- be all that there are.
pub data FirstLines (closed : Bool) : ℕ → List ℕ → List (List ℕ) → List ℕ → Type 0 where
  none : {text : List ℕ} → FirstLines closed 0 text [] text
  lacking : {count : ℕ} → closed ≡ true → FirstLines closed (suc count) [] [] []
  line : {count : ℕ} {text first behind rest : List ℕ} {more : List (List ℕ)} → FirstLine closed text first behind
      → FirstLines closed count behind more rest → FirstLines closed (suc count) text (first ∷ more) rest

-- The lines of the request that stands first in a text, and what stands behind it.
pub record FirstRequest (closed : Bool) (text first : List ℕ) (more : List (List ℕ)) (rest : List ℕ) : Type 0 where
  pub count : ℕ
  pub behind : List ℕ
  pub head : FirstLine closed text first behind
  pub extent : LinesAfter first count
  pub lines : FirstLines closed count behind more rest

-- More lines follow the first one than a request may have, or those that are there have too many bytes, line feeds
-- included.
abbrev pub IsTooLarge : ℕ → List ℕ → List ℕ → Type 0
IsTooLarge count behind rest = (MOST_BLOCK_LINES < count) ⊎ (MOST_BLOCK_BYTES + length rest < length behind)

-- The first line of a block that has a reading, whatever the lines that follow it hold.
pub record IsBlockHead (line : List ℕ) : Type 0 where
  pub size : ℕ
  pub count : Field
  pub head : List Field
  pub verb : Verb
  pub name : List ℕ
  pub attribute : List ℕ
  pub fallback : Field
  pub fields : IsTabRow line (Text (codes "many") ∷ count ∷ head)
  pub block : IsBlockLine line size
  pub lookup : IsVerbHead head verb name attribute fallback

-- A request that is too large is examined by its first line alone. Any other has no reading also where lines lack.
pub data HeardOf (first : List ℕ) (more : List (List ℕ)) (count : ℕ) (behind rest : List ℕ) : Heard → Type 0 where
  large : IsTooLarge count behind rest → IsBlockHead first → HeardOf first more count behind rest too_large
  large_bad : IsTooLarge count behind rest → ¬ IsBlockHead first → HeardOf first more count behind rest bad
  whole : {asked : Request} → ¬ IsTooLarge count behind rest → length more ≡ count → IsRequest first more asked
      → HeardOf first more count behind rest (asks asked)
  unread : ¬ IsTooLarge count behind rest → length more ≡ count
      → ((asked : Request) → ¬ IsRequest first more asked) → HeardOf first more count behind rest bad
  cut : ¬ IsTooLarge count behind rest → length more < count → HeardOf first more count behind rest bad

-- What is heard of a text, at most so many requests. Where the input was not read to its end, or more bytes than a line
-- may have stand next, a request is heard if all its lines ended before.
pub data Hears (closed : Bool) : ℕ → List ℕ → List Heard → Type 0 where
  spent : {text : List ℕ} → Hears closed 0 text []
  over : {most : ℕ} {text : List ℕ} → ((first : List ℕ) (more : List (List ℕ)) (rest : List ℕ)
      → ¬ FirstRequest closed text first more rest) → Hears closed (suc most) text []
  quits : {most : ℕ} {text first : List ℕ} {more : List (List ℕ)} {rest : List ℕ}
      (r : FirstRequest closed text first more rest) → HeardOf first more r.count r.behind rest (asks request.Quit)
      → Hears closed (suc most) text (asks request.Quit ∷ [])
  next : {most : ℕ} {text first : List ℕ} {more : List (List ℕ)} {rest : List ℕ} {heard : Heard} {later : List Heard}
      (r : FirstRequest closed text first more rest) → HeardOf first more r.count r.behind rest heard
      → heard ≢ asks request.Quit → Hears closed most rest later → Hears closed (suc most) text (heard ∷ later)

-- The requests of an input: the bytes that were read, to its end or not.
abbrev pub AreHeard : Bool → List ℕ → List Heard → Type 0
AreHeard closed text heard = Hears closed MOST_REQUESTS text heard
