-- What `demo` prints: a hashed dictionary of made rows is asked for made keys.
use Rattle.std.specs.List.{AllZip, filter_map, range_with_len, sum}
use Rattle.std.specs.Prelude.{◌≡◌, ◌+◌, ◌*◌, ◌%◌, ℕ, List, [], ◌∷◌, ◌++◌, Option, Result, Ok, Err}
use Rattle.std.specs.Prelude.{codes, decimal, length, map}
use Rattle.dict_io.specs.Outside.{WritesPrefix}
use Rattle.dict_io.specs.declared.outside.Failed.{Failed}
use Rattle.dict_value.specs.FindByKey.{FindsByKey}
use Rattle.dictd.specs.CommandLine.{IsDemo}
use Rattle.dictd.specs.declared.status.Status.{Status}
use Rattle.dictd.specs.declared.status.Status.TheVariants as status

-- the key of a row of so many, and the key that a lookup asks for; the value of a row is its number, from 0
abbrev pub row_key : (rows seed row : ℕ) → ℕ
row_key rows seed row = (row * 48271 + seed) % (2 * rows)

abbrev pub asked_key : (rows seed lookup : ℕ) → ℕ
asked_key rows seed lookup = (lookup * 69621 + 3 * seed) % (2 * rows)

-- the keys of all rows, in their order
abbrev pub row_keys : (rows seed : ℕ) → List ℕ
row_keys rows seed = map (row_key rows seed) (range_with_len 0 rows)

-- the keys that the lookups ask for, in their order
abbrev pub asked_keys : (rows seed : ℕ) → List ℕ
asked_keys rows seed = map (asked_key rows seed) (range_with_len 0 rows)

-- the values that were found
abbrev pub values_in : List (Option ℕ) → List ℕ
values_in answers = filter_map (λ answer. answer) answers

-- the keys that were asked for are answered, each by the number of the first row with it; so many of them have a row,
-- and the values found have this sum
pub record Counts (rows seed : ℕ) (asked : List ℕ) (hits total : ℕ) : Type 0 where
  pub answers : List (Option ℕ)
  pub answered : AllZip (FindsByKey (row_keys rows seed)) asked answers
  pub hits_are : hits ≡ length (values_in answers)
  pub total_is : total ≡ sum (values_in answers)

-- the line that is printed: there are as many lookups as rows
abbrev pub demo_text : (rows hits sum : ℕ) → List ℕ
demo_text rows hits sum =
    codes "rows " ++ (decimal rows ++ (codes " lookups " ++ (decimal rows ++ (codes " hits " ++ (decimal hits
    ++ (codes " sum " ++ (decimal sum ++ 10 ∷ [])))))))

-- how the writing of the line is told
abbrev pub status_sent : Result (Unit {0}) Failed → Status
status_sent (Ok _) = status.Done
status_sent (Err _) = status.WriteFault

-- one run of `demo`, and what was written before and after it
pub data DemoRun (words : List (List ℕ)) (old : Option (List ℕ)) (told : Status) (new : Option (List ℕ)) : Type 0 where
  -- the words have another form
  misused : ((rows seed : ℕ) → IsDemo words rows seed → ⊥) → told ≡ status.Usage → new ≡ old
      → DemoRun words old told new
  -- memory was refused before anything was written
  refused : (rows seed : ℕ) → IsDemo words rows seed → told ≡ status.NoMemory → new ≡ old → DemoRun words old told new
  -- the counts over all lookups were written, or a front of their line
  printed : (rows seed hits total : ℕ) (sent : Result (Unit {0}) Failed) → IsDemo words rows seed
      → Counts rows seed (asked_keys rows seed) hits total → WritesPrefix old new (demo_text rows hits total) sent
      → told ≡ status_sent sent → DemoRun words old told new
