-- The counts of made lookups, and the run that prints them.
use Rattle.std.proofs.Common.{◌≡◌, ◌∙◌, ◌+◌, ◌<◌, ℕ, zero, suc, List, [], ◌∷◌, ◌++◌, Option, None, Some, Result, map, ap, length, refl, subst, sym, arith}
use Rattle.std.proofs.lemmas.List.{append-nil, length-append, map-append}
use Rattle.std.proofs.lemmas.List.Elements.{filter_map-append}
use Rattle.std.proofs.lemmas.List.FromFn.{length-map-range_with_len}
use Rattle.std.proofs.lemmas.List.Sums.{sum_by_push}
use Rattle.std.proofs.lemmas.Option.{slice_get_within}
use Rattle.std.specs.List.{AllZip, range_with_len, sum}
use Rattle.dict_value.specs.FindByKey.{FindsByKey}
use Rattle.dict_io.specs.Outside.{WritesPrefix}
use Rattle.dict_io.specs.declared.outside.Failed.{Failed}
use Rattle.dictd.specs.CommandLine.{IsDemo}
use Rattle.dictd.specs.Demo.{Counts, DemoRun, asked_key, asked_keys, demo_text, row_key, row_keys, status_sent, values_in}
use Rattle.dictd.specs.declared.status.Status.{Status}

-- ---- the keys of the rows

range-more : (first count next : ℕ) → next ≡ count + 1 → range_with_len first next ≡ range_with_len first count ++ (first + count) ∷ []
range-more first zero next is = ap (range_with_len first) (let e : next ≡ suc zero = omega (arith, is) in e) ∙ ap (λ n. n ∷ []) (omega arith)
range-more first (suc count) next is =
    ap (range_with_len first) (let e : next ≡ suc (suc count) = omega (arith, is) in e)
    ∙ ap (λ rest. first ∷ rest) (range-more (first + 1) count (suc count) (omega arith))
    ∙ ap (λ n. first ∷ (range_with_len (first + 1) count ++ n ∷ [])) (omega arith)

pub keys-more : {X : Type 0} (made : ℕ → X) (count : ℕ) (keys more : List X) (key : X) → keys ≡ map made (range_with_len 0 count) → key ≡ made count
    → more ≡ keys ++ key ∷ [] → more ≡ map made (range_with_len 0 (count + 1))
keys-more made count keys more key are is pushed =
    let next : range_with_len 0 (count + 1) ≡ range_with_len 0 count ++ count ∷ [] =
    range-more 0 count (count + 1) refl ∙ ap (λ n. range_with_len 0 count ++ n ∷ []) (omega arith) in
    pushed ∙ ap (λ ks. ks ++ key ∷ []) are ∙ ap (λ k. map made (range_with_len 0 count) ++ k ∷ []) is
    ∙ sym (ap (map made) next ∙ map-append made (range_with_len 0 count) (count ∷ []))

-- ---- one lookup more

zip-more : {X Y : Type 0} (R : X → Y → Type 0) (xs : List X) (ys : List Y) (x : X) (y : Y) → AllZip R xs ys → R x y → AllZip R (xs ++ x ∷ []) (ys ++ y ∷ [])
zip-more R [] [] x y all is = (is, all)
zip-more R [] (b ∷ ys) x y all is = absurd all
zip-more R (a ∷ xs) [] x y all is = absurd all
zip-more R (a ∷ xs) (b ∷ ys) x y all is = (all.0, zip-more R xs ys x y all.1 is)

-- the keys of so many lookups and the next
asked-more : (rows seed lookup key : ℕ) → key ≡ asked_key rows seed lookup
    → map (asked_key rows seed) (range_with_len 0 (lookup + 1)) ≡ map (asked_key rows seed) (range_with_len 0 lookup) ++ key ∷ []
asked-more rows seed lookup key is =
    sym (keys-more (asked_key rows seed) lookup (map (asked_key rows seed) (range_with_len 0 lookup))
    (map (asked_key rows seed) (range_with_len 0 lookup) ++ key ∷ []) key refl is refl)

-- the counts of the first so many lookups
abbrev pub Counted : (rows seed lookup hits total : ℕ) → Type 0
Counted rows seed lookup hits total = Counts rows seed (map (asked_key rows seed) (range_with_len 0 lookup)) hits total

pub none-counted : (rows seed : ℕ) → Counted rows seed 0 0 0
none-counted rows seed = record { answers = []; answered = tt; hits_are = refl; total_is = refl }

module _ (rows seed lookup hits total key : ℕ) (before : Counted rows seed lookup hits total) (is : key ≡ asked_key rows seed lookup) where
  with-answer : (answer : Option ℕ) → FindsByKey (row_keys rows seed) key answer
      → AllZip (FindsByKey (row_keys rows seed)) (map (asked_key rows seed) (range_with_len 0 (lookup + 1))) (before.answers ++ answer ∷ [])
  with-answer answer finds =
      subst (λ ks. AllZip (FindsByKey (row_keys rows seed)) ks (before.answers ++ answer ∷ [])) (sym (asked-more rows seed lookup key is))
      (zip-more (FindsByKey (row_keys rows seed)) (map (asked_key rows seed) (range_with_len 0 lookup)) before.answers key answer before.answered finds)

  pub one-missed : FindsByKey (row_keys rows seed) key None → Counted rows seed (lookup + 1) hits total
  one-missed none =
      let values : values_in (before.answers ++ None ∷ []) ≡ values_in before.answers =
      filter_map-append (λ (a : Option ℕ). a) before.answers (None ∷ []) ∙ append-nil (values_in before.answers) in record {
        answers = before.answers ++ None ∷ [];
        answered = with-answer None none;
        hits_are = before.hits_are ∙ ap length (sym values);
        total_is = before.total_is ∙ ap sum (sym values);
      }

  pub one-found : (value : ℕ) → FindsByKey (row_keys rows seed) key (Some value) → Counted rows seed (lookup + 1) (hits + 1) (total + value)
  one-found value some =
      let values : values_in (before.answers ++ Some value ∷ []) ≡ values_in before.answers ++ value ∷ [] =
      filter_map-append (λ (a : Option ℕ). a) before.answers (Some value ∷ []) in record {
        answers = before.answers ++ Some value ∷ [];
        answered = with-answer (Some value) some;
        hits_are = ap (λ n. n + 1) before.hits_are ∙ sym (length-append (values_in before.answers) (value ∷ [])) ∙ ap length (sym values);
        total_is = ap (λ n. n + value) before.total_is ∙ sym (sum_by_push (λ n. n) (values_in before.answers) value) ∙ ap sum (sym values);
      }

-- a value that is found is the number of a row
pub found-below : (rows seed key value : ℕ) → FindsByKey (row_keys rows seed) key (Some value) → value < rows
found-below rows seed key value some =
    let within = slice_get_within (row_keys rows seed) value key some.equal in
    let long = length-map-range_with_len (row_key rows seed) 0 rows in omega (arith, within, long)

-- ---- the run

-- the line of the counts was written, or a front of it
pub printed-run : (words : List (List ℕ)) (old new : Option (List ℕ)) (bytes line : List ℕ) (sent : Result (Unit {0}) Failed) (told : Status) (rows seed : ℕ)
    → IsDemo words rows seed → (hits : ℕ) × (total : ℕ) × Counts rows seed (asked_keys rows seed) hits total × (line ≡ demo_text rows hits total) → bytes ≡ line
    → WritesPrefix old new bytes sent → told ≡ status_sent sent → DemoRun words old told new
printed-run words old new bytes line sent told rows seed called text same wrote is =
    DemoRun.printed rows seed text.0 text.1 sent called text.2 (subst (λ t. WritesPrefix old new t sent) (same ∙ text.3) wrote) is
