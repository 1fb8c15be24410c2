-- Judgements by several rules, put together.
use Rattle.std.proofs.Common.{◌≡◌, ◌<◌, ◌≤◌, ℕ, zero, suc, ◌+◌, List, [], ◌∷◌, ◌++◌, length, map, ◌⊎◌, inl, inr, arith, subst, sym, Result, Ok, Err, IsErrAnd}
use Rattle.std.specs.List.{range_with_len}
use Rattle.std.proofs.lemmas.Bool.{cases_lt}
use Rattle.dict_schema.specs.declared.fault.DefFault.{DefFault}
use Rattle.dict_schema.specs.Judging.{Rule, IsClear, AreClear, IsFirstFault, IsJudged, EachOf, Where}

-- no rule of either list tells a fault
pub clear-append : (xs ys : List Rule) → AreClear xs → AreClear ys → AreClear (xs ++ ys)
clear-append [] ys p q = q
clear-append (x ∷ xs) ys p q = (p.0, clear-append xs ys p.1 q)

-- what the first rule of a list tells, the first rule of a longer list tells, too
pub first-append : (xs ys : List Rule) (f : DefFault) → IsFirstFault xs f → IsFirstFault (xs ++ ys) f
first-append [] ys f p = absurd p
first-append (x ∷ xs) ys f (inl h) = inl h
first-append (x ∷ xs) ys f (inr h) = inr (h.0, first-append xs ys f h.1)

-- after rules that tell nothing the first of the others counts
pub first-after : (xs ys : List Rule) (f : DefFault) → AreClear xs → IsFirstFault ys f → IsFirstFault (xs ++ ys) f
first-after [] ys f p q = q
first-after (x ∷ xs) ys f p q = inr (p.0, first-after xs ys f p.1 q)

places : (start place : ℕ) → start ≤ place → (place ≡ start) ⊎ (start < place)
places start place le = elim (cases_lt start place) [ inl lt ↦ inr lt | inr ge ↦ inl (omega arith) ]

-- rules for the places from one on
clear-from : (rule : ℕ → Rule) (start count : ℕ) → ((k : ℕ) → k < start + count → IsClear (rule k)) → AreClear (map rule (range_with_len start count))
clear-from rule start zero h = tt
clear-from rule start (suc count) h =
    (h start (omega arith), clear-from rule (start + 1) count (λ k l. h k (omega arith)))

first-from : (rule : ℕ → Rule) (start count place : ℕ) (f : DefFault) → start ≤ place → place < start + count → ((k : ℕ) → k < place → IsClear (rule k)) → rule place f → IsFirstFault (map rule (range_with_len start count)) f
first-from rule start zero place f le lt clear told = absurd (omega arith)
first-from rule start (suc count) place f le lt clear told = elim (places start place le) [
  | inl same ↦ inl (subst (λ k. rule k f) same told)
  | inr later ↦ inr (clear start later, first-from rule (start + 1) count place f (omega arith) (omega arith) clear told)
]

pub each-clear : (rule : ℕ → Rule) (count : ℕ) → ((k : ℕ) → k < count → IsClear (rule k)) → AreClear (EachOf count rule)
each-clear rule count h = clear-from rule 0 count (λ k l. h k (omega arith))

pub each-first : (rule : ℕ → Rule) (count place : ℕ) (f : DefFault) → place < count → ((k : ℕ) → k < place → IsClear (rule k)) → rule place f → IsFirstFault (EachOf count rule) f
each-first rule count place f lt clear told = first-from rule 0 count place f (omega arith) (omega arith) clear told

-- a judgement that ends at a fault of its first rules
pub fails : (xs ys : List Rule) (answer : Result (Unit {0}) DefFault) (fault : DefFault) → IsErrAnd answer (λ f. f ≡ fault) → IsFirstFault xs fault → IsJudged (xs ++ ys) answer
fails xs ys (Ok done) fault same found = absurd same
fails xs ys (Err f) fault same found = subst (IsFirstFault (xs ++ ys)) (sym same) (first-append xs ys fault found)

-- a judgement that goes on after its first rules
pub goes-on : (xs ys : List Rule) (answer : Result (Unit {0}) DefFault) → AreClear xs → IsJudged ys answer → IsJudged (xs ++ ys) answer
goes-on xs ys (Ok done) clear judged = clear-append xs ys clear judged
goes-on xs ys (Err f) clear judged = first-after xs ys f clear judged

-- a rule whose fault doesn't stand
pub clear-where : (fault : DefFault) (P : Type 0) → (P → ⊥) → AreClear (Where fault P ∷ [])
clear-where fault P other = (λ f h. other h.1, tt)
