-- Where no fault of a definition stands, the default of each column is a value of its type.
use Rattle.std.proofs.Common.{◌≡◌, ◌<◌, ◌≤◌, ◌+◌, ◌++◌, ℕ, zero, suc, List, [], ◌∷◌, length, map, inl, inr, arith, subst, refl}
use Rattle.std.specs.List.{range_with_len}
use Rattle.std.proofs.lemmas.Bool.{cases_lt}
use Rattle.std.proofs.lemmas.Option.{slice_get_within}
use Rattle.dict_schema.specs.declared.definition.Definition.{Definition}
use Rattle.dict_schema.specs.declared.fault.DefFault.TheVariants as fault
use Rattle.dict_schema.specs.Judging.{AreClear, IsClear, Numbered, Rule, Where}
use Rattle.dict_schema.specs.Parts.{column_names}
use Rattle.dict_schema.specs.Table.{IsBadDefault, IsBadParent, NamesWithin, attributes, counts, keys, ranges, settings, sources, table}
use Rattle.ddl_writing.specs.Canonical.{DefaultsFit}

pub clear_behind : (xs ys : List Rule) → AreClear (xs ++ ys) → AreClear ys
clear_behind [] ys clear = clear
clear_behind (x ∷ xs) ys clear = clear_behind xs ys clear.1

pub clear_front : (xs ys : List Rule) → AreClear (xs ++ ys) → AreClear xs
clear_front [] ys clear = tt
clear_front (x ∷ xs) ys clear = (clear.0, clear_front xs ys clear.1)

-- each rule of a list of places is clear
pub clear_at : (rule : ℕ → Rule) (start count place : ℕ) → start ≤ place → place < start + count
    → AreClear (map rule (range_with_len start count)) → IsClear (rule place)
clear_at rule start zero place low high clear = absurd (omega (arith, low, high))
clear_at rule start (suc count) place low high clear = elim (cases_lt start place) [
  | inl later ↦ clear_at rule (start + 1) count place (omega (arith, later)) (omega (arith, high)) clear.1
  | inr here ↦
      let same : start ≡ place = omega (arith, low, here) in
      subst (λ (k : ℕ). IsClear (rule k)) same clear.0
]

-- the rules on defaults tell nothing
clear_defaults : (d : Definition) → AreClear (table d) → AreClear (Numbered fault.BadDefault (length d.columns) (IsBadDefault d))
clear_defaults d clear =
    clear_behind (Numbered fault.HierarchyType (length d.columns) (IsBadParent d)) _
    (clear_front (attributes d) (sources d)
    (clear_behind (ranges d) (attributes d ++ sources d)
    (clear_behind (keys d) (ranges d ++ (attributes d ++ sources d))
    (clear_behind (settings d) (keys d ++ (ranges d ++ (attributes d ++ sources d)))
    (clear_behind (NamesWithin (column_names d)) (settings d ++ (keys d ++ (ranges d ++ (attributes d ++ sources d))))
    (clear_behind (counts d) (NamesWithin (column_names d) ++ (settings d ++ (keys d ++ (ranges d ++ (attributes d ++ sources d))))) clear))))))

pub within : (n place : ℕ) → place < n → place < 0 + n
within n place low = omega (arith, low)

pub defaults_fit : (d : Definition) → AreClear (table d) → DefaultsFit d
defaults_fit d clear = λ place column found bad.
    clear_at (λ k. Where (fault.BadDefault (k + 1)) (IsBadDefault d k)) 0 (length d.columns) place (omega arith)
    (within (length d.columns) place (slice_get_within d.columns place column found)) (clear_defaults d clear) (fault.BadDefault (place + 1)) (refl, (column, found, bad))
