-- A lookup in ranges, where the layout wants them: no other layout has such an index.
use Rattle.std.proofs.Common.{◌≡◌, ◌≤◌, ◌+◌, ℕ, ℤ, List, Option, length}
use Rattle.dict_schema.specs.declared.definition.Definition.{Definition}
use Rattle.dict_schema.specs.declared.definition.Strategy.{Strategy}
use Rattle.dict_value.specs.declared.value.Value.{Value}
use Rattle.dict_version.specs.Kept.{IsIndexBy}
use Rattle.dict_version.specs.Lookups.{FindsBy, StepsBy}
use Rattle.dict_version.specs.declared.index.Index.{Index}
use Rattle.dict_version.specs.declared.index.Index.TheVariants as index
use Rattle.dict_version.specs.declared.key.Key.TheVariants as key
use Rattle.dict_version.specs.declared.lookup.LookupBy.{LookupBy}
use Rattle.dict_version.specs.declared.lookup.LookupBy.TheVariants as by
use Rattle.range_layout.specs.FindByRange.{AreRowsWith, FindsByRange}
use Rattle.range_layout.specs.Kept.{AreFew, IsRangedOf}
use Rattle.range_layout.specs.declared.ends.Ends.{Ends}
use Rattle.range_layout.specs.declared.ranged.Ranged.{Ranged}

module _ {S : Type 0} (d : Definition) (rows : List (List Value)) (ranged : Ranged S) (values : List Value) (point : ℤ) where
  pub ranges-find : (wanted : LookupBy) (found : Option ℕ)
      → ((keys : List (List Value)) (ends : List Ends) (strategy : Strategy)
      → IsRangedOf keys ends strategy ranged.keys ranged.spans ranged.edges ranged.winners
      → FindsByRange keys ends strategy values point found)
      → IsIndexBy wanted d rows (index.Ranges ranged) → FindsBy wanted d rows (key.Ranged values point) found
  ranges-find (by.Range strategy) found finds is = finds _ _ strategy is
  ranges-find wanted found finds is = absurd is

  pub ranges-step : (wanted : LookupBy) (old new : ℕ)
      → ((keys : List (List Value)) (ends : List Ends) (strategy : Strategy)
      → IsRangedOf keys ends strategy ranged.keys ranged.spans ranged.edges ranged.winners
      → (with_key : List ℕ) → AreRowsWith keys values with_key → (s : ℕ) × AreFew (length with_key) s × (new ≤ old + s))
      → IsIndexBy wanted d rows (index.Ranges ranged) → StepsBy wanted d rows (key.Ranged values point) old new
  ranges-step (by.Range strategy) old new steps is = steps _ _ strategy is
  ranges-step wanted old new steps is = absurd is
