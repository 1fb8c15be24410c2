-- One load as a whole.
use Rattle.std.proofs.Common.{◌≡◌, ◌≤◌, ◌+◌, ◌∙◌, ◌⊎◌, [], ℕ, List, length, refl, sym, ap, subst, inl, inr, arith}
use Rattle.std.proofs.lemmas.List.{length_push}
use Rattle.std.specs.List.{concat}
use Rattle.child_io.specs.Gathers.{outcome_of}
use Rattle.child_io.specs.declared.pieces.PieceEnd.{PieceEnd}
use Rattle.child_io.specs.declared.pieces.PieceEnd.TheVariants as piece_end
use Rattle.dict_schema.specs.declared.definition.Definition.{Definition}
use Rattle.dict_version.specs.Contents.{Contents}
use Rattle.load_core.specs.DictSteps.{stepped}
use Rattle.load_core.specs.declared.dictionary.DictCore.{DictCore}
use Rattle.load_core.specs.declared.dictionary.DictEvent.TheVariants.{Start}
use Rattle.packed_rows.specs.Columns.{RowList}
use Rattle.loader.proofs.CoreEnds.{HasEnded, added, load-ended}
use Rattle.loader.proofs.CoreRuns.{HasBegun}
use Rattle.loader.specs.Loaders.{EndsLoad, IsAfter, IsAt, LoaderState, Running, RunsLoad, StartsNone, version_of}
use Rattle.loader.specs.Timing.{Timing}
use Rattle.loader.specs.declared.answers.LoadEnd.{LoadEnd}
use Rattle.loader.specs.declared.answers.LoadEnd.TheVariants as load
use Rattle.loader.specs.steps.Kept.{after_version}

module _ (runs : Running) (same : Type 0) (d : Definition) (now : ℕ) (folder : List ℕ) (list after : List Contents) (old begun new : DictCore) (b : HasBegun old begun) (fewer : old.published ≤ old.loads) (start : begun ≡ (stepped old Start).core) where
  -- how the list grew
  grew : (ending : PieceEnd) (pieces : List (List ℕ)) (end : LoadEnd) → EndsLoad d now list (outcome_of ending (concat pieces)) end after → length after ≡ length list + added end
  grew ending pieces (load.Published number) (rows, loads, is, count) = ap length is ∙ length_push list (version_of d rows now)
  grew ending pieces (load.Failed why) (loads, is) = let e = ap length is in omega (arith, e)
  grew ending pieces load.NoMemory is = let e = ap length is in omega (arith, e)

  -- what is known of the counts after a load
  pub record HasCounts (end : LoadEnd) : Type 0 where
    pub core_ended : HasEnded old new end
    pub list_grew : length after ≡ length list + added end

  pub counts : (end : LoadEnd) → RunsLoad runs d now folder list after old new end ⊎ StartsNone same d now list after old new end → HasCounts end
  counts end (inl r) = record { core_ended = load-ended old begun b fewer r.pieces end new start r.comes.core; list_grew = grew r.ending r.pieces end r.comes.ends }
  counts end (inr r) = record { core_ended = load-ended old begun b fewer [] end new start r.comes.core; list_grew = grew piece_end.NoMemory [] end r.comes.ends }

-- a load that published nothing leaves the list
pub list-left : (runs : Running) (same : Type 0) (d : Definition) (now : ℕ) (folder : List ℕ) (list after : List Contents) (old new : DictCore) (end : LoadEnd) → added end ≡ 0 → RunsLoad runs d now folder list after old new end ⊎ StartsNone same d now list after old new end → after ≡ list
list-left runs same d now folder list after old new (load.Published number) none r = absurd (omega (arith, none))
list-left runs same d now folder list after old new (load.Failed why) none (inl r) = r.comes.ends.1
list-left runs same d now folder list after old new (load.Failed why) none (inr r) = r.comes.ends.1
list-left runs same d now folder list after old new load.NoMemory none (inl r) = r.comes.ends
list-left runs same d now folder list after old new load.NoMemory none (inr r) = r.comes.ends

-- where the loader stands then
pub stands-left : (l : LoaderState) (core : DictCore) (t : Timing) (list after : List Contents) → IsAt l list → after ≡ list → core.published ≡ l.core.published → IsAt (record l { core = core; timing = t }) after
stands-left l core t list after at same counted =
    subst (IsAt (record l { core = core; timing = t })) (sym same) (record { counted = counted ∙ at.counted; newest = at.newest })

-- what a version leaves
pub after-version : (d : Definition) (core : DictCore) (kept : RowList) (now number : ℕ) (old new : LoaderState) → new ≡ after_version d core kept now old → IsAfter d now (load.Published number) old new
after-version d core kept now number old new is =
    subst (λ (l : LoaderState). IsAfter d now (load.Published number) old l) (sym is) refl
