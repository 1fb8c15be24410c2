-- What a loader that stands at a list asks for, and lays its rows over.
use Rattle.std.proofs.Common.{◌≡◌, ◌≢◌, ◌∙◌, ◌∷◌, ◌++◌, [], ℕ, suc, List, Option, Some, None, length, refl, sym, ap, subst, arith, slice_get}
use Rattle.std.proofs.lemmas.List.{length_push}
use Rattle.child_io.specs.declared.words.Since.TheVariants.{Whole}
use Rattle.dict_schema.specs.declared.definition.Definition.{Definition}
use Rattle.dict_schema.specs.declared.definition.Update.{Update}
use Rattle.dict_schema.specs.declared.definition.Update.TheVariants as update
use Rattle.dict_version.specs.Contents.{Contents}
use Rattle.load_core.specs.declared.dictionary.DictCore.{DictCore}
use Rattle.packed_rows.specs.Columns.{RowList}
use Rattle.version_slot.specs.Views.{entry}
use Rattle.loader.specs.Loaders.{HasNewest, IsAt, LoaderState, kept_rows, version_of}
use Rattle.loader.specs.Origins.{IsSince, newest}
use Rattle.loader.specs.steps.Kept.{after_version}
use Rattle.loader.specs.steps.Publishings.{IsKept, IsLaidOver}

kept-none : (u : Update) → kept_rows u [] ≡ []
kept-none update.None = refl
kept-none (update.Field name lag) = refl

-- ---- with the current definition

pub since-current : (l : LoaderState) (n : Option Contents) → HasNewest l n → IsSince n l.definition l.since
since-current l None h = h.0
since-current l (Some e) h = (λ same. h.1, λ other. absurd (other h.0))

pub laid-current : (l : LoaderState) (n : Option Contents) → HasNewest l n → IsLaidOver n l.definition l.former
laid-current l None h = ([], refl, h.1 ∙ sym (kept-none l.definition.source.update))
laid-current l (Some e) h = (
  e.rows,
  (λ same. refl, λ other. absurd (other h.0)),
  h.2 ∙ ap (λ (d : Definition). kept_rows d.source.update e.rows) h.0,
)

-- ---- with another one

pub since-other : (l : LoaderState) (n : Option Contents) (d : Definition) → d ≢ l.definition → HasNewest l n → IsSince n d Whole
since-other l None d differs h = refl
since-other l (Some e) d differs h = (λ same. absurd (differs (sym same ∙ h.0)), λ other. refl)

pub laid-other : (l : LoaderState) (n : Option Contents) (d : Definition) → d ≢ l.definition → HasNewest l n → IsLaidOver n d []
laid-other l None d differs h = ([], refl, sym (kept-none d.source.update))
laid-other l (Some e) d differs h =
    ([], (λ same. absurd (differs (sym same ∙ h.0)), λ other. refl), sym (kept-none d.source.update))

-- ---- after a version was published

get-last : (list : List Contents) (v : Contents) → slice_get (list ++ v ∷ []) (length list) ≡ Some v
get-last [] v = refl
get-last (e ∷ list) v = get-last list v

newest-push : (list : List Contents) (v : Contents) → newest (list ++ v ∷ []) ≡ Some v
newest-push list v =
    let long : length (list ++ v ∷ []) ≡ suc (length list) = (let e = length_push list v in omega (arith, e)) in
    ap (entry (list ++ v ∷ [])) long ∙ get-last list v

pub stands-after : (d : Definition) (core : DictCore) (kept : RowList) (now : ℕ) (l : LoaderState) (list : List Contents) → IsKept d now list kept → core.published ≡ length list → IsAt (after_version d core kept now l) list
stands-after d core kept now l list k counted = record {
  counted = counted;
  newest =
      (let at : newest list ≡ Some (version_of d k.rows now) = ap newest k.list_is ∙ newest-push k.before (version_of d k.rows now) in
      subst (HasNewest (after_version d core kept now l)) (sym at) (refl, refl, k.kept_is));
}
