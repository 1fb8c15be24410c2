-- A dictionary is handed another definition.
use Rattle.std.proofs.Common.{◌≡◌, ℕ, Bool, false, subst}
use Rattle.dict_schema.specs.declared.definition.Definition.{Definition}
use Rattle.dict_schema.specs.declared.definition.Item.{Item}
use Rattle.dict_schema.specs.declared.definition.Item.TheVariants.{Dictionary}
use Rattle.loader.specs.declared.answers.LoadEnd.{LoadEnd}
use Rattle.dict_hub.specs.Over.{Children, Follows, with_end}
use Rattle.dict_hub.specs.Over.Follows.{other}
use Rattle.dict_hub.specs.declared.following.Counts.{Counts}

-- a load was made with it, from the state that it was judged in
pub followed : {D : Type 0} (judged : D → Definition → Bool → Type 0)
    (loaded_as : D → Definition → Children → ℕ → LoadEnd → D → Children → Type 0) (now : ℕ) (item : Item) (counts : Counts)
    (from mid to : D) (before after : Children) (d : Definition) (end : LoadEnd) (later : Counts)
    → item ≡ Dictionary d → judged from d false → mid ≡ from → loaded_as mid d before now end to after
    → later ≡ with_end counts end → Follows judged loaded_as now item counts from before to after later
followed judged loaded_as now item counts from mid to before after d end later is judged_other kept acted counted =
    other d end is judged_other (subst (λ x. loaded_as x d before now end to after) kept acted) counted
