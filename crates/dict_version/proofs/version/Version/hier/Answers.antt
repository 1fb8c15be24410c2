use Rattle.std.proofs.Common.{◌≡◌, ℕ, subst}
use Rattle.dict_version.specs.Contents.{Contents}
use Rattle.dict_version.specs.Kept.{IsHierarchyOf}
use Rattle.dict_version.specs.Keys.{NamesParent}
use Rattle.dict_version.proofs.version.Version.hier.Goals as goal

pub returns-in-Some : goal.returns-in-Some
returns-in-Some g c =
    let here = rw c.in-Some.is at c.self.invariant.hier_is in
    subst (λ (v : Contents). IsHierarchyOf v.definition v.rows c.in-Some.hier) c.self.view_is here

pub returns-in-None : goal.returns-in-None
returns-in-None g c =
    let none = rw c.in-None.is at c.self.invariant.hier_is in
    subst (λ (v : Contents). (column : ℕ) → ¬ (NamesParent v.definition column)) c.self.view_is none
