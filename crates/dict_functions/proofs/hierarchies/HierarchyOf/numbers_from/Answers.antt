use Rattle.std.proofs.lemmas.Result.{IfOk-weaker}
use Rattle.dict_version.specs.Keys.{numbers_of, parents_of}
use Rattle.hier.specs.Hierarchy.{IsChain, IsDescendant, IsRisingListOf}
use Rattle.dict_functions.specs.Values.{list_text}
use Rattle.dict_functions.specs.steps.Lines.{IsFromText}
use Rattle.dict_functions.proofs.HierarchyTexts.{asks-below, from-below, from-chain, from-children}
use Rattle.dict_functions.proofs.hierarchies.HierarchyOf.numbers_from.Goals as goal

pub returns-in-Hierarchy : goal.returns-in-Hierarchy
returns-in-Hierarchy c =
    let v = c.args.self.now.version.now in
    let q = c.args.self.now.q.now in
    let of = c.requires.hier in
    let keys = numbers_of v.rows in
    let parents = parents_of v.definition of.0 v.rows in
    IfOk-weaker c.chain.result (IsChain keys parents c.args.key) (λ numbers. IsFromText q v c.args.key (list_text numbers))
    (from-chain v q c.args.self.now.hier.now of c.args.key c.in-Hierarchy.is) (c.chain.ensures keys parents of.2)

pub returns-in-Children : goal.returns-in-Children
returns-in-Children c =
    let v = c.args.self.now.version.now in
    let q = c.args.self.now.q.now in
    let of = c.requires.hier in
    let keys = numbers_of v.rows in
    let parents = parents_of v.definition of.0 v.rows in
    IfOk-weaker c.children.result (IsRisingListOf (IsDescendant keys parents c.args.key 1)) (λ numbers. IsFromText q v c.args.key (list_text numbers))
    (from-children v q c.args.self.now.hier.now of c.args.key c.in-Children.is) (c.children.ensures keys parents of.2)

pub returns-in_default : goal.returns-in_default
returns-in_default c =
    let v = c.args.self.now.version.now in
    let q = c.args.self.now.q.now in
    let of = c.requires.hier in
    let keys = numbers_of v.rows in
    let parents = parents_of v.definition of.0 v.rows in
    IfOk-weaker c.descendants.result (IsRisingListOf (IsDescendant keys parents c.args.key q.level)) (λ numbers. IsFromText q v c.args.key (list_text numbers))
    (from-below v q c.args.self.now.hier.now of c.args.key (asks-below q.verb c.requires.verb c.requires.apart c.in_default.not-Hierarchy c.in_default.not-Children))
    (c.descendants.ensures keys parents of.2)
