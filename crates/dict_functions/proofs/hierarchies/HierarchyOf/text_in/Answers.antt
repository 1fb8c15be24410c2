use Rattle.std.proofs.Common.{◌∙◌, arith}
use Rattle.dict_version.specs.Keys.{numbers_of, parents_of}
use Rattle.dict_functions.proofs.HierarchyTexts.{in-text}
use Rattle.dict_functions.proofs.KeysRead.{number-at, two-numbers}
use Rattle.dict_functions.proofs.hierarchies.HierarchyOf.text_in.Goals as goal

pub returns-in_default-clause-unread : goal.returns-in_default-clause-unread
returns-in_default-clause-unread c = λ e has.
    let at = number-at c.args.fields.now has.0 0 c.index-fields-0.result (omega (arith, c.requires.count)) c.index-fields-0.is has.1 in
    c.in_default.ensures at.0 at.1

pub returns-in_default-read_number-clause-unread : goal.returns-in_default-read_number-clause-unread
returns-in_default-read_number-clause-unread c = λ e has.
    let at = number-at c.args.fields.now has.0 1 c.index-fields-1.result (omega (arith, c.requires.count)) c.index-fields-1.is has.1 in
    c.in_default-read_number.ensures at.0 at.1

pub returns-in-Ok-clause-made : goal.returns-in-Ok-clause-made
returns-in-Ok-clause-made c =
    let v = c.args.self.now.version.now in
    let q = c.args.self.now.q.now in
    let of = c.requires.hier in
    in-text v q c.args.self.now.hier.now of c.args.fields.now c.in-Some.key c.in-Some-read_number.ancestor c.in-Ok.text c.is_in.result c.requires.verb
    (two-numbers c.args.fields.now c.in-Some.key c.in-Some-read_number.ancestor c.index-fields-0.result c.index-fields-1.result c.requires.count
    c.index-fields-0.is c.index-fields-1.is c.in-Some.ensures c.in-Some-read_number.ensures)
    (c.is_in.ensures (numbers_of v.rows) (parents_of v.definition of.0 v.rows) of.2)
    (c.in-Ok.ensures ∙ c.flag.ensures)
