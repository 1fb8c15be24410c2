use Rattle.std.proofs.Common.{◌∙◌, sym}
use Rattle.dict_functions.proofs.AskedLines.{asks-attribute, few-lines, key-counts}
use Rattle.dict_functions.proofs.loaded.lines_of.Goals as goal

pub hierarchy_lines-requires-clause-counts : goal.hierarchy_lines-requires-clause-counts
hierarchy_lines-requires-clause-counts c =
    key-counts c.args.q.now c.requires.0 (sym c.asks_hierarchy.ensures ∙ c.if-asks_hierarchy.true)

pub hierarchy_lines-requires-clause-few : goal.hierarchy_lines-requires-clause-few
hierarchy_lines-requires-clause-few c = few-lines c.args.q.now c.requires.0

pub has_lines-requires-clause-few : goal.has_lines-requires-clause-few
has_lines-requires-clause-few c = few-lines c.args.q.now c.requires.0

pub attribute_lines-requires-clause-few : goal.attribute_lines-requires-clause-few
attribute_lines-requires-clause-few c = few-lines c.args.q.now c.requires.0

pub attribute_lines-requires-clause-verb : goal.attribute_lines-requires-clause-verb
attribute_lines-requires-clause-verb c =
    asks-attribute c.args.q.now.verb (sym c.asks_hierarchy.ensures ∙ c.if-asks_hierarchy.false) c.in_default.not-Has c.requires.1
