use Rattle.std.proofs.Common.{◌≡◌, refl}
use Rattle.dict_schema.specs.declared.definition.Definition.{Definition}
use Rattle.dict_schema.specs.declared.definition.RangeOf.TheVariants as range
use Rattle.dict_schema.specs.Parts.{HasRange}
use Rattle.dict_schema.proofs.RangeEnds.{bad-range, good-range}
use Rattle.dict_schema.proofs.ranges.judge_ends.Goals as goal

pub returns-then-are_bad_ends : goal.returns-then-are_bad_ends
returns-then-are_bad_ends c =
    let ends : c.args.d.now.range ≡ range.Columns c.from-start.result c.from-end.result = cc (c.requires.range, c.from-start.ensures, c.from-end.ensures) in
    let r : HasRange c.args.d.now = record { start = c.from-start.result; end = c.from-end.result; first = c.in-Some.first.now; last = c.in-Some-column_at.last.now; range = ends; found_first = c.in-Some.ensures; found_last = c.in-Some-column_at.ensures } in
    bad-range c.args.d.now c.requires.layout r (c.if-are_bad_ends.ensures.0 refl)

pub returns : goal.returns
returns c =
    let ends : c.args.d.now.range ≡ range.Columns c.from-start.result c.from-end.result = cc (c.requires.range, c.from-start.ensures, c.from-end.ensures) in
    let r : HasRange c.args.d.now = record { start = c.from-start.result; end = c.from-end.result; first = c.in-Some.first.now; last = c.in-Some-column_at.last.now; range = ends; found_first = c.in-Some.ensures; found_last = c.in-Some-column_at.ensures } in
    good-range c.args.d.now c.requires.layout r (λ bad. absurd (cc (c.if-are_bad_ends.ensures.1 bad)))
