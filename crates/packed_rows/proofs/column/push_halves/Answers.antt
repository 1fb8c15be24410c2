use Rattle.std.proofs.Common.{◌++◌, ◌∙◌, List, ℕ, ap}
use Rattle.std.proofs.lemmas.List.{append_assoc}
use Rattle.packed_rows.specs.Widths.{kept}
use Rattle.packed_rows.proofs.column.push_halves.Goals as goal

pub returns-in-Ok-clause-ok : goal.returns-in-Ok-clause-ok
unfolding kept
returns-in-Ok-clause-ok c =
    c.in-Ok.ensures.ok
    ∙ (ap (λ (xs : List ℕ). xs ++ c.to_le_bytes-2.result) c.in_ok-extend.ensures.ok
    ∙ (append_assoc c.args.cells.now c.to_le_bytes.result c.to_le_bytes-2.result
    ∙ (λ j. c.args.cells.now ++ (c.to_le_bytes.ensures j ++ c.to_le_bytes-2.ensures j))))
