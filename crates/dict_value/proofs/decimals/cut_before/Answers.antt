-- A place lies within the text.
use Rattle.std.proofs.Common.{arith, not, ◌==◌}
use Rattle.std.proofs.lemmas.List.Sums.{prefix_len-le-length}
use Rattle.dict_value.proofs.decimals.cut_before.Goals as goal

pub slice_bounds-result-count : goal.slice_bounds-result-count
slice_bounds-result-count c =
    omega (arith, prefix_len-le-length (λ b. not (b == c.args.byte)) c.args.text.now)

pub slice_bounds-result-start : goal.slice_bounds-result-start
slice_bounds-result-start c =
    omega (arith, prefix_len-le-length (λ b. not (b == c.args.byte)) c.args.text.now)
