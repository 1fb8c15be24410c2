use Rattle.std.proofs.Common.{◌∙◌, ap, arith, length}
use Rattle.std.proofs.lemmas.List.FromFn.{length-map-range_with_len}
use Rattle.dictd.specs.Demo.{row_key}
use Rattle.dictd.proofs.demo.counts.count_all.Goals as goal

pub build-requires : goal.build-requires
build-requires c =
    let long = ap length (c.as_slice.ensures ∙ c.in_ok-keys.ensures) ∙ length-map-range_with_len (row_key c.args.rows c.args.seed) 0 c.args.rows in
    omega (arith, long, c.requires.few)
