use Rattle.dictd.proofs.Demos.{keys-more}
use Rattle.dictd.specs.Demo.{row_key}
use Rattle.dictd.proofs.demo.counts.row_keys.Goals as goal

pub loop-row-preserved : goal.loop-row-preserved
loop-row-preserved c =
    keys-more (row_key c.args.rows c.args.seed) c.loop-row.row c.loop-row.keys c.push.new.self c.row_key.result c.loop-row.invariant
    c.row_key.ensures c.in_ok-push.ensures.ok
