use Rattle.ddl_writing.specs.Canonical.{listed_column}
use Rattle.ddl_writing.proofs.Listed.{more_text}
use Rattle.ddl_writing.proofs.columns.push_columns.Goals as goal

pub loop-place-preserved : goal.loop-place-preserved
loop-place-preserved c =
    more_text (listed_column c.args.d.now) c.args.out.now c.loop-place.out c.push_listed.new.out c.loop-place.place
    c.loop-place.invariant c.in_ok-push_listed.ensures.ok
