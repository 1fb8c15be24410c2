use Rattle.std.proofs.Common.{ap, refl, sym}
use Rattle.dictd.proofs.Demos.{printed-run}
use Rattle.dictd.specs.Demo.{DemoRun, status_sent}
use Rattle.dictd.proofs.demo.run.Goals as goal

pub returns-in_default-line_of-clause-run : goal.returns-in_default-line_of-clause-run
returns-in_default-line_of-clause-run g c = DemoRun.refused c.in-Some.rows c.in-Some.seed c.in-Some.ensures refl refl

pub returns-in-Ok-write_all-clause-run : goal.returns-in-Ok-write_all-clause-run
returns-in-Ok-write_all-clause-run g c =
    printed-run _ _ _ _ _ c.write_all.result _ c.in-Some.rows c.in-Some.seed c.in-Some.ensures c.in-Ok.ensures c.as_slice.ensures c.write_all.ensures.bytes
    (sym (ap status_sent c.in-Ok-write_all.is))

pub returns-clause-run : goal.returns-clause-run
returns-clause-run g c =
    printed-run _ _ _ _ _ c.write_all.result _ c.in-Some.rows c.in-Some.seed c.in-Some.ensures c.in-Ok.ensures c.as_slice.ensures c.write_all.ensures.bytes
    (sym (ap status_sent c.in-Err.is))
