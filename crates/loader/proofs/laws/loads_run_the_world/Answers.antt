use Rattle.std.proofs.Common.{arith}
use Rattle.loader.proofs.WorldRuns.{load-leads}
use Rattle.loader.proofs.laws.loads_run_the_world.Goals as goal

pub returns : goal.returns
returns c = λ definition_of old place number now x list after new ending pieces end found idle few low short versions r.
    load-leads definition_of old place number x list after now new ending pieces found idle few low versions r.some (omega (arith, r.within, short)) end r.ends r.core
