use Rattle.loader.proofs.OneGiven.{accepts-once, comes-once, left-once, loads-once, scripted-once}
use Rattle.loader.proofs.laws.one_load.Goals as goal

pub returns-clause-accepted : goal.returns-clause-accepted
returns-clause-accepted c = accepts-once

pub returns-clause-judged : goal.returns-clause-judged
returns-clause-judged c = loads-once

pub returns-clause-comes : goal.returns-clause-comes
returns-clause-comes c = comes-once

pub returns-clause-scripted : goal.returns-clause-scripted
returns-clause-scripted c = scripted-once

pub returns-clause-leaves : goal.returns-clause-leaves
returns-clause-leaves c = left-once
