use Rattle.ddl_tokens.proofs.Verdicts.{judged_first, judged_found, judged_only}
use Rattle.ddl_columns.proofs.TypeLaws.{type_law}
use Rattle.ddl_columns.proofs.Sound.{type_found}
use Rattle.ddl_columns.proofs.types.read_type.Goals as goal

pub returns-clause-found : goal.returns-clause-found
returns-clause-found c = judged_found type_law c.args.r.now c.type_of.new.r c.type_of.result c.type_of.ensures.value

pub returns-clause-only : goal.returns-clause-only
returns-clause-only c own rest value parts fits stops = judged_only type_law c.args.r.now c.type_of.new.r c.type_of.result c.type_of.ensures.value own rest value parts fits stops c.type_of.ensures.takes_none

pub returns-clause-first : goal.returns-clause-first
returns-clause-first c = judged_first type_law c.args.r.now c.type_of.new.r c.type_of.result c.type_of.ensures.value

pub returns-clause-sound : goal.returns-clause-sound
returns-clause-sound c = type_found c.args.r.now c.type_of.new.r c.type_of.result (returns-clause-found c)
