use Rattle.ddl_tokens.proofs.Verdicts.{judged_first, judged_found, judged_only}
use Rattle.ddl_columns.proofs.ArgumentLaws.{arguments_law}
use Rattle.ddl_columns.proofs.Sound.{arguments_found}
use Rattle.ddl_columns.proofs.arguments.read_arguments.Goals as goal

pub returns-clause-found : goal.returns-clause-found
returns-clause-found c = judged_found arguments_law c.args.r.now c.all_arguments.new.r c.all_arguments.result c.all_arguments.ensures.value

pub returns-clause-only : goal.returns-clause-only
returns-clause-only c own rest value parts fits stops = judged_only arguments_law c.args.r.now c.all_arguments.new.r c.all_arguments.result c.all_arguments.ensures.value own rest value parts fits stops

pub returns-clause-first : goal.returns-clause-first
returns-clause-first c = judged_first arguments_law c.args.r.now c.all_arguments.new.r c.all_arguments.result c.all_arguments.ensures.value

pub returns-clause-sound : goal.returns-clause-sound
returns-clause-sound c = arguments_found c.args.r.now c.all_arguments.new.r c.all_arguments.result (returns-clause-found c)
