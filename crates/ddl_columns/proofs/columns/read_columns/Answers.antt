use Rattle.ddl_tokens.proofs.Verdicts.{judged_first, judged_found, judged_only}
use Rattle.ddl_columns.proofs.ColumnLaws.{columns_law}
use Rattle.ddl_columns.proofs.Sound.{columns_found}
use Rattle.ddl_columns.proofs.columns.read_columns.Goals as goal

pub returns-clause-found : goal.returns-clause-found
returns-clause-found c = judged_found columns_law c.args.r.now c.all_columns.new.r c.all_columns.result c.all_columns.ensures.value

pub returns-clause-only : goal.returns-clause-only
returns-clause-only c own rest value parts fits stops = judged_only columns_law c.args.r.now c.all_columns.new.r c.all_columns.result c.all_columns.ensures.value own rest value parts fits stops

pub returns-clause-first : goal.returns-clause-first
returns-clause-first c = judged_first columns_law c.args.r.now c.all_columns.new.r c.all_columns.result c.all_columns.ensures.value

pub returns-clause-sound : goal.returns-clause-sound
returns-clause-sound c = columns_found c.args.r.now c.all_columns.new.r c.all_columns.result (returns-clause-found c)
