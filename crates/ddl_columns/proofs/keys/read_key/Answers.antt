use Rattle.ddl_tokens.proofs.Laws.{is_only, is_told_least}
use Rattle.ddl_columns.proofs.KeyLaws.{key_found, key_law}
use Rattle.ddl_columns.proofs.keys.read_key.Goals as goal

pub returns-clause-found : goal.returns-clause-found
returns-clause-found c = key_found c.args.r.now c.whole_key.new.r c.whole_key.result c.whole_key.ensures.value

pub returns-clause-only : goal.returns-clause-only
returns-clause-only c own rest names parts fits stops = is_only key_law c.args.r.now c.whole_key.new.r c.whole_key.result c.whole_key.ensures.value own rest names parts fits stops

pub returns-clause-least : goal.returns-clause-least
returns-clause-least c = is_told_least key_law c.args.r.now c.whole_key.new.r c.whole_key.result c.whole_key.ensures.value
