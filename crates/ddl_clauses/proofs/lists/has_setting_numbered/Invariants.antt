use Rattle.std.proofs.Common.{◌≡◌, length}
use Rattle.ddl_tokens.specs.Lists.{has_number}
use Rattle.ddl_clauses.specs.SettingLists.{number_of_setting}
use Rattle.ddl_clauses.proofs.lists.has_setting_numbered.Given as goal

abbrev pub invariant-loop-rest : goal.invariant-loop-rest
invariant-loop-rest l = has_number number_of_setting l.number l.rest ≡ has_number number_of_setting l.number l.settings

abbrev pub decreases-loop-rest : goal.decreases-loop-rest
decreases-loop-rest l = length l.rest
