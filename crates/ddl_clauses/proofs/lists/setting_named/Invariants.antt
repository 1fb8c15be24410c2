use Rattle.std.proofs.Common.{◌≡◌, length}
use Rattle.ddl_tokens.specs.Reading.{bytes_ahead}
use Rattle.ddl_clauses.specs.SettingLists.{setting_named}
use Rattle.ddl_clauses.proofs.lists.setting_named.Given as goal

abbrev pub invariant-loop-rest : goal.invariant-loop-rest
invariant-loop-rest l = setting_named l.rest (bytes_ahead l.r) ≡ setting_named l.settings (bytes_ahead l.r)

abbrev pub decreases-loop-rest : goal.decreases-loop-rest
decreases-loop-rest l = length l.rest
