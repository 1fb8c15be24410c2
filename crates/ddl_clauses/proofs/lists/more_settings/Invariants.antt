use Rattle.std.proofs.Common.{◌≤◌, length}
use Rattle.ddl_tokens.specs.Lists.{SoFar}
use Rattle.ddl_clauses.specs.SettingLists.{next_setting}
use Rattle.ddl_clauses.proofs.lists.more_settings.Given as goal

abbrev pub invariant-loop-settings : goal.invariant-loop-settings
invariant-loop-settings l = record { so_far : SoFar (next_setting l.section) l.initial.settings l.initial.r l.settings l.r; shorter : length l.r ≤ length l.initial.r }

abbrev pub decreases-loop-settings : goal.decreases-loop-settings
decreases-loop-settings l = length l.r
