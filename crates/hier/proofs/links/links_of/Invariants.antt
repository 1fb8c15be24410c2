-- What the rows so far tell of each member.
use Rattle.std.proofs.Common.{◌≡◌, ◌<◌, ◌≤◌, ℕ, length, get_or}
use Rattle.hier.specs.steps.Linking.{TellsRow}
use Rattle.hier.proofs.links.links_of.Given as goal

abbrev pub invariant-loop-row : goal.invariant-loop-row
invariant-loop-row l = record {
  rows_len : length l.rows.items ≡ length l.members;
  ups_len : length l.ups.items ≡ length l.members;
  within : (member : ℕ) → get_or l.ups.items member 0 ≤ length l.members;
  told : (member : ℕ) → member < length l.members → TellsRow l.keys l.parents l.members l.row
      (get_or l.members member 0) (get_or l.rows.items member 0) (get_or l.ups.items member 0);
}
