-- The members so far have other keys.
use Rattle.std.proofs.Common.{◌≡◌, ◌≢◌, ◌<◌, ℕ, get_or}
use Rattle.hier.specs.Members.{above}
use Rattle.hier.proofs.hier.Hier.is_in.Given as goal

abbrev pub invariant-loop-place : goal.invariant-loop-place
invariant-loop-place l = record {
  at : l.place < l.length → l.at ≡ above l.self.ups.items l.place l.start;
  others : (i : ℕ) → i < l.place → get_or l.self.members.items (above l.self.ups.items i l.start) 0 ≢ l.ancestor;
}
