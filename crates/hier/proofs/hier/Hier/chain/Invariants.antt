-- The keys of the members so far.
use Rattle.std.proofs.Common.{◌≡◌, ◌<◌}
use Rattle.hier.specs.Members.{above}
use Rattle.hier.proofs.ChainMembers.{walk_keys}
use Rattle.hier.proofs.hier.Hier.chain.Given as goal

abbrev pub invariant-loop-place : goal.invariant-loop-place
invariant-loop-place l = record {
  at : l.place < l.length → l.at ≡ above l.self.ups.items l.place l.start;
  keys : l.chain ≡ walk_keys l.self.members.items l.self.ups.items l.start l.place;
}
