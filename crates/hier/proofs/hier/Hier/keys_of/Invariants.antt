-- The keys of the members so far.
use Rattle.std.proofs.Common.{◌≡◌, map, take, get_or}
use Rattle.hier.proofs.hier.Hier.keys_of.Given as goal

abbrev pub invariant-loop-number : goal.invariant-loop-number
invariant-loop-number l = l.keys.items ≡ map (λ number. get_or l.self.members.items number 0) (take l.number-index l.numbers)
