-- The rows so far are painted.
use Rattle.std.specs.Prelude.{slice_index}
use Rattle.std.proofs.Common.{◌≡◌, ◌+◌, ◌<◌, ℕ, length}
use Rattle.range_layout.specs.steps.Painting.{LeadsOn, PassesPainted, TellsFirst}
use Rattle.range_layout.proofs.paint.winners_of.Given as goal

abbrev pub invariant-loop-rank : goal.invariant-loop-rank
invariant-loop-rank l = record {
  len : length l.winners.items ≡ length l.borders;
  next : length l.next.items ≡ length l.borders + 1;
  leads : LeadsOn l.next.items;
  skips : PassesPainted l.winners.items l.next.items;
  told : (i : ℕ) → i < length l.borders
      → TellsFirst l.stretches l.ranks l.rank-index (slice_index l.borders i) (slice_index l.winners.items i);
}
