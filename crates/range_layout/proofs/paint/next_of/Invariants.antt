-- The places so far.
use Rattle.std.specs.Prelude.{slice_index}
use Rattle.std.proofs.Common.{◌≡◌, ◌<◌, ℕ, length}
use Rattle.range_layout.proofs.paint.next_of.Given as goal

abbrev pub invariant-loop-place : goal.invariant-loop-place
invariant-loop-place l = record {
  len : length l.next.items ≡ l.place;
  each : (i : ℕ) → i < l.place → slice_index l.next.items i ≡ i;
}
