-- Both sides of a link as one value.
use Rattle.std.specs.Prelude.{◌≡◌, ℕ, List, Bool, Option, Result, IsErr, false}
use Rattle.dict_io.specs.declared.outside.Failed.{Failed}
use Rattle.dict_io.specs.Outside.{Side, side, HasCause, WritesPrefix}

-- the side that is read, and the side that is written
pub record Ends : Type 0 where
  pub reads : Side
  pub writes : Side

-- the side that is written; it has no end
abbrev pub written_side : Option (List ℕ) → ℕ → Side
written_side known faults = side known faults false

-- the ends of what is left with the faults of reads and whether it ended, and what was written with the faults of
-- writes
abbrev pub ends_of : Option (List ℕ) → ℕ → Bool → Option (List ℕ) → ℕ → Ends
ends_of left read_faults ended written write_faults =
    record { reads = side left read_faults ended; writes = written_side written write_faults }

-- the piece was written, or a front of it and then a write failed; the side that is read is as it was
pub record Puts (old : Ends) (piece : List ℕ) (result : Result (Unit {0}) Failed) (new : Ends) : Type 0 where
  pub wrote : WritesPrefix old.writes.known new.writes.known piece result
  pub cause : HasCause old.writes.faults new.writes.faults (IsErr result)
  pub reads : new.reads ≡ old.reads
