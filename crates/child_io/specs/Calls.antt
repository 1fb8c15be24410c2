-- The calls that a child takes, one after another.
use Rattle.std.specs.Prelude.{ℕ, List, [], ◌∷◌, ◌++◌, take, Result, Ok, Err}
use Rattle.dict_value.specs.declared.fault.Exit.{Exit}
use Rattle.dict_io.specs.declared.outside.Put.{Put}
use Rattle.dict_io.specs.declared.outside.Put.TheVariants.{Bytes as PutBytes, Failed as PutFailed}
use Rattle.dict_io.specs.declared.outside.Failed.{Failed}
use Rattle.child_io.specs.declared.child.Heard.{Heard}
use Rattle.child_io.specs.declared.child.Heard.TheVariants.{Bytes as HeardBytes, End as HeardEnd}
use Rattle.child_io.specs.declared.child.Heard.TheVariants.{Failed as HeardFailed, TimedOut as HeardTimedOut}

-- a call of a child and what it gave; a read names its limit in milliseconds
pub data Act : Type 0 where
  write_took : List ℕ → Act
  write_failed : Act
  input_closed : Act
  read_gave : ℕ → List ℕ → Act
  read_ended : ℕ → Act
  read_failed : ℕ → Act
  read_timed_out : ℕ → Act
  wait_gave : Exit → Act
  wait_failed : Act

-- between the first state of a child and the second it took exactly these calls, in this order
abbrev pub History : Type 0 → Type 1
History C = C → List Act → C → Type 0

-- the child took this call next
abbrev pub Takes : {C : Type 0} → History C → C → Act → C → Type 0
Takes {C} history old act new =
    (first : C) (acts : List Act) → history first acts old → history first (acts ++ act ∷ []) new

abbrev pub put_act : Put → List ℕ → Act
put_act (PutBytes n) piece = write_took (take n piece)
put_act PutFailed piece = write_failed

abbrev pub heard_act : ℕ → Heard → List ℕ → Act
heard_act limit_ms (HeardBytes n) buf = read_gave limit_ms (take n buf)
heard_act limit_ms HeardEnd buf = read_ended limit_ms
heard_act limit_ms HeardFailed buf = read_failed limit_ms
heard_act limit_ms HeardTimedOut buf = read_timed_out limit_ms

abbrev pub wait_act : Result Exit Failed → Act
wait_act (Ok exit) = wait_gave exit
wait_act (Err _) = wait_failed
