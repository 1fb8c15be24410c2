-- What a child tells, and what its calls do to that.
use Rattle.std.specs.Prelude.{◌≡◌, ◌<◌, ◌⊎◌, ℕ, ◌+◌, ◌-◌, ◌≤◌, min, List, [], ◌∷◌, ◌++◌, length, take, drop, ⊤}
use Rattle.std.specs.Prelude.{Option, Some, None, IfSome, Result, Ok, Err}
use Rattle.std.specs.Prelude.{Bool, true, false, ◌||◌, ◌&&◌, not, ◌==◌, if◌then◌else◌}
use Rattle.std.specs.List.{list_any}
use Rattle.std.specs.Str.{bytes_eq}
use Rattle.dict_io.specs.Memory.{size_at}
use Rattle.dict_io.specs.Outside.{count_up}
use Rattle.dict_io.specs.declared.outside.Put.{Put}
use Rattle.dict_io.specs.declared.outside.Put.TheVariants.{Bytes as PutBytes, Failed as PutFailed}
use Rattle.dict_io.specs.declared.outside.Failed.{Failed}
use Rattle.child_io.specs.declared.child.Heard.{Heard}
use Rattle.child_io.specs.declared.child.Heard.TheVariants.{Bytes as HeardBytes, End as HeardEnd}
use Rattle.child_io.specs.declared.child.Heard.TheVariants.{Failed as HeardFailed, TimedOut as HeardTimedOut}
use Rattle.child_io.specs.declared.child.Script.{Script}
use Rattle.dict_value.specs.declared.fault.Exit.{Exit}
use Rattle.child_io.specs.declared.child.StartFault.{StartFault}
use Rattle.child_io.specs.declared.child.StartFault.TheVariants.{Failed as StartFailed, NoMemory as StartNoMemory}

-- a script, and how far its child is
pub record Told : Type 0 where
  pub script : Script
  pub written : List ℕ
  pub taken : ℕ
  pub reads : ℕ
  pub writes : ℕ

abbrev pub told_of : Script → List ℕ → ℕ → ℕ → ℕ → Told
told_of s written taken reads writes =
    record { script = s; written = written; taken = taken; reads = reads; writes = writes }

-- a child that was just started
abbrev pub fresh : Script → Told
fresh s = told_of s [] 0 0 0

abbrev pub IsFresh : Option Told → Type 0
IsFresh told = IfSome told (λ t. t ≡ fresh t.script)

-- the number stands in the list
abbrev pub holds_number : List ℕ → ℕ → Bool
holds_number xs n = list_any (λ y. y == n) xs

-- the input is one of those, or there are none
abbrev pub is_accepted : List (List ℕ) → List ℕ → Bool
is_accepted accepted written = (length accepted == 0) || list_any (λ y. bytes_eq y written) accepted

-- how many bytes of a piece the next write takes, and 0 where it fails
abbrev pub put_size : Told → ℕ → ℕ
put_size t size =
    if holds_number t.script.failing_writes t.writes then 0 else min size (t.script.room - length t.written)

-- the answer of the next write
abbrev pub put_of : Told → ℕ → Put
put_of t size = if put_size t size == 0 then PutFailed else PutBytes (put_size t size)

abbrev pub after_put : Told → List ℕ → Told
after_put t piece =
    record t { written = t.written ++ take (put_size t (length piece)) piece; writes = count_up t.writes }

abbrev pub PutTold : Option Told → Option Told → Put → List ℕ → Type 0
PutTold None new r piece = new ≡ None
PutTold (Some t) new r piece = (r ≡ put_of t (length piece)) × (new ≡ Some (after_put t piece))

-- the read of that number fails
abbrev pub read_fails : Script → List ℕ → ℕ → Bool
read_fails s written k = holds_number s.failing_reads k || not (is_accepted s.accepted written)

-- the read of that number times out, also where the output comes only behind the closed input
abbrev pub read_times_out : Script → Bool → ℕ → Bool
read_times_out s closed k = (not closed && s.after_close) || holds_number s.timed_out_reads k

-- how many bytes the read of that number brings into so much room, after so many
abbrev pub read_size : Script → ℕ → ℕ → ℕ → ℕ
read_size s taken k room = min (size_at s.sizes k room) (length s.output - taken)

-- the answer of the next read into so much room, by whether the input was closed
abbrev pub heard_of : Told → Bool → ℕ → Heard
heard_of t closed room =
    if read_fails t.script t.written t.reads then HeardFailed
    else if read_times_out t.script closed t.reads then HeardTimedOut
    else if read_size t.script t.taken t.reads room == 0 then HeardEnd
    else HeardBytes (read_size t.script t.taken t.reads room)

-- a read found the end
abbrev pub is_heard_end : Heard → Bool
is_heard_end (HeardBytes n) = false
is_heard_end HeardEnd = true
is_heard_end HeardFailed = false
is_heard_end HeardTimedOut = false

-- how many bytes a read gave
abbrev pub heard_count : Heard → ℕ
heard_count (HeardBytes n) = n
heard_count HeardEnd = 0
heard_count HeardFailed = 0
heard_count HeardTimedOut = 0

abbrev pub after_heard : Told → ℕ → Told
after_heard t n = record t { taken = t.taken + n; reads = count_up t.reads }

pub record HeardAs (t : Told) (closed : Bool) (new : Option Told) (r : Heard) (buf : List ℕ) : Type 0 where
  pub answer : r ≡ heard_of t closed (length buf)
  pub bytes : take (heard_count r) buf ≡ take (heard_count r) (drop t.taken t.script.output)
  pub after : new ≡ Some (after_heard t (heard_count r))

abbrev pub HeardTold : Option Told → Bool → Option Told → Heard → List ℕ → Type 0
HeardTold None closed new r buf = new ≡ None
HeardTold (Some t) closed new r buf = HeardAs t closed new r buf

abbrev pub HeardWithin : Heard → List ℕ → Type 0
HeardWithin (HeardBytes n) buf = (0 < n) × (n ≤ length buf)
HeardWithin HeardEnd buf = ⊤
HeardWithin HeardFailed buf = ⊤
HeardWithin HeardTimedOut buf = ⊤

abbrev pub HeardFails : Heard → Type 0
HeardFails (HeardBytes n) = ⊥
HeardFails HeardEnd = ⊥
HeardFails HeardFailed = ⊤
HeardFails HeardTimedOut = ⊤

-- the exit of the script, or an error where it fails to be waited for
abbrev pub WaitTold : Option Told → Result Exit Failed → Type 0
WaitTold None r = ⊤
WaitTold (Some t) (Ok exit) = (exit ≡ t.script.exit) × (t.script.wait_fails ≡ false)
WaitTold (Some t) (Err _) = t.script.wait_fails ≡ true

-- a start by a script; it fails exactly where the script says so, and want of memory is free elsewhere
abbrev pub StartedAs : {C : Type 0} → (C → Option Told) → Script → Result C StartFault → Type 0
StartedAs told s (Ok c) = (told c ≡ Some (fresh s)) × (s.start_fails ≡ false)
StartedAs told s (Err StartFailed) = s.start_fails ≡ true
StartedAs told s (Err StartNoMemory) = s.start_fails ≡ false

-- the next script is used up by every start, and a start past the last one fails
abbrev pub StartTold : {C : Type 0} → (C → Option Told) → Option (List Script) → Option (List Script)
    → Result C StartFault → Type 0
StartTold told None new r = new ≡ None
StartTold told (Some []) new r = (new ≡ Some []) × (r ≡ Err StartFailed)
StartTold told (Some (s ∷ rest)) new r = (new ≡ Some rest) × StartedAs told s r

-- one more start is told, with its words
abbrev pub IsStart : Option (List (List (List ℕ))) → List (List ℕ) → Option (List (List (List ℕ))) → Type 0
IsStart None words new = new ≡ None
IsStart (Some starts) words new = new ≡ Some (starts ++ words ∷ [])

-- each start is told with its words; one that gave no child may be left out, for want of memory
abbrev pub StartsTold : Option (List (List (List ℕ))) → List (List ℕ) → Option (List (List (List ℕ))) → Type 0 → Type 0
StartsTold old words new NoChild = IsStart old words new ⊎ (NoChild × (new ≡ old))

-- the fact of a child that was started, for every output and exit where it doesn't tell
abbrev pub RanAs : (List (List ℕ) → List ℕ → Exit → Type 0) → List (List ℕ) → Option Told → Type 0
RanAs ran words None = (output : List ℕ) (exit : Exit) → ran words output exit
RanAs ran words (Some t) = ran words t.script.output t.script.exit
