-- When a dictionary is loaded again: by its lifetime after a published load, and by rising waits after failed ones.
use Rattle.std.specs.Prelude.{◌≡◌, ◌+◌, ◌-◌, ◌*◌, ◌%◌, ◌^◌, ◌==◌, ◌&&◌, ◌≤◌, ℕ, Bool, Option, Some, None, min}
use Rattle.std.specs.Prelude.{if◌then◌else◌}
use Rattle.dict_schema.specs.declared.definition.Lifetime.{Lifetime}
use Rattle.rand_pcg.specs.Lcg.{Lcg, increment_of, started}
use Rattle.rand_pcg.specs.Pcg.{multiplier_64, pcg32}

-- What is known of the loads so far: the lifetime, the generator whose word is drawn next, the moment from which on a
-- load is due, if any, and how many loads failed in a row, of which seven count.
pub record Timing : Type 0 where
  pub lifetime : Lifetime
  pub words : Lcg
  pub deadline : Option ℕ
  pub failures : ℕ

-- the generator of the item with this number, from 0 in the definitions file
abbrev pub generator_of : ℕ → ℕ → Lcg
generator_of seed number = started 64 multiplier_64 seed (increment_of 64 number)

-- before the first load none is due
abbrev pub never_loaded : Lifetime → ℕ → ℕ → Timing
never_loaded lifetime seed number =
    record { lifetime = lifetime; words = generator_of seed number; deadline = None; failures = 0 }

-- the same with another lifetime
abbrev pub with_lifetime : Timing → Lifetime → Timing
with_lifetime t lifetime = record t { lifetime = lifetime }

-- LIFETIME(0): what was published stays
abbrev pub stays : Lifetime → Bool
stays lifetime = (lifetime.min == 0) && (lifetime.max == 0)

-- how long a version lives: from MIN to MAX seconds, both included, as the word says
abbrev pub drawn_life : Lifetime → ℕ → ℕ
drawn_life lifetime word = lifetime.min + word % (lifetime.max - lifetime.min + 1)

-- after a load that was published at a moment: a word is drawn, unless the version stays
abbrev pub after_ok : Timing → ℕ → Timing
after_ok t now =
    if stays t.lifetime
    then record t { deadline = None; failures = 0 }
    else record t {
      deadline = Some (now + drawn_life t.lifetime (pcg32 t.words).0);
      words = (pcg32 t.words).1;
      failures = 0;
    }

-- the wait after a failed load, in seconds: 5 after the first in a row, twice as long after each further one, and at
-- most 600
abbrev pub wait_after : ℕ → ℕ
wait_after failures = min (5 * 2 ^ failures) 600

-- after a load that failed at a moment: no word is drawn
abbrev pub after_failure : Timing → ℕ → Timing
after_failure t now =
    record t { deadline = Some (now + wait_after t.failures); failures = min (t.failures + 1) 7 }

-- a load is due: there is a deadline, and the moment is at or after it
abbrev pub IsDue : Timing → ℕ → Type 0
IsDue t now = (deadline : ℕ) × (t.deadline ≡ Some deadline) × (deadline ≤ now)
