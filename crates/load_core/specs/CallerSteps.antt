-- What a caller's floor becomes by a number that it comes to know.
use Rattle.std.specs.Prelude.{ℕ, max, nat_lt, if◌then◌else◌}
use Rattle.load_core.specs.declared.caller.CallerCore.{CallerCore}
use Rattle.load_core.specs.declared.caller.CallerEvent.{CallerEvent}
use Rattle.load_core.specs.declared.caller.CallerEvent.TheVariants.{Entered, Told}
use Rattle.load_core.specs.declared.caller.CallerEffect.{CallerEffect}
use Rattle.load_core.specs.declared.caller.CallerEffect.TheVariants.{Kept, Older}

-- the number that an event brings
abbrev pub told_number : CallerEvent → ℕ
told_number (Entered number) = number
told_number (Told number) = number

-- the floor is the greater of itself and the number
abbrev pub raised : CallerCore → CallerEvent → CallerCore
raised c event = record { floor = max c.floor (told_number event) }

-- how the number stands to the floor before it
abbrev pub effect_of : CallerCore → CallerEvent → CallerEffect
effect_of c event = if nat_lt (told_number event) c.floor then Older c.floor else Kept
