-- A load leaves the lifetime that counts.
use Rattle.std.proofs.Common.{◌≡◌, ◌+◌, ℕ, Bool, true, false, Some, None, refl}
use Rattle.std.specs.Prelude.{if◌then◌else◌}
use Rattle.rand_pcg.specs.Pcg.{pcg32}
use Rattle.loader.specs.Timing.{Timing, after_ok, drawn_life, stays}

either : (b : Bool) (x y t : Timing) → x.lifetime ≡ t.lifetime → y.lifetime ≡ t.lifetime → (if b then x else y).lifetime ≡ t.lifetime
either true x y t p q = p
either false x y t p q = q

pub lifetime-after_ok : (t : Timing) (now : ℕ) → (after_ok t now).lifetime ≡ t.lifetime
lifetime-after_ok t now =
    either (stays t.lifetime) (record t { deadline = None; failures = 0 }) (record t { deadline = Some (now + drawn_life t.lifetime (pcg32 t.words).0); words = (pcg32 t.words).1; failures = 0 }) t refl refl
