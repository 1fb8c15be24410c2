-- Ends and points: a range holds a number where its point lies between those of its ends.
use Rattle.std.proofs.Common.{◌≡◌, ℕ, ◌^◌, ◌<◌, ◌≤◌, ℤ, pos, negsuc, ap, ◌∙◌, arith}
use Rattle.std.specs.Prelude.{◌+ℤ◌, ◌≤ℤ◌, ◌<ℤ◌}
use Rattle.std.proofs.lemmas.Int.{ints, to_z-of_z}
use mir.Syntax.{w128}
use mir.Val.{SFits, of_z, to_z}
use Rattle.range_layout.specs.FindByRange.{IsOpenAt, IsStarted}
use Rattle.range_layout.specs.Points.{FitsEnd, IsNumber, low_point, past_point, point_of}
use Rattle.range_layout.specs.declared.ends.End.{End}
use Rattle.range_layout.specs.declared.ends.End.TheVariants.{Free, At}

-- the point of a number, without a case
pub point-is : (z : ℤ) → IsNumber z → pos (point_of z) ≡ z +ℤ pos (2 ^ 127)
point-is (pos n) h = refl-pos
  where
    refl-pos : pos (point_of (pos n)) ≡ pos n +ℤ pos (2 ^ 127)
    refl-pos = omega (arith, ints)
point-is (negsuc n) h = omega (arith, ints, h)

pub point-small : (z : ℤ) → IsNumber z → point_of z < 2 ^ 128
point-small z h = let e = point-is z h in let u = h.1 in omega (arith, ints, e, u)

pub point-less : (a b : ℤ) → IsNumber a → IsNumber b → a <ℤ b → point_of a < point_of b
point-less a b x y l = let e = point-is a x in let f = point-is b y in omega (arith, ints, e, f, l)

pub point-no_less : (a b : ℤ) → IsNumber a → IsNumber b → a ≤ℤ b → point_of a ≤ point_of b
point-no_less a b x y l = let e = point-is a x in let f = point-is b y in omega (arith, ints, e, f, l)

pub number-no_less : (a b : ℤ) → IsNumber a → IsNumber b → point_of a ≤ point_of b → a ≤ℤ b
number-no_less a b x y l = let e = point-is a x in let f = point-is b y in omega (arith, ints, e, f, l)

-- a start and an end let a number in

pub started-to : (end : End) (z : ℤ) → FitsEnd end → IsNumber z → IsStarted end z → low_point end ≤ point_of z
started-to Free z f h s = omega arith
started-to (At a) z f h s = point-no_less a z f h s

pub started-from : (end : End) (z : ℤ) → FitsEnd end → IsNumber z → low_point end ≤ point_of z → IsStarted end z
started-from Free z f h s = tt
started-from (At a) z f h s = number-no_less a z f h s

pub open-to : (end : End) (z : ℤ) → FitsEnd end → IsNumber z → IsOpenAt end z → point_of z < past_point end
open-to Free z f h s = point-small z h
open-to (At a) z f h s = let u = point-no_less z a h f s in omega (arith, u)

pub open-from : (end : End) (z : ℤ) → FitsEnd end → IsNumber z → point_of z < past_point end → IsOpenAt end z
open-from Free z f h s = tt
open-from (At a) z f h s = number-no_less z a h f (omega (arith, s))

-- what is passed as a number of 128 bits is one
pub number-passed : (z : ℤ) → SFits w128 z → IsNumber z
number-passed z f = (omega (arith, ints, f), omega (arith, ints, f))

pub point-passed : (z : ℤ) (point : ℕ) → SFits w128 z → point ≡ point_of (to_z w128 (of_z w128 z)) → point ≡ point_of z
point-passed z point f e = e ∙ ap point_of (to_z-of_z w128 z f)
