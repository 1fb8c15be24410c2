-- What a viewer that was taught has learnt.
use Rattle.std.proofs.Common.{◌≡◌, ◌≤◌, ℕ, List, Option, Some, None, IfSome, length, arith}
use mathlib.Core.List.{IsPrefix}
use Rattle.loader.specs.Boards.{newest_number}
use Rattle.version_slot.proofs.Views.{prefix-length}

-- the number that is told is at most that of the view
pub number-learnt : {T V : Type 0} (list_of : T → List V) (newest : Option T) (number : ℕ) (view : List V)
    → number ≡ newest_number (λ told. length (list_of told)) newest → IfSome newest (λ told. IsPrefix (list_of told) view) → number ≤ length view
number-learnt list_of None number view is learnt = omega (arith, is)
number-learnt list_of (Some told) number view is learnt = let longer = prefix-length (list_of told) view learnt in omega (arith, is, longer)
