use Rattle.std.proofs.Common.{◌≡◌, false}
use Rattle.std.specs.List.{AllWithin}
use Rattle.dict_session.specs.Items.{is_function_named}
use Rattle.dict_session.proofs.ask.place_of_function.Given as goal

abbrev pub invariant-loop-place : goal.invariant-loop-place
invariant-loop-place l = AllWithin (λ item. is_function_named l.name item ≡ false) l.items 0 l.place
