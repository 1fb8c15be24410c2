use Rattle.std.proofs.Common.{◌≡◌, map, take}
use Rattle.dict_functions.proofs.calls.argument_types.Given as goal

abbrev pub invariant-loop-argument : goal.invariant-loop-argument
invariant-loop-argument l = l.types ≡ map (λ a. a.ty) (take l.argument-index l.f.args)
