use Rattle.std.proofs.Common.{◌≡◌, ◌++◌, take}
use Rattle.std.specs.List.{flat_map}
use Rattle.ddl_writing.specs.Canonical.{and_then, typed_text}
use Rattle.ddl_writing.proofs.writing.push_other_arguments.Given as goal

abbrev pub invariant-loop-argument : goal.invariant-loop-argument
invariant-loop-argument l = l.out ≡ l.fn.out ++ flat_map (λ a. and_then (typed_text a.name a.ty)) (take l.argument-index l.arguments)
