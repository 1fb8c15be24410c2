use Rattle.std.proofs.Common.{◌≡◌, ◌++◌, take}
use Rattle.std.specs.List.{flat_map}
use Rattle.ddl_writing.specs.Quoted.{byte_in_quotes}
use Rattle.ddl_writing.proofs.quoted.push_bytes.Given as goal

abbrev pub invariant-loop-b : goal.invariant-loop-b
invariant-loop-b l = l.out ≡ l.fn.out ++ flat_map (byte_in_quotes l.quote) (take l.b-index l.text)
