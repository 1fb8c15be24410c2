use Rattle.std.proofs.Common.{◌≡◌, ◌++◌, length, map}
use Rattle.ddl_text.specs.Items.{place_of_column}
use Rattle.ddl_text.proofs.items.key_places.Given as goal

abbrev pub invariant-loop-rest : goal.invariant-loop-rest
invariant-loop-rest l = l.places ++ map (place_of_column l.columns) l.rest ≡ map (place_of_column l.columns) l.names

abbrev pub decreases-loop-rest : goal.decreases-loop-rest
decreases-loop-rest l = length l.rest
