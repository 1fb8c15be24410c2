use Rattle.std.proofs.Common.{length, All}
use Rattle.dict_schema.specs.Sound.{IsSoundItem}
use Rattle.ddl_text.specs.Files.{FileSoFar}
use Rattle.ddl_text.proofs.file.read_items.Given as goal

abbrev pub invariant-loop-items : goal.invariant-loop-items
invariant-loop-items l = record { so_far : FileSoFar l.initial.r l.items l.r; sound : All IsSoundItem l.items }

abbrev pub decreases-loop-items : goal.decreases-loop-items
decreases-loop-items l = length l.r
