use Rattle.std.proofs.Common.{◌≡◌, ◌≤◌, ◌+◌, length}
use Rattle.std.specs.List.{prefix_len}
use Rattle.ddl_tokens.specs.Letters.{is_word_byte}
use Rattle.ddl_tokens.proofs.lexing.word_len.Given as goal

abbrev pub invariant-loop-rest : goal.invariant-loop-rest
invariant-loop-rest l = record { value : l.count + prefix_len is_word_byte l.rest ≡ prefix_len is_word_byte l.text; within : l.count + length l.rest ≤ length l.text }

abbrev pub decreases-loop-rest : goal.decreases-loop-rest
decreases-loop-rest l = length l.rest
