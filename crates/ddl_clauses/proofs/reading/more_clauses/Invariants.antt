use Rattle.std.proofs.Common.{◌≤◌, length}
use Rattle.ddl_tokens.specs.Lists.{SoFar}
use Rattle.ddl_clauses.specs.Reading.{next_dictionary_clause}
use Rattle.ddl_clauses.proofs.reading.more_clauses.Given as goal

abbrev pub invariant-loop-clauses : goal.invariant-loop-clauses
invariant-loop-clauses l = record { so_far : SoFar next_dictionary_clause l.initial.clauses l.initial.r l.clauses l.r; shorter : length l.r ≤ length l.initial.r }

abbrev pub decreases-loop-clauses : goal.decreases-loop-clauses
decreases-loop-clauses l = length l.r
