use Rattle.std.proofs.Common.{◌≡◌, ◌≤◌, length}
use Rattle.ddl_tokens.specs.steps.Lexer.{ending, plain}
use Rattle.ddl_tokens.proofs.quoted.find_end.Given as goal

abbrev pub invariant-loop-rest : goal.invariant-loop-rest
invariant-loop-rest l = record {
  value : ending l.quote plain l.text ≡ ending l.quote plain l.rest;
  within : length l.rest ≤ length l.text;
}

abbrev pub decreases-loop-rest : goal.decreases-loop-rest
decreases-loop-rest l = length l.rest
