use Rattle.std.proofs.Common.{ℕ, List, length, sym, ap, subst, ◌∙◌, arith}
use Rattle.ddl_tokens.specs.Tokens.{Token, AreTokens}
use Rattle.ddl_tokens.specs.steps.Lexer.{ahead}
use Rattle.ddl_tokens.proofs.Found.{ahead_sound, tokens_only, tokens_first}
use Rattle.ddl_tokens.proofs.reader.Reader.new.Goals as goal

pub returns-clause-tokens : goal.returns-clause-tokens
returns-clause-tokens c =
    let text = c.args.text.now in
    subst (λ (x : Token × List ℕ). AreTokens text (ahead x.0 (length text) x.1)) c.next_token.ensures.value (ahead_sound (length text) 0 text (omega arith))

pub returns-clause-only : goal.returns-clause-only
returns-clause-only c ts h =
    let text = c.args.text.now in
    let size = length text in
    ap (λ (x : Token × List ℕ). ahead x.0 size x.1) (sym c.next_token.ensures.value) ∙ sym (tokens_first size text (omega arith)) ∙ tokens_only size 0 text ts (omega arith) h
