use Rattle.std.proofs.Common.{ℕ, ◌<◌, List, length, ap, sym, ◌∙◌, subst}
use Rattle.ddl_tokens.specs.Tokens.{Token}
use Rattle.ddl_tokens.specs.steps.Lexer.{ahead, token_of}
use Rattle.ddl_tokens.proofs.Found.{tokens_first}
use Rattle.ddl_tokens.proofs.Going.{drop_ahead, shorter}
use Rattle.ddl_tokens.proofs.reader.Reader.skip.Goals as goal

pub returns-clause-rest : goal.returns-clause-rest
returns-clause-rest c =
    let s = c.self.inside in
    ap (λ (x : Token × List ℕ). ahead x.0 s.size x.1) (sym c.next_token.ensures.value) ∙ sym (tokens_first s.size s.rest.now c.self.invariant)
    ∙ sym (drop_ahead (token_of s.token) s.size s.rest.now c.args.self.now c.self.view_is c.requires)

pub returns-clause-shorter : goal.returns-clause-shorter
returns-clause-shorter c =
    let e = returns-clause-rest c in
    let P : List Token → Type 0 = λ ts. length ts < length c.args.self.now in
    subst P (sym e) (shorter c.args.self.now c.requires)
