-- The token in hand, by its kind.
use Rattle.std.proofs.Common.{◌≡◌, Bool, true, false, List, [], ◌∷◌, refl, sym, ◌∙◌}
use Rattle.ddl_tokens.specs.declared.token.TokenKind.{TokenKind}
use Rattle.ddl_tokens.specs.declared.token.TokenKind.TheVariants.{Word, QuotedWord, Number, String, Sign, Broken, End}
use Rattle.ddl_tokens.specs.Tokens.{Token}
use Rattle.ddl_tokens.specs.Reading.{is_name, is_string, is_number, goes_on, kind_ahead, passes, of_kind}
use Rattle.ddl_clauses.specs.Choices.{is_written, is_plain_value}

-- a test of a token's kind, and that of the kind in hand
pub passes_is : (test : TokenKind → Bool) → test End ≡ false → (ts : List Token) → passes (of_kind test) ts ≡ test (kind_ahead ts)
unfolding passes kind_ahead
passes_is test e [] = sym e
passes_is test e (t ∷ ts) = refl

kind_goes_on : (ts : List Token) → goes_on (kind_ahead ts) ≡ true → passes (of_kind goes_on) ts ≡ true
kind_goes_on ts e = passes_is goes_on refl ts ∙ e

plain_value_goes : (k : TokenKind) → is_plain_value k ≡ true → goes_on k ≡ true
plain_value_goes Word e = refl
plain_value_goes QuotedWord e = refl
plain_value_goes Number e = refl
plain_value_goes String e = refl
plain_value_goes Sign e = absurd cc
plain_value_goes Broken e = absurd cc
plain_value_goes End e = absurd cc

written_goes : (k : TokenKind) → is_written k ≡ true → goes_on k ≡ true
written_goes Word e = refl
written_goes QuotedWord e = refl
written_goes Number e = absurd cc
written_goes String e = refl
written_goes Sign e = absurd cc
written_goes Broken e = absurd cc
written_goes End e = absurd cc

pub plain_value_goes_on : (ts : List Token) → is_plain_value (kind_ahead ts) ≡ true → passes (of_kind goes_on) ts ≡ true
plain_value_goes_on ts e = kind_goes_on ts (plain_value_goes (kind_ahead ts) e)

pub written_goes_on : (ts : List Token) → is_written (kind_ahead ts) ≡ true → passes (of_kind goes_on) ts ≡ true
written_goes_on ts e = kind_goes_on ts (written_goes (kind_ahead ts) e)

pub sees_string_is : (ts : List Token) → passes (of_kind is_string) ts ≡ is_string (kind_ahead ts)
sees_string_is ts = passes_is is_string refl ts

pub string_goes_on : (ts : List Token) → kind_ahead ts ≡ String → passes (of_kind goes_on) ts ≡ true
string_goes_on ts e = kind_goes_on ts (let P = e in rw e refl)

pub sees_name_is : (ts : List Token) → passes (of_kind is_name) ts ≡ is_name (kind_ahead ts)
sees_name_is ts = passes_is is_name refl ts

name_goes : (k : TokenKind) → is_name k ≡ true → goes_on k ≡ true
name_goes Word e = refl
name_goes QuotedWord e = refl
name_goes Number e = absurd cc
name_goes String e = absurd cc
name_goes Sign e = absurd cc
name_goes Broken e = absurd cc
name_goes End e = absurd cc

pub name_goes_on : (ts : List Token) → passes (of_kind is_name) ts ≡ true → passes (of_kind goes_on) ts ≡ true
name_goes_on ts e = kind_goes_on ts (name_goes (kind_ahead ts) (sym (sees_name_is ts) ∙ e))

pub sees_number_is : (ts : List Token) → passes (of_kind is_number) ts ≡ is_number (kind_ahead ts)
sees_number_is ts = passes_is is_number refl ts
