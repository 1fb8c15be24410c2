-- What a call answers that gives a lawful reading, and says what was read.
use Rattle.std.proofs.Common.{◌≡◌, List, Option, Result, Ok, Err, refl, sym, ap, subst, ◌∙◌, inl, inr}
use Rattle.std.specs.Prelude.{IfOk}
use Rattle.dict_value.specs.Memory.{UnlessNoMemory}
use Rattle.ddl_tokens.specs.declared.fault.ReadFault.{ReadFault}
use Rattle.ddl_tokens.specs.declared.fault.ReadFault.TheVariants as fault
use Rattle.ddl_tokens.specs.Tokens.{Token}
use Rattle.ddl_tokens.specs.Reading.{◌>>=◌, Gives, Read}
use Rattle.ddl_tokens.specs.Laws.{Begins, IfSyntax, IsLeast, Lawful}
use Rattle.ddl_tokens.proofs.Laws.{bind_ok, bind_err, is_least, ok_is}
use Rattle.ddl_clauses.specs.declared.parts.DictionaryParts.{DictionaryParts}
use Rattle.ddl_clauses.specs.declared.parts.FunctionParts.{FunctionParts}
use Rattle.ddl_clauses.specs.Grammar.{AreDictionaryClauses, NoClauseFollows, IsWrittenFunction, FunctionStops, BeginsSaying, ReadsOnly}
use Rattle.ddl_clauses.specs.Parts.{dictionary_parts, function_parts}
use Rattle.ddl_clauses.specs.Reading.{dictionary_clauses_at, function_clauses_at}
use Rattle.ddl_clauses.proofs.ClauseLaws.{written_clauses_law, function_law}

module _ {A B : Type 0} {read : List Token → Read A} {Own : A → List Token → Type 0} {Stops : A → Option Token → Type 0} (saying : A → B)
    (F : Lawful (λ _. Unit {0}) read Own Stops) (ts rest : List Token) where
  abbrev said_at : Read B
  said_at = read ts >>= λ x. Ok (saying x.0, x.1)

  said_found : (result : Result B ReadFault) → Gives (λ b. b) result rest said_at → IfOk result (BeginsSaying saying Own Stops ts rest)
  said_found (Ok b) h =
      let x = bind_ok (read ts) (λ x. Ok (saying x.0, x.1)) (b, rest) (h (λ e. absurd cc)) in
      let same = ok_is (saying x.0.0, x.0.1) (b, rest) x.2 in (
        x.0.0,
        sym (ap (λ (y : B × List Token). y.0) same),
        subst (λ (us : List Token). Begins Own Stops ts x.0.0 us) (ap (λ (y : B × List Token). y.1) same) (F.found ts x.0.0 x.0.1 tt x.1),
      )
  said_found (Err e) h = tt

  said_only : (result : Result B ReadFault) → Gives (λ b. b) result rest said_at → ReadsOnly saying Own Stops ts rest result
  said_only result h a own tail parts fits stops = at result h where
    reads : said_at ≡ Ok (saying a, tail)
    reads = ap (λ (us : List Token). read us >>= λ x. Ok (saying x.0, x.1)) parts ∙ ap (λ (r : Read A). r >>= λ x. Ok (saying x.0, x.1)) (F.only a own tail fits stops)

    at : (r : Result B ReadFault) → Gives (λ b. b) r rest said_at → UnlessNoMemory (Err fault.NoMemory) r ((r ≡ Ok (saying a)) × (rest ≡ tail))
    at (Ok b) k = λ n. let same = ok_is (b, rest) (saying a, tail) (sym (k n) ∙ reads) in (ap (λ (y : B × List Token). Ok y.0) same, ap (λ (y : B × List Token). y.1) same)
    at (Err (fault.Syntax g)) k = λ n. absurd (let same = sym (k n) ∙ reads in cc)
    at (Err fault.NoMemory) k = λ n. absurd (n refl)

  said_least : (result : Result B ReadFault) → Gives (λ b. b) result rest said_at → IfSyntax result (IsLeast Own Stops ts)
  said_least (Ok b) h = tt
  said_least (Err fault.NoMemory) h = tt
  said_least (Err (fault.Syntax e)) h = elim (bind_err (read ts) (λ x. Ok (saying x.0, x.1)) e (h (λ n. absurd cc))) [
    | inl k ↦ is_least F ts e tt k
    | inr x ↦ absurd (let y = x.2 in cc)
  ]

pub clauses_found : (ts rest : List Token) (result : Result DictionaryParts ReadFault) → Gives (λ b. b) result rest (dictionary_clauses_at ts) → IfOk result (BeginsSaying dictionary_parts AreDictionaryClauses NoClauseFollows ts rest)
unfolding dictionary_clauses_at
clauses_found ts rest result h = said_found dictionary_parts written_clauses_law ts rest result h

pub clauses_only : (ts rest : List Token) (result : Result DictionaryParts ReadFault) → Gives (λ b. b) result rest (dictionary_clauses_at ts) → ReadsOnly dictionary_parts AreDictionaryClauses NoClauseFollows ts rest result
unfolding dictionary_clauses_at
clauses_only ts rest result h = said_only dictionary_parts written_clauses_law ts rest result h

pub clauses_least : (ts rest : List Token) (result : Result DictionaryParts ReadFault) → Gives (λ b. b) result rest (dictionary_clauses_at ts) → IfSyntax result (IsLeast AreDictionaryClauses NoClauseFollows ts)
unfolding dictionary_clauses_at
clauses_least ts rest result h = said_least dictionary_parts written_clauses_law ts rest result h

pub function_found : (ts rest : List Token) (result : Result FunctionParts ReadFault) → Gives (λ b. b) result rest (function_clauses_at ts) → IfOk result (BeginsSaying function_parts IsWrittenFunction FunctionStops ts rest)
unfolding function_clauses_at
function_found ts rest result h = said_found function_parts function_law ts rest result h

pub function_only : (ts rest : List Token) (result : Result FunctionParts ReadFault) → Gives (λ b. b) result rest (function_clauses_at ts) → ReadsOnly function_parts IsWrittenFunction FunctionStops ts rest result
unfolding function_clauses_at
function_only ts rest result h = said_only function_parts function_law ts rest result h

pub function_least : (ts rest : List Token) (result : Result FunctionParts ReadFault) → Gives (λ b. b) result rest (function_clauses_at ts) → IfSyntax result (IsLeast IsWrittenFunction FunctionStops ts)
unfolding function_clauses_at
function_least ts rest result h = said_least function_parts function_law ts rest result h
