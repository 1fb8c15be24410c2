-- Statements are read by their grammar.
use Rattle.std.proofs.Common.{◌≡◌, ℕ, Bool, true, false, cond, List, ◌∷◌, ◌++◌, Option, Some, None, Ok, Err, refl, sym, ap, subst, ◌∙◌, inl, inr}
use mathlib.Core.Path.{fun_ext}
use Rattle.std.specs.Prelude.{codes}
use Rattle.std.proofs.lemmas.Bool.{cond-false}
use Rattle.dict_value.specs.declared.value.AttrType.{AttrType}
use Rattle.dict_schema.specs.declared.definition.Arg.{Arg}
use Rattle.dict_schema.specs.declared.definition.Column.{Column}
use Rattle.ddl_tokens.specs.declared.fault.SyntaxFault.TheVariants.{Unexpected}
use Rattle.ddl_tokens.specs.declared.letters.LetterCase.TheVariants.{Any}
use Rattle.ddl_tokens.specs.declared.token.TokenKind.TheVariants.{Word}
use Rattle.ddl_tokens.specs.Letters.{same_letters}
use Rattle.ddl_tokens.specs.Tokens.{Token}
use Rattle.ddl_tokens.specs.Reading.{◌>>=◌, Read, is_keyword, is_name, is_the_sign, passes, unexpected}
use Rattle.ddl_tokens.specs.Laws.{first, passes_first, Anyhow, Either, IsKeyword, IsNothing, IsOne, IsSign, Lawful, Made, Optional, OptionalStops, Then, judged}
use Rattle.ddl_tokens.specs.Verdicts.{Verdict, stands, falls, LawfulVerdict, Standing, ThenVerdict, VerdictStops, told}
use Rattle.ddl_tokens.proofs.Laws.{Fails, Passes, by_token, bytes, first_passes, headed, judged_ok, keyword, keywords_apart, made, one_token, optional, said, same_itself, sign, sign_no_keyword, then, then_after}
use Rattle.ddl_tokens.proofs.Verdicts.{judged_then_after, standing, then_judged, then_judged_after}
use Rattle.ddl_columns.specs.Grammar.{AreColumns, IsKey}
use Rattle.ddl_columns.proofs.ArgumentLaws.{arguments_law}
use Rattle.ddl_columns.proofs.ColumnLaws.{columns_law}
use Rattle.ddl_columns.proofs.KeyLaws.{key_law}
use Rattle.ddl_columns.proofs.TypeLaws.{type_law}
use Rattle.ddl_clauses.specs.Clauses.{WrittenFunction, begun_clause}
use Rattle.ddl_clauses.specs.Grammar.{AreDictionaryClauses, FunctionStops, IsWrittenFunction, NoClauseFollows}
use Rattle.ddl_clauses.specs.Parts.{dictionary_parts, function_parts}
use Rattle.ddl_clauses.specs.Reading.{function_clauses_at, written_function_at}
use Rattle.ddl_clauses.proofs.ClauseLaws.{clauses_begin, dictionary_clauses_law, function_law}
use Rattle.ddl_text.specs.declared.statement.Statement.{Statement}
use Rattle.ddl_text.specs.declared.statement.WrittenName.{WrittenName}
use Rattle.ddl_text.specs.Statements.{dictionary, function}
use Rattle.ddl_text.specs.Grammar.{EndsItems, IsBegun, IsDictionary, IsItemEnd, IsFunction, IsOrReplace, IsStatement, StatementStops, is_at_end}
use Rattle.ddl_text.specs.Reading.{begin_at, behind_columns_at, dictionary_at, ending_at, function_at, or_replace_at, statement_at, text_end_at}
use Rattle.ddl_text.proofs.Ahead.{asked, asks, end_ahead, end_no_keyword, end_no_sign, keyword_no_end, keyword_no_sign}
use Rattle.ddl_text.proofs.NameLaws.{cond_bind, named_law, placed}

-- ---- the parts of statements

begin_law : {Before : Option Token → Type 0} (word : List ℕ) → Lawful Before (begin_at word) (IsBegun word) Anyhow
unfolding begin_at passes is_keyword
begin_law word =
    let t : Token = record { place = 0; kind = Word; bytes = word } in
    one_token (begin_at word) (judged (is_keyword word) (λ u. u.place)) refl
    (λ u ts. sym (cond_bind (is_keyword word u) (Ok u.place) (Err (Unexpected u.place)) (λ x. Ok (x, ts))))
    (λ u e k. placed (is_keyword word u) u.place u.place e k)
    (0, t, ap (λ (b : Bool). cond b (Ok 0) (Err (Unexpected 0))) (same_itself Any word))

or_replace_law : {Before : Option Token → Type 0} → Lawful Before or_replace_at (Optional IsOrReplace) (OptionalStops (is_keyword (codes "OR")) Anyhow)
unfolding or_replace_at
or_replace_law = optional (is_keyword (codes "OR")) (headed (is_keyword (codes "OR")) (λ _. tt {0}) (λ _. IsKeyword (codes "REPLACE"))) (then (keyword (codes "OR")) (λ _. keyword (codes "REPLACE")))

text_end_is : (ts : List Token) → text_end_at ts ≡ asked is_at_end ts
unfolding text_end_at
text_end_is ts = ap (λ (b : Bool). cond b (Ok (tt, ts)) (unexpected ts)) (end_ahead ts)

text_end_law : {Before : Option Token → Type 0} → Lawful Before text_end_at (IsNothing (tt {0})) (λ _ o. is_at_end o ≡ true)
text_end_law {Before = Before} = subst (λ (read : List Token → Read (Unit {0})). Lawful Before read (IsNothing (tt {0})) (λ _ o. is_at_end o ≡ true)) (fun_ext (λ ts. sym (text_end_is ts))) (asks is_at_end)

no_semicolon : (o : Option Token) → is_at_end o ≡ true → Fails (is_the_sign 59) o
no_semicolon None e = refl
no_semicolon (Some t) e = end_no_sign 59 t e

abbrev EndingStops : Bool → Option Token → Type 0
EndingStops ended next = EndsItems ended next

semicolon_first : (ended : Bool) (own rest : List Token) → Made (λ _. true) (IsSign 59) ended own → Passes (is_the_sign 59) (first (own ++ rest))
semicolon_first ended own rest h =
    let one = h.fits in
    ap (λ (us : List Token). passes_first (is_the_sign 59) (first (us ++ rest))) one.parts ∙ (judged_ok (is_the_sign 59 one.token) (tt {0}) h.from (Unexpected one.token.place) one.fine).0

ending_law : {Before : Option Token → Type 0} → Lawful Before ending_at IsItemEnd EndingStops
unfolding ending_at
ending_law =
    by_token (is_the_sign 59) EndingStops (made {Own = IsSign 59} (λ _. true) Anyhow (λ a o s. tt) (λ a o s. tt) (sign 59))
    (said (λ a ts h. (h.is, h.fits.1)) (λ a ts h. record { from = tt {0}; is = h.0; fits = (refl, h.1) }) (made (λ _. false) (λ _ o. is_at_end o ≡ true) (λ a o s. s) (λ a o s. s) text_end_law))
    semicolon_first
    (λ ended own rest h s. subst (λ (us : List Token). Fails (is_the_sign 59) (first (us ++ rest))) (sym h.1) (no_semicolon (first rest) (subst (λ (b : Bool). EndsItems b (first rest)) h.0 s)))
    (λ ended own o h s. subst (λ (b : Bool). EndsItems b o) (sym h.is) tt)
    (λ ended own o h s. tt)
    (λ ended own rest h s e. subst (λ (b : Bool). EndsItems b (first rest)) (sym h.0) s)
    (λ ended own o h s. subst (λ (b : Bool). EndsItems b o) h.0 s)

-- what ends a statement is no keyword
ending_no_keyword : (word : List ℕ) (ended : Bool) (own rest : List Token) → IsItemEnd ended own → EndsItems ended (first rest) → passes_first (is_keyword word) (first (own ++ rest)) ≡ false
ending_no_keyword word ended own rest (inl h) s =
    let one = h.fits in
    ap (λ (us : List Token). passes_first (is_keyword word) (first (us ++ rest))) one.parts
    ∙ sign_no_keyword 59 word one.token (judged_ok (is_the_sign 59 one.token) (tt {0}) h.from (Unexpected one.token.place) one.fine).0
ending_no_keyword word ended own rest (inr h) s =
    ap (λ (us : List Token). passes_first (is_keyword word) (first (us ++ rest))) h.1 ∙ at (first rest) (subst (λ (b : Bool). EndsItems b (first rest)) h.0 s) where
      at : (o : Option Token) → is_at_end o ≡ true → passes_first (is_keyword word) o ≡ false
      at None e = refl
      at (Some t) e = end_no_keyword word t e

-- ---- what parts begin with

abbrev BeginsWithWord : List Token → Type 0
BeginsWithWord ts = (t : Token) × (rest : List Token) × (word : List ℕ) × (ts ≡ t ∷ rest) × (is_keyword word t ≡ true)

begins_behind : (front back ts : List Token) → ts ≡ front ++ back → BeginsWithWord front → BeginsWithWord ts
begins_behind front back ts e p = (p.0, p.1 ++ back, p.2, e ∙ ap (λ (us : List Token). us ++ back) p.3, p.4)

-- what begins with a keyword begins with no sign
no_sign_first : (s : ℕ) (ts rest : List Token) → BeginsWithWord ts → passes_first (is_the_sign s) (first (ts ++ rest)) ≡ false
no_sign_first s ts rest p = ap (λ (us : List Token). passes_first (is_the_sign s) (first (us ++ rest))) p.3 ∙ keyword_no_sign p.2 s p.0 p.4

-- it doesn't begin with the text's end
pub no_end_first : (ts rest : List Token) → BeginsWithWord ts → is_at_end (first (ts ++ rest)) ≡ false
no_end_first ts rest p = ap (λ (us : List Token). is_at_end (first (us ++ rest))) p.3 ∙ keyword_no_end p.2 p.0 p.4

word_begins : {A B : Type 0} (word : List ℕ) (value : Token → A) (Next : A → B → List Token → Type 0) (b : B) (ts : List Token) → Then (IsOne (judged (is_keyword word) value)) Next b ts → BeginsWithWord ts
word_begins word value Next b ts h = let p = headed (is_keyword word) value Next b ts h in (p.0, p.1, word, p.2, p.3)

source_begins : (written : WrittenFunction) (ts : List Token) → IsWrittenFunction written ts → BeginsWithWord ts
source_begins written ts h = begins_behind h.front h.back ts h.parts (word_begins (codes "SOURCE") (λ _. tt {0}) _ h.value h.front h.before)

-- ---- what ends a statement begins no part of it

no_clause : (t : Token) → ((word : List ℕ) → is_keyword word t ≡ false) → begun_clause t ≡ None
no_clause t e =
    cond-false (is_keyword (codes "SOURCE") t) _ _ (e (codes "SOURCE")) ∙ cond-false (is_keyword (codes "LAYOUT") t) _ _ (e (codes "LAYOUT"))
    ∙ cond-false (is_keyword (codes "LIFETIME") t) _ _ (e (codes "LIFETIME")) ∙ cond-false (is_keyword (codes "RANGE") t) _ _ (e (codes "RANGE"))
    ∙ cond-false (is_keyword (codes "SETTINGS") t) _ _ (e (codes "SETTINGS")) ∙ cond-false (is_keyword (codes "COMMENT") t) _ _ (e (codes "COMMENT"))

no_clause_follows : {A : Type 0} (a : A) (o : Option Token) → ((word : List ℕ) → passes_first (is_keyword word) o ≡ false) → NoClauseFollows a o
no_clause_follows a None e = tt
no_clause_follows a (Some t) e = no_clause t e

-- what is made of the ending stops where that does
ended_by : (make : Bool → Statement) → ((b : Bool) → (make b).ended ≡ b) → (word : List ℕ) (statement : Statement) (ts rest : List Token) → Made make IsItemEnd statement ts → StatementStops statement (first rest)
    → passes_first (is_keyword word) (first (ts ++ rest)) ≡ false
ended_by make ended word statement ts rest h s =
    ending_no_keyword word h.from ts rest h.fits (subst (λ (b : Bool). EndsItems b (first rest)) (ap (λ (x : Statement). x.ended) h.is ∙ ended h.from) s)

function_stops : (written : WrittenFunction) (o : Option Token) → passes_first (is_keyword (codes "SETTINGS")) o ≡ false → FunctionStops written o
function_stops written o e = at written.output o e where
  at : (output : Option ℕ) (p : Option Token) → passes_first (is_keyword (codes "SETTINGS")) p ≡ false → OptionalStops (is_keyword (codes "SETTINGS")) Anyhow output p
  at None None h = tt
  at None (Some t) h = h
  at (Some n) p h = tt

-- ---- dictionaries

module _ (place : ℕ) (name : WrittenName) (columns : List Column) where
  abbrev KeyAndClauses : Statement → List Token → Type 0
  KeyAndClauses = Then IsKey (λ keys. Then (Made dictionary_parts AreDictionaryClauses) (λ parts. Made (dictionary place name columns keys parts) IsItemEnd))

  key_follows : (keys : List (List ℕ)) (statement : Statement) (ts rest : List Token) → Then (Made dictionary_parts AreDictionaryClauses) (λ parts. Made (dictionary place name columns keys parts) IsItemEnd) statement ts
      → passes_first (is_the_sign 44) (first (ts ++ rest)) ≡ false
  key_follows keys statement ts rest h = no_sign_first 44 ts rest (begins_behind h.front h.back ts h.parts (clauses_begin h.before.from h.front h.before.fits))

  key_and_clauses_law : {Before : Option Token → Type 0} → Lawful Before (behind_columns_at place name columns) KeyAndClauses StatementStops
  unfolding behind_columns_at
  key_and_clauses_law =
      then_after key_law (λ keys.
      then_after dictionary_clauses_law (λ parts. made (dictionary place name columns keys parts) StatementStops (λ a o s. s) (λ a o s. s) ending_law)
      (λ parts statement ts rest h s. no_clause_follows parts (first (ts ++ rest)) (λ word. ended_by (dictionary place name columns keys parts) (λ b. refl) word statement ts rest h s)))
      (λ keys statement ts rest h s. key_follows keys statement ts rest h)

or_follows : (o : Option (Unit {0})) (v : Verdict Statement) (Next : Unit {0} → Verdict Statement → List Token → Type 0) (ts rest : List Token) → Then (IsKeyword (codes "DICTIONARY")) Next v ts
    → OptionalStops (is_keyword (codes "OR")) Anyhow o (first (ts ++ rest))
unfolding same_letters
or_follows o v Next ts rest h = at o (first (ts ++ rest)) (let p = first_passes (is_keyword (codes "DICTIONARY")) (λ _. tt {0}) Next v ts rest h in ap (passes_first (is_keyword (codes "OR"))) p.1 ∙ keywords_apart (codes "DICTIONARY") (codes "OR") p.0 refl p.2) where
  at : (a : Option (Unit {0})) (p : Option Token) → passes_first (is_keyword (codes "OR")) p ≡ false → OptionalStops (is_keyword (codes "OR")) Anyhow a p
  at None None e = tt
  at None (Some t) e = e
  at (Some x) p e = tt

bracket_follows : (v : Verdict Statement) (Next : List Column → Verdict Statement → List Token → Type 0) (ts rest : List Token) → ThenVerdict AreColumns Next v ts → passes_first (is_the_sign 40) (first (ts ++ rest)) ≡ true
bracket_follows v Next ts rest h =
    let p = headed (is_the_sign 40) (λ _. tt {0}) _ h.value h.front h.before in
    ap (λ (us : List Token). passes_first (is_the_sign 40) (first (us ++ rest))) (h.parts ∙ ap (λ (us : List Token). us ++ h.back) p.2) ∙ p.3

dictionary_law : {Before : Option Token → Type 0} → LawfulVerdict Before dictionary_at IsDictionary StatementStops
unfolding dictionary_at
dictionary_law =
    then_judged (begin_law (codes "CREATE")) (λ place.
    then_judged_after or_replace_law (λ _.
    then_judged (keyword (codes "DICTIONARY")) (λ _.
    then_judged_after named_law (λ name.
    judged_then_after columns_law (λ columns. standing (key_and_clauses_law place name columns))
    (λ columns v ts rest h s. tt))
    (λ name v ts rest h s. bracket_follows v _ ts rest h)))
    (λ o v ts rest h s. or_follows o v _ ts rest h))

-- ---- functions

bind_made : {A B C : Type 0} (make : A → B) (r : Read A) (f : B × List Token → Read C) → ((r >>= λ x. Ok (make x.0, x.1)) >>= f) ≡ (r >>= λ x. f (make x.0, x.1))
bind_made make (Ok x) f = refl
bind_made make (Err e) f = refl

module _ (place : ℕ) (name : List ℕ) (arguments : List Arg) (returns : AttrType) where
  abbrev Source : Statement → List Token → Type 0
  Source = Then IsWrittenFunction (λ source. Made (function place name arguments returns (function_parts source)) IsItemEnd)

  abbrev source_and_end_at : List Token → Read Statement
  source_and_end_at ts = function_clauses_at ts >>= λ parts. ending_at parts.1 >>= λ ended. Ok (function place name arguments returns parts.0 ended.0, ended.1)

  abbrev written_and_end_at : List Token → Read Statement
  written_and_end_at ts = written_function_at ts >>= λ source. ending_at source.1 >>= λ ended. Ok (function place name arguments returns (function_parts source.0) ended.0, ended.1)

  source_is : (ts : List Token) → written_and_end_at ts ≡ source_and_end_at ts
  unfolding function_clauses_at
  source_is ts = sym (bind_made function_parts (written_function_at ts) (λ parts. ending_at parts.1 >>= λ ended. Ok (function place name arguments returns parts.0 ended.0, ended.1)))

  source_law : {Before : Option Token → Type 0} → Lawful Before source_and_end_at Source StatementStops
  source_law {Before = Before} =
      subst (λ (read : List Token → Read Statement). Lawful Before read Source StatementStops) (fun_ext (λ ts. source_is ts))
      (then_after function_law (λ source. made (function place name arguments returns (function_parts source)) StatementStops (λ a o s. s) (λ a o s. s) ending_law)
      (λ source statement ts rest h s. function_stops source (first (ts ++ rest)) (ended_by (function place name arguments returns (function_parts source)) (λ b. refl) (codes "SETTINGS") statement ts rest h s)))

  type_follows : (v : Verdict Statement) (ts rest : List Token) → Standing Source v ts → passes_first (is_the_sign 40) (first (ts ++ rest)) ≡ false
  type_follows (falls e) ts rest h = absurd h
  type_follows (stands statement) ts rest h = no_sign_first 40 ts rest (begins_behind h.front h.back ts h.parts (source_begins h.value h.front h.before))

function_statement_law : {Before : Option Token → Type 0} → LawfulVerdict Before function_at IsFunction StatementStops
unfolding function_at
function_statement_law =
    then_judged (begin_law (codes "EXECUTABLE")) (λ place.
    then_judged (keyword (codes "FUNCTION")) (λ _.
    then_judged (bytes is_name Word refl) (λ name.
    judged_then_after arguments_law (λ arguments.
    then_judged (keyword (codes "RETURNS")) (λ _.
    judged_then_after type_law (λ type. standing (source_law place name arguments type))
    (λ type v ts rest h s. type_follows place name arguments type v ts rest h)))
    (λ arguments v ts rest h s. tt))))

-- ---- both

module _ {A : Type 0} (test : Token → Bool) {f g : List Token → Read A} {Own Other : Verdict A → List Token → Type 0} {Stops : A → Option Token → Type 0}
    (F : LawfulVerdict (Passes test) f Own Stops) (G : LawfulVerdict (Fails test) g Other Stops)
    (yes : (v : Verdict A) (own rest : List Token) → Own v own → Passes test (first (own ++ rest)))
    (no : (v : Verdict A) (own rest : List Token) → Other v own → Fails test (first (own ++ rest))) where
  choice_tells : (b : Bool) (ts : List Token) → cond b (f ts) (g ts) ≡ (cond b (F.judged ts) (G.judged ts) >>= λ x. told x.0 x.1)
  choice_tells true ts = F.tells ts
  choice_tells false ts = G.tells ts

  judged_by_first : {Before : Option Token → Type 0} → LawfulVerdict Before (λ ts. cond (passes test ts) (f ts) (g ts)) (Either Own Other) Stops
  judged_by_first = record {
    judged = λ ts. cond (passes test ts) (F.judged ts) (G.judged ts);
    tells = λ ts. choice_tells (passes test ts) ts;
    law = by_token test (VerdictStops Stops) F.law G.law yes (λ v own rest h s. no v own rest h) (λ v own o h s. s) (λ v own o h s. s) (λ v own rest h s e. s) (λ v own o h s. s);
  }

create_first : (v : Verdict Statement) (own rest : List Token) → IsDictionary v own → Passes (is_keyword (codes "CREATE")) (first (own ++ rest))
create_first v own rest h = let p = first_passes (is_keyword (codes "CREATE")) (λ t. t.place) _ v own rest h in ap (passes_first (is_keyword (codes "CREATE"))) p.1 ∙ p.2

no_create_first : (v : Verdict Statement) (own rest : List Token) → IsFunction v own → Fails (is_keyword (codes "CREATE")) (first (own ++ rest))
unfolding same_letters
no_create_first v own rest h =
    let p = first_passes (is_keyword (codes "EXECUTABLE")) (λ t. t.place) _ v own rest h in
    ap (passes_first (is_keyword (codes "CREATE"))) p.1 ∙ keywords_apart (codes "EXECUTABLE") (codes "CREATE") p.0 refl p.2

pub statement_law : {Before : Option Token → Type 0} → LawfulVerdict Before statement_at IsStatement StatementStops
unfolding statement_at
statement_law = judged_by_first (is_keyword (codes "CREATE")) dictionary_law function_statement_law create_first no_create_first

-- a statement begins with a keyword
pub statement_begins : (v : Verdict Statement) (own : List Token) → IsStatement v own → BeginsWithWord own
statement_begins v own (inl h) = word_begins (codes "CREATE") (λ t. t.place) _ v own h
statement_begins v own (inr h) = word_begins (codes "EXECUTABLE") (λ t. t.place) _ v own h
