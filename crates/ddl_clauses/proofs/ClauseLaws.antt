-- The clauses are read by their grammar: each part names the law that it is put together by.
use Rattle.std.proofs.Common.{◌≡◌, ℕ, Bool, true, false, cond, List, [], ◌∷◌, ◌++◌, Option, Some, None, Ok, refl, sym, ap, subst, ◌∙◌, inl, inr}
use Rattle.std.specs.Prelude.{codes}
use mathlib.Core.Path.{fun_ext}
use Rattle.std.proofs.lemmas.Bool.{cond-true, cond-false}
use Rattle.ddl_tokens.specs.declared.token.TokenKind.{TokenKind}
use Rattle.ddl_tokens.specs.declared.token.TokenKind.TheVariants.{Word, Number, String}
use Rattle.ddl_tokens.specs.declared.fault.SyntaxFault.TheVariants.{Unexpected, Unsupported}
use Rattle.ddl_tokens.specs.declared.letters.LetterCase.TheVariants.{Any}
use Rattle.ddl_tokens.specs.Letters.{same_letters}
use Rattle.ddl_tokens.specs.Tokens.{Token}
use Rattle.ddl_tokens.specs.Reading.{◌>>=◌, is_keyword, is_the_sign, is_word, is_name, is_number, is_string, of_kind, passes}
use Rattle.ddl_tokens.specs.Laws.{first, Anyhow, Lawful, IsKeyword, IsSign, Then, Either, Made, Optional, OptionalStops}
use Rattle.ddl_tokens.specs.Lists.{AddsOnce, Many, none, more, Step, has_all, has_number, next_once, once_of, kind_at, repeat, BeginsNone}
use Rattle.ddl_tokens.proofs.Laws.{Passes, Fails, by_token, bytes, headed, judged_ok, keyword, keywords_apart, made, optional, sign, signs_apart, stopping, test_cases, then, then_after}
use Rattle.ddl_tokens.proofs.Once.{in_any_order}
use Rattle.ddl_clauses.specs.declared.clause.Clause.{Clause}
use Rattle.ddl_clauses.specs.declared.clause.Clause.TheVariants as clause
use Rattle.ddl_clauses.specs.declared.clause.ClauseKind.{ClauseKind}
use Rattle.ddl_clauses.specs.declared.clause.ClauseKind.TheVariants as kind
use Rattle.ddl_clauses.specs.declared.settings.Owner.{Owner}
use Rattle.ddl_clauses.specs.declared.settings.Owner.TheVariants.{Dictionary, Function}
use Rattle.ddl_clauses.specs.declared.settings.Section.{Section}
use Rattle.ddl_clauses.specs.declared.settings.Setting.{Setting}
use Rattle.ddl_clauses.specs.Settings.{source_section, wanted_settings}
use Rattle.ddl_clauses.specs.Choices.{chosen_at, meant_by, source_kind_in, most_whole, most_short}
use Rattle.ddl_clauses.specs.Layouts.{all_layouts, layout_named, layout_section}
use Rattle.ddl_clauses.specs.SettingLists.{settings_in_brackets_at}
use Rattle.ddl_clauses.specs.Clauses.{source, layout, lifetime, range, or_empty, has_some, clause_number, number_of_clause, wanted_clauses, begun_clause, written_function}
use Rattle.ddl_clauses.specs.Reading.{dictionary_clauses_at, short_at, source_at, layout_settings_at, layout_at, min_max_at, max_min_at, bounds_at, lifetime_at, range_at, output_settings_at, comment_clause_at, dictionary_clause_at, clause_kind_ahead, next_dictionary_clause, output_if_there_at, written_function_at}
use Rattle.ddl_clauses.specs.Grammar.{IsChosen, IsWholeUpTo, AreSettingsInBrackets, IsSource, LeftOutUnless, IsLayout, IsMinMax, IsMaxMin, AreBounds, IsLifetime, IsRange, IsOutputSettings, IsCommentClause, IsDictionaryClause, AreDictionaryClauses, NoClauseFollows, IsWrittenFunction, FunctionStops}
use Rattle.ddl_clauses.specs.Parts.{dictionary_parts}
use Rattle.ddl_clauses.proofs.Chosen.{chosen, meant_placed}
use Rattle.ddl_clauses.proofs.SettingLaws.{word_law, whole_law, brackets_law}

-- ---- SOURCE

source_kind_law : {Before : Option Token → Type 0} → Lawful Before (chosen_at is_name (meant_by Unsupported source_kind_in)) (IsChosen is_name (meant_by Unsupported source_kind_in)) Anyhow
unfolding same_letters
source_kind_law = chosen is_name (meant_by Unsupported source_kind_in) refl (meant_placed Unsupported source_kind_in (λ p. refl)) Word (codes "EXECUTABLE") _ refl refl

pub source_law : {Before : Option Token → Type 0} (owner : Owner) → Lawful Before (source_at owner) (IsSource owner) Anyhow
unfolding source_at
source_law owner =
    then (keyword (codes "SOURCE")) (λ _.
    then (sign 40) (λ _.
    then source_kind_law (λ kind.
    then (brackets_law (source_section owner kind)) (λ settings.
    made (λ _. source kind settings) Anyhow (λ x o s. tt) (λ x o s. tt) (sign 41)))))

-- ---- LAYOUT

layout_name_law : {Before : Option Token → Type 0} → Lawful Before (chosen_at is_name (meant_by Unsupported (layout_named all_layouts))) (IsChosen is_name (meant_by Unsupported (layout_named all_layouts))) Anyhow
unfolding same_letters layout_named
layout_name_law = chosen is_name (meant_by Unsupported (layout_named all_layouts)) refl (meant_placed Unsupported (layout_named all_layouts) (λ p. refl)) Word (codes "FLAT") _ refl refl

-- where settings that may be left out stop
abbrev LeftStops : Bool → Option (List Setting) → Option Token → Type 0
LeftStops true settings next = Unit {0}
LeftStops false settings next = OptionalStops (is_the_sign 40) Anyhow settings next

layout_settings_law : {Before : Option Token → Type 0} (s : Section)
    → Lawful Before (layout_settings_at s) (LeftOutUnless (has_some (wanted_settings s)) (AreSettingsInBrackets s)) (LeftStops (has_some (wanted_settings s)))
unfolding layout_settings_at
layout_settings_law {Before = Before} s = at (has_some (wanted_settings s)) where
  at : (b : Bool) → Lawful Before
      (λ ts. cond b (settings_in_brackets_at s ts >>= λ x. Ok (Some x.0, x.1)) (cond (passes (is_the_sign 40) ts) (settings_in_brackets_at s ts >>= λ x. Ok (Some x.0, x.1)) (Ok (None, ts))))
      (LeftOutUnless b (AreSettingsInBrackets s)) (LeftStops b)
  at true = made (λ a. Some a) (λ a o. Unit {0}) (λ x o s. tt) (λ x o s. tt) (brackets_law s)
  at false = optional (is_the_sign 40) (λ a own h. first_sign a own h) (brackets_law s) where
    first_sign : (a : List Setting) (own : List Token) → AreSettingsInBrackets s a own → (t : Token) × (rest : List Token) × (own ≡ t ∷ rest) × (is_the_sign 40 t ≡ true)
    first_sign a own h = headed (is_the_sign 40) (λ _. tt {0}) _ a own h

left_at_sign : (b : Bool) (settings : Option (List Setting)) (t : Token) → is_the_sign 41 t ≡ true → LeftStops b settings (Some t)
unfolding same_letters
left_at_sign true settings t e = tt
left_at_sign false None t e = signs_apart 41 40 t refl e
left_at_sign false (Some settings) t e = tt

left_stops : {B : Type 0} (b : Bool) (settings : Option (List Setting)) (make : Unit {0} → B) (x : B) (ts rest : List Token) → Made make (IsSign 41) x ts → LeftStops b settings (first (ts ++ rest))
left_stops b settings make x ts rest h =
    let one = h.fits in
    subst (λ (us : List Token). LeftStops b settings (first (us ++ rest))) (sym one.parts)
    (left_at_sign b settings one.token (judged_ok (is_the_sign 41 one.token) tt h.from (Unexpected one.token.place) one.fine).0)

pub layout_law : {Before : Option Token → Type 0} → Lawful Before layout_at IsLayout Anyhow
unfolding layout_at
layout_law =
    then (keyword (codes "LAYOUT")) (λ _.
    then (sign 40) (λ _.
    then layout_name_law (λ name.
    then_after (layout_settings_law (layout_section name)) (λ settings. made (λ _. layout name (or_empty settings)) Anyhow (λ x o s. tt) (λ x o s. tt) (sign 41))
    (λ settings b ts rest h s. left_stops (has_some (wanted_settings (layout_section name))) settings (λ _. layout name (or_empty settings)) b ts rest h))))

-- ---- LIFETIME

short_law : {Before : Option Token → Type 0} → Lawful Before short_at (IsWholeUpTo most_short) Anyhow
unfolding short_at
short_law = whole_law most_short refl

min_max_law : {Before : Option Token → Type 0} → Lawful Before min_max_at IsMinMax Anyhow
unfolding min_max_at
min_max_law =
    then (keyword (codes "MIN")) (λ _.
    then short_law (λ least.
    then (keyword (codes "MAX")) (λ _.
    made (λ most. lifetime least most) Anyhow (λ x o s. tt) (λ x o s. tt) short_law)))

max_min_law : {Before : Option Token → Type 0} → Lawful Before max_min_at IsMaxMin Anyhow
unfolding max_min_at
max_min_law =
    then (keyword (codes "MAX")) (λ _.
    then short_law (λ most.
    then (keyword (codes "MIN")) (λ _.
    made (λ least. lifetime least most) Anyhow (λ x o s. tt) (λ x o s. tt) short_law)))

-- the keyword that comes first
keyword_first : {B : Type 0} {Next : Unit {0} → B → List Token → Type 0} (word : List ℕ) (b : B) (own : List Token) → Then (IsKeyword word) Next b own
    → (t : Token) × (rest : List Token) × (own ≡ t ∷ rest) × (is_keyword word t ≡ true)
keyword_first {Next = Next} word b own h = headed (is_keyword word) (λ _. tt {0}) Next b own h

-- a keyword is no number
keyword_no_number : (word : List ℕ) (t : Token) → is_keyword word t ≡ true → is_number t.kind ≡ false
unfolding is_keyword
keyword_no_number word t e = elim (test_cases (is_word t.kind) _ _ _ e) [
  | inr x ↦ absurd (let y = x.1 in cc)
  | inl x ↦ no_number t.kind x.0
] where
  no_number : (k : TokenKind) → is_word k ≡ true → is_number k ≡ false
  no_number Number h = absurd cc
  no_number _ h = refl

number_first : (n : ℕ) (own rest : List Token) → IsWholeUpTo most_short n own → Passes (of_kind is_number) (first (own ++ rest))
number_first n own rest h = elim (test_cases (is_number h.token.kind) _ _ _ h.fine) [
  | inr x ↦ absurd (let y = x.1 in cc)
  | inl x ↦ subst (λ (us : List Token). Passes (of_kind is_number) (first (us ++ rest))) (sym h.parts) x.0
]

-- what begins with a keyword doesn't begin with a number
no_number_first : {B : Type 0} {Next : Unit {0} → B → List Token → Type 0} (word : List ℕ) (b : B) (own rest : List Token) → Then (IsKeyword word) Next b own → Fails (of_kind is_number) (first (own ++ rest))
no_number_first word b own rest h =
    let p = keyword_first word b own h in
    subst (λ (us : List Token). Fails (of_kind is_number) (first (us ++ rest))) (sym p.2) (keyword_no_number word p.0 p.3)

either_law : Lawful (Fails (of_kind is_number)) (λ ts. cond (passes (is_keyword (codes "MIN")) ts) (min_max_at ts) (max_min_at ts)) (Either IsMinMax IsMaxMin) Anyhow
unfolding same_letters
either_law =
    by_token (is_keyword (codes "MIN")) Anyhow min_max_law max_min_law
    (λ a own rest h. let p = keyword_first (codes "MIN") a own h in subst (λ (us : List Token). Passes (is_keyword (codes "MIN")) (first (us ++ rest))) (sym p.2) p.3)
    (λ a own rest h s. let p = keyword_first (codes "MAX") a own h in subst (λ (us : List Token). Fails (is_keyword (codes "MIN")) (first (us ++ rest))) (sym p.2) (keywords_apart (codes "MAX") (codes "MIN") p.0 refl p.3))
    (λ a own o h s. tt) (λ a own o h s. tt) (λ a own rest h s e. tt) (λ a own o h s. tt)

bounds_law : {Before : Option Token → Type 0} → Lawful Before bounds_at AreBounds Anyhow
unfolding bounds_at
bounds_law =
    by_token (of_kind is_number) Anyhow (made (λ n. lifetime n n) Anyhow (λ x o s. tt) (λ x o s. tt) short_law) either_law
    (λ a own rest h. number_first h.from own rest h.fits)
    (λ a own rest h s. elim h [ inl k ↦ no_number_first (codes "MIN") a own rest k | inr k ↦ no_number_first (codes "MAX") a own rest k ])
    (λ a own o h s. tt) (λ a own o h s. tt) (λ a own rest h s e. tt) (λ a own o h s. tt)

lifetime_law : {Before : Option Token → Type 0} → Lawful Before lifetime_at IsLifetime Anyhow
unfolding lifetime_at
lifetime_law =
    then (keyword (codes "LIFETIME")) (λ _.
    then (sign 40) (λ _.
    then bounds_law (λ bounds.
    made (λ _. bounds) Anyhow (λ x o s. tt) (λ x o s. tt) (sign 41))))

-- ---- RANGE, SETTINGS, COMMENT

range_law : {Before : Option Token → Type 0} → Lawful Before range_at IsRange Anyhow
unfolding range_at
range_law =
    then (keyword (codes "RANGE")) (λ _.
    then (sign 40) (λ _.
    then (keyword (codes "MIN")) (λ _.
    then (bytes is_name Word refl) (λ start.
    then (keyword (codes "MAX")) (λ _.
    then (bytes is_name Word refl) (λ last.
    made (λ _. range start last) Anyhow (λ x o s. tt) (λ x o s. tt) (sign 41)))))))

pub output_settings_law : {Before : Option Token → Type 0} → Lawful Before output_settings_at IsOutputSettings Anyhow
unfolding output_settings_at
output_settings_law =
    then (keyword (codes "SETTINGS")) (λ _.
    then (sign 40) (λ _.
    then (word_law (codes "max_output_bytes")) (λ _.
    then (sign 61) (λ _.
    then (whole_law most_whole refl) (λ output.
    made (λ _. output) Anyhow (λ x o s. tt) (λ x o s. tt) (sign 41))))))

comment_law : {Before : Option Token → Type 0} → Lawful Before comment_clause_at IsCommentClause Anyhow
unfolding comment_clause_at
comment_law = then (keyword (codes "COMMENT")) (λ _. made (λ comment. comment) Anyhow (λ x o s. tt) (λ x o s. tt) (bytes is_string String refl))

-- ---- any of them

clause_law : (k : ClauseKind) → Lawful (λ _. Unit {0}) (dictionary_clause_at k) (IsDictionaryClause k) Anyhow
unfolding dictionary_clause_at
clause_law kind.Source = made clause.Source Anyhow (λ x o s. tt) (λ x o s. tt) (source_law Dictionary)
clause_law kind.Layout = made clause.Layout Anyhow (λ x o s. tt) (λ x o s. tt) layout_law
clause_law kind.Lifetime = made clause.Lifetime Anyhow (λ x o s. tt) (λ x o s. tt) lifetime_law
clause_law kind.Range = made clause.Range Anyhow (λ x o s. tt) (λ x o s. tt) range_law
clause_law kind.Settings = made clause.Settings Anyhow (λ x o s. tt) (λ x o s. tt) output_settings_law
clause_law kind.Comment = made clause.Comment Anyhow (λ x o s. tt) (λ x o s. tt) comment_law

-- a clause's keyword
abbrev clause_word : ClauseKind → List ℕ
clause_word kind.Source = codes "SOURCE"
clause_word kind.Layout = codes "LAYOUT"
clause_word kind.Lifetime = codes "LIFETIME"
clause_word kind.Range = codes "RANGE"
clause_word kind.Settings = codes "SETTINGS"
clause_word kind.Comment = codes "COMMENT"

clause_first : (k : ClauseKind) (a : Clause) (own : List Token) → IsDictionaryClause k a own → (t : Token) × (rest : List Token) × (own ≡ t ∷ rest) × (is_keyword (clause_word k) t ≡ true)
clause_first kind.Source a own h = keyword_first (codes "SOURCE") h.from own h.fits
clause_first kind.Layout a own h = keyword_first (codes "LAYOUT") h.from own h.fits
clause_first kind.Lifetime a own h = keyword_first (codes "LIFETIME") h.from own h.fits
clause_first kind.Range a own h = keyword_first (codes "RANGE") h.from own h.fits
clause_first kind.Settings a own h = keyword_first (codes "SETTINGS") h.from own h.fits
clause_first kind.Comment a own h = keyword_first (codes "COMMENT") h.from own h.fits

-- the test of an earlier keyword fails
past : (word other : List ℕ) (t : Token) (a b : Option ClauseKind) → same_letters Any word other ≡ false → is_keyword word t ≡ true → cond (is_keyword other t) a b ≡ b
past word other t a b apart e = cond-false (is_keyword other t) a b (keywords_apart word other t apart e)

kind_of_word : (k : ClauseKind) (t : Token) → is_keyword (clause_word k) t ≡ true → begun_clause t ≡ Some k
unfolding same_letters
kind_of_word kind.Source t e = cond-true (is_keyword (codes "SOURCE") t) _ _ e
kind_of_word kind.Layout t e = past (codes "LAYOUT") (codes "SOURCE") t _ _ refl e ∙ cond-true (is_keyword (codes "LAYOUT") t) _ _ e
kind_of_word kind.Lifetime t e =
    past (codes "LIFETIME") (codes "SOURCE") t _ _ refl e ∙ past (codes "LIFETIME") (codes "LAYOUT") t _ _ refl e ∙ cond-true (is_keyword (codes "LIFETIME") t) _ _ e
kind_of_word kind.Range t e =
    past (codes "RANGE") (codes "SOURCE") t _ _ refl e ∙ past (codes "RANGE") (codes "LAYOUT") t _ _ refl e ∙ past (codes "RANGE") (codes "LIFETIME") t _ _ refl e
    ∙ cond-true (is_keyword (codes "RANGE") t) _ _ e
kind_of_word kind.Settings t e =
    past (codes "SETTINGS") (codes "SOURCE") t _ _ refl e ∙ past (codes "SETTINGS") (codes "LAYOUT") t _ _ refl e ∙ past (codes "SETTINGS") (codes "LIFETIME") t _ _ refl e
    ∙ past (codes "SETTINGS") (codes "RANGE") t _ _ refl e ∙ cond-true (is_keyword (codes "SETTINGS") t) _ _ e
kind_of_word kind.Comment t e =
    past (codes "COMMENT") (codes "SOURCE") t _ _ refl e ∙ past (codes "COMMENT") (codes "LAYOUT") t _ _ refl e ∙ past (codes "COMMENT") (codes "LIFETIME") t _ _ refl e
    ∙ past (codes "COMMENT") (codes "RANGE") t _ _ refl e ∙ past (codes "COMMENT") (codes "SETTINGS") t _ _ refl e ∙ cond-true (is_keyword (codes "COMMENT") t) _ _ e

clause_numbered : (k : ClauseKind) (a : Clause) (own : List Token) → IsDictionaryClause k a own → number_of_clause a ≡ clause_number k
clause_numbered kind.Source a own h = ap number_of_clause h.is
clause_numbered kind.Layout a own h = ap number_of_clause h.is
clause_numbered kind.Lifetime a own h = ap number_of_clause h.is
clause_numbered kind.Range a own h = ap number_of_clause h.is
clause_numbered kind.Settings a own h = ap number_of_clause h.is
clause_numbered kind.Comment a own h = ap number_of_clause h.is

-- ---- the list of clauses

kind_ahead_is : (ts : List Token) → kind_at (λ t. Ok (begun_clause t)) ts ≡ Ok (clause_kind_ahead ts)
unfolding kind_at clause_kind_ahead passes
kind_ahead_is [] = refl
kind_ahead_is (t ∷ ts) = refl

step_is : (before : List Clause) (ts : List Token) → next_once (λ t. Ok (begun_clause t)) dictionary_clause_at clause_number number_of_clause wanted_clauses before ts ≡ next_dictionary_clause before ts
unfolding next_once next_dictionary_clause
step_is before ts = ap (λ r. r >>= λ o. once_of dictionary_clause_at clause_number number_of_clause wanted_clauses before ts o) (kind_ahead_is ts)

none_follows : (a : List Clause) (o : Option Token) → BeginsNone (λ t. Ok (begun_clause t)) a o → NoClauseFollows a o
none_follows a None h = tt
none_follows a (Some t) h = cc

follows_none : (a : List Clause) (o : Option Token) → NoClauseFollows a o → BeginsNone (λ t. Ok (begun_clause t)) a o
follows_none a None h = tt
follows_none a (Some t) h = ap (λ k. Ok k) h

pub written_clauses_law : {Before : Option Token → Type 0} → Lawful Before (repeat next_dictionary_clause []) AreDictionaryClauses NoClauseFollows
written_clauses_law {Before = Before} =
    subst (λ (step : Step (List Clause)). Lawful Before (repeat step []) AreDictionaryClauses NoClauseFollows) (fun_ext (λ before. fun_ext (λ ts. step_is before ts)))
    (stopping (λ a own o h x. none_follows a o x) (λ a own o h x. follows_none a o x)
    (in_any_order (kind.Source ∷ kind.Layout ∷ []) (λ t e h. absurd (let x = h in cc)) clause_law
    (λ k a own h. let p = clause_first k a own h in (p.0, p.1, p.2, ap (λ x. Ok x) (kind_of_word k p.0 p.3))) clause_numbered))

-- the clauses begin with a keyword, as some must be there
pub clauses_begin : (clauses : List Clause) (ts : List Token) → AreDictionaryClauses clauses ts → (t : Token) × (rest : List Token) × (word : List ℕ) × (ts ≡ t ∷ rest) × (is_keyword word t ≡ true)
unfolding has_all has_number
clauses_begin clauses ts h = at [] clauses ts h.0 refl h.1 where
  at : (a b : List Clause) (us : List Token) → Many (AddsOnce clause_number number_of_clause IsDictionaryClause) a b us → a ≡ [] → has_all number_of_clause wanted_clauses b ≡ true
      → (t : Token) × (rest : List Token) × (word : List ℕ) × (us ≡ t ∷ rest) × (is_keyword word t ≡ true)
  at a b us (none e k) z w = absurd (let lacks = subst (λ (c : List Clause). has_all number_of_clause wanted_clauses c ≡ true) (sym e ∙ z) w in cc)
  at a b us (more {own = own} {rest = rest} e x m) z w =
      let p = clause_first x.kind x.item own x.fits in
      (p.0, p.1 ++ rest, clause_word x.kind, e ∙ ap (λ (vs : List Token). vs ++ rest) p.2, p.3)

-- ---- a function

output_law : {Before : Option Token → Type 0} → Lawful Before output_if_there_at (Optional IsOutputSettings) (OptionalStops (is_keyword (codes "SETTINGS")) Anyhow)
unfolding output_if_there_at
output_law = optional (is_keyword (codes "SETTINGS")) (λ a own h. keyword_first (codes "SETTINGS") a own h) output_settings_law

pub function_law : {Before : Option Token → Type 0} → Lawful Before written_function_at IsWrittenFunction FunctionStops
unfolding written_function_at
function_law = then (source_law Function) (λ source. made (written_function source) FunctionStops (λ a o s. s) (λ a o s. s) output_law)

-- ---- what is said by them

same_stop : (a : List Clause) (o : Option Token) → NoClauseFollows a o → NoClauseFollows (dictionary_parts a) o
same_stop a None h = tt
same_stop a (Some t) h = h

same_stop_back : (a : List Clause) (o : Option Token) → NoClauseFollows (dictionary_parts a) o → NoClauseFollows a o
same_stop_back a None h = tt
same_stop_back a (Some t) h = h

pub dictionary_clauses_law : {Before : Option Token → Type 0} → Lawful Before dictionary_clauses_at (Made dictionary_parts AreDictionaryClauses) NoClauseFollows
unfolding dictionary_clauses_at
dictionary_clauses_law = made dictionary_parts NoClauseFollows same_stop same_stop_back written_clauses_law
