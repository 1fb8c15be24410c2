-- Clauses are written by their grammar, and mean the parts of the definition again.
use Rattle.std.proofs.Common.{◌≡◌, ◌≤◌, ℕ, Bool, false, cond, List, [], ◌∷◌, ◌++◌, Option, Some, None, refl, ap, ◌∙◌, inl, inr, arith, decimal, append_assoc}
use Rattle.std.specs.Prelude.{codes}
use Rattle.dict_schema.specs.declared.definition.Definition.{Definition}
use Rattle.dict_schema.specs.declared.definition.Lifetime.{Lifetime}
use Rattle.dict_schema.specs.declared.definition.RangeOf.{RangeOf}
use Rattle.dict_schema.specs.declared.definition.RangeOf.TheVariants as range
use Rattle.ddl_tokens.specs.declared.fault.SyntaxFault.TheVariants.{UnknownSetting}
use Rattle.ddl_tokens.specs.declared.letters.LetterCase.TheVariants.{Any}
use Rattle.ddl_tokens.specs.declared.token.TokenKind.TheVariants.{Word}
use Rattle.ddl_tokens.specs.Tokens.{Token}
use Rattle.ddl_tokens.specs.Reading.{is_name, is_string}
use Rattle.ddl_tokens.specs.Laws.{judged}
use Rattle.ddl_tokens.specs.Lists.{AddsOnce, Many, has_all, has_number}
use Rattle.ddl_tokens.proofs.Laws.{same_itself}
use Rattle.ddl_clauses.specs.declared.clause.Clause.{Clause}
use Rattle.ddl_clauses.specs.declared.clause.Clause.TheVariants as clause
use Rattle.ddl_clauses.specs.declared.clause.ClauseKind.TheVariants as kind
use Rattle.ddl_clauses.specs.declared.clause.RangeNames.{RangeNames}
use Rattle.ddl_clauses.specs.declared.clause.WrittenLayout.{WrittenLayout}
use Rattle.ddl_clauses.specs.declared.clause.WrittenSource.{WrittenSource}
use Rattle.ddl_clauses.specs.declared.settings.Owner.TheVariants.{Dictionary}
use Rattle.ddl_clauses.specs.Choices.{choice, meant_by, most_short, most_whole, or_fault, word_in}
use Rattle.ddl_clauses.specs.Clauses.{clause_number, layout as written_layout, lifetime, number_of_clause, range as range_names, source}
use Rattle.ddl_clauses.specs.Grammar.{AreDictionaryClauses, IsDictionaryClause, IsLifetime, IsOutputSettings, IsRange}
use Rattle.ddl_clauses.specs.Parts.{clause_of_kind, dictionary_parts}
use Rattle.ddl_writing.specs.Canonical.{column_name_text, comment_text, layout_clause, lifetime_text, output_text, range_text, source_text}
use Rattle.ddl_writing.specs.Quoted.{string_text}
use Rattle.ddl_writing.specs.Words.{word_text}
use Rattle.ddl_text.specs.Again.{SourceFits, LifetimeFits}
use Rattle.ddl_text.proofs.Spelt.{Apart, Writes, apart_blank, apart_close, apart_open, at_text, blank_first, fit, keyword_written, last_of, made_written, once_more, sign_written, then_written, token_of, word_at}
use Rattle.ddl_text.proofs.Quoting.{string_at}
use Rattle.ddl_text.proofs.ColumnTexts.{HasColumn, name_of_place, place_name_written}
use Rattle.ddl_text.proofs.SettingTexts.{whole_up_to}
use Rattle.ddl_text.proofs.SourceTexts.{KindAgain, SourceAgain, UpdateAgain, dictionary_source, kept_whole, source_spelled}
use Rattle.ddl_text.proofs.LayoutTexts.{IsLayoutAgain, LayoutAgain, layout_again}

-- ---- LIFETIME

lifetime_spelled : (l : Lifetime) (rest : List ℕ) → lifetime_text l ++ rest ≡ codes " LIFETIME(MIN " ++ (decimal l.min ++ (codes " MAX " ++ (decimal l.max ++ (41 ∷ rest))))
unfolding word_text
lifetime_spelled l rest =
    ap (λ (u : List ℕ). codes " LIFETIME(MIN " ++ u)
    (append_assoc (decimal l.min) ((codes " MAX " ++ decimal l.max) ++ codes ")") rest ∙ ap (λ (u : List ℕ). decimal l.min ++ (codes " MAX " ++ u)) (append_assoc (decimal l.max) (codes ")") rest))

lifetime_written : (l : Lifetime) (rest : List ℕ) → LifetimeFits l → Writes (lifetime_text l ++ rest) (IsLifetime l) rest
lifetime_written l rest h =
    let last = decimal l.max ++ (41 ∷ rest) in
    let first = decimal l.min ++ (codes " MAX " ++ last) in
    at_text (lifetime_spelled l rest)
    (blank_first (then_written tt (keyword_written (codes "LIFETIME") (codes "(MIN " ++ first) (codes "LIFETIME") refl (same_itself Any (codes "LIFETIME")) (apart_open _))
    (then_written tt (sign_written 40 (codes "MIN " ++ first) refl)
    (then_written l
    (fit (λ own f. inr (inl f))
    (then_written tt (keyword_written (codes "MIN") (32 ∷ first) (codes "MIN") refl (same_itself Any (codes "MIN")) (apart_blank first))
    (then_written l.min (blank_first (whole_up_to most_short l.min (codes " MAX " ++ last) h.min (omega arith) (apart_blank _)))
    (then_written tt (blank_first (keyword_written (codes "MAX") (32 ∷ last) (codes "MAX") refl (same_itself Any (codes "MAX")) (apart_blank last)))
    (made_written (λ most. lifetime l.min most) l l.max refl (blank_first (whole_up_to most_short l.max (41 ∷ rest) h.max (omega arith) (apart_close rest))))))))
    (made_written (λ _. l) l tt refl (sign_written 41 rest refl))))))

-- ---- RANGE

range_spelled : (d : Definition) (start end : ℕ) (rest : List ℕ)
    → range_text d (range.Columns start end) ++ rest ≡ codes " RANGE(MIN " ++ (column_name_text d start ++ (codes " MAX " ++ (column_name_text d end ++ (41 ∷ rest))))
unfolding word_text
range_spelled d start end rest =
    ap (λ (u : List ℕ). codes " RANGE(MIN " ++ u)
    (append_assoc (column_name_text d start) (codes " MAX " ++ (column_name_text d end ++ codes ")")) rest
    ∙ ap (λ (u : List ℕ). column_name_text d start ++ (codes " MAX " ++ u)) (append_assoc (column_name_text d end) (codes ")") rest))

abbrev pub names_at : Definition → ℕ → ℕ → RangeNames
names_at d start end = range_names (name_of_place d start) (name_of_place d end)

range_written : (d : Definition) (start end : ℕ) (rest : List ℕ) → HasColumn d start → HasColumn d end → Writes (range_text d (range.Columns start end) ++ rest) (IsRange (names_at d start end)) rest
range_written d start end rest has_start has_end =
    let last = column_name_text d end ++ (41 ∷ rest) in
    let first = column_name_text d start ++ (codes " MAX " ++ last) in
    at_text (range_spelled d start end rest)
    (blank_first (then_written tt (keyword_written (codes "RANGE") (codes "(MIN " ++ first) (codes "RANGE") refl (same_itself Any (codes "RANGE")) (apart_open _))
    (then_written tt (sign_written 40 (codes "MIN " ++ first) refl)
    (then_written tt (keyword_written (codes "MIN") (32 ∷ first) (codes "MIN") refl (same_itself Any (codes "MIN")) (apart_blank first))
    (then_written (name_of_place d start) (blank_first (place_name_written d start (codes " MAX " ++ last) has_start (apart_blank _)))
    (then_written tt (blank_first (keyword_written (codes "MAX") (32 ∷ last) (codes "MAX") refl (same_itself Any (codes "MAX")) (apart_blank last)))
    (then_written (name_of_place d end) (blank_first (place_name_written d end (41 ∷ rest) has_end (apart_close rest)))
    (made_written (λ _. names_at d start end) (names_at d start end) tt refl (sign_written 41 rest refl)))))))))

-- ---- SETTINGS

output_spelled : (n : ℕ) (rest : List ℕ) → output_text n ++ rest ≡ codes " SETTINGS(max_output_bytes = " ++ (decimal n ++ (41 ∷ rest))
unfolding word_text
output_spelled n rest = ap (λ (u : List ℕ). codes " SETTINGS(max_output_bytes = " ++ u) (append_assoc (decimal n) (codes ")") rest)

pub output_written : (n : ℕ) (rest : List ℕ) → n ≤ most_short → Writes (output_text n ++ rest) (IsOutputSettings n) rest
output_written n rest small =
    let last = decimal n ++ (41 ∷ rest) in
    at_text (output_spelled n rest)
    (blank_first (then_written tt (keyword_written (codes "SETTINGS") (codes "(max_output_bytes = " ++ last) (codes "SETTINGS") refl (same_itself Any (codes "SETTINGS")) (apart_open _))
    (then_written tt (sign_written 40 (codes "max_output_bytes = " ++ last) refl)
    (then_written tt
    (λ place. word_at place (codes "max_output_bytes") (codes " = " ++ last) (choice is_name (meant_by UnknownSetting (word_in (codes "max_output_bytes")))) tt refl (apart_blank _)
    (ap (λ (b : Bool). or_fault (UnknownSetting (token_of place Word (codes "max_output_bytes")).place) (cond b (Some (tt {0})) None)) (same_itself Any (codes "max_output_bytes"))))
    (then_written tt (blank_first (sign_written 61 (32 ∷ last) refl))
    (then_written n (blank_first (whole_up_to most_whole n (41 ∷ rest) (omega (arith, small)) (omega arith) (apart_close rest)))
    (made_written (λ _. n) n tt refl (sign_written 41 rest refl))))))))

-- ---- the clauses of a dictionary

abbrev Clauses : List Clause → List Clause → List Token → Type 0
Clauses = Many (AddsOnce clause_number number_of_clause IsDictionaryClause)

-- those behind the range
abbrev with_last : List Clause → ℕ → List ℕ → List Clause
with_last a n [] = a ++ clause.Settings n ∷ []
with_last a n (b ∷ text) = (a ++ clause.Settings n ∷ []) ++ clause.Comment (b ∷ text) ∷ []

last_clauses : (a : List Clause) (n : ℕ) (text rest : List ℕ) → has_number number_of_clause 4 a ≡ false → has_number number_of_clause 5 (a ++ clause.Settings n ∷ []) ≡ false → n ≤ most_short → Apart rest
    → Writes (output_text n ++ (comment_text text ++ rest)) (Clauses a (with_last a n text)) rest
unfolding word_text
last_clauses a n [] rest once later small apart =
    once_more kind.Settings (clause.Settings n) once (made_written clause.Settings (clause.Settings n) n refl (output_written n rest small)) (last_of _ rest)
last_clauses a n (b ∷ text) rest once later small apart =
    once_more kind.Settings (clause.Settings n) once (made_written clause.Settings (clause.Settings n) n refl (output_written n (codes " COMMENT " ++ (string_text (b ∷ text) ++ rest)) small))
    (once_more kind.Comment (clause.Comment (b ∷ text)) later
    (made_written clause.Comment (clause.Comment (b ∷ text)) (b ∷ text) refl
    (blank_first (then_written tt (keyword_written (codes "COMMENT") (32 ∷ (string_text (b ∷ text) ++ rest)) (codes "COMMENT") refl (same_itself Any (codes "COMMENT")) (apart_blank _))
    (made_written (λ comment. comment) (b ∷ text) (b ∷ text) refl
    (blank_first (λ place. string_at place (b ∷ text) rest (judged (λ (t : Token). is_string t.kind) (λ (t : Token). t.bytes)) (b ∷ text) apart refl))))))
    (last_of _ rest))

-- the names of a range that is written
abbrev pub names_of : Definition → RangeOf → Option RangeNames
names_of d range.None = None
names_of d (range.Columns start end) = Some (names_at d start end)

abbrev pub EndsExist : Definition → RangeOf → Type 0
EndsExist d range.None = Unit {0}
EndsExist d (range.Columns start end) = HasColumn d start × HasColumn d end

-- the clauses mean what they are written of
pub record ClausesAgain (d : Definition) (r : RangeOf) (text rest : List ℕ) : Type 0 where
  pub clauses : List Clause
  pub written : Writes (source_text false d.source ++ (layout_clause d.layout ++ (lifetime_text d.lifetime ++ (range_text d r ++ (output_text d.max_output ++ (comment_text text ++ rest)))))) (AreDictionaryClauses clauses) rest
  pub source_is : d.source ≡ (dictionary_parts clauses).source
  pub layout_is : d.layout ≡ (dictionary_parts clauses).layout
  pub lifetime_is : d.lifetime ≡ (dictionary_parts clauses).lifetime
  pub range_is : names_of d r ≡ (dictionary_parts clauses).range
  pub output_is : d.max_output ≡ (dictionary_parts clauses).max_output
  pub comment_is : text ≡ (dictionary_parts clauses).comment

-- what a definition has to be for its clauses to be read again
pub record IsClausesAgain (d : Definition) (r : RangeOf) : Type 0 where
  pub short : SourceFits d.source
  pub kept : KindAgain d.source.kind d.source
  pub used : UpdateAgain false d.source.kind d.source.update
  pub layout : IsLayoutAgain d.layout
  pub lifetime : LifetimeFits d.lifetime
  pub output : d.max_output ≤ most_short
  pub ends : EndsExist d r

abbrev first_clauses : WrittenSource → WrittenLayout → Lifetime → List Clause
first_clauses source layout lifetime = clause.Source source ∷ clause.Layout layout ∷ clause.Lifetime lifetime ∷ []

first_three : (d : Definition) (behind rest : List ℕ) (c : List Clause) → LifetimeFits d.lifetime
    → (s : SourceAgain Dictionary false d.source.kind d.source.update d.source (layout_clause d.layout ++ (lifetime_text d.lifetime ++ behind))) → (l : LayoutAgain d.layout (lifetime_text d.lifetime ++ behind))
    → Writes behind (Clauses (first_clauses (source d.source.kind s.settings) (written_layout l.name l.settings) d.lifetime) c) rest
    → Writes (source_text false d.source ++ (layout_clause d.layout ++ (lifetime_text d.lifetime ++ behind))) (Clauses [] c) rest
unfolding has_number
first_three d behind rest c h s l more =
    at_text (source_spelled false d.source (layout_clause d.layout ++ (lifetime_text d.lifetime ++ behind)))
    (once_more kind.Source (clause.Source (source d.source.kind s.settings)) refl (made_written clause.Source (clause.Source (source d.source.kind s.settings)) (source d.source.kind s.settings) refl s.written)
    (once_more kind.Layout (clause.Layout (written_layout l.name l.settings)) refl (made_written clause.Layout (clause.Layout (written_layout l.name l.settings)) (written_layout l.name l.settings) refl l.written)
    (once_more kind.Lifetime (clause.Lifetime d.lifetime) refl (made_written clause.Lifetime (clause.Lifetime d.lifetime) d.lifetime refl (lifetime_written d.lifetime behind h)) more)))

pub clauses_again : (d : Definition) (r : RangeOf) (text rest : List ℕ) → IsClausesAgain d r → Apart rest → ClausesAgain d r text rest
unfolding has_all has_number clause_of_kind
clauses_again d range.None [] rest h apart =
    let behind = range_text d range.None ++ (output_text d.max_output ++ (comment_text [] ++ rest)) in
    let l = layout_again d.layout (lifetime_text d.lifetime ++ behind) h.layout in
    let s = dictionary_source d.source.kind d.source.update d.source (layout_clause d.layout ++ (lifetime_text d.lifetime ++ behind)) h.short h.kept h.used in
    let all = with_last (first_clauses (source d.source.kind s.settings) (written_layout l.name l.settings) d.lifetime) d.max_output [] in
    record {
      clauses = all;
      written = fit (λ own f. (f, refl)) (first_three d behind rest all h.lifetime s l (last_clauses (first_clauses (source d.source.kind s.settings) (written_layout l.name l.settings) d.lifetime) d.max_output [] rest refl refl h.output apart));
      source_is = s.means;
      layout_is = l.means;
      lifetime_is = refl;
      range_is = refl;
      output_is = kept_whole d.max_output h.output;
      comment_is = refl;
    }
clauses_again d range.None (b ∷ text) rest h apart =
    let behind = range_text d range.None ++ (output_text d.max_output ++ (comment_text (b ∷ text) ++ rest)) in
    let l = layout_again d.layout (lifetime_text d.lifetime ++ behind) h.layout in
    let s = dictionary_source d.source.kind d.source.update d.source (layout_clause d.layout ++ (lifetime_text d.lifetime ++ behind)) h.short h.kept h.used in
    let all = with_last (first_clauses (source d.source.kind s.settings) (written_layout l.name l.settings) d.lifetime) d.max_output (b ∷ text) in
    record {
      clauses = all;
      written = fit (λ own f. (f, refl)) (first_three d behind rest all h.lifetime s l (last_clauses (first_clauses (source d.source.kind s.settings) (written_layout l.name l.settings) d.lifetime) d.max_output (b ∷ text) rest refl refl h.output apart));
      source_is = s.means;
      layout_is = l.means;
      lifetime_is = refl;
      range_is = refl;
      output_is = kept_whole d.max_output h.output;
      comment_is = refl;
    }
clauses_again d (range.Columns start end) [] rest h apart =
    let behind = range_text d (range.Columns start end) ++ (output_text d.max_output ++ (comment_text [] ++ rest)) in
    let l = layout_again d.layout (lifetime_text d.lifetime ++ behind) h.layout in
    let s = dictionary_source d.source.kind d.source.update d.source (layout_clause d.layout ++ (lifetime_text d.lifetime ++ behind)) h.short h.kept h.used in
    let all = with_last (first_clauses (source d.source.kind s.settings) (written_layout l.name l.settings) d.lifetime ++ clause.Range (names_at d start end) ∷ []) d.max_output [] in
    record {
      clauses = all;
      written = fit (λ own f. (f, refl)) (first_three d behind rest all h.lifetime s l (once_more kind.Range (clause.Range (names_at d start end)) refl (made_written clause.Range (clause.Range (names_at d start end)) (names_at d start end) refl (range_written d start end (output_text d.max_output ++ (comment_text [] ++ rest)) h.ends.0 h.ends.1)) (last_clauses (first_clauses (source d.source.kind s.settings) (written_layout l.name l.settings) d.lifetime ++ clause.Range (names_at d start end) ∷ []) d.max_output [] rest refl refl h.output apart)));
      source_is = s.means;
      layout_is = l.means;
      lifetime_is = refl;
      range_is = refl;
      output_is = kept_whole d.max_output h.output;
      comment_is = refl;
    }
clauses_again d (range.Columns start end) (b ∷ text) rest h apart =
    let behind = range_text d (range.Columns start end) ++ (output_text d.max_output ++ (comment_text (b ∷ text) ++ rest)) in
    let l = layout_again d.layout (lifetime_text d.lifetime ++ behind) h.layout in
    let s = dictionary_source d.source.kind d.source.update d.source (layout_clause d.layout ++ (lifetime_text d.lifetime ++ behind)) h.short h.kept h.used in
    let all = with_last (first_clauses (source d.source.kind s.settings) (written_layout l.name l.settings) d.lifetime ++ clause.Range (names_at d start end) ∷ []) d.max_output (b ∷ text) in
    record {
      clauses = all;
      written = fit (λ own f. (f, refl)) (first_three d behind rest all h.lifetime s l (once_more kind.Range (clause.Range (names_at d start end)) refl (made_written clause.Range (clause.Range (names_at d start end)) (names_at d start end) refl (range_written d start end (output_text d.max_output ++ (comment_text (b ∷ text) ++ rest)) h.ends.0 h.ends.1)) (last_clauses (first_clauses (source d.source.kind s.settings) (written_layout l.name l.settings) d.lifetime ++ clause.Range (names_at d start end) ∷ []) d.max_output (b ∷ text) rest refl refl h.output apart)));
      source_is = s.means;
      layout_is = l.means;
      lifetime_is = refl;
      range_is = refl;
      output_is = kept_whole d.max_output h.output;
      comment_is = refl;
    }
