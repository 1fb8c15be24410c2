-- The canonical text of an item is read as the item again.
use Rattle.std.proofs.Common.{◌≡◌, ◌≢◌, ◌≤◌, ◌+◌, ℕ, Bool, true, false, cond, List, [], ◌∷◌, ◌++◌, length, map, Some, None, Ok, Err, refl, sym, ap, subst, ◌∙◌, inl, inr, arith, append_assoc, append-nil}
use Rattle.std.specs.Prelude.{codes, slice_get}
use Rattle.std.specs.List.{AllByRecursion, flat_map, range_with_len}
use Rattle.std.proofs.lemmas.Bool.{cases_Bool, cases_lt}
use Rattle.dict_schema.specs.declared.definition.Arg.{Arg}
use Rattle.dict_schema.specs.declared.definition.Column.{Column}
use Rattle.dict_schema.specs.declared.definition.Definition.{Definition}
use Rattle.dict_schema.specs.declared.definition.FunctionDef.{FunctionDef}
use Rattle.dict_schema.specs.declared.definition.Item.{Item}
use Rattle.dict_schema.specs.declared.definition.Item.TheVariants as item
use Rattle.dict_schema.specs.declared.definition.Kind.{Kind}
use Rattle.dict_schema.specs.declared.definition.Kind.TheVariants.{Executable, Pool}
use Rattle.dict_schema.specs.declared.definition.Layout.{Layout}
use Rattle.dict_schema.specs.declared.definition.Layout.TheVariants as layout
use Rattle.dict_schema.specs.declared.definition.SourceOf.{SourceOf}
use Rattle.dict_schema.specs.declared.definition.Update.{Update}
use Rattle.dict_schema.specs.declared.definition.Update.TheVariants as update
use Rattle.dict_schema.specs.declared.fault.DefFault.TheVariants as fault
use Rattle.dict_schema.specs.declared.fault.Which.{Which}
use Rattle.dict_schema.specs.declared.fault.Which.TheVariants as which
use Rattle.dict_schema.specs.Judging.{AreClear, IsClear}
use Rattle.dict_schema.specs.Parts.{argument_names, is_attribute, is_keyed_layout, is_updated_layout}
use Rattle.dict_schema.specs.Sound.{IsSound, IsSoundFunction, IsSoundItem, IsSoundType}
use Rattle.dict_schema.specs.Table.{LayoutWithin, NamesWithin, Within, arguments, function_counts, function_settings, function_source as source_rules, function_table, table}
use Rattle.ddl_tokens.specs.declared.fault.SyntaxFault.TheVariants.{Unexpected}
use Rattle.ddl_tokens.specs.declared.letters.LetterCase.TheVariants.{Any}
use Rattle.ddl_tokens.specs.declared.token.TokenKind.TheVariants.{Word, End}
use Rattle.ddl_tokens.specs.Tokens.{Token}
use Rattle.ddl_tokens.specs.Reading.{is_keyword}
use Rattle.ddl_tokens.specs.Laws.{judged}
use Rattle.ddl_tokens.specs.Verdicts.{stands}
use Rattle.ddl_tokens.proofs.Laws.{same_itself}
use Rattle.ddl_columns.specs.Grammar.{AreColumns, IsKey}
use Rattle.ddl_clauses.specs.Choices.{most_short}
use Rattle.ddl_clauses.specs.Clauses.{source, written_function}
use Rattle.ddl_clauses.specs.Parts.{dictionary_parts, function_parts}
use Rattle.ddl_writing.specs.Canonical.{arguments_text, clauses_text, columns_text, comment_text, definition_text, function_text, item_text, keys_text, layout_clause, lifetime_text, listed_column, output_text, range_text, signature_text, source_text, table_text, type_text}
use Rattle.ddl_writing.specs.Quoted.{name_text}
use Rattle.ddl_writing.specs.Words.{word_text}
use Rattle.ddl_writing.proofs.Defaults.{clear_behind, clear_front, defaults_fit}
use Rattle.ddl_text.specs.declared.statement.Statement.{Statement}
use Rattle.ddl_text.specs.Statements.{dictionary, function, pointed}
use Rattle.ddl_text.specs.Grammar.{IsBegun, IsStatement}
use Rattle.ddl_text.specs.Items.{IsTakenItem, count_of, is_named, item_of, key_places, range_of, rules_of, settled_from}
use Rattle.ddl_text.specs.Files.{AreItems, AreItemsFrom, last}
use Rattle.ddl_text.specs.Again.{Defines, DefinitionFits, LagFits, LayoutFits, NumbersFit, SourceFits, TextHas, TextHasDefinition, TextHasFunction, TextHasLayout, TextHasPool, TextHasUpdate}
use Rattle.ddl_text.proofs.Spelt.{Apart, Spells, Writes, apart_blank, apart_end, at_text, blank_first, fit, is_bare, keyword_written, made_written, nothing_written, then_at, then_written, token_of, whole_text, word_at}
use Rattle.ddl_text.proofs.TypeTexts.{type_written}
use Rattle.ddl_text.proofs.ColumnTexts.{AreFrom, AreWritten, HasColumn, IsWritten, arguments_written, columns_written, keys_written, name_of_place, name_written}
use Rattle.ddl_text.proofs.SourceTexts.{KindAgain, UpdateAgain, function_source, kept_whole, source_spelled}
use Rattle.ddl_text.proofs.LayoutTexts.{IsLayoutAgain}
use Rattle.ddl_text.proofs.ClauseTexts.{ClausesAgain, IsClausesAgain, clauses_again, output_written}
use Rattle.ddl_text.proofs.Restored.{all_at, all_each, clear_settings, clear_sources, columns_again, ends_exist, keys_again, keys_exist, range_again, some_key, stable_fit}

-- ---- what soundness gives

below : (which : Which) (least most n : ℕ) → IsClear (Within which least most n) → n ≤ most
below which least most n clear = elim (cases_lt most n) [
  | inl above ↦ absurd (clear (fault.Limit which n) (refl, inr above))
  | inr low ↦ low
]

kind_again : (k : Kind) (s : SourceOf) → s.pool_size ≤ 1024 → s.execution_s ≤ most_short → TextHasPool k s → KindAgain k s
kind_again Executable s small short h = h
kind_again Pool s small short h = (omega (arith, small), short)

keyed_not_updated : (l : Layout) → is_keyed_layout l ≡ true → is_updated_layout l ≡ false
keyed_not_updated (layout.Flat initial most) e = absurd cc
keyed_not_updated layout.Hashed e = absurd cc
keyed_not_updated layout.SparseHashed e = absurd cc
keyed_not_updated layout.HashedArray e = absurd cc
keyed_not_updated layout.ComplexHashed e = absurd cc
keyed_not_updated layout.ComplexSparseHashed e = absurd cc
keyed_not_updated layout.ComplexHashedArray e = absurd cc
keyed_not_updated l e = refl

update_again : (k : Kind) (u : Update) → (k ≡ Pool → u ≢ update.None → ⊥) → LagFits u → TextHasUpdate u → UpdateAgain false k u
update_again k update.None none fits h = tt
update_again Executable (update.Field name lag) none fits h = (h, fits)
update_again Pool (update.Field name lag) none fits h = none refl (λ e. absurd cc)

no_update : (k : Kind) (u : Update) → (u ≢ update.None → ⊥) → UpdateAgain true k u
no_update k update.None none = tt
no_update k (update.Field name lag) none = absurd (none (λ e. absurd cc))

layout_again_of : (l : Layout) → IsClear (LayoutWithin l) → LayoutFits l → TextHasLayout l → IsLayoutAgain l
layout_again_of (layout.Flat initial most) clear fits h = let b = below which.ArraySize 1 16777216 most clear in (fits, omega (arith, b))
layout_again_of layout.Hashed clear fits h = tt
layout_again_of layout.SparseHashed clear fits h = tt
layout_again_of layout.HashedArray clear fits h = tt
layout_again_of layout.ComplexHashed clear fits h = tt
layout_again_of layout.ComplexSparseHashed clear fits h = tt
layout_again_of layout.ComplexHashedArray clear fits h = tt
layout_again_of (layout.RangeHashed strategy) clear fits h = tt
layout_again_of (layout.ComplexRangeHashed strategy) clear fits h = tt
layout_again_of layout.IpTrie clear fits h = tt
layout_again_of (layout.Cache cache) clear fits h = record { fits = fits; expired = h }
layout_again_of (layout.ComplexCache cache) clear fits h = record { fits = fits; expired = h }
layout_again_of layout.Direct clear fits h = tt
layout_again_of layout.ComplexDirect clear fits h = tt

pool_not_updated : (d : Definition) → AreClear (table d) → d.source.kind ≡ Pool → d.source.update ≢ update.None → ⊥
pool_not_updated d clear pool some = elim (cases_Bool (is_keyed_layout d.layout)) [
  | inl keyed ↦ (clear_sources d clear).1.1.0 fault.UpdateLayout (refl, (keyed_not_updated d.layout keyed, some))
  | inr other ↦ (clear_sources d clear).0 fault.PoolNeedsKeys (refl, (pool, other))
]

is_clauses_again : (d : Definition) → AreClear (table d) → TextHasDefinition d → DefinitionFits d → IsClausesAgain d d.range
is_clauses_again d clear h fits =
    let c = clear_settings d clear in
    let output = below which.Output 1 134217728 d.max_output c.1.0 in
    record {
      short = fits.source;
      kept = kind_again d.source.kind d.source (below which.PoolSize 0 1024 d.source.pool_size c.1.1.1.0) fits.source.execution h.source.pool;
      used = update_again d.source.kind d.source.update (pool_not_updated d clear) fits.source.lag h.source.update;
      layout = layout_again_of d.layout c.1.1.0 fits.layout h.layout;
      lifetime = fits.lifetime;
      output = omega (arith, output);
      ends = ends_exist d d.range clear refl;
    }

are_written : (d : Definition) → IsSound d → TextHasDefinition d → AreWritten d
are_written d sound h place c found = at (is_attribute d place) refl where
  at : (b : Bool) → is_attribute d place ≡ b → IsWritten b c
  at true e = (all_at (λ (x : Column). IsSoundType x.ty) d.columns place c sound.types found, stable_fit c.ty c.default (defaults_fit d sound.clear place c found))
  at false e = (all_at (λ (x : Column). IsSoundType x.ty) d.columns place c sound.types found, h.defaults place c found e)

-- ---- dictionaries

some_columns : (d : Definition) (columns : List Column) (rest : List ℕ) → columns ≢ [] → AreWritten d → AreFrom d 0 columns
    → Writes (40 ∷ (flat_map (listed_column d) (range_with_len 0 (length columns)) ++ (41 ∷ rest))) (AreColumns (stands columns)) rest
some_columns d [] rest some each from = absurd (some refl)
some_columns d (c ∷ columns) rest some each from = columns_written d c columns rest each from

some_keys : (d : Definition) (keys rest : List ℕ) → keys ≢ [] → AllByRecursion (HasColumn d) keys → Apart rest → Writes (codes " PRIMARY KEY " ++ (keys_text d keys ++ rest)) (IsKey (map (name_of_place d) keys)) rest
some_keys d [] rest some exist apart = absurd (some refl)
some_keys d (key ∷ keys) rest some exist apart = keys_written d key keys rest exist apart

has_columns : (d : Definition) (keys : List ℕ) → keys ≢ [] → AllByRecursion (HasColumn d) keys → d.columns ≢ []
has_columns d [] some exist none = some refl
has_columns d (key ∷ keys) some exist none =
    let gone = ap (λ (cs : List Column). slice_get cs key) none in
    let here = exist.0.1 in
    absurd (cc (gone, here))

definition_spelled : (d : Definition) (behind : List ℕ)
    → table_text d ++ behind ≡ codes "CREATE DICTIONARY " ++ (name_text d.name ++ (codes " (" ++ (columns_text d ++ (codes ") PRIMARY KEY " ++ (keys_text d d.keys ++ behind)))))
unfolding word_text
definition_spelled d behind =
    ap (λ (u : List ℕ). codes "CREATE DICTIONARY " ++ u)
    (append_assoc (name_text d.name) (codes " (" ++ (columns_text d ++ (codes ") PRIMARY KEY " ++ keys_text d d.keys))) behind
    ∙ ap (λ (u : List ℕ). name_text d.name ++ (codes " (" ++ u)) (append_assoc (columns_text d) (codes ") PRIMARY KEY " ++ keys_text d d.keys) behind))

clauses_spelled : (d : Definition)
    → source_text false d.source ++ clauses_text d ≡ source_text false d.source ++ (layout_clause d.layout ++ (lifetime_text d.lifetime ++ (range_text d d.range ++ (output_text d.max_output ++ (comment_text d.comment ++ [])))))
clauses_spelled d = ap (λ (u : List ℕ). source_text false d.source ++ (layout_clause d.layout ++ (lifetime_text d.lifetime ++ (range_text d d.range ++ (output_text d.max_output ++ u))))) (sym (append-nil (comment_text d.comment)))

-- the statement that the text of an item is
pub record Stated (i : Item) (text : List ℕ) : Type 0 where
  pub statement : Statement
  pub ends : statement.ended ≡ false
  pub written : Spells 0 text (IsStatement (stands statement)) []
  pub makes : item_of statement ≡ i

begun : (place : ℕ) (word rest : List ℕ) → is_bare word ≡ true → Apart rest → Spells place (word ++ rest) (IsBegun word (token_of place Word word).place) rest
unfolding is_keyword
begun place word rest bare apart =
    word_at place word rest (judged (is_keyword word) (λ (t : Token). t.place)) (token_of place Word word).place bare apart
    (ap (λ (b : Bool). cond b (Ok (token_of place Word word).place) (Err (Unexpected (token_of place Word word).place))) (same_itself Any word))

at_spells : {place : ℕ} {a b rest : List ℕ} {Fits : List Token → Type 0} → a ≡ b → Spells place b Fits rest → Spells place a Fits rest
at_spells {place = place} {rest = rest} {Fits = Fits} same h = subst (λ (t : List ℕ). Spells place t Fits rest) (sym same) h

fit_at : {place : ℕ} {text rest : List ℕ} {Fits Other : List Token → Type 0} → ((own : List Token) → Fits own → Other own) → Spells place text Fits rest → Spells place text Other rest
fit_at make x = record { own = x.own; fits = make x.own x.fits; behind = x.behind; goes = x.goes }

-- the definition that the statement makes
made_again : (d : Definition) (clauses : ClausesAgain d d.range d.comment []) (place : ℕ) → AreClear (table d) → TextHasDefinition d
    → item.Dictionary d ≡ item_of (dictionary place (pointed d.name None) d.columns (map (name_of_place d) d.keys) (dictionary_parts clauses.clauses) false)
made_again d clauses place clear h =
    let columns = d.columns in
    let keys = keys_again d clear in
    let range : d.range ≡ range_of columns (dictionary_parts clauses.clauses).range = range_again d d.range clear (ends_exist d d.range clear refl) ∙ ap (range_of columns) clauses.range_is in
    let settled : columns ≡ settled_from (key_places columns (map (name_of_place d) d.keys)) (range_of columns (dictionary_parts clauses.clauses).range) 0 columns =
    columns_again d h.defaults ∙ (λ i. settled_from (keys i) (range i) 0 columns) in
    λ i. item.Dictionary (record {
      name = d.name;
      columns = settled i;
      keys = keys i;
      source = clauses.source_is i;
      layout = clauses.layout_is i;
      lifetime = clauses.lifetime_is i;
      range = range i;
      max_output = clauses.output_is i;
      comment = clauses.comment_is i;
    })

definition_stated : (d : Definition) → IsSound d → TextHasDefinition d → DefinitionFits d → Stated (item.Dictionary d) (definition_text d)
definition_stated d sound h fits =
    let behind = source_text false d.source ++ (layout_clause d.layout ++ (lifetime_text d.lifetime ++ (range_text d d.range ++ (output_text d.max_output ++ (comment_text d.comment ++ []))))) in
    let clauses = clauses_again d d.range d.comment [] (is_clauses_again d sound.clear h fits) apart_end in
    let place = (token_of 0 Word (codes "CREATE")).place in
    let names = map (name_of_place d) d.keys in
    let keys = codes " PRIMARY KEY " ++ (keys_text d d.keys ++ (32 ∷ behind)) in
    let columns = 40 ∷ (columns_text d ++ (41 ∷ keys)) in
    let exist = keys_exist d sound.clear in
    let some = some_key d sound.clear in
    let same : definition_text d ≡ codes "CREATE DICTIONARY " ++ (name_text d.name ++ (32 ∷ columns)) =
    ap (λ (u : List ℕ). table_text d ++ (32 ∷ u)) (clauses_spelled d) ∙ definition_spelled d (32 ∷ behind) in
    record {
      statement = dictionary place (pointed d.name None) d.columns names (dictionary_parts clauses.clauses) false;
      ends = refl;
      written =
          at_spells same
          (fit_at (λ own f. inl f)
          (then_at place (begun 0 (codes "CREATE") (codes " DICTIONARY " ++ (name_text d.name ++ (32 ∷ columns))) refl (apart_blank _))
          (then_written None (nothing_written _ _ refl)
          (then_written tt (blank_first (keyword_written (codes "DICTIONARY") (32 ∷ (name_text d.name ++ (32 ∷ columns))) (codes "DICTIONARY") refl (same_itself Any (codes "DICTIONARY")) (apart_blank _)))
          (then_written (pointed d.name None)
          (blank_first (fit (λ own f. inr f) (then_written d.name (name_written d.name (32 ∷ columns) (apart_blank columns)) (made_written (pointed d.name) (pointed d.name None) None refl (nothing_written (32 ∷ columns) _ refl)))))
          (then_written (stands d.columns)
          (blank_first (some_columns d d.columns keys (has_columns d d.keys some exist) (are_written d sound h) (λ j. ap (slice_get d.columns) (let e : 0 + j ≡ j = omega arith in e))))
          (then_written names (some_keys d d.keys (32 ∷ behind) some exist (apart_blank behind))
          (then_written (dictionary_parts clauses.clauses) (blank_first (made_written dictionary_parts (dictionary_parts clauses.clauses) clauses.clauses refl clauses.written))
          (made_written (dictionary place (pointed d.name None) d.columns names (dictionary_parts clauses.clauses)) (dictionary place (pointed d.name None) d.columns names (dictionary_parts clauses.clauses) false) false refl
          (fit (λ own f. inr f) (nothing_written [] _ (refl, refl))))))))))));
      makes = sym (made_again d clauses place sound.clear h);
    }

-- ---- functions

signature_spelled : (f : FunctionDef) (behind : List ℕ)
    → signature_text f ++ behind ≡ codes "EXECUTABLE FUNCTION " ++ (name_text f.name ++ (codes " (" ++ (arguments_text f.args ++ (codes ") RETURNS " ++ (type_text f.returns ++ behind)))))
unfolding word_text
signature_spelled f behind =
    ap (λ (u : List ℕ). codes "EXECUTABLE FUNCTION " ++ u)
    (append_assoc (name_text f.name) (codes " (" ++ (arguments_text f.args ++ (codes ") RETURNS " ++ type_text f.returns))) behind
    ∙ ap (λ (u : List ℕ). name_text f.name ++ (codes " (" ++ u)) (append_assoc (arguments_text f.args) (codes ") RETURNS " ++ type_text f.returns) behind))

clear_function_settings : (f : FunctionDef) → AreClear (function_table f) → AreClear (function_settings f)
clear_function_settings f clear =
    clear_front (function_settings f) (arguments f ++ source_rules f)
    (clear_behind (NamesWithin (argument_names f)) (function_settings f ++ (arguments f ++ source_rules f))
    (clear_behind (function_counts f) (NamesWithin (argument_names f) ++ (function_settings f ++ (arguments f ++ source_rules f))) clear))

clear_function_source : (f : FunctionDef) → AreClear (function_table f) → AreClear (source_rules f)
clear_function_source f clear =
    clear_behind (arguments f) (source_rules f)
    (clear_behind (function_settings f) (arguments f ++ source_rules f)
    (clear_behind (NamesWithin (argument_names f)) (function_settings f ++ (arguments f ++ source_rules f))
    (clear_behind (function_counts f) (NamesWithin (argument_names f) ++ (function_settings f ++ (arguments f ++ source_rules f))) clear)))

function_stated : (f : FunctionDef) → IsSoundFunction f → TextHasFunction f → SourceFits f.source → Stated (item.Function f) (function_text f)
function_stated f sound h fits =
    let c = clear_function_settings f sound.clear in
    let most = below which.Output 1 134217728 f.max_output c.1.0 in
    let pool = below which.PoolSize 0 1024 f.source.pool_size c.1.1.0 in
    let small : f.max_output ≤ most_short = omega (arith, most) in
    let output = output_text f.max_output ++ [] in
    let s = function_source f.source.kind f.source.update f.source output fits (kind_again f.source.kind f.source pool fits.execution h.source.pool) h.implicit
    (no_update f.source.kind f.source.update (λ some. (clear_function_source f sound.clear).1.0 fault.UpdateLayout (refl, (refl, some)))) in
    let behind = 32 ∷ (source_text true f.source ++ output) in
    let place = (token_of 0 Word (codes "EXECUTABLE")).place in
    let written = written_function (source f.source.kind s.settings) (Some f.max_output) in
    let returns = codes " RETURNS " ++ (type_text f.returns ++ behind) in
    let arguments_in = 40 ∷ (arguments_text f.args ++ (41 ∷ returns)) in
    let same : function_text f ≡ codes "EXECUTABLE FUNCTION " ++ (name_text f.name ++ (32 ∷ arguments_in)) =
    ap (λ (u : List ℕ). signature_text f ++ (32 ∷ (source_text true f.source ++ u))) (sym (append-nil (output_text f.max_output))) ∙ signature_spelled f behind in
    let statement = function place f.name f.args f.returns (function_parts written) false in
    record {
      statement = statement;
      ends = refl;
      written =
          at_spells same
          (fit_at (λ own g. inr g)
          (then_at place (begun 0 (codes "EXECUTABLE") (codes " FUNCTION " ++ (name_text f.name ++ (32 ∷ arguments_in))) refl (apart_blank _))
          (then_written tt (blank_first (keyword_written (codes "FUNCTION") (32 ∷ (name_text f.name ++ (32 ∷ arguments_in))) (codes "FUNCTION") refl (same_itself Any (codes "FUNCTION")) (apart_blank _)))
          (then_written f.name (blank_first (name_written f.name (32 ∷ arguments_in) (apart_blank arguments_in)))
          (then_written (stands f.args) (blank_first (arguments_written f.args returns (all_each (λ (a : Arg). IsSoundType a.ty) f.args sound.types)))
          (then_written tt (blank_first (keyword_written (codes "RETURNS") (32 ∷ (type_text f.returns ++ behind)) (codes "RETURNS") refl (same_itself Any (codes "RETURNS")) (apart_blank _)))
          (then_written (stands f.returns) (blank_first (type_written f.returns behind sound.returns (apart_blank _)))
          (then_written written
          (blank_first (at_text (source_spelled true f.source output) (then_written (source f.source.kind s.settings) s.written
          (made_written (written_function (source f.source.kind s.settings)) written (Some f.max_output) refl (output_written f.max_output [] small)))))
          (made_written (function place f.name f.args f.returns (function_parts written)) statement false refl (fit (λ own g. inr g) (nothing_written [] _ (refl, refl))))))))))));
      makes = λ i. item.Function (record { name = f.name; args = f.args; returns = f.returns; source = sym s.means i; max_output = sym (kept_whole f.max_output small) i });
    }

-- ---- items

stated : (i : Item) → IsSoundItem i → TextHas i → NumbersFit i → Stated i (item_text i)
stated (item.Dictionary d) sound h fits = definition_stated d sound h fits
stated (item.Function f) sound h fits = function_stated f sound h fits

rules_clear : (i : Item) → IsSoundItem i → AreClear (rules_of i)
rules_clear (item.Dictionary d) sound = sound.clear
rules_clear (item.Function f) sound = sound.clear

taken : (i : Item) → IsSoundItem i → IsTakenItem [] i
unfolding is_named
taken i sound = (rules_clear i sound, refl)

makes_it : (i : Item) (statement : Statement) → IsSoundItem i → item_of statement ≡ i → AreItems (statement ∷ []) (i ∷ [])
unfolding AreItemsFrom count_of
makes_it i statement sound e = ((refl, subst (λ (x : Item). IsTakenItem [] x) (sym e) (taken i sound)), ap (λ (x : Item). x ∷ []) e)

pub read_as_itself : (i : Item) → IsSoundItem i → TextHas i → NumbersFit i → Defines (item_text i) (i ∷ [])
read_as_itself i sound h fits =
    let s = stated i sound h fits in
    let w = whole_text (item_text i) (IsStatement (stands s.statement)) s.written in
    let end : Token = record { place = w.place; kind = End; bytes = [] } in (
      w.own ++ end ∷ [],
      w.are,
      record {
        statements = s.statement ∷ [];
        text = (end ∷ [], record { own = w.own; parts = refl; fits = last s.ends w.fits; stops = refl });
        made = makes_it i s.statement sound s.makes;
      },
    )
