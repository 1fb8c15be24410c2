-- The text of an item that was read has all that the item says.
use Rattle.std.proofs.Common.{◌≡◌, ◌+◌, ℕ, zero, suc, Bool, true, false, cond, not, List, [], ◌∷◌, ◌++◌, All, Option, Some, None, Ok, Err, refl, sym, ap, subst, ◌∙◌, inl, inr, arith}
use Rattle.std.specs.Prelude.{◌&&◌, ◌||◌, ◌==◌, IsTrue, slice_get, codes}
use Rattle.std.specs.List.{AllByRecursion}
use Rattle.std.proofs.lemmas.Bool.{cases_Bool, cond-true, cond-false, eqb-true, and_parts, cond_both}
use Rattle.std.proofs.lemmas.List.Elements.{All-append, All-cons, All-nil}
use Rattle.dict_value.specs.declared.value.AttrType.{AttrType}
use Rattle.dict_value.specs.declared.value.ColType.{ColType}
use Rattle.dict_value.specs.declared.value.ColType.TheVariants as type
use Rattle.dict_value.specs.declared.value.Value.{Value}
use Rattle.dict_value.specs.declared.value.Value.TheVariants as value_of
use Rattle.dict_value.specs.Values.{FitsColumn, HasType, default_of_column}
use Rattle.dict_schema.specs.declared.definition.Column.{Column}
use Rattle.dict_schema.specs.declared.definition.Item.{Item}
use Rattle.dict_schema.specs.declared.definition.Kind.{Kind}
use Rattle.dict_schema.specs.declared.definition.Kind.TheVariants.{Executable, Pool}
use Rattle.dict_schema.specs.declared.definition.RangeOf.{RangeOf}
use Rattle.dict_schema.specs.Judging.{AreClear}
use Rattle.dict_schema.specs.Parts.{is_attribute, is_key, is_range_end}
use Rattle.dict_schema.specs.Table.{table}
use Rattle.ddl_tokens.specs.declared.fault.SyntaxFault.{SyntaxFault}
use Rattle.ddl_tokens.specs.declared.fault.SyntaxFault.TheVariants.{Unexpected}
use Rattle.ddl_tokens.specs.Tokens.{Token}
use Rattle.ddl_tokens.specs.Laws.{IsKeyword, Made, Then}
use Rattle.ddl_tokens.specs.Lists.{AddsOnce, Many, none, more}
use Rattle.ddl_tokens.specs.Verdicts.{Verdict, stands, falls, verdict_map, Onward, Standing, ThenVerdict}
use Rattle.ddl_clauses.specs.declared.clause.Clause.{Clause}
use Rattle.ddl_clauses.specs.declared.clause.Clause.TheVariants as clause
use Rattle.ddl_clauses.specs.declared.clause.ClauseKind.{ClauseKind}
use Rattle.ddl_clauses.specs.declared.clause.ClauseKind.TheVariants as kind
use Rattle.ddl_clauses.specs.declared.clause.WrittenLayout.{WrittenLayout}
use Rattle.ddl_clauses.specs.declared.clause.WrittenSource.{WrittenSource}
use Rattle.ddl_clauses.specs.declared.layouts.LayoutName.{LayoutName}
use Rattle.ddl_clauses.specs.declared.layouts.LayoutName.TheVariants as layout_name
use Rattle.ddl_clauses.specs.declared.settings.Group.TheVariants as group
use Rattle.ddl_clauses.specs.declared.settings.Owner.{Owner}
use Rattle.ddl_clauses.specs.declared.settings.Owner.TheVariants.{Dictionary, Function}
use Rattle.ddl_clauses.specs.declared.settings.Section.{Section}
use Rattle.ddl_clauses.specs.declared.settings.Section.TheVariants as section_of
use Rattle.ddl_clauses.specs.declared.settings.Setting.{Setting}
use Rattle.ddl_clauses.specs.declared.settings.SettingName.{SettingName}
use Rattle.ddl_clauses.specs.declared.settings.SettingName.TheVariants as name
use Rattle.ddl_clauses.specs.declared.settings.SettingValue.{SettingValue}
use Rattle.ddl_clauses.specs.Choices.{bare_name_in, flag_in, has_bare_form, is_plain_value, is_written, no_flag_meant, or_fault, unless_true}
use Rattle.ddl_clauses.specs.Clauses.{source, WrittenFunction, clause_number, number_of_clause, or_empty}
use Rattle.ddl_clauses.specs.Grammar.{IsLayout, IsLayoutSettings, IsSettingValue, IsSource, AreDictionaryClauses, IsDictionaryClause, LeftOutUnless, AreSettingsInBrackets, IsWrittenFunction}
use Rattle.ddl_clauses.specs.Layouts.{layout_section}
use Rattle.ddl_clauses.specs.Parts.{clause_of_kind, flag_or, layout_with, short_or, source_with, update_with_lag, value_of_setting, whole_or, written_layout_in, written_source_in, kept_short, dictionary_parts, function_parts}
use Rattle.ddl_clauses.specs.SettingLists.{setting}
use Rattle.ddl_clauses.specs.Settings.{all_settings, form_of, group_of, has_group, setting_number, source_section}
use Rattle.dict_schema.specs.declared.definition.Arg.{Arg}
use Rattle.ddl_columns.specs.Grammar.{IsKey, IsType}
use Rattle.ddl_clauses.specs.declared.parts.DictionaryParts.{DictionaryParts}
use Rattle.ddl_text.specs.declared.statement.DictionaryText.{DictionaryText}
use Rattle.ddl_text.specs.declared.statement.Statement.{Statement}
use Rattle.ddl_text.specs.declared.statement.Written.{Written}
use Rattle.ddl_text.specs.declared.statement.Written.TheVariants as written
use Rattle.ddl_text.specs.declared.statement.WrittenName.{WrittenName}
use Rattle.ddl_text.specs.Statements.{dictionary, function}
use Rattle.ddl_text.specs.Grammar.{IsDictionary, IsItemEnd, IsFunction, IsStatement}
use Rattle.ddl_text.specs.Items.{definition_of, is_date, is_misfit, is_set_apart, item_of, item_written, rules_of, settled, settled_from, with_default}
use Rattle.ddl_text.specs.Files.{AreItemsFrom, IsDefined, IsFile, empty, last, fallen, more as another_one}
use Rattle.ddl_writing.proofs.Defaults.{defaults_fit}
use Rattle.ddl_text.specs.Again.{TextHas, TextHasLayout, TextHasPool, TextHasSource, TextHasUpdate}
use Rattle.ddl_text.proofs.SettingTexts.{Settings}

-- ---- settings by their names

-- a setting that a list takes, with a value by the grammar
pub record IsTaken (section : Section) (s : Setting) : Type 0 where
  pub own : IsTrue (has_group section (group_of s.name))
  pub tokens : List Token
  pub value : IsSettingValue (form_of s.name) s.value tokens

abbrev AreTaken : Section → List Setting → Type 0
AreTaken section settings = AllByRecursion (IsTaken section) settings

and_one : {A : Type 0} (P : A → Type 0) (xs : List A) (x : A) → AllByRecursion P xs → P x → AllByRecursion P (xs ++ x ∷ [])
and_one P [] x h k = (k, tt)
and_one P (y ∷ xs) x h k = (h.0, and_one P xs x h.1 k)

of_list : (section : Section) (a b : List Setting) (ts : List Token) → Settings section a b ts → AreTaken section a → AreTaken section b
of_list section a b ts (none same e) h = subst (λ (xs : List Setting). AreTaken section xs) same h
of_list section a b ts (more {b = c} {own = own} {rest = rest} e adds others) h =
    let made = adds.fits.behind in
    let one : IsTaken section (setting adds.kind.name made.from) = record { own = adds.kind.own; tokens = adds.fits.back; value = made.fits } in
    of_list section c b rest others
    (subst (λ (xs : List Setting). AreTaken section xs) (sym adds.new) (and_one (IsTaken section) a adds.item h (subst (λ (s : Setting). IsTaken section s) (sym made.is) one)))

at_number : (n : SettingName) → slice_get all_settings (setting_number n) ≡ Some n
at_number name.Command = refl
at_number name.Format = refl
at_number name.ExecuteDirect = refl
at_number name.ImplicitKey = refl
at_number name.SendChunkHeader = refl
at_number name.ReadTimeout = refl
at_number name.WriteTimeout = refl
at_number name.TerminationTimeout = refl
at_number name.PoolSize = refl
at_number name.ExecutionTime = refl
at_number name.UpdateField = refl
at_number name.UpdateLag = refl
at_number name.InitialArraySize = refl
at_number name.MaxArraySize = refl
at_number name.Preallocate = refl
at_number name.Shards = refl
at_number name.ShardBacklog = refl
at_number name.RangeStrategy = refl
at_number name.SizeInCells = refl
at_number name.ReadExpired = refl
at_number name.UpdateQueue = refl

same_number : (a b : SettingName) → (setting_number a == setting_number b) ≡ true → a ≡ b
same_number a b e =
    let k : Some a ≡ Some b = sym (at_number a) ∙ ap (slice_get all_settings) (eqb-true (setting_number a) (setting_number b) e) ∙ at_number b in
    cc

-- what is found under a name
abbrev IsFound : Section → SettingName → Option SettingValue → Type 0
IsFound section name None = Unit {0}
IsFound section name (Some v) = IsTaken section (setting name v)

found : (section : Section) (name : SettingName) (settings : List Setting) → AreTaken section settings → IsFound section name (value_of_setting name settings)
unfolding value_of_setting
found section name [] h = tt
found section name (s ∷ settings) h = elim (cases_Bool (setting_number s.name == setting_number name)) [
  | inl e ↦
      subst (λ (o : Option SettingValue). IsFound section name o) (sym (cond-true (setting_number s.name == setting_number name) (Some s.value) (value_of_setting name settings) e))
      (subst (λ (n : SettingName). IsTaken section (setting n s.value)) (same_number s.name name e) h.0)
  | inr e ↦
      subst (λ (o : Option SettingValue). IsFound section name o) (sym (cond-false (setting_number s.name == setting_number name) (Some s.value) (value_of_setting name settings) e))
      (found section name settings h.1)
]

-- a list has no setting that it doesn't take
not_there : (section : Section) (name : SettingName) (settings : List Setting) → AreTaken section settings → has_group section (group_of name) ≡ false → value_of_setting name settings ≡ None
not_there section name settings h other = at (value_of_setting name settings) (found section name settings h) where
  at : (o : Option SettingValue) → IsFound section name o → o ≡ None
  at None k = refl
  at (Some v) k = absurd (let own = k.own in let e = sym other ∙ own in cc)

-- ---- values

bare_of : (b : Bool) (bytes text : List ℕ) (f : SyntaxFault) → has_bare_form bytes ≡ b → or_fault f (cond b (Some bytes) None) ≡ Ok text → has_bare_form text ≡ true
bare_of true bytes text f e h = let same : bytes ≡ text = cc in subst (λ (t : List ℕ). has_bare_form t ≡ true) same e
bare_of false bytes text f e h = absurd cc

judged_bare : (b : Bool) (bytes text : List ℕ) (f g : SyntaxFault) → cond b (or_fault f (bare_name_in bytes)) (Err g) ≡ Ok text → has_bare_form text ≡ true
judged_bare true bytes text f g h = bare_of (has_bare_form bytes) bytes text f refl h
judged_bare false bytes text f g h = absurd cc

update_has : (section : Section) (lag : ℕ) (o : Option SettingValue) → IsFound section name.UpdateField o → TextHasUpdate (update_with_lag lag o)
update_has section lag None h = tt
update_has section lag (Some v) h =
    let made = h.value in
    let t = made.fits.token in
    let bare = judged_bare (is_written t.kind) t.bytes made.from (Unexpected t.place) (Unexpected t.place) made.fits.fine in
    subst (λ (w : SettingValue). TextHasUpdate (update_with_lag lag (Some w))) (sym made.is) bare

never_true : (place : ℕ) (o : Option Bool) (b : Bool) → unless_true place o ≡ Ok b → b ≡ false
never_true place None b h = absurd cc
never_true place (Some true) b h = absurd cc
never_true place (Some false) b h = cc

judged_false : (c : Bool) (place : ℕ) (bytes : List ℕ) (b : Bool) (g : SyntaxFault) → cond c (no_flag_meant place bytes) (Err g) ≡ Ok b → b ≡ false
judged_false true place bytes b g h = never_true place (flag_in bytes) b h
judged_false false place bytes b g h = absurd cc

expired_is : (section : Section) (o : Option SettingValue) → IsFound section name.ReadExpired o → flag_or false o ≡ false
expired_is section None h = refl
expired_is section (Some v) h =
    let made = h.value in
    let t = made.fits.token in
    let no = judged_false (is_plain_value t.kind) t.place t.bytes made.from (Unexpected t.place) made.fits.fine in
    ap (λ (w : SettingValue). flag_or false (Some w)) made.is ∙ no

-- ---- sources

no_pool : (owner : Owner) → has_group (source_section owner Executable) group.Pool ≡ false
no_pool Dictionary = refl
no_pool Function = refl

pool_has : (owner : Owner) (k : Kind) (settings : List Setting) → AreTaken (source_section owner k) settings → TextHasPool k (source_with owner (source k settings))
pool_has owner Pool settings h = tt
pool_has owner Executable settings h = (
  ap (λ (o : Option SettingValue). kept_short (whole_or 16 o)) (not_there (source_section owner Executable) name.PoolSize settings h (no_pool owner)),
  ap (λ (o : Option SettingValue). short_or 10 o) (not_there (source_section owner Executable) name.ExecutionTime settings h (no_pool owner)),
)

of_brackets : (section : Section) (settings : List Setting) (ts : List Token) → AreSettingsInBrackets section settings ts → AreTaken section settings
of_brackets section settings ts h =
    let inner = h.behind in
    subst (λ (xs : List Setting). AreTaken section xs) (sym inner.behind.is) (of_list section [] inner.value inner.front inner.before.0.0 tt)

of_source : (owner : Owner) (w : WrittenSource) (ts : List Token) → IsSource owner w ts → AreTaken (source_section owner w.kind) w.settings
of_source owner w ts h =
    let a = h.behind.behind in
    let b = a.behind in
    subst (λ (x : WrittenSource). AreTaken (source_section owner x.kind) x.settings) (sym b.behind.is) (of_brackets (source_section owner a.value) b.value b.front b.before)

source_has : (owner : Owner) (w : WrittenSource) → AreTaken (source_section owner w.kind) w.settings → TextHasSource (source_with owner w)
source_has owner w h = record {
  pool = pool_has owner w.kind w.settings h;
  update = update_has (source_section owner w.kind) (short_or 1 (value_of_setting name.UpdateLag w.settings)) (value_of_setting name.UpdateField w.settings) (found (source_section owner w.kind) name.UpdateField w.settings h);
}

no_implicit_group : (k : Kind) → has_group (source_section Function k) group.Implicit ≡ false
no_implicit_group Executable = refl
no_implicit_group Pool = refl

no_implicit : (w : WrittenSource) → AreTaken (source_section Function w.kind) w.settings → (source_with Function w).implicit ≡ false
no_implicit w h = ap (λ (o : Option SettingValue). flag_or false o) (not_there (source_section Function w.kind) name.ImplicitKey w.settings h (no_implicit_group w.kind))

-- ---- layouts

cache_has : (o : Option (List Setting)) (ts : List Token) → LeftOutUnless true (AreSettingsInBrackets section_of.Cache) o ts → flag_or false (value_of_setting name.ReadExpired (or_empty o)) ≡ false
cache_has o ts h =
    ap (λ (x : Option (List Setting)). flag_or false (value_of_setting name.ReadExpired (or_empty x))) h.is
    ∙ expired_is section_of.Cache (value_of_setting name.ReadExpired h.from) (found section_of.Cache name.ReadExpired h.from (of_brackets section_of.Cache h.from ts h.fits))

layout_has : (l : LayoutName) (o : Option (List Setting)) (ts : List Token) → IsLayoutSettings (layout_section l) o ts → TextHasLayout (layout_with l (or_empty o))
layout_has layout_name.Cache o ts h = cache_has o ts h
layout_has layout_name.ComplexCache o ts h = cache_has o ts h
layout_has l o ts h = tt

of_layout : (w : WrittenLayout) (ts : List Token) → IsLayout w ts → TextHasLayout (layout_with w.name w.settings)
of_layout w ts h =
    let a = h.behind.behind in
    let b = a.behind in
    subst (λ (x : WrittenLayout). TextHasLayout (layout_with x.name x.settings)) (sym b.behind.is) (layout_has a.value b.value b.front b.before)

-- ---- clauses

abbrev ClauseHas : Clause → Type 0
ClauseHas (clause.Source w) = AreTaken (source_section Dictionary w.kind) w.settings
ClauseHas (clause.Layout w) = TextHasLayout (layout_with w.name w.settings)
ClauseHas _ = Unit {0}

clause_has : (k : ClauseKind) (c : Clause) (ts : List Token) → IsDictionaryClause k c ts → ClauseHas c
clause_has kind.Source c ts h = subst (λ (x : Clause). ClauseHas x) (sym h.is) (of_source Dictionary h.from ts h.fits)
clause_has kind.Layout c ts h = subst (λ (x : Clause). ClauseHas x) (sym h.is) (of_layout h.from ts h.fits)
clause_has kind.Lifetime c ts h = subst (λ (x : Clause). ClauseHas x) (sym h.is) tt
clause_has kind.Range c ts h = subst (λ (x : Clause). ClauseHas x) (sym h.is) tt
clause_has kind.Settings c ts h = subst (λ (x : Clause). ClauseHas x) (sym h.is) tt
clause_has kind.Comment c ts h = subst (λ (x : Clause). ClauseHas x) (sym h.is) tt

of_clauses : (a b : List Clause) (ts : List Token) → Many (AddsOnce clause_number number_of_clause IsDictionaryClause) a b ts → AllByRecursion ClauseHas a → AllByRecursion ClauseHas b
of_clauses a b ts (none same e) h = subst (λ (xs : List Clause). AllByRecursion ClauseHas xs) same h
of_clauses a b ts (more {b = c} {own = own} {rest = rest} e adds others) h =
    of_clauses c b rest others (subst (λ (xs : List Clause). AllByRecursion ClauseHas xs) (sym adds.new) (and_one ClauseHas a adds.item h (clause_has adds.kind adds.item own adds.fits)))

abbrev IfClause : Option Clause → Type 0
IfClause None = Unit {0}
IfClause (Some c) = ClauseHas c

clause_found : (k : ClauseKind) (clauses : List Clause) → AllByRecursion ClauseHas clauses → IfClause (clause_of_kind k clauses)
unfolding clause_of_kind
clause_found k [] h = tt
clause_found k (c ∷ clauses) h = cond_both (number_of_clause c == clause_number k) (Some c) (clause_of_kind k clauses) IfClause (λ _. h.0) (λ _. clause_found k clauses h.1)

source_in : (o : Option Clause) → IfClause o → TextHasSource (source_with Dictionary (written_source_in o))
source_in None h = source_has Dictionary (source Executable []) tt
source_in (Some (clause.Source w)) h = source_has Dictionary w h
source_in (Some (clause.Layout w)) h = source_has Dictionary (source Executable []) tt
source_in (Some (clause.Lifetime w)) h = source_has Dictionary (source Executable []) tt
source_in (Some (clause.Range w)) h = source_has Dictionary (source Executable []) tt
source_in (Some (clause.Settings w)) h = source_has Dictionary (source Executable []) tt
source_in (Some (clause.Comment w)) h = source_has Dictionary (source Executable []) tt

layout_in : (o : Option Clause) → IfClause o → TextHasLayout (layout_with (written_layout_in o).name (written_layout_in o).settings)
layout_in None h = tt
layout_in (Some (clause.Source w)) h = tt
layout_in (Some (clause.Layout w)) h = h
layout_in (Some (clause.Lifetime w)) h = tt
layout_in (Some (clause.Range w)) h = tt
layout_in (Some (clause.Settings w)) h = tt
layout_in (Some (clause.Comment w)) h = tt

-- ---- the defaults of keys and of the ends of a range

no_day : (t : ColType) (n : ℕ) → not (is_date t) ≡ true → HasType t (value_of.Day n) → ⊥
no_day type.Date n e h = absurd cc
no_day t n e h = h

no_second : (t : ColType) (n : ℕ) → is_date t ≡ true → HasType t (value_of.Second n) → ⊥
no_second type.Date n e h = h
no_second t n e h = absurd cc

no_misfit : (t : AttrType) (v : Value) → is_misfit t v ≡ true → FitsColumn t v → ⊥
no_misfit t value_of.Null e h = let k = sym e ∙ ap not h in absurd cc
no_misfit t (value_of.Day n) e h = no_day t.base n (and_parts t.nullable (not (is_date t.base)) e).1 h
no_misfit t (value_of.Second n) e h = no_second t.base n (and_parts t.nullable (is_date t.base) e).1 h
no_misfit t v e h = absurd cc

settled_at : (own : List ℕ) (r : RangeOf) (place k : ℕ) (columns : List Column) (x : Column) → slice_get (settled_from own r place columns) k ≡ Some x
    → (c : Column) × (x ≡ cond (is_set_apart own r (place + k)) (settled c) c)
unfolding settled_from
settled_at own r place k [] x e = absurd cc
settled_at own r place zero (c ∷ columns) x e =
    (c, ap (λ (o : Option Column). elim o as (λ _. Column) [ None ↦ c | Some y ↦ y ]) (sym e) ∙ ap (λ (b : Bool). cond b (settled c) c) (ap (is_set_apart own r) (let n : place ≡ place + 0 = omega arith in n)))
settled_at own r place (suc k) (c ∷ columns) x e =
    let later = settled_at own r (place + 1) k columns x e in
    (later.0, later.1 ∙ ap (λ (b : Bool). cond b (settled later.0) later.0) (ap (is_set_apart own r) (let n : place + 1 + k ≡ place + suc k = omega arith in n)))

set_apart : (a b : Bool) → (not a && not b) ≡ false → (a || b) ≡ true
set_apart true b e = refl
set_apart false true e = refl
set_apart false false e = absurd cc

of_settled : (x c : Column) → x ≡ settled c → ((FitsColumn x.ty x.default → ⊥) → ⊥) → x.default ≡ default_of_column x.ty
of_settled x c e fits = elim (cases_Bool (is_misfit c.ty c.default)) [
  | inl bad ↦
      let same : x ≡ c = e ∙ cond-true (is_misfit c.ty c.default) c (with_default (default_of_column c.ty) c) bad in
      absurd (fits (λ f. no_misfit c.ty c.default bad (subst (λ (y : Column). FitsColumn y.ty y.default) same f)))
  | inr good ↦
      let same : x ≡ with_default (default_of_column c.ty) c = e ∙ cond-false (is_misfit c.ty c.default) c (with_default (default_of_column c.ty) c) good in
      ap (λ (y : Column). y.default) same ∙ ap (λ (y : Column). default_of_column y.ty) (sym same)
]

defaults_has : (text : DictionaryText) → AreClear (table (definition_of text)) → (place : ℕ) (x : Column) → slice_get (definition_of text).columns place ≡ Some x → is_attribute (definition_of text) place ≡ false
    → x.default ≡ default_of_column x.ty
defaults_has text clear place x found e =
    let d = definition_of text in
    let c = settled_at d.keys d.range 0 place text.columns x found in
    let apart : is_set_apart d.keys d.range (0 + place) ≡ true = ap (is_set_apart d.keys d.range) (let n : 0 + place ≡ place = omega arith in n) ∙ set_apart (is_key d place) (is_range_end d.range place) e in
    of_settled x c.0 (c.1 ∙ cond-true (is_set_apart d.keys d.range (0 + place)) (settled c.0) c.0 apart) (defaults_fit d clear place x found)

-- ---- statements

-- what the written parts of a statement have
abbrev WrittenHas : Written → Type 0
WrittenHas (written.Dictionary text) = TextHasSource text.parts.source × TextHasLayout text.parts.layout
WrittenHas (written.Function text) = TextHasSource text.parts.source × (text.parts.source.implicit ≡ false)

of_parts : (parts : DictionaryParts) (ts : List Token) → Made dictionary_parts AreDictionaryClauses parts ts → TextHasSource parts.source × TextHasLayout parts.layout
of_parts parts ts h =
    let all = of_clauses [] h.from ts h.fits.0 tt in
    subst (λ (p : DictionaryParts). TextHasSource p.source × TextHasLayout p.layout) (sym h.is)
    (source_in (clause_of_kind kind.Source h.from) (clause_found kind.Source h.from all), layout_in (clause_of_kind kind.Layout h.from) (clause_found kind.Layout h.from all))

of_function : (w : WrittenFunction) (ts : List Token) → IsWrittenFunction w ts → TextHasSource (function_parts w).source × ((function_parts w).source.implicit ≡ false)
of_function w ts h =
    let all = of_source Function h.value h.front h.before in
    subst (λ (x : WrittenFunction). TextHasSource (function_parts x).source × ((function_parts x).source.implicit ≡ false)) (sym h.behind.is) (source_has Function h.value all, no_implicit h.value all)

abbrev StatementHas : Statement → Type 0
StatementHas st = WrittenHas st.written

columns_case : (place : ℕ) (name : WrittenName) (st : Statement) (v : Verdict (List Column)) (ts : List Token)
    → Onward (λ columns. Standing (Then IsKey (λ keys. Then (Made dictionary_parts AreDictionaryClauses) (λ parts. Made (dictionary place name columns keys parts) IsItemEnd)))) v (stands st) ts → StatementHas st
columns_case place name st (stands columns) ts k =
    let p = k.behind in
    subst (λ (x : Statement). StatementHas x) (sym p.behind.is) (of_parts p.value p.front p.before)
columns_case place name st (falls e) ts k = absurd (let x = k.0 in cc)

dictionary_has : (st : Statement) (ts : List Token) → IsDictionary (stands st) ts → StatementHas st
dictionary_has st ts h =
    let n = h.behind.behind.behind in
    let c = n.behind in
    columns_case h.value n.value st c.value c.back c.behind

type_case : (place : ℕ) (name : List ℕ) (arguments : List Arg) (st : Statement) (v : Verdict AttrType) (ts : List Token)
    → Onward (λ type. Standing (Then IsWrittenFunction (λ source. Made (function place name arguments type (function_parts source)) IsItemEnd))) v (stands st) ts → StatementHas st
type_case place name arguments st (stands t) ts k = subst (λ (x : Statement). StatementHas x) (sym k.behind.is) (of_function k.value k.front k.before)
type_case place name arguments st (falls e) ts k = absurd (let x = k.0 in cc)

arguments_case : (place : ℕ) (name : List ℕ) (st : Statement) (v : Verdict (List Arg)) (ts : List Token)
    → Onward (λ arguments. Then (IsKeyword (codes "RETURNS")) (λ _. ThenVerdict IsType (λ type. Standing (Then IsWrittenFunction (λ source. Made (function place name arguments type (function_parts source)) IsItemEnd))))) v (stands st) ts → StatementHas st
arguments_case place name st (stands arguments) ts k = let t = k.behind in type_case place name arguments st t.value t.back t.behind
arguments_case place name st (falls e) ts k = absurd (let x = k.0 in cc)

function_has : (st : Statement) (ts : List Token) → IsFunction (stands st) ts → StatementHas st
function_has st ts h =
    let n = h.behind.behind in
    let a = n.behind in
    arguments_case h.value n.value st a.value a.back a.behind

statement_has : (st : Statement) (ts : List Token) → IsStatement (stands st) ts → StatementHas st
statement_has st ts (inl h) = dictionary_has st ts h
statement_has st ts (inr h) = function_has st ts h

-- ---- files

abbrev AllHave : List Statement → Type 0
AllHave statements = AllByRecursion StatementHas statements

behind_one : (st : Statement) (others : Verdict (List Statement)) (ss : List Statement) → verdict_map (λ (behind : List Statement). st ∷ behind) others ≡ stands ss → StatementHas st → ((os : List Statement) → others ≡ stands os → AllHave os) → AllHave ss
behind_one st (stands os) ss e h more_have =
    let same : st ∷ os ≡ ss = cc in
    subst (λ (xs : List Statement). AllHave xs) same (h, more_have os refl)
behind_one st (falls f) ss e h more_have = absurd cc

statements_have : (v : Verdict (List Statement)) (ts : List Token) (ss : List Statement) → IsFile v ts → v ≡ stands ss → AllHave ss
statements_have v ts ss empty e = let same : [] ≡ ss = cc in subst (λ (xs : List Statement). AllHave xs) same tt
statements_have v ts ss (last {statement = st} ended f) e = let same : st ∷ [] ≡ ss = cc in subst (λ (xs : List Statement). AllHave xs) same (statement_has st ts f, tt)
statements_have v ts ss (fallen f) e = absurd cc
statements_have v ts ss (another_one {statement = st} {others = others} {own = own} {rest = rest} parts ended file is) e =
    behind_one st others ss (sym is ∙ e) (statement_has st own ended.1) (λ os same. statements_have others rest os file same)

-- ---- items

written_has : (w : Written) → WrittenHas w → AreClear (rules_of (item_written w)) → TextHas (item_written w)
written_has (written.Dictionary text) h clear = record { defaults = defaults_has text clear; source = h.0; layout = h.1 }
written_has (written.Function text) h clear = record { source = h.0; implicit = h.1 }

items_have : (before items : List Item) (statements : List Statement) → AreItemsFrom before statements items → AllHave statements → All TextHas before → All TextHas items
unfolding AreItemsFrom
items_have before items [] made h all = subst (λ (xs : List Item). All TextHas xs) made all
items_have before items (st ∷ statements) made h all =
    items_have (before ++ item_of st ∷ []) items statements made.1 h.1
    (All-append TextHas before (item_of st ∷ []) all (All-cons TextHas (item_of st) [] (written_has st.written h.0 made.0.1.0) (All-nil TextHas)))

pub read_items_have : (tokens : List Token) (items : List Item) → IsDefined tokens items → All TextHas items
read_items_have tokens items d =
    let text = d.text.1 in
    items_have [] items d.statements d.made (statements_have (stands d.statements) text.own d.statements text.fits refl) (All-nil TextHas)
