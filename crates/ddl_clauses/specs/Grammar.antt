-- The grammar of the clauses: which tokens are which clauses.
use Rattle.std.specs.Prelude.{◌≡◌, ℕ, Bool, true, false, IsTrue, List, ◌++◌, codes, Option, Some, None, Result}
use Rattle.std.specs.Prelude.{Ok, Err}
use Rattle.dict_value.specs.Memory.{UnlessNoMemory}
use Rattle.ddl_tokens.specs.declared.fault.ReadFault.{ReadFault}
use Rattle.ddl_tokens.specs.declared.fault.ReadFault.TheVariants as fault
use Rattle.dict_schema.specs.declared.definition.Lifetime.{Lifetime}
use Rattle.ddl_tokens.specs.declared.token.TokenKind.{TokenKind}
use Rattle.ddl_tokens.specs.declared.fault.SyntaxFault.TheVariants.{Unexpected, UnknownSetting, Unsupported}
use Rattle.ddl_tokens.specs.Tokens.{Token}
use Rattle.ddl_tokens.specs.Reading.{is_keyword, is_name, is_number, is_string}
use Rattle.ddl_tokens.specs.Laws.{Grammar, Stopping, Anyhow, Begins, OptionalStops, first, IsOne, IsKeyword, IsSign}
use Rattle.ddl_tokens.specs.Laws.{IsBytes, Then, Either, Made, Optional}
use Rattle.ddl_tokens.specs.Lists.{InAnyOrder}
use Rattle.ddl_clauses.specs.declared.settings.SettingName.{SettingName}
use Rattle.ddl_clauses.specs.declared.settings.Form.{Form}
use Rattle.ddl_clauses.specs.declared.settings.Form.TheVariants as form
use Rattle.ddl_clauses.specs.declared.settings.Section.{Section}
use Rattle.ddl_clauses.specs.declared.settings.Owner.{Owner}
use Rattle.ddl_clauses.specs.declared.settings.Owner.TheVariants.{Dictionary, Function}
use Rattle.ddl_clauses.specs.declared.settings.SettingValue.{SettingValue}
use Rattle.ddl_clauses.specs.declared.settings.SettingValue.TheVariants as value
use Rattle.ddl_clauses.specs.declared.settings.Setting.{Setting}
use Rattle.ddl_clauses.specs.declared.clause.Clause.{Clause}
use Rattle.ddl_clauses.specs.declared.clause.Clause.TheVariants as clause
use Rattle.ddl_clauses.specs.declared.clause.ClauseKind.{ClauseKind}
use Rattle.ddl_clauses.specs.declared.clause.ClauseKind.TheVariants as kind
use Rattle.ddl_clauses.specs.declared.clause.RangeNames.{RangeNames}
use Rattle.ddl_clauses.specs.declared.clause.WrittenLayout.{WrittenLayout}
use Rattle.ddl_clauses.specs.declared.clause.WrittenSource.{WrittenSource}
use Rattle.ddl_clauses.specs.Settings.{setting_number, setting_text, form_of, group_of, has_group, wanted_settings}
use Rattle.ddl_clauses.specs.Settings.{source_section}
use Rattle.ddl_clauses.specs.Choices.{Meaning, choice, meant_by, is_written, is_plain_value, flag_in, no_flag_meant}
use Rattle.ddl_clauses.specs.Choices.{format_in, strategy_in, whole_in, most_whole, most_short, bare_name_in}
use Rattle.ddl_clauses.specs.Choices.{source_kind_in, word_in}
use Rattle.ddl_clauses.specs.Layouts.{all_layouts, layout_named, layout_section}
use Rattle.ddl_clauses.specs.SettingLists.{setting, number_of_setting, wanted_numbers, has_field_for_lag}
use Rattle.ddl_clauses.specs.Clauses.{source, layout, lifetime, range, or_empty, has_some, clause_number}
use Rattle.ddl_clauses.specs.Clauses.{number_of_clause}
use Rattle.ddl_clauses.specs.Clauses.{wanted_clauses, begun_clause, WrittenFunction, written_function}

-- one token of some kind, whose bytes mean this value
abbrev pub IsChosen : {A : Type 0} → (TokenKind → Bool) → Meaning A → Grammar A
IsChosen test meaning = IsOne (choice test meaning)

abbrev pub IsWholeUpTo : ℕ → Grammar ℕ
IsWholeUpTo most = IsChosen is_number (meant_by Unexpected (whole_in most))

-- ---- settings

-- a value of this form
abbrev pub IsSettingValue : Form → Grammar SettingValue
IsSettingValue form.Text = Made value.Text (IsBytes is_string)
IsSettingValue form.Format = Made value.Format (IsChosen is_written (meant_by Unsupported format_in))
IsSettingValue form.Flag = Made value.Flag (IsChosen is_plain_value (meant_by Unexpected flag_in))
IsSettingValue form.NoFlag = Made value.Flag (IsChosen is_plain_value no_flag_meant)
IsSettingValue form.Whole = Made value.Whole (IsWholeUpTo most_whole)
IsSettingValue form.Short = Made value.Short (IsWholeUpTo most_short)
IsSettingValue form.Strategy = Made value.Strategy (IsChosen is_string (meant_by Unexpected strategy_in))
IsSettingValue form.BareName = Made value.Text (IsChosen is_written (meant_by Unexpected bare_name_in))

-- its name and its value
abbrev pub IsSetting : SettingName → Grammar Setting
IsSetting name =
    Then (IsChosen is_name (meant_by UnknownSetting (word_in (setting_text name)))) (λ _.
    Made (setting name) (IsSettingValue (form_of name)))

-- a setting that a list takes
pub record SettingOf (section : Section) : Type 0 where
  pub name : SettingName
  pub own : IsTrue (has_group section (group_of name))

-- settings that a list takes in any order, each at most once, and each wanted one; a lag only beside an update field
abbrev pub AreSettings : Section → Grammar (List Setting)
AreSettings section settings ts =
    InAnyOrder (λ (k : SettingOf section). setting_number k.name) number_of_setting (λ k. IsSetting k.name)
    (wanted_numbers section) settings ts
    × (has_field_for_lag settings ≡ true)

abbrev pub AreSettingsInBrackets : Section → Grammar (List Setting)
AreSettingsInBrackets section =
    Then (IsSign 40) (λ _.
    Then (AreSettings section) (λ settings.
    Made (λ _. settings) (IsSign 41)))

-- ---- clauses

-- SOURCE ( kind ( settings ) )
abbrev pub IsSource : Owner → Grammar WrittenSource
IsSource owner =
    Then (IsKeyword (codes "SOURCE")) (λ _.
    Then (IsSign 40) (λ _.
    Then (IsChosen is_name (meant_by Unsupported source_kind_in)) (λ kind.
    Then (AreSettingsInBrackets (source_section owner kind)) (λ settings.
    Made (λ _. source kind settings) (IsSign 41)))))

-- a thing that has to be there, or may be left out
abbrev pub LeftOutUnless : {A : Type 0} → Bool → Grammar A → Grammar (Option A)
LeftOutUnless true Own = Made (λ a. Some a) Own
LeftOutUnless false Own = Optional Own

-- the settings of a layout in brackets, which may be left out where none is wanted
abbrev pub IsLayoutSettings : Section → Grammar (Option (List Setting))
IsLayoutSettings section = LeftOutUnless (has_some (wanted_settings section)) (AreSettingsInBrackets section)

-- LAYOUT ( name [ ( settings ) ] )
abbrev pub IsLayout : Grammar WrittenLayout
IsLayout =
    Then (IsKeyword (codes "LAYOUT")) (λ _.
    Then (IsSign 40) (λ _.
    Then (IsChosen is_name (meant_by Unsupported (layout_named all_layouts))) (λ name.
    Then (IsLayoutSettings (layout_section name)) (λ settings.
    Made (λ _. layout name (or_empty settings)) (IsSign 41)))))

-- MIN number MAX number
abbrev pub IsMinMax : Grammar Lifetime
IsMinMax =
    Then (IsKeyword (codes "MIN")) (λ _.
    Then (IsWholeUpTo most_short) (λ least.
    Then (IsKeyword (codes "MAX")) (λ _.
    Made (λ most. lifetime least most) (IsWholeUpTo most_short))))

-- MAX number MIN number
abbrev pub IsMaxMin : Grammar Lifetime
IsMaxMin =
    Then (IsKeyword (codes "MAX")) (λ _.
    Then (IsWholeUpTo most_short) (λ most.
    Then (IsKeyword (codes "MIN")) (λ _.
    Made (λ least. lifetime least most) (IsWholeUpTo most_short))))

-- one number, or both in either order
abbrev pub AreBounds : Grammar Lifetime
AreBounds = Either (Made (λ n. lifetime n n) (IsWholeUpTo most_short)) (Either IsMinMax IsMaxMin)

-- LIFETIME ( bounds )
abbrev pub IsLifetime : Grammar Lifetime
IsLifetime =
    Then (IsKeyword (codes "LIFETIME")) (λ _.
    Then (IsSign 40) (λ _.
    Then AreBounds (λ bounds.
    Made (λ _. bounds) (IsSign 41))))

-- RANGE ( MIN name MAX name )
abbrev pub IsRange : Grammar RangeNames
IsRange =
    Then (IsKeyword (codes "RANGE")) (λ _.
    Then (IsSign 40) (λ _.
    Then (IsKeyword (codes "MIN")) (λ _.
    Then (IsBytes is_name) (λ start.
    Then (IsKeyword (codes "MAX")) (λ _.
    Then (IsBytes is_name) (λ last.
    Made (λ _. range start last) (IsSign 41)))))))

-- SETTINGS ( max_output_bytes = number )
abbrev pub IsOutputSettings : Grammar ℕ
IsOutputSettings =
    Then (IsKeyword (codes "SETTINGS")) (λ _.
    Then (IsSign 40) (λ _.
    Then (IsChosen is_name (meant_by UnknownSetting (word_in (codes "max_output_bytes")))) (λ _.
    Then (IsSign 61) (λ _.
    Then (IsWholeUpTo most_whole) (λ output.
    Made (λ _. output) (IsSign 41))))))

-- COMMENT string
abbrev pub IsCommentClause : Grammar (List ℕ)
IsCommentClause = Then (IsKeyword (codes "COMMENT")) (λ _. Made (λ comment. comment) (IsBytes is_string))

-- a clause of a dictionary
abbrev pub IsDictionaryClause : ClauseKind → Grammar Clause
IsDictionaryClause kind.Source = Made clause.Source (IsSource Dictionary)
IsDictionaryClause kind.Layout = Made clause.Layout IsLayout
IsDictionaryClause kind.Lifetime = Made clause.Lifetime IsLifetime
IsDictionaryClause kind.Range = Made clause.Range IsRange
IsDictionaryClause kind.Settings = Made clause.Settings IsOutputSettings
IsDictionaryClause kind.Comment = Made clause.Comment IsCommentClause

-- in any order, each at most once
abbrev pub AreDictionaryClauses : Grammar (List Clause)
AreDictionaryClauses = InAnyOrder clause_number number_of_clause IsDictionaryClause wanted_clauses

-- they stop where a token begins no clause
abbrev pub NoClauseFollows : {A : Type 0} → Stopping A
NoClauseFollows a None = Unit {0}
NoClauseFollows a (Some t) = begun_clause t ≡ None

-- the source of a function [ SETTINGS .. ]
abbrev pub IsWrittenFunction : Grammar WrittenFunction
IsWrittenFunction = Then (IsSource Function) (λ source. Made (written_function source) (Optional IsOutputSettings))

-- without SETTINGS it stops where that doesn't follow
abbrev pub FunctionStops : Stopping WrittenFunction
FunctionStops written next = OptionalStops (is_keyword (codes "SETTINGS")) Anyhow written.output next

-- ---- what a call answers that reads a written thing and says what it says

-- the tokens begin with a thing that says this, and these are behind it
abbrev pub BeginsSaying : {A B : Type 0} → (A → B) → Grammar A → Stopping A → List Token → List Token → B → Type 0
BeginsSaying {A = A} saying Own Stops tokens rest b =
    (a : A) × (b ≡ saying a) × Begins Own Stops tokens a rest

-- tokens that begin with a thing are read as that, up to its end
abbrev pub ReadsOnly : {A B : Type 0} → (A → B) → Grammar A → Stopping A → List Token → List Token → Result B ReadFault
    → Type 0
ReadsOnly {A = A} saying Own Stops tokens left result =
    (a : A) (own rest : List Token) → tokens ≡ own ++ rest → Own a own → Stops a (first rest)
    → UnlessNoMemory (Err fault.NoMemory) result ((result ≡ Ok (saying a)) × (left ≡ rest))
