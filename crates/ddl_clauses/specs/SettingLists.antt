-- Lists of settings, as they are read.
use Rattle.std.specs.Prelude.{ℕ, Bool, true, List, [], ◌∷◌, map, Option, Some, None, Ok, Err}
use Rattle.std.specs.Prelude.{if◌then◌else◌}
use Rattle.ddl_tokens.specs.declared.letters.LetterCase.TheVariants.{Any}
use Rattle.ddl_tokens.specs.declared.fault.SyntaxFault.TheVariants.{Unexpected, UnknownSetting, Unsupported}
use Rattle.ddl_tokens.specs.Letters.{same_letters}
use Rattle.ddl_tokens.specs.Tokens.{Token}
use Rattle.ddl_tokens.specs.Reading.{◌>>=◌, Read, passes, of_kind, is_name, is_string, place_ahead}
use Rattle.ddl_tokens.specs.Reading.{bytes_ahead}
use Rattle.ddl_tokens.specs.Reading.{bytes_at, sign_at, unexpected}
use Rattle.ddl_tokens.specs.Lists.{Kind, Step, has_number, once_of, repeat}
use Rattle.ddl_clauses.specs.declared.settings.SettingName.{SettingName}
use Rattle.ddl_clauses.specs.declared.settings.SettingName.TheVariants as name
use Rattle.ddl_clauses.specs.declared.settings.Form.{Form}
use Rattle.ddl_clauses.specs.declared.settings.Form.TheVariants as form
use Rattle.ddl_clauses.specs.declared.settings.Section.{Section}
use Rattle.ddl_clauses.specs.declared.settings.SettingValue.{SettingValue}
use Rattle.ddl_clauses.specs.declared.settings.SettingValue.TheVariants as value
use Rattle.ddl_clauses.specs.declared.settings.Setting.{Setting}
use Rattle.ddl_clauses.specs.Settings.{setting_number, setting_text, all_settings, form_of, group_of, has_group}
use Rattle.ddl_clauses.specs.Settings.{wanted_settings}
use Rattle.ddl_clauses.specs.Choices.{chosen_at, meant_by, is_written, is_plain_value, flag_in, no_flag_meant}
use Rattle.ddl_clauses.specs.Choices.{format_in}
use Rattle.ddl_clauses.specs.Choices.{strategy_in, whole_up_to_at, most_whole, most_short, bare_name_in, word_in}

-- ---- one setting

-- the setting, of these, that bytes name in any letter case
unfoldable pub setting_named : List SettingName → List ℕ → Option SettingName
setting_named [] bytes = None
setting_named (name ∷ others) bytes =
    if same_letters Any bytes (setting_text name) then Some name else setting_named others bytes

abbrev pub if_taken : Section → Option SettingName → Option SettingName
if_taken section None = None
if_taken section (Some name) = if has_group section (group_of name) then Some name else None

-- the setting of a list that bytes name
unfoldable pub taken_setting : Section → List ℕ → Option SettingName
taken_setting section bytes = if_taken section (setting_named all_settings bytes)

-- a value by its form
unfoldable pub setting_value_at : Form → List Token → Read SettingValue
setting_value_at form.Text ts = bytes_at is_string ts >>= λ x. Ok (value.Text x.0, x.1)
setting_value_at form.Format ts = chosen_at is_written (meant_by Unsupported format_in) ts
    >>= λ x. Ok (value.Format x.0, x.1)
setting_value_at form.Flag ts = chosen_at is_plain_value (meant_by Unexpected flag_in) ts
    >>= λ x. Ok (value.Flag x.0, x.1)
setting_value_at form.NoFlag ts = chosen_at is_plain_value no_flag_meant ts >>= λ x. Ok (value.Flag x.0, x.1)
setting_value_at form.Whole ts = whole_up_to_at most_whole ts >>= λ x. Ok (value.Whole x.0, x.1)
setting_value_at form.Short ts = whole_up_to_at most_short ts >>= λ x. Ok (value.Short x.0, x.1)
setting_value_at form.Strategy ts = chosen_at is_string (meant_by Unexpected strategy_in) ts
    >>= λ x. Ok (value.Strategy x.0, x.1)
setting_value_at form.BareName ts = chosen_at is_written (meant_by Unexpected bare_name_in) ts
    >>= λ x. Ok (value.Text x.0, x.1)

abbrev pub setting : SettingName → SettingValue → Setting
setting name value = record { name = name; value = value }

-- the name and the value
unfoldable pub setting_at : SettingName → List Token → Read Setting
setting_at name ts = do
  word ← chosen_at is_name (meant_by UnknownSetting (word_in (setting_text name))) ts
  value ← setting_value_at (form_of name) word.1
  Ok (setting name value.0, value.1)

-- ---- a list of settings

abbrev pub number_of_setting : Setting → ℕ
number_of_setting s = setting_number s.name

-- whether a setting is there
abbrev pub has_setting : SettingName → List Setting → Bool
has_setting name settings = has_number number_of_setting (setting_number name) settings

-- the numbers of the settings that a list wants
abbrev pub wanted_numbers : Section → List ℕ
wanted_numbers section = map setting_number (wanted_settings section)

-- the setting that was named, or the fault of another name
abbrev pub or_unknown : ℕ → Option SettingName → Kind SettingName
or_unknown place None = Err (UnknownSetting place)
or_unknown place (Some name) = Ok (Some name)

-- the setting that the token in hand begins: a word has to name one that the list takes
unfoldable pub setting_kind_at : Section → List Token → Kind SettingName
setting_kind_at section ts =
    if passes (of_kind is_name) ts then or_unknown (place_ahead ts) (taken_setting section (bytes_ahead ts))
    else Ok None

unfoldable pub next_setting : Section → Step (List Setting)
next_setting section before ts =
    setting_kind_at section ts
    >>= λ o. once_of setting_at setting_number number_of_setting (wanted_numbers section) before ts o

-- whether a lag stands only beside an update field
abbrev pub has_field_for_lag : List Setting → Bool
has_field_for_lag settings =
    if has_setting name.UpdateLag settings then has_setting name.UpdateField settings else true

-- what was read, where it passes a test; else the token behind it is unexpected
abbrev pub if_passing : {A : Type 0} → (A → Bool) → A × List Token → Read A
if_passing test x = if test x.0 then Ok (x.0, x.1) else unexpected x.1

unfoldable pub settings_at : Section → List Token → Read (List Setting)
settings_at section ts = repeat (next_setting section) [] ts >>= if_passing has_field_for_lag

-- in brackets
unfoldable pub settings_in_brackets_at : Section → List Token → Read (List Setting)
settings_in_brackets_at section ts = do
  begin ← sign_at 40 ts
  settings ← settings_at section begin.1
  end ← sign_at 41 settings.1
  Ok (settings.0, end.1)
