-- Settings are written by their grammar.
use Rattle.std.proofs.Common.{◌≡◌, ◌<◌, ◌≤◌, ◌^◌, ℕ, Bool, true, false, cond, List, [], ◌∷◌, ◌++◌, Some, None, refl, ap, inl, arith, decimal}
use Rattle.std.specs.Prelude.{codes, IsTrue}
use Rattle.dict_value.specs.declared.value.Format.{Format}
use Rattle.dict_value.specs.declared.value.Format.TheVariants as format
use Rattle.dict_schema.specs.declared.definition.Strategy.{Strategy}
use Rattle.dict_schema.specs.declared.definition.Strategy.TheVariants.{Min, Max}
use Rattle.ddl_tokens.specs.declared.fault.SyntaxFault.TheVariants.{Unexpected, UnknownSetting, Unsupported}
use Rattle.ddl_tokens.specs.declared.letters.LetterCase.TheVariants.{Any}
use Rattle.ddl_tokens.specs.declared.token.TokenKind.TheVariants.{Word, Number, String}
use Rattle.ddl_tokens.specs.Letters.{same_letters}
use Rattle.ddl_tokens.specs.Tokens.{Token, IsToken, whole}
use Rattle.ddl_tokens.specs.Reading.{is_name, is_number, is_string}
use Rattle.ddl_tokens.specs.Laws.{judged}
use Rattle.ddl_tokens.specs.Lists.{AddsOnce, Many, has_number}
use Rattle.ddl_tokens.proofs.Laws.{same_itself}
use Rattle.ddl_clauses.specs.declared.settings.Form.TheVariants as form
use Rattle.ddl_clauses.specs.declared.settings.Section.{Section}
use Rattle.ddl_clauses.specs.declared.settings.Setting.{Setting}
use Rattle.ddl_clauses.specs.declared.settings.SettingName.{SettingName}
use Rattle.ddl_clauses.specs.declared.settings.SettingValue.{SettingValue}
use Rattle.ddl_clauses.specs.declared.settings.SettingValue.TheVariants as value
use Rattle.ddl_clauses.specs.Choices.{bare_name_in, choice, flag_in, format_in, has_bare_form, is_plain_value, is_written, meant_by, most_short, most_whole, no_flag_meant, or_fault, strategy_in, whole_in, word_in}
use Rattle.ddl_clauses.specs.Grammar.{IsSetting, IsSettingValue, IsWholeUpTo, SettingOf}
use Rattle.ddl_clauses.specs.SettingLists.{number_of_setting, setting}
use Rattle.ddl_clauses.specs.Settings.{form_of, group_of, has_group, setting_number, setting_text}
use Rattle.ddl_writing.specs.Canonical.{bit_text, format_text}
use Rattle.ddl_writing.specs.Quoted.{letter_in_quotes, string_text}
use Rattle.ddl_text.proofs.Spelt.{Apart, Writes, apart_blank, blank_first, is_bare, made_written, once_more, one_at, then_written, token_of, word_at}
use Rattle.ddl_text.proofs.Quoting.{number_at, string_at, whole_within}

-- ---- values

pub text_value : (text rest : List ℕ) → Apart rest → Writes (string_text text ++ rest) (IsSettingValue form.Text (value.Text text)) rest
text_value text rest apart = made_written value.Text (value.Text text) text refl (λ place. string_at place text rest (judged (λ (t : Token). is_string t.kind) (λ (t : Token). t.bytes)) text apart refl)

pub format_value : (f : Format) (rest : List ℕ) → Apart rest → Writes (format_text f ++ rest) (IsSettingValue form.Format (value.Format f)) rest
unfolding same_letters letter_in_quotes
format_value format.Tab rest apart = made_written value.Format (value.Format format.Tab) format.Tab refl (λ place. string_at place (codes "TabSeparated") rest (choice is_written (meant_by Unsupported format_in)) format.Tab apart refl)
format_value format.Csv rest apart = made_written value.Format (value.Format format.Csv) format.Csv refl (λ place. string_at place (codes "CSV") rest (choice is_written (meant_by Unsupported format_in)) format.Csv apart refl)

zero_token : (rest : List ℕ) → Apart rest → IsToken Number (codes "0") (codes "0") rest
zero_token rest apart = whole [] (codes "0") refl (inl refl) ((λ e. absurd cc), (refl, tt)) apart.digit apart.fraction

unit_token : (rest : List ℕ) → Apart rest → IsToken Number (codes "1") (codes "1") rest
unit_token rest apart = whole [] (codes "1") refl (inl refl) ((λ e. absurd cc), (refl, tt)) apart.digit apart.fraction

pub flag_value : (b : Bool) (rest : List ℕ) → Apart rest → Writes (bit_text b ++ rest) (IsSettingValue form.Flag (value.Flag b)) rest
unfolding same_letters
flag_value true rest apart = made_written value.Flag (value.Flag true) true refl (λ place. one_at place Number (codes "1") (codes "1") rest (choice is_plain_value (meant_by Unexpected flag_in)) true (unit_token rest apart) refl)
flag_value false rest apart = made_written value.Flag (value.Flag false) false refl (λ place. one_at place Number (codes "0") (codes "0") rest (choice is_plain_value (meant_by Unexpected flag_in)) false (zero_token rest apart) refl)

pub no_flag_value : (rest : List ℕ) → Apart rest → Writes (codes "0" ++ rest) (IsSettingValue form.NoFlag (value.Flag false)) rest
unfolding same_letters
no_flag_value rest apart = made_written value.Flag (value.Flag false) false refl (λ place. one_at place Number (codes "0") (codes "0") rest (choice is_plain_value no_flag_meant) false (zero_token rest apart) refl)

pub whole_up_to : (most n : ℕ) (rest : List ℕ) → n ≤ most → most < 10 ^ 64 → Apart rest → Writes (decimal n ++ rest) (IsWholeUpTo most n) rest
whole_up_to most n rest within small apart place =
    number_at place n rest (choice is_number (meant_by Unexpected (whole_in most))) n (omega (arith, within, small)) apart
    (ap (or_fault (Unexpected (token_of place Number (decimal n)).place)) (whole_within most n within small))

pub whole_value : (n : ℕ) (rest : List ℕ) → n ≤ most_whole → Apart rest → Writes (decimal n ++ rest) (IsSettingValue form.Whole (value.Whole n)) rest
whole_value n rest within apart = made_written value.Whole (value.Whole n) n refl (whole_up_to most_whole n rest within (omega arith) apart)

pub short_value : (n : ℕ) (rest : List ℕ) → n ≤ most_short → Apart rest → Writes (decimal n ++ rest) (IsSettingValue form.Short (value.Short n)) rest
short_value n rest within apart = made_written value.Short (value.Short n) n refl (whole_up_to most_short n rest within (omega arith) apart)

pub strategy_value : (s : Strategy) (rest : List ℕ) → Apart rest → Writes (elim s as (λ _. List ℕ) [ Min ↦ codes "'min'" | Max ↦ codes "'max'" ] ++ rest) (IsSettingValue form.Strategy (value.Strategy s)) rest
unfolding same_letters letter_in_quotes
strategy_value Min rest apart = made_written value.Strategy (value.Strategy Min) Min refl (λ place. string_at place (codes "min") rest (choice is_string (meant_by Unexpected strategy_in)) Min apart refl)
strategy_value Max rest apart = made_written value.Strategy (value.Strategy Max) Max refl (λ place. string_at place (codes "max") rest (choice is_string (meant_by Unexpected strategy_in)) Max apart refl)

pub bare_value : (text rest : List ℕ) → has_bare_form text ≡ true → Apart rest → Writes (string_text text ++ rest) (IsSettingValue form.BareName (value.Text text)) rest
bare_value text rest bare apart =
    made_written value.Text (value.Text text) text refl (λ place.
    string_at place text rest (choice is_written (meant_by Unexpected bare_name_in)) text apart
    (ap (λ (b : Bool). or_fault (Unexpected (token_of place String text).place) (cond b (Some text) None)) bare))

-- ---- a setting

abbrev pub Settings : Section → List Setting → List Setting → List Token → Type 0
Settings section = Many (AddsOnce (λ (k : SettingOf section). setting_number k.name) number_of_setting (λ k. IsSetting k.name))

pub setting_more : {section : Section} {a c : List Setting} {text mid rest : List ℕ} (name : SettingName) (v : SettingValue) → IsTrue (has_group section (group_of name)) → is_bare (setting_text name) ≡ true
    → has_number number_of_setting (setting_number name) a ≡ false → Writes text (IsSettingValue (form_of name) v) mid → Writes mid (Settings section (a ++ setting name v ∷ []) c) rest
    → Writes (setting_text name ++ (32 ∷ text)) (Settings section a c) rest
setting_more {text = text} name v own bare once h k =
    once_more (record { name = name; own = own }) (setting name v) once
    (then_written tt
    (λ place. word_at place (setting_text name) (32 ∷ text) (choice is_name (meant_by UnknownSetting (word_in (setting_text name)))) tt bare (apart_blank text)
    (ap (λ (b : Bool). or_fault (UnknownSetting (token_of place Word (setting_text name)).place) (cond b (Some (tt {0})) None)) (same_itself Any (setting_text name))))
    (made_written (setting name) (setting name v) v refl (blank_first h))) k
