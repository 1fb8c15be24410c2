-- Sources are written by their grammar, and mean the source again.
use Rattle.std.proofs.Common.{◌≡◌, ◌≤◌, ℕ, Bool, true, false, List, [], ◌∷◌, ◌++◌, Some, refl, sym, ap, subst, ◌∙◌, arith, decimal, append_assoc}
use Rattle.std.specs.Prelude.{codes, IsTrue}
use Rattle.dict_schema.specs.declared.definition.Kind.{Kind}
use Rattle.dict_schema.specs.declared.definition.Kind.TheVariants.{Executable, Pool}
use Rattle.dict_schema.specs.declared.definition.SourceOf.{SourceOf}
use Rattle.dict_schema.specs.declared.definition.Update.{Update}
use Rattle.dict_schema.specs.declared.definition.Update.TheVariants as update
use Rattle.ddl_tokens.specs.declared.fault.SyntaxFault.TheVariants.{Unsupported}
use Rattle.ddl_tokens.specs.declared.letters.LetterCase.TheVariants.{Any}
use Rattle.ddl_tokens.specs.declared.token.TokenKind.TheVariants.{Word}
use Rattle.ddl_tokens.specs.Letters.{same_letters}
use Rattle.ddl_tokens.specs.Reading.{is_name}
use Rattle.ddl_tokens.specs.Lists.{has_all, has_number}
use Rattle.ddl_tokens.proofs.Laws.{same_itself}
use Rattle.ddl_clauses.specs.declared.settings.Group.TheVariants as group
use Rattle.ddl_clauses.specs.declared.settings.Owner.{Owner}
use Rattle.ddl_clauses.specs.declared.settings.Owner.TheVariants.{Dictionary, Function}
use Rattle.ddl_clauses.specs.declared.settings.Section.{Section}
use Rattle.ddl_clauses.specs.declared.settings.Section.TheVariants as section_of
use Rattle.ddl_clauses.specs.declared.settings.Setting.{Setting}
use Rattle.ddl_clauses.specs.declared.settings.SettingName.TheVariants as name
use Rattle.ddl_clauses.specs.declared.settings.SettingValue.TheVariants as value
use Rattle.ddl_clauses.specs.Choices.{choice, has_bare_form, meant_by, most_short, or_fault, source_kind_in}
use Rattle.ddl_clauses.specs.Clauses.{source}
use Rattle.ddl_clauses.specs.Grammar.{AreSettings, IsSource}
use Rattle.ddl_clauses.specs.Parts.{kept_short, source_with, value_of_setting}
use Rattle.ddl_clauses.specs.SettingLists.{number_of_setting, setting}
use Rattle.ddl_clauses.specs.Settings.{has_group, source_section}
use Rattle.ddl_writing.specs.Canonical.{bit_text, flags_text, format_text, kind_text, pool_text, program_text, settings_text, source_text, times_text, update_text}
use Rattle.ddl_writing.specs.Quoted.{string_text}
use Rattle.ddl_writing.specs.Words.{word_text}
use Rattle.ddl_text.specs.Again.{SourceFits}
use Rattle.ddl_text.proofs.Spelt.{Apart, Writes, apart_blank, apart_close, apart_open, at_text, blank_first, fit, is_bare, keyword_written, last_of, made_written, sign_written, then_written, token_of, word_at}
use Rattle.ddl_text.proofs.SettingTexts.{Settings, bare_value, flag_value, format_value, setting_more, short_value, text_value, whole_value}

-- ---- the texts, part by part

program_spelled : (s : SourceOf) (rest : List ℕ) → program_text s ++ rest ≡ codes "command " ++ (string_text s.command ++ (codes " format " ++ (format_text s.format ++ rest)))
unfolding word_text
program_spelled s rest = ap (λ (u : List ℕ). codes "command " ++ u) (append_assoc (string_text s.command) (codes " format " ++ format_text s.format) rest)

flags_spelled : (s : SourceOf) (rest : List ℕ)
    → flags_text false s ++ rest ≡ codes " execute_direct " ++ (bit_text s.direct ++ (codes " implicit_key " ++ (bit_text s.implicit ++ (codes " send_chunk_header " ++ (bit_text s.header ++ rest)))))
unfolding word_text
flags_spelled s rest =
    ap (λ (u : List ℕ). codes " execute_direct " ++ u)
    (append_assoc (bit_text s.direct) ((codes " implicit_key " ++ bit_text s.implicit) ++ (codes " send_chunk_header " ++ bit_text s.header)) rest
    ∙ ap (λ (u : List ℕ). bit_text s.direct ++ (codes " implicit_key " ++ u)) (append_assoc (bit_text s.implicit) (codes " send_chunk_header " ++ bit_text s.header) rest))

function_flags_spelled : (s : SourceOf) (rest : List ℕ) → flags_text true s ++ rest ≡ codes " execute_direct " ++ (bit_text s.direct ++ (codes " send_chunk_header " ++ (bit_text s.header ++ rest)))
unfolding word_text
function_flags_spelled s rest = ap (λ (u : List ℕ). codes " execute_direct " ++ u) (append_assoc (bit_text s.direct) (codes " send_chunk_header " ++ bit_text s.header) rest)

times_spelled : (s : SourceOf) (rest : List ℕ) → times_text s ++ rest
    ≡ codes " command_read_timeout " ++ (decimal s.read_ms ++ (codes " command_write_timeout " ++ (decimal s.write_ms ++ (codes " command_termination_timeout " ++ (decimal s.end_s ++ rest)))))
unfolding word_text
times_spelled s rest =
    ap (λ (u : List ℕ). codes " command_read_timeout " ++ u)
    (append_assoc (decimal s.read_ms) ((codes " command_write_timeout " ++ decimal s.write_ms) ++ (codes " command_termination_timeout " ++ decimal s.end_s)) rest
    ∙ ap (λ (u : List ℕ). decimal s.read_ms ++ (codes " command_write_timeout " ++ u)) (append_assoc (decimal s.write_ms) (codes " command_termination_timeout " ++ decimal s.end_s) rest))

flags_apart : (b : Bool) (s : SourceOf) (rest : List ℕ) → Apart (flags_text b s ++ rest)
unfolding word_text
flags_apart b s rest = apart_blank _

times_apart : (s : SourceOf) (rest : List ℕ) → Apart (times_text s ++ rest)
unfolding word_text
times_apart s rest = apart_blank _

-- ---- settings

abbrev dictionary_settings : SourceOf → List Setting
dictionary_settings s =
    setting name.Command (value.Text s.command) ∷ setting name.Format (value.Format s.format) ∷ setting name.ExecuteDirect (value.Flag s.direct) ∷ setting name.ImplicitKey (value.Flag s.implicit)
    ∷ setting name.SendChunkHeader (value.Flag s.header) ∷ setting name.ReadTimeout (value.Short s.read_ms) ∷ setting name.WriteTimeout (value.Short s.write_ms) ∷ setting name.TerminationTimeout (value.Short s.end_s) ∷ []

abbrev function_settings : SourceOf → List Setting
function_settings s =
    setting name.Command (value.Text s.command) ∷ setting name.Format (value.Format s.format) ∷ setting name.ExecuteDirect (value.Flag s.direct)
    ∷ setting name.SendChunkHeader (value.Flag s.header) ∷ setting name.ReadTimeout (value.Short s.read_ms) ∷ setting name.WriteTimeout (value.Short s.write_ms) ∷ setting name.TerminationTimeout (value.Short s.end_s) ∷ []

dictionary_first : (section : Section) (s : SourceOf) (c : List Setting) (mid rest : List ℕ) → IsTrue (has_group section group.Run) → IsTrue (has_group section group.Implicit) → SourceFits s → Apart mid
    → Writes mid (Settings section (dictionary_settings s) c) rest → Writes (program_text s ++ (flags_text false s ++ (times_text s ++ mid))) (Settings section [] c) rest
unfolding has_number
dictionary_first section s c mid rest run implicit short apart h =
    at_text (program_spelled s (flags_text false s ++ (times_text s ++ mid)))
    (setting_more name.Command (value.Text s.command) run refl refl (text_value s.command (codes " format " ++ (format_text s.format ++ (flags_text false s ++ (times_text s ++ mid)))) (apart_blank _))
    (blank_first (setting_more name.Format (value.Format s.format) run refl refl (format_value s.format (flags_text false s ++ (times_text s ++ mid)) (flags_apart false s (times_text s ++ mid)))
    (at_text (flags_spelled s (times_text s ++ mid))
    (blank_first (setting_more name.ExecuteDirect (value.Flag s.direct) run refl refl (flag_value s.direct (codes " implicit_key " ++ (bit_text s.implicit ++ (codes " send_chunk_header " ++ (bit_text s.header ++ (times_text s ++ mid))))) (apart_blank _))
    (blank_first (setting_more name.ImplicitKey (value.Flag s.implicit) implicit refl refl (flag_value s.implicit (codes " send_chunk_header " ++ (bit_text s.header ++ (times_text s ++ mid))) (apart_blank _))
    (blank_first (setting_more name.SendChunkHeader (value.Flag s.header) run refl refl (flag_value s.header (times_text s ++ mid) (times_apart s mid))
    (at_text (times_spelled s mid)
    (blank_first (setting_more name.ReadTimeout (value.Short s.read_ms) run refl refl (short_value s.read_ms (codes " command_write_timeout " ++ (decimal s.write_ms ++ (codes " command_termination_timeout " ++ (decimal s.end_s ++ mid)))) short.read (apart_blank _))
    (blank_first (setting_more name.WriteTimeout (value.Short s.write_ms) run refl refl (short_value s.write_ms (codes " command_termination_timeout " ++ (decimal s.end_s ++ mid)) short.write (apart_blank _))
    (blank_first (setting_more name.TerminationTimeout (value.Short s.end_s) run refl refl (short_value s.end_s mid short.end apart) h)))))))))))))))))

function_first : (section : Section) (s : SourceOf) (c : List Setting) (mid rest : List ℕ) → IsTrue (has_group section group.Run) → SourceFits s → Apart mid
    → Writes mid (Settings section (function_settings s) c) rest → Writes (program_text s ++ (flags_text true s ++ (times_text s ++ mid))) (Settings section [] c) rest
unfolding has_number
function_first section s c mid rest run short apart h =
    at_text (program_spelled s (flags_text true s ++ (times_text s ++ mid)))
    (setting_more name.Command (value.Text s.command) run refl refl (text_value s.command (codes " format " ++ (format_text s.format ++ (flags_text true s ++ (times_text s ++ mid)))) (apart_blank _))
    (blank_first (setting_more name.Format (value.Format s.format) run refl refl (format_value s.format (flags_text true s ++ (times_text s ++ mid)) (flags_apart true s (times_text s ++ mid)))
    (at_text (function_flags_spelled s (times_text s ++ mid))
    (blank_first (setting_more name.ExecuteDirect (value.Flag s.direct) run refl refl (flag_value s.direct (codes " send_chunk_header " ++ (bit_text s.header ++ (times_text s ++ mid))) (apart_blank _))
    (blank_first (setting_more name.SendChunkHeader (value.Flag s.header) run refl refl (flag_value s.header (times_text s ++ mid) (times_apart s mid))
    (at_text (times_spelled s mid)
    (blank_first (setting_more name.ReadTimeout (value.Short s.read_ms) run refl refl (short_value s.read_ms (codes " command_write_timeout " ++ (decimal s.write_ms ++ (codes " command_termination_timeout " ++ (decimal s.end_s ++ mid)))) short.read (apart_blank _))
    (blank_first (setting_more name.WriteTimeout (value.Short s.write_ms) run refl refl (short_value s.write_ms (codes " command_termination_timeout " ++ (decimal s.end_s ++ mid)) short.write (apart_blank _))
    (blank_first (setting_more name.TerminationTimeout (value.Short s.end_s) run refl refl (short_value s.end_s mid short.end apart) h)))))))))))))))

-- ---- the settings of a pool, and of an update

pool_spelled : (s : SourceOf) (rest : List ℕ) → pool_text s Pool ++ rest ≡ codes " pool_size " ++ (decimal s.pool_size ++ (codes " max_command_execution_time " ++ (decimal s.execution_s ++ rest)))
unfolding word_text
pool_spelled s rest = ap (λ (u : List ℕ). codes " pool_size " ++ u) (append_assoc (decimal s.pool_size) (codes " max_command_execution_time " ++ decimal s.execution_s) rest)

-- the numbers of a pool fit
abbrev pub IsPool : SourceOf → Type 0
IsPool s = (s.pool_size ≤ most_short) × (s.execution_s ≤ most_short)

pool_apart : (s : SourceOf) (rest : List ℕ) → Apart (pool_text s Pool ++ rest)
unfolding word_text
pool_apart s rest = apart_blank _

module _ (section : Section) (s : SourceOf) (a : List Setting) (rest : List ℕ) (own : IsTrue (has_group section group.Pool)) (none : has_number number_of_setting 8 a ≡ false)
    (later : has_number number_of_setting 9 (a ++ setting name.PoolSize (value.Whole s.pool_size) ∷ []) ≡ false) (fits : IsPool s) (apart : Apart rest) where
  pool_written : Writes (pool_text s Pool ++ rest) (Settings section a ((a ++ setting name.PoolSize (value.Whole s.pool_size) ∷ []) ++ setting name.ExecutionTime (value.Short s.execution_s) ∷ [])) rest
  pool_written =
      at_text (pool_spelled s rest)
      (blank_first (setting_more name.PoolSize (value.Whole s.pool_size) own refl none (whole_value s.pool_size (codes " max_command_execution_time " ++ (decimal s.execution_s ++ rest)) (omega (arith, fits)) (apart_blank _))
      (blank_first (setting_more name.ExecutionTime (value.Short s.execution_s) own refl later (short_value s.execution_s rest fits.1 apart) (last_of _ rest)))))

update_spelled : (name : List ℕ) (lag : ℕ) (rest : List ℕ) → update_text (update.Field name lag) ++ rest ≡ codes " update_field " ++ (string_text name ++ (codes " update_lag " ++ (decimal lag ++ rest)))
unfolding word_text
update_spelled name lag rest = ap (λ (u : List ℕ). codes " update_field " ++ u) (append_assoc (string_text name) (codes " update_lag " ++ decimal lag) rest)

update_apart : (name : List ℕ) (lag : ℕ) (rest : List ℕ) → Apart (update_text (update.Field name lag) ++ rest)
unfolding word_text
update_apart name lag rest = apart_blank _

update_written : (s : SourceOf) (field : List ℕ) (lag : ℕ) (rest : List ℕ) → has_bare_form field ≡ true → lag ≤ most_short → Apart rest
    → Writes (update_text (update.Field field lag) ++ rest) (Settings section_of.Executable (dictionary_settings s)
    ((dictionary_settings s ++ setting name.UpdateField (value.Text field) ∷ []) ++ setting name.UpdateLag (value.Short lag) ∷ [])) rest
unfolding has_number
update_written s field lag rest bare small apart =
    at_text (update_spelled field lag rest)
    (blank_first (setting_more name.UpdateField (value.Text field) refl refl refl (bare_value field (codes " update_lag " ++ (decimal lag ++ rest)) bare (apart_blank _))
    (blank_first (setting_more name.UpdateLag (value.Short lag) refl refl refl (short_value lag rest small apart) (last_of _ rest)))))

-- ---- sources

kind_written : (owner : Owner) (k : Kind) (word : List ℕ) (settings : List Setting) (text rest : List ℕ) → is_bare word ≡ true → source_kind_in word ≡ Some k
    → Writes text (AreSettings (source_section owner k) settings) (41 ∷ 41 ∷ rest) → Writes (codes "SOURCE(" ++ (word ++ (40 ∷ text))) (IsSource owner (source k settings)) rest
kind_written owner k word settings text rest bare is h =
    then_written tt (keyword_written (codes "SOURCE") (40 ∷ (word ++ (40 ∷ text))) (codes "SOURCE") refl (same_itself Any (codes "SOURCE")) (apart_open _))
    (then_written tt (sign_written 40 (word ++ (40 ∷ text)) refl)
    (then_written k (λ place. word_at place word (40 ∷ text) (choice is_name (meant_by Unsupported source_kind_in)) k bare (apart_open text) (ap (or_fault (Unsupported (token_of place Word word).place)) is))
    (then_written settings (then_written tt (sign_written 40 text refl) (then_written settings h (made_written (λ _. settings) settings tt refl (sign_written 41 (41 ∷ rest) refl))))
    (made_written (λ _. source k settings) (source k settings) tt refl (sign_written 41 rest refl)))))

-- a source of another kind and with another update
abbrev pub as_source : Kind → Update → SourceOf → SourceOf
as_source k u s = record s { kind = k; update = u }

-- the fields that the text leaves out have the values that reading gives
abbrev pub KindAgain : Kind → SourceOf → Type 0
KindAgain Executable s = (s.pool_size ≡ 16) × (s.execution_s ≡ 10)
KindAgain Pool s = IsPool s

abbrev pub UpdateAgain : Bool → Kind → Update → Type 0
UpdateAgain b k update.None = Unit {0}
UpdateAgain false Executable (update.Field field lag) = (has_bare_form field ≡ true) × (lag ≤ most_short)
UpdateAgain b k (update.Field field lag) = ⊥

-- the settings that are written of a source mean it
pub record SourceAgain (owner : Owner) (b : Bool) (k : Kind) (u : Update) (s : SourceOf) (rest : List ℕ) : Type 0 where
  pub settings : List Setting
  pub written : Writes (kind_text k ++ ((program_text s ++ (flags_text b s ++ (times_text s ++ (pool_text s k ++ update_text u)))) ++ (41 ∷ 41 ∷ rest))) (IsSource owner (source k settings)) rest
  pub means : as_source k u s ≡ source_with owner (source k settings)

settings_spelled : (p f t e rest : List ℕ) → (p ++ (f ++ (t ++ e))) ++ rest ≡ p ++ (f ++ (t ++ (e ++ rest)))
settings_spelled p f t e rest = append_assoc p (f ++ (t ++ e)) rest ∙ ap (λ (u : List ℕ). p ++ u) (append_assoc f (t ++ e) rest ∙ ap (λ (u : List ℕ). f ++ u) (append_assoc t e rest))

pub kept_whole : (n : ℕ) → n ≤ most_short → n ≡ kept_short n
kept_whole n small = omega (arith, small)

pub dictionary_source : (k : Kind) (u : Update) (s : SourceOf) (rest : List ℕ) → SourceFits s → KindAgain k s → UpdateAgain false k u → SourceAgain Dictionary false k u s rest
unfolding same_letters has_all has_number value_of_setting
dictionary_source Executable update.None s rest short kept used = record {
  settings = dictionary_settings s;
  written =
      kind_written Dictionary Executable (codes "EXECUTABLE") (dictionary_settings s) _ rest refl refl
      (at_text (settings_spelled (program_text s) (flags_text false s) (times_text s) [] (41 ∷ 41 ∷ rest))
      (fit (λ own f. ((f, refl), refl)) (dictionary_first section_of.Executable s (dictionary_settings s) (41 ∷ 41 ∷ rest) (41 ∷ 41 ∷ rest) refl refl short (apart_close (41 ∷ rest)) (last_of _ (41 ∷ 41 ∷ rest)))));
  means = λ i. record s { kind = Executable; update = update.None; pool_size = kept.0 i; execution_s = kept.1 i };
}
dictionary_source Executable (update.Field field lag) s rest short kept used =
    let all = (dictionary_settings s ++ setting name.UpdateField (value.Text field) ∷ []) ++ setting name.UpdateLag (value.Short lag) ∷ [] in
    record {
      settings = all;
      written =
          kind_written Dictionary Executable (codes "EXECUTABLE") all _ rest refl refl
          (at_text (settings_spelled (program_text s) (flags_text false s) (times_text s) (update_text (update.Field field lag)) (41 ∷ 41 ∷ rest))
          (fit (λ own f. ((f, refl), refl)) (dictionary_first section_of.Executable s all (update_text (update.Field field lag) ++ (41 ∷ 41 ∷ rest)) (41 ∷ 41 ∷ rest) refl refl short (update_apart field lag (41 ∷ 41 ∷ rest))
          (update_written s field lag (41 ∷ 41 ∷ rest) used.0 used.1 (apart_close (41 ∷ rest))))));
      means = λ i. record s { kind = Executable; update = update.Field field lag; pool_size = kept.0 i; execution_s = kept.1 i };
    }
dictionary_source Pool update.None s rest short kept used =
    let all = (dictionary_settings s ++ setting name.PoolSize (value.Whole s.pool_size) ∷ []) ++ setting name.ExecutionTime (value.Short s.execution_s) ∷ [] in
    record {
      settings = all;
      written =
          kind_written Dictionary Pool (codes "EXECUTABLE_POOL") all _ rest refl refl
          (at_text (settings_spelled (program_text s) (flags_text false s) (times_text s) (pool_text s Pool ++ []) (41 ∷ 41 ∷ rest))
          (fit (λ own f. ((f, refl), refl)) (dictionary_first section_of.Pool s all ((pool_text s Pool ++ []) ++ (41 ∷ 41 ∷ rest)) (41 ∷ 41 ∷ rest) refl refl short (subst (λ (u : List ℕ). Apart u) (sym (append_assoc (pool_text s Pool) [] (41 ∷ 41 ∷ rest))) (pool_apart s (41 ∷ 41 ∷ rest)))
          (at_text (append_assoc (pool_text s Pool) [] (41 ∷ 41 ∷ rest)) (pool_written section_of.Pool s (dictionary_settings s) (41 ∷ 41 ∷ rest) refl refl refl kept (apart_close (41 ∷ rest)))))));
      means = λ i. record s { kind = Pool; update = update.None; pool_size = kept_whole s.pool_size kept.0 i };
    }
dictionary_source Pool (update.Field field lag) s rest short kept used = absurd used

pub function_source : (k : Kind) (u : Update) (s : SourceOf) (rest : List ℕ) → SourceFits s → KindAgain k s → s.implicit ≡ false → UpdateAgain true k u → SourceAgain Function true k u s rest
unfolding same_letters has_all has_number value_of_setting
function_source Executable update.None s rest short kept none used = record {
  settings = function_settings s;
  written =
      kind_written Function Executable (codes "EXECUTABLE") (function_settings s) _ rest refl refl
      (at_text (settings_spelled (program_text s) (flags_text true s) (times_text s) [] (41 ∷ 41 ∷ rest))
      (fit (λ own f. ((f, refl), refl)) (function_first section_of.FunctionExecutable s (function_settings s) (41 ∷ 41 ∷ rest) (41 ∷ 41 ∷ rest) refl short (apart_close (41 ∷ rest)) (last_of _ (41 ∷ 41 ∷ rest)))));
  means = λ i. record s { kind = Executable; update = update.None; implicit = none i; pool_size = kept.0 i; execution_s = kept.1 i };
}
function_source Pool update.None s rest short kept none used =
    let all = (function_settings s ++ setting name.PoolSize (value.Whole s.pool_size) ∷ []) ++ setting name.ExecutionTime (value.Short s.execution_s) ∷ [] in
    record {
      settings = all;
      written =
          kind_written Function Pool (codes "EXECUTABLE_POOL") all _ rest refl refl
          (at_text (settings_spelled (program_text s) (flags_text true s) (times_text s) (pool_text s Pool ++ []) (41 ∷ 41 ∷ rest))
          (fit (λ own f. ((f, refl), refl)) (function_first section_of.FunctionPool s all ((pool_text s Pool ++ []) ++ (41 ∷ 41 ∷ rest)) (41 ∷ 41 ∷ rest) refl short (subst (λ (u : List ℕ). Apart u) (sym (append_assoc (pool_text s Pool) [] (41 ∷ 41 ∷ rest))) (pool_apart s (41 ∷ 41 ∷ rest)))
          (at_text (append_assoc (pool_text s Pool) [] (41 ∷ 41 ∷ rest)) (pool_written section_of.FunctionPool s (function_settings s) (41 ∷ 41 ∷ rest) refl refl refl kept (apart_close (41 ∷ rest)))))));
      means = λ i. record s { kind = Pool; update = update.None; implicit = none i; pool_size = kept_whole s.pool_size kept.0 i };
    }
function_source k (update.Field field lag) s rest short kept none used = absurd used

pub source_spelled : (b : Bool) (s : SourceOf) (rest : List ℕ) → source_text b s ++ rest ≡ kind_text s.kind ++ (settings_text b s ++ (41 ∷ 41 ∷ rest))
source_spelled b s rest = append_assoc (kind_text s.kind) (settings_text b s ++ codes "))") rest ∙ ap (λ (u : List ℕ). kind_text s.kind ++ u) (append_assoc (settings_text b s) (codes "))") rest)
