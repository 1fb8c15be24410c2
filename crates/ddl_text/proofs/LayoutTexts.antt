-- Layouts are written by their grammar, and mean the layout again.
use Rattle.std.proofs.Common.{◌≡◌, ◌≤◌, ℕ, Bool, true, false, List, [], ◌∷◌, ◌++◌, Some, refl, ap, ◌∙◌, arith, decimal, append_assoc}
use Rattle.std.specs.Prelude.{codes}
use Rattle.dict_schema.specs.declared.definition.CacheSet.{CacheSet}
use Rattle.dict_schema.specs.declared.definition.Layout.{Layout}
use Rattle.dict_schema.specs.declared.definition.Layout.TheVariants as layout
use Rattle.dict_schema.specs.declared.definition.Strategy.{Strategy}
use Rattle.dict_schema.specs.declared.definition.Strategy.TheVariants.{Min, Max}
use Rattle.ddl_tokens.specs.declared.fault.SyntaxFault.TheVariants.{Unsupported}
use Rattle.ddl_tokens.specs.declared.letters.LetterCase.TheVariants.{Any}
use Rattle.ddl_tokens.specs.declared.token.TokenKind.TheVariants.{Word}
use Rattle.ddl_tokens.specs.Letters.{same_letters}
use Rattle.ddl_tokens.specs.Tokens.{Token}
use Rattle.ddl_tokens.specs.Reading.{is_name}
use Rattle.ddl_tokens.specs.Lists.{has_all, has_number, none}
use Rattle.ddl_tokens.proofs.Laws.{same_itself}
use Rattle.ddl_clauses.specs.declared.layouts.LayoutName.{LayoutName}
use Rattle.ddl_clauses.specs.declared.layouts.LayoutName.TheVariants as layout_name
use Rattle.ddl_clauses.specs.declared.settings.Section.{Section}
use Rattle.ddl_clauses.specs.declared.settings.Section.TheVariants as section_of
use Rattle.ddl_clauses.specs.declared.settings.Setting.{Setting}
use Rattle.ddl_clauses.specs.declared.settings.SettingName.TheVariants as name
use Rattle.ddl_clauses.specs.declared.settings.SettingValue.TheVariants as value
use Rattle.ddl_clauses.specs.Choices.{choice, meant_by, most_short, or_fault}
use Rattle.ddl_clauses.specs.Clauses.{layout as written_layout}
use Rattle.ddl_clauses.specs.Grammar.{AreSettings, AreSettingsInBrackets, IsLayout, IsLayoutSettings}
use Rattle.ddl_clauses.specs.Layouts.{all_layouts, layout_named, layout_section}
use Rattle.ddl_clauses.specs.Parts.{layout_with, value_of_setting}
use Rattle.ddl_clauses.specs.SettingLists.{setting}
use Rattle.ddl_writing.specs.Canonical.{bit_text, cache_text, flat_text, kept_text, layout_clause, strategy_text}
use Rattle.ddl_writing.specs.Words.{word_text}
use Rattle.ddl_text.specs.Again.{CacheFits}
use Rattle.ddl_text.proofs.Spelt.{Writes, apart_blank, apart_close, apart_open, at_text, blank_first, fit, is_bare, keyword_written, last_of, made_written, nothing_written, sign_written, then_written, token_of, word_at}
use Rattle.ddl_text.proofs.SettingTexts.{no_flag_value, setting_more, short_value, strategy_value, whole_value}
use Rattle.ddl_text.proofs.SourceTexts.{kept_whole}

pub brackets_written : (section : Section) (settings : List Setting) (text rest : List ℕ) → Writes text (AreSettings section settings) (41 ∷ rest) → Writes (40 ∷ text) (AreSettingsInBrackets section settings) rest
brackets_written section settings text rest h = then_written tt (sign_written 40 text refl) (then_written settings h (made_written (λ _. settings) settings tt refl (sign_written 41 rest refl)))

layout_around : (l : LayoutName) (word : List ℕ) (settings : List Setting) (text rest : List ℕ) → is_bare word ≡ true → layout_named all_layouts word ≡ Some l
    → Writes (40 ∷ text) (IsLayoutSettings (layout_section l) (Some settings)) (41 ∷ rest) → Writes (codes " LAYOUT(" ++ (word ++ (40 ∷ text))) (IsLayout (written_layout l settings)) rest
layout_around l word settings text rest bare is h =
    blank_first (then_written tt (keyword_written (codes "LAYOUT") (40 ∷ (word ++ (40 ∷ text))) (codes "LAYOUT") refl (same_itself Any (codes "LAYOUT")) (apart_open _))
    (then_written tt (sign_written 40 (word ++ (40 ∷ text)) refl)
    (then_written l (λ place. word_at place word (40 ∷ text) (choice is_name (meant_by Unsupported (layout_named all_layouts))) l bare (apart_open text) (ap (or_fault (Unsupported (token_of place Word word).place)) is))
    (then_written (Some settings) h (made_written (λ _. written_layout l settings) (written_layout l settings) tt refl (sign_written 41 rest refl))))))

-- no settings in the brackets
abbrev NoSettings : Section → List ℕ → Type 0
NoSettings section rest = Writes (codes "()" ++ rest) (AreSettingsInBrackets section []) rest

no_settings : (section : Section) (rest : List ℕ) → ((own : List Token) → own ≡ [] → AreSettings section [] own) → NoSettings section rest
no_settings section rest h = brackets_written section [] (41 ∷ rest) rest (nothing_written (41 ∷ rest) (AreSettings section []) (h [] refl))

bare_settings : (rest : List ℕ) → NoSettings section_of.Bare rest
unfolding has_all has_number
bare_settings rest = no_settings section_of.Bare rest (λ own e. ((none refl e, refl), refl))

hashed_settings : (rest : List ℕ) → NoSettings section_of.Hashed rest
unfolding has_all has_number
hashed_settings rest = no_settings section_of.Hashed rest (λ own e. ((none refl e, refl), refl))

strategy_settings : (s : Strategy) (rest : List ℕ) → Writes (strategy_text s ++ rest) (AreSettingsInBrackets section_of.Range (setting name.RangeStrategy (value.Strategy s) ∷ [])) rest
unfolding has_all has_number
strategy_settings Min rest =
    brackets_written section_of.Range _ (codes "range_lookup_strategy 'min')" ++ rest) rest
    (fit (λ own f. ((f, refl), refl)) (setting_more name.RangeStrategy (value.Strategy Min) refl refl refl (strategy_value Min (41 ∷ rest) (apart_close rest)) (last_of _ (41 ∷ rest))))
strategy_settings Max rest =
    brackets_written section_of.Range _ (codes "range_lookup_strategy 'max')" ++ rest) rest
    (fit (λ own f. ((f, refl), refl)) (setting_more name.RangeStrategy (value.Strategy Max) refl refl refl (strategy_value Max (41 ∷ rest) (apart_close rest)) (last_of _ (41 ∷ rest))))

abbrev flat_settings : ℕ → ℕ → List Setting
flat_settings initial most = setting name.InitialArraySize (value.Short initial) ∷ setting name.MaxArraySize (value.Whole most) ∷ []

flat_spelled : (initial most : ℕ) (rest : List ℕ) → flat_text initial most ++ rest ≡ codes "FLAT(INITIAL_ARRAY_SIZE " ++ (decimal initial ++ (codes " MAX_ARRAY_SIZE " ++ (decimal most ++ (41 ∷ rest))))
unfolding word_text
flat_spelled initial most rest =
    ap (λ (u : List ℕ). codes "FLAT(INITIAL_ARRAY_SIZE " ++ u)
    (append_assoc (decimal initial) ((codes " MAX_ARRAY_SIZE " ++ decimal most) ++ codes ")") rest ∙ ap (λ (u : List ℕ). decimal initial ++ (codes " MAX_ARRAY_SIZE " ++ u)) (append_assoc (decimal most) (codes ")") rest))

flat_written : (initial most : ℕ) (rest : List ℕ) → initial ≤ most_short → most ≤ most_short
    → Writes (codes "(INITIAL_ARRAY_SIZE " ++ (decimal initial ++ (codes " MAX_ARRAY_SIZE " ++ (decimal most ++ (41 ∷ rest))))) (AreSettingsInBrackets section_of.Flat (flat_settings initial most)) rest
unfolding has_all has_number
flat_written initial most rest small few =
    brackets_written section_of.Flat (flat_settings initial most) (codes "INITIAL_ARRAY_SIZE " ++ (decimal initial ++ (codes " MAX_ARRAY_SIZE " ++ (decimal most ++ (41 ∷ rest))))) rest
    (fit (λ own f. ((f, refl), refl))
    (setting_more name.InitialArraySize (value.Short initial) refl refl refl (short_value initial (codes " MAX_ARRAY_SIZE " ++ (decimal most ++ (41 ∷ rest))) small (apart_blank _))
    (blank_first (setting_more name.MaxArraySize (value.Whole most) refl refl refl (whole_value most (41 ∷ rest) (omega (arith, few)) (apart_close rest)) (last_of _ (41 ∷ rest))))))

-- which caches are read again
pub record IsCacheAgain (cache : CacheSet) : Type 0 where
  pub fits : CacheFits cache
  pub expired : cache.expired ≡ false

abbrev cache_settings : CacheSet → List Setting
cache_settings cache = setting name.SizeInCells (value.Whole cache.cells) ∷ setting name.ReadExpired (value.Flag false) ∷ setting name.UpdateQueue (value.Short cache.queue) ∷ []

cache_spelled : (cache : CacheSet) (rest : List ℕ) → cache.expired ≡ false
    → cache_text cache ++ rest ≡ codes "(SIZE_IN_CELLS " ++ (decimal cache.cells ++ (codes " ALLOW_READ_EXPIRED_KEYS 0 MAX_UPDATE_QUEUE_SIZE " ++ (decimal cache.queue ++ (41 ∷ rest))))
unfolding word_text
cache_spelled cache rest e =
    ap (λ (u : List ℕ). codes "(SIZE_IN_CELLS " ++ u)
    (ap (λ (b : Bool). (decimal cache.cells ++ (codes " ALLOW_READ_EXPIRED_KEYS " ++ (bit_text b ++ ((codes " MAX_UPDATE_QUEUE_SIZE " ++ decimal cache.queue) ++ codes ")")))) ++ rest) e
    ∙ append_assoc (decimal cache.cells) (codes " ALLOW_READ_EXPIRED_KEYS 0" ++ ((codes " MAX_UPDATE_QUEUE_SIZE " ++ decimal cache.queue) ++ codes ")")) rest
    ∙ ap (λ (u : List ℕ). decimal cache.cells ++ (codes " ALLOW_READ_EXPIRED_KEYS 0 MAX_UPDATE_QUEUE_SIZE " ++ u)) (append_assoc (decimal cache.queue) (codes ")") rest))

cache_written : (cache : CacheSet) (rest : List ℕ) → IsCacheAgain cache
    → Writes (codes "(SIZE_IN_CELLS " ++ (decimal cache.cells ++ (codes " ALLOW_READ_EXPIRED_KEYS 0 MAX_UPDATE_QUEUE_SIZE " ++ (decimal cache.queue ++ (41 ∷ rest))))) (AreSettingsInBrackets section_of.Cache (cache_settings cache)) rest
unfolding has_all has_number
cache_written cache rest h =
    brackets_written section_of.Cache (cache_settings cache) (codes "SIZE_IN_CELLS " ++ (decimal cache.cells ++ (codes " ALLOW_READ_EXPIRED_KEYS 0 MAX_UPDATE_QUEUE_SIZE " ++ (decimal cache.queue ++ (41 ∷ rest))))) rest
    (fit (λ own f. ((f, refl), refl))
    (setting_more name.SizeInCells (value.Whole cache.cells) refl refl refl (whole_value cache.cells (codes " ALLOW_READ_EXPIRED_KEYS 0 MAX_UPDATE_QUEUE_SIZE " ++ (decimal cache.queue ++ (41 ∷ rest))) h.fits.cells (apart_blank _))
    (blank_first (setting_more name.ReadExpired (value.Flag false) refl refl refl (no_flag_value (codes " MAX_UPDATE_QUEUE_SIZE " ++ (decimal cache.queue ++ (41 ∷ rest))) (apart_blank _))
    (blank_first (setting_more name.UpdateQueue (value.Short cache.queue) refl refl refl (short_value cache.queue (41 ∷ rest) h.fits.queue (apart_close rest)) (last_of _ (41 ∷ rest))))))))

-- ---- layouts

-- which layouts are read again
abbrev pub IsLayoutAgain : Layout → Type 0
IsLayoutAgain (layout.Flat initial most) = (initial ≤ most_short) × (most ≤ most_short)
IsLayoutAgain (layout.Cache cache) = IsCacheAgain cache
IsLayoutAgain (layout.ComplexCache cache) = IsCacheAgain cache
IsLayoutAgain _ = Unit {0}

-- a layout's name and settings mean it
pub record LayoutAgain (l : Layout) (rest : List ℕ) : Type 0 where
  pub name : LayoutName
  pub settings : List Setting
  pub written : Writes (layout_clause l ++ rest) (IsLayout (written_layout name settings)) rest
  pub means : l ≡ layout_with name settings

layout_spelled : (l : Layout) (rest : List ℕ) → layout_clause l ++ rest ≡ codes " LAYOUT(" ++ (kept_text l ++ (41 ∷ rest))
unfolding word_text
layout_spelled l rest = ap (λ (u : List ℕ). codes " LAYOUT(" ++ u) (append_assoc (kept_text l) (codes ")") rest)

pub layout_again : (l : Layout) (rest : List ℕ) → IsLayoutAgain l → LayoutAgain l rest
unfolding word_text same_letters layout_named value_of_setting
layout_again layout.Hashed rest h = record {
  name = layout_name.Hashed;
  settings = [];
  written = at_text (layout_spelled layout.Hashed rest) (layout_around layout_name.Hashed (codes "HASHED") [] (41 ∷ 41 ∷ rest) rest refl refl (hashed_settings (41 ∷ rest)));
  means = refl;
}
layout_again layout.SparseHashed rest h = record {
  name = layout_name.SparseHashed;
  settings = [];
  written = at_text (layout_spelled layout.SparseHashed rest) (layout_around layout_name.SparseHashed (codes "SPARSE_HASHED") [] (41 ∷ 41 ∷ rest) rest refl refl (hashed_settings (41 ∷ rest)));
  means = refl;
}
layout_again layout.HashedArray rest h = record {
  name = layout_name.HashedArray;
  settings = [];
  written = at_text (layout_spelled layout.HashedArray rest) (layout_around layout_name.HashedArray (codes "HASHED_ARRAY") [] (41 ∷ 41 ∷ rest) rest refl refl (hashed_settings (41 ∷ rest)));
  means = refl;
}
layout_again layout.ComplexHashed rest h = record {
  name = layout_name.ComplexHashed;
  settings = [];
  written = at_text (layout_spelled layout.ComplexHashed rest) (layout_around layout_name.ComplexHashed (codes "COMPLEX_KEY_HASHED") [] (41 ∷ 41 ∷ rest) rest refl refl (hashed_settings (41 ∷ rest)));
  means = refl;
}
layout_again layout.ComplexSparseHashed rest h = record {
  name = layout_name.ComplexSparseHashed;
  settings = [];
  written = at_text (layout_spelled layout.ComplexSparseHashed rest) (layout_around layout_name.ComplexSparseHashed (codes "COMPLEX_KEY_SPARSE_HASHED") [] (41 ∷ 41 ∷ rest) rest refl refl (hashed_settings (41 ∷ rest)));
  means = refl;
}
layout_again layout.ComplexHashedArray rest h = record {
  name = layout_name.ComplexHashedArray;
  settings = [];
  written = at_text (layout_spelled layout.ComplexHashedArray rest) (layout_around layout_name.ComplexHashedArray (codes "COMPLEX_KEY_HASHED_ARRAY") [] (41 ∷ 41 ∷ rest) rest refl refl (hashed_settings (41 ∷ rest)));
  means = refl;
}
layout_again layout.IpTrie rest h = record {
  name = layout_name.IpTrie;
  settings = [];
  written = at_text (layout_spelled layout.IpTrie rest) (layout_around layout_name.IpTrie (codes "IP_TRIE") [] (41 ∷ 41 ∷ rest) rest refl refl (bare_settings (41 ∷ rest)));
  means = refl;
}
layout_again layout.Direct rest h = record {
  name = layout_name.Direct;
  settings = [];
  written = at_text (layout_spelled layout.Direct rest) (layout_around layout_name.Direct (codes "DIRECT") [] (41 ∷ 41 ∷ rest) rest refl refl (bare_settings (41 ∷ rest)));
  means = refl;
}
layout_again layout.ComplexDirect rest h = record {
  name = layout_name.ComplexDirect;
  settings = [];
  written = at_text (layout_spelled layout.ComplexDirect rest) (layout_around layout_name.ComplexDirect (codes "COMPLEX_KEY_DIRECT") [] (41 ∷ 41 ∷ rest) rest refl refl (bare_settings (41 ∷ rest)));
  means = refl;
}
layout_again (layout.RangeHashed strategy) rest h = record {
  name = layout_name.RangeHashed;
  settings = setting name.RangeStrategy (value.Strategy strategy) ∷ [];
  written = ranged strategy;
  means = refl;
} where
  ranged : (s : Strategy) → Writes (layout_clause (layout.RangeHashed s) ++ rest) (IsLayout (written_layout layout_name.RangeHashed (setting name.RangeStrategy (value.Strategy s) ∷ []))) rest
  ranged Min = at_text (layout_spelled (layout.RangeHashed Min) rest) (layout_around layout_name.RangeHashed (codes "RANGE_HASHED") _ (codes "range_lookup_strategy 'min')" ++ (41 ∷ rest)) rest refl refl (strategy_settings Min (41 ∷ rest)))
  ranged Max = at_text (layout_spelled (layout.RangeHashed Max) rest) (layout_around layout_name.RangeHashed (codes "RANGE_HASHED") _ (codes "range_lookup_strategy 'max')" ++ (41 ∷ rest)) rest refl refl (strategy_settings Max (41 ∷ rest)))
layout_again (layout.ComplexRangeHashed strategy) rest h = record {
  name = layout_name.ComplexRangeHashed;
  settings = setting name.RangeStrategy (value.Strategy strategy) ∷ [];
  written = ranged strategy;
  means = refl;
} where
  ranged : (s : Strategy) → Writes (layout_clause (layout.ComplexRangeHashed s) ++ rest) (IsLayout (written_layout layout_name.ComplexRangeHashed (setting name.RangeStrategy (value.Strategy s) ∷ []))) rest
  ranged Min = at_text (layout_spelled (layout.ComplexRangeHashed Min) rest) (layout_around layout_name.ComplexRangeHashed (codes "COMPLEX_KEY_RANGE_HASHED") _ (codes "range_lookup_strategy 'min')" ++ (41 ∷ rest)) rest refl refl (strategy_settings Min (41 ∷ rest)))
  ranged Max = at_text (layout_spelled (layout.ComplexRangeHashed Max) rest) (layout_around layout_name.ComplexRangeHashed (codes "COMPLEX_KEY_RANGE_HASHED") _ (codes "range_lookup_strategy 'max')" ++ (41 ∷ rest)) rest refl refl (strategy_settings Max (41 ∷ rest)))
layout_again (layout.Flat initial most) rest h = record {
  name = layout_name.Flat;
  settings = flat_settings initial most;
  written =
      at_text (layout_spelled (layout.Flat initial most) rest ∙ ap (λ (u : List ℕ). codes " LAYOUT(" ++ u) (flat_spelled initial most (41 ∷ rest)))
      (layout_around layout_name.Flat (codes "FLAT") (flat_settings initial most) (codes "INITIAL_ARRAY_SIZE " ++ (decimal initial ++ (codes " MAX_ARRAY_SIZE " ++ (decimal most ++ (41 ∷ 41 ∷ rest))))) rest refl refl (flat_written initial most (41 ∷ rest) h.0 h.1));
  means = ap (layout.Flat initial) (kept_whole most h.1);
}
layout_again (layout.Cache cache) rest h = record {
  name = layout_name.Cache;
  settings = cache_settings cache;
  written =
      at_text (layout_spelled (layout.Cache cache) rest ∙ ap (λ (u : List ℕ). codes " LAYOUT(CACHE" ++ u) (cache_spelled cache (41 ∷ rest) h.expired))
      (layout_around layout_name.Cache (codes "CACHE") (cache_settings cache) (codes "SIZE_IN_CELLS " ++ (decimal cache.cells ++ (codes " ALLOW_READ_EXPIRED_KEYS 0 MAX_UPDATE_QUEUE_SIZE " ++ (decimal cache.queue ++ (41 ∷ 41 ∷ rest))))) rest refl refl
      (made_written (λ (s : List Setting). Some s) (Some (cache_settings cache)) (cache_settings cache) refl (cache_written cache (41 ∷ rest) h)));
  means = ap (λ (b : Bool). layout.Cache (record cache { expired = b })) h.expired;
}
layout_again (layout.ComplexCache cache) rest h = record {
  name = layout_name.ComplexCache;
  settings = cache_settings cache;
  written =
      at_text (layout_spelled (layout.ComplexCache cache) rest ∙ ap (λ (u : List ℕ). codes " LAYOUT(COMPLEX_KEY_CACHE" ++ u) (cache_spelled cache (41 ∷ rest) h.expired))
      (layout_around layout_name.ComplexCache (codes "COMPLEX_KEY_CACHE") (cache_settings cache) (codes "SIZE_IN_CELLS " ++ (decimal cache.cells ++ (codes " ALLOW_READ_EXPIRED_KEYS 0 MAX_UPDATE_QUEUE_SIZE " ++ (decimal cache.queue ++ (41 ∷ 41 ∷ rest))))) rest refl refl
      (made_written (λ (s : List Setting). Some s) (Some (cache_settings cache)) (cache_settings cache) refl (cache_written cache (41 ∷ rest) h)));
  means = ap (λ (b : Bool). layout.ComplexCache (record cache { expired = b })) h.expired;
}
