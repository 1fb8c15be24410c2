-- Settings are read by their grammar.
use Rattle.std.proofs.Common.{◌≡◌, ℕ, zero, suc, Bool, true, false, cond, not, ◌&&◌, List, [], ◌∷◌, ◌++◌, map, Option, Some, None, Ok, Err, refl, sym, ap, subst, ◌∙◌, ◌⊎◌, inl, inr, append-nil}
use Rattle.std.specs.Prelude.{codes, ◌==◌}
use mathlib.Core.Path.{fun_ext}
use mathlib.Core.Bool.{Bool-set}
use Rattle.std.proofs.lemmas.Bool.{cond-true, cond-false, cases_Bool, eqb-true}
use Rattle.ddl_tokens.specs.declared.letters.LetterCase.TheVariants.{Any}
use Rattle.ddl_tokens.specs.declared.token.TokenKind.TheVariants.{Word, QuotedWord, Number, String, Sign}
use Rattle.ddl_tokens.specs.declared.token.TokenKind.{TokenKind}
use Rattle.ddl_tokens.specs.declared.fault.SyntaxFault.{SyntaxFault}
use Rattle.ddl_tokens.specs.declared.fault.SyntaxFault.TheVariants.{Unexpected, UnknownSetting, Unsupported}
use Rattle.ddl_tokens.specs.Letters.{same_letters}
use Rattle.ddl_tokens.specs.Tokens.{Token}
use Rattle.ddl_tokens.specs.Reading.{◌>>=◌, is_name, is_number, is_string, is_keyword, is_signed, is_the_sign, passes, bytes_ahead}
use Rattle.ddl_tokens.specs.Laws.{first, place_of, Anyhow, Lawful, IsSign, Made}
use Rattle.ddl_tokens.specs.Lists.{Kind, Step, has_number, has_all, kind_at, once_of, next_once, repeat, AddsOnce, InAnyOrder, BeginsNone, Many, none, more}
use Rattle.ddl_tokens.proofs.Laws.{bytes, judged_ok, keywords_apart, made, same_itself, sign, stopping, test_cases, then, then_after}
use Rattle.ddl_tokens.proofs.Once.{in_any_order, stays, there}
use Rattle.ddl_tokens.proofs.Repeats.{many_then}
use Rattle.ddl_clauses.specs.declared.settings.SettingName.{SettingName}
use Rattle.ddl_clauses.specs.declared.settings.SettingName.TheVariants as name
use Rattle.ddl_clauses.specs.declared.settings.Form.{Form}
use Rattle.ddl_clauses.specs.declared.settings.Form.TheVariants as form
use Rattle.ddl_clauses.specs.declared.settings.Group.TheVariants as group
use Rattle.ddl_clauses.specs.declared.settings.Section.{Section}
use Rattle.ddl_clauses.specs.declared.settings.Section.TheVariants as section
use Rattle.ddl_clauses.specs.declared.settings.SettingValue.TheVariants as value
use Rattle.ddl_clauses.specs.declared.settings.Setting.{Setting}
use Rattle.ddl_clauses.specs.Settings.{setting_number, setting_text, all_settings, form_of, group_of, has_group}
use Rattle.ddl_clauses.specs.Choices.{chosen_at, meant_by, or_fault, unless_true, no_flag_meant, is_written, is_plain_value, flag_in, format_in, strategy_in, whole_in, most_whole, most_short, bare_name_in, word_in}
use Rattle.ddl_clauses.specs.SettingLists.{setting, setting_at, setting_value_at, setting_named, if_taken, taken_setting, number_of_setting, has_setting, wanted_numbers, or_unknown, setting_kind_at, next_setting, has_field_for_lag, settings_at, settings_in_brackets_at}
use Rattle.ddl_clauses.specs.Grammar.{IsChosen, IsWholeUpTo, IsSettingValue, IsSetting, SettingOf, AreSettings, AreSettingsInBrackets}
use Rattle.ddl_clauses.proofs.Chosen.{chosen, meant_placed, tested_law}

-- ---- one setting

pub word_law : {Before : Option Token → Type 0} (word : List ℕ) → Lawful Before (chosen_at is_name (meant_by UnknownSetting (word_in word))) (IsChosen is_name (meant_by UnknownSetting (word_in word))) Anyhow
word_law word = chosen is_name (meant_by UnknownSetting (word_in word)) refl (meant_placed UnknownSetting (word_in word) (λ p. refl)) Word word tt refl (ap (λ (b : Bool). or_fault (UnknownSetting 0) (cond b (Some tt) None)) (same_itself Any word))

pub whole_law : {Before : Option Token → Type 0} (most : ℕ) → whole_in most (codes "0") ≡ Some 0 → Lawful Before (chosen_at is_number (meant_by Unexpected (whole_in most))) (IsWholeUpTo most) Anyhow
whole_law most e = chosen is_number (meant_by Unexpected (whole_in most)) refl (meant_placed Unexpected (whole_in most) (λ p. refl)) Number (codes "0") 0 refl (ap (or_fault (Unexpected 0)) e)

unless_placed : (p : ℕ) (o : Option Bool) (e : SyntaxFault) → unless_true p o ≡ Err e → p ≡ place_of e
unless_placed p None e h = let k : Unexpected p ≡ e = cc in ap place_of k
unless_placed p (Some true) e h = let k : Unsupported p ≡ e = cc in ap place_of k
unless_placed p (Some false) e h = absurd cc

value_law : {Before : Option Token → Type 0} (f : Form) → Lawful Before (setting_value_at f) (IsSettingValue f) Anyhow
unfolding setting_value_at same_letters
value_law form.Text = made value.Text Anyhow (λ a o s. tt) (λ a o s. tt) (bytes is_string String refl)
value_law form.Format = made value.Format Anyhow (λ a o s. tt) (λ a o s. tt) (chosen is_written (meant_by Unsupported format_in) refl (meant_placed Unsupported format_in (λ p. refl)) Word (codes "CSV") _ refl refl)
value_law form.Flag = made value.Flag Anyhow (λ a o s. tt) (λ a o s. tt) (chosen is_plain_value (meant_by Unexpected flag_in) refl (meant_placed Unexpected flag_in (λ p. refl)) Number (codes "0") false refl refl)
value_law form.NoFlag = made value.Flag Anyhow (λ a o s. tt) (λ a o s. tt) (chosen is_plain_value no_flag_meant refl (λ p b e h. unless_placed p (flag_in b) e h) Number (codes "0") false refl refl)
value_law form.Whole = made value.Whole Anyhow (λ a o s. tt) (λ a o s. tt) (whole_law most_whole refl)
value_law form.Short = made value.Short Anyhow (λ a o s. tt) (λ a o s. tt) (whole_law most_short refl)
value_law form.Strategy = made value.Strategy Anyhow (λ a o s. tt) (λ a o s. tt) (chosen is_string (meant_by Unexpected strategy_in) refl (meant_placed Unexpected strategy_in (λ p. refl)) String (codes "min") _ refl refl)
value_law form.BareName = made value.Text Anyhow (λ a o s. tt) (λ a o s. tt) (chosen is_written (meant_by Unexpected bare_name_in) refl (meant_placed Unexpected bare_name_in (λ p. refl)) Word (codes "a") (codes "a") refl refl)

setting_law : {Before : Option Token → Type 0} (n : SettingName) → Lawful Before (setting_at n) (IsSetting n) Anyhow
unfolding setting_at
setting_law n = then (word_law (setting_text n)) (λ _. made (setting n) Anyhow (λ a o s. tt) (λ a o s. tt) (value_law (form_of n)))

-- ---- each name is found

-- a text that is one word is no word apart from it
words_apart : (word other text : List ℕ) → same_letters Any word other ≡ false → same_letters Any text word ≡ true → same_letters Any text other ≡ false
unfolding is_keyword
words_apart word other text apart e = keywords_apart word other (record { place = 0; kind = Word; bytes = text }) apart e

-- the name at a place of a list
abbrev name_at : ℕ → List SettingName → Option SettingName
name_at i [] = None
name_at zero (n ∷ others) = Some n
name_at (suc i) (n ∷ others) = name_at i others

-- whether the names before this place are other words
abbrev is_apart : ℕ → SettingName → List SettingName → Bool
is_apart i n [] = false
is_apart zero n (m ∷ others) = true
is_apart (suc i) n (m ∷ others) = not (same_letters Any (setting_text n) (setting_text m)) && is_apart i n others

both_true : (b c : Bool) → not b && c ≡ true → (b ≡ false) × (c ≡ true)
both_true true c e = absurd cc
both_true false c e = (refl, e)

finds : (i : ℕ) (n : SettingName) (names : List SettingName) (text : List ℕ) → name_at i names ≡ Some n → is_apart i n names ≡ true → same_letters Any text (setting_text n) ≡ true → setting_named names text ≡ Some n
unfolding setting_named
finds i n [] text e a s = absurd cc
finds zero n (m ∷ others) text e a s =
    let k : m ≡ n = cc in
    cond-true (same_letters Any text (setting_text m)) _ _ (ap (λ (x : SettingName). same_letters Any text (setting_text x)) k ∙ s) ∙ e
finds (suc i) n (m ∷ others) text e a s =
    let b = both_true (same_letters Any (setting_text n) (setting_text m)) (is_apart i n others) a in
    cond-false (same_letters Any text (setting_text m)) _ _ (words_apart (setting_text n) (setting_text m) text b.0 s) ∙ finds i n others text e b.1 s

numbered_name : (n : SettingName) → name_at (setting_number n) all_settings ≡ Some n
numbered_name name.Command = refl
numbered_name _ = refl

all_apart : (n : SettingName) → is_apart (setting_number n) n all_settings ≡ true
unfolding same_letters
all_apart name.Command = refl
all_apart _ = refl

name_found : (n : SettingName) (text : List ℕ) → same_letters Any text (setting_text n) ≡ true → setting_named all_settings text ≡ Some n
name_found n text s = finds (setting_number n) n all_settings text (numbered_name n) (all_apart n) s

-- ---- the settings that a list takes

module _ (section : Section) where
  -- the setting, where the list takes it
  pick_if : (n : SettingName) (b : Bool) → has_group section (group_of n) ≡ b → Option (SettingOf section)
  pick_if n true e = Some (record { name = n; own = e })
  pick_if n false e = None

  from_picked : ℕ → Option (SettingOf section) → Kind (SettingOf section)
  from_picked p None = Err (UnknownSetting p)
  from_picked p (Some k) = Ok (Some k)

  from_named : ℕ → Option SettingName → Kind (SettingOf section)
  from_named p None = Err (UnknownSetting p)
  from_named p (Some n) = from_picked p (pick_if n (has_group section (group_of n)) refl)

  taken_kind : Token → Kind (SettingOf section)
  taken_kind t = cond (is_name t.kind) (from_named t.place (setting_named all_settings t.bytes)) (Ok None)

  abbrev number_of_taken : SettingOf section → ℕ
  number_of_taken k = setting_number k.name

  abbrev taken_step : Step (List Setting)
  taken_step = next_once taken_kind (λ k. setting_at k.name) number_of_taken number_of_setting (wanted_numbers section)

  -- ---- the step of the reader is that of the law

  forget : Option (SettingOf section) → Kind SettingName
  forget None = Ok None
  forget (Some k) = Ok (Some k.name)

  picked_is : (p : ℕ) (n : SettingName) (b : Bool) (e : has_group section (group_of n) ≡ b) → or_unknown p (cond b (Some n) None) ≡ (from_picked p (pick_if n b e) >>= forget)
  unfolding pick_if from_picked forget
  picked_is p n true e = refl
  picked_is p n false e = refl

  named_is : (p : ℕ) (o : Option SettingName) → or_unknown p (if_taken section o) ≡ (from_named p o >>= forget)
  unfolding from_named
  named_is p None = refl
  named_is p (Some n) = picked_is p n (has_group section (group_of n)) refl

  chosen_is : (b : Bool) (p : ℕ) (o : Option SettingName) → cond {A = Kind SettingName} b (or_unknown p (if_taken section o)) (Ok None) ≡ (cond b (from_named p o) (Ok None) >>= forget)
  unfolding forget
  chosen_is true p o = named_is p o
  chosen_is false p o = refl

  kind_is : (ts : List Token) → setting_kind_at section ts ≡ (kind_at taken_kind ts >>= forget)
  unfolding setting_kind_at taken_setting kind_at taken_kind passes bytes_ahead forget
  kind_is [] = refl
  kind_is (t ∷ ts) = chosen_is (is_name t.kind) t.place (setting_named all_settings t.bytes)

  once_is : (before : List Setting) (ts : List Token) (r : Kind (SettingOf section)) → ((r >>= forget) >>= λ o. once_of setting_at setting_number number_of_setting (wanted_numbers section) before ts o)
      ≡ (r >>= λ o. once_of (λ (k : SettingOf section). setting_at k.name) number_of_taken number_of_setting (wanted_numbers section) before ts o)
  unfolding forget
  once_is before ts (Ok None) = refl
  once_is before ts (Ok (Some k)) = refl
  once_is before ts (Err e) = refl

  step_is : (before : List Setting) (ts : List Token) → taken_step before ts ≡ next_setting section before ts
  unfolding next_setting next_once
  step_is before ts = sym (ap (λ (r : Kind SettingName). r >>= λ o. once_of setting_at setting_number number_of_setting (wanted_numbers section) before ts o) (kind_is ts) ∙ once_is before ts (kind_at taken_kind ts))

  -- ---- each begins with its own name

  pick_is : (k : SettingOf section) (b : Bool) (e : has_group section (group_of k.name) ≡ b) → b ≡ true → pick_if k.name b e ≡ Some k
  unfolding pick_if
  pick_is k true e t = ap (λ (x : has_group section (group_of k.name) ≡ true). Some (record { name = k.name; own = x })) (Bool-set _ _ e k.own)
  pick_is k false e t = absurd cc

  meant_word : (p : ℕ) (word text : List ℕ) (x : Unit {0}) → meant_by UnknownSetting (word_in word) p text ≡ Ok x → same_letters Any text word ≡ true
  meant_word p word text x e = at (same_letters Any text word) e where
    at : (b : Bool) → or_fault (UnknownSetting p) (cond b (Some tt) None) ≡ Ok x → b ≡ true
    at true e = refl
    at false e = absurd cc

  headed : (k : SettingOf section) (a : Setting) (own : List Token) → IsSetting k.name a own → (t : Token) × (rest : List Token) × (own ≡ t ∷ rest) × (taken_kind t ≡ Ok (Some k))
  unfolding taken_kind from_named from_picked
  headed k a own h =
      let one = h.before in
      let t = one.token in
      elim (test_cases (is_name t.kind) _ _ _ one.fine) [
        | inl x ↦
            let found = name_found k.name t.bytes (meant_word t.place (setting_text k.name) t.bytes h.value x.1) in (
              t,
              h.back,
              h.parts ∙ ap (λ (ts : List Token). ts ++ h.back) one.parts,
              cond-true (is_name t.kind) _ _ x.0 ∙ ap (from_named t.place) found
                  ∙ ap (from_picked t.place) (pick_is k (has_group section (group_of k.name)) refl k.own),
            )
        | inr x ↦ absurd (let y = x.1 in cc)
      ]

  numbered : (k : SettingOf section) (a : Setting) (own : List Token) → IsSetting k.name a own → number_of_setting a ≡ number_of_taken k
  numbered k a own h = ap number_of_setting h.behind.is

  named_placed : (p : ℕ) (o : Option SettingName) (e : SyntaxFault) → from_named p o ≡ Err e → p ≡ place_of e
  unfolding from_named from_picked
  named_placed p None e h = let k : UnknownSetting p ≡ e = cc in ap place_of k
  named_placed p (Some n) e h = at (pick_if n (has_group section (group_of n)) refl) h where
    at : (o : Option (SettingOf section)) → from_picked p o ≡ Err e → p ≡ place_of e
    at None h = let k : UnknownSetting p ≡ e = cc in ap place_of k
    at (Some k) h = absurd cc

  kind_placed : (t : Token) (e : SyntaxFault) → taken_kind t ≡ Err e → t.place ≡ place_of e
  unfolding taken_kind
  kind_placed t e h = elim (test_cases (is_name t.kind) _ _ _ h) [
    | inl x ↦ named_placed t.place (setting_named all_settings t.bytes) e x.1
    | inr x ↦ absurd (let y = x.1 in cc)
  ]

  -- ---- they stop where no name follows

  abbrev Halts : List Setting → Option Token → Type 0
  Halts a None = Unit {0}
  Halts a (Some t) = is_name t.kind ≡ false

  never_none : (p : ℕ) (o : Option SettingName) → from_named p o ≡ Ok None → ⊥
  unfolding from_named from_picked
  never_none p None h = absurd cc
  never_none p (Some n) h = at (pick_if n (has_group section (group_of n)) refl) h where
    at : (o : Option (SettingOf section)) → from_picked p o ≡ Ok None → ⊥
    at None h = absurd cc
    at (Some k) h = absurd cc

  halts : (a : List Setting) (o : Option Token) → BeginsNone taken_kind a o → Halts a o
  unfolding taken_kind
  halts a None h = tt
  halts a (Some t) h = elim (test_cases (is_name t.kind) _ _ _ h) [ inl x ↦ absurd (never_none t.place (setting_named all_settings t.bytes) x.1) | inr x ↦ x.0 ]

  begins_none : (a : List Setting) (o : Option Token) → Halts a o → BeginsNone taken_kind a o
  unfolding taken_kind
  begins_none a None h = tt
  begins_none a (Some t) h = cond-false (is_name t.kind) _ _ h

  -- ---- a lag only beside an update field

  all_stay : {A : Type 0} (number : A → ℕ) (ns : List ℕ) (a : List A) (x : A) → has_all number ns a ≡ true → has_all number ns (a ++ x ∷ []) ≡ true
  unfolding has_all
  all_stay number [] a x e = refl
  all_stay number (n ∷ ns) a x e = elim (test_cases (has_number number n a) _ _ _ e) [
    | inl h ↦ cond-true (has_number number n (a ++ x ∷ [])) _ _ (stays number n a x h.0) ∙ all_stay number ns a x h.1
    | inr h ↦ absurd (let y = h.1 in cc)
  ]

  -- what was there, or is the last
  was_there : {A : Type 0} (number : A → ℕ) (n : ℕ) (a : List A) (x : A) → has_number number n (a ++ x ∷ []) ≡ true → (has_number number n a ≡ true) ⊎ (number x ≡ n)
  unfolding has_number
  was_there number n [] x e = elim (test_cases (number x == n) _ _ _ e) [ inl h ↦ inr (eqb-true (number x) n h.0) | inr h ↦ absurd (let y = h.1 in cc) ]
  was_there number n (y ∷ a) x e = elim (test_cases (number y == n) _ _ _ e) [
    | inl h ↦ inl (cond-true (number y == n) _ _ h.0)
    | inr h ↦ elim (was_there number n a x h.1) [ inl k ↦ inl (cond-false (number y == n) _ _ h.0 ∙ k) | inr k ↦ inr k ]
  ]

  abbrev Adds : List Setting → List Setting → List Token → Type 0
  Adds = AddsOnce number_of_taken number_of_setting (λ k. IsSetting k.name)

  lag_is_update : (n : SettingName) → setting_number n ≡ setting_number name.UpdateLag → group_of n ≡ group.Update
  lag_is_update name.UpdateLag e = refl
  lag_is_update _ e = absurd cc

  -- where a lag stands, the list takes what an update takes
  lag_is_taken : (a b : List Setting) (ts : List Token) → Many Adds a b ts → (has_setting name.UpdateLag a ≡ true → has_group section group.Update ≡ true) → has_setting name.UpdateLag b ≡ true → has_group section group.Update ≡ true
  lag_is_taken a b ts (none e h) k l = k (subst (λ (x : List Setting). has_setting name.UpdateLag x ≡ true) (sym e) l)
  lag_is_taken a b ts (more {b = c} {rest = rest} e x m) k l =
      lag_is_taken c b rest m (λ h. elim (was_there number_of_setting (setting_number name.UpdateLag) a x.item (subst (λ (y : List Setting). has_setting name.UpdateLag y ≡ true) x.new h)) [
        | inl y ↦ k y
        | inr y ↦ subst (λ (g : _). has_group section g ≡ true) (lag_is_update x.kind.name (sym (numbered x.kind x.item _ x.fits) ∙ y)) x.kind.own
      ]) l

  abbrev Listed : List Setting → List Token → Type 0
  Listed = InAnyOrder number_of_taken number_of_setting (λ k. IsSetting k.name) (wanted_numbers section)

  no_lag_there : has_setting name.UpdateLag [] ≡ true → has_group section group.Update ≡ true
  unfolding has_number
  no_lag_there e = absurd cc

  completes : (a : List Setting) (own : List Token) → Listed a own → (b : List Setting) × (ts : List Token) × Listed b (own ++ ts) × (has_field_for_lag b ≡ true)
  completes a own h = elim (cases_Bool (has_field_for_lag a)) [
    | inl e ↦ (a, [], subst (λ (us : List Token). Listed a us) (sym (append-nil own)) h, e)
    | inr e ↦ elim (test_cases (has_setting name.UpdateLag a) _ _ _ e) [
      | inr x ↦ absurd (let y = x.1 in cc)
      | inl x ↦
          let k : SettingOf section = record { name = name.UpdateField; own = lag_is_taken [] a own h.0 no_lag_there x.0 } in
          let s = (setting_law {Before = λ _. Unit {0}} name.UpdateField).some in
          let adds : Adds a (a ++ s.0 ∷ []) s.1 = record { kind = k; item = s.0; new = refl; once = x.1; fits = s.2 } in (
            a ++ s.0 ∷ [],
            s.1,
            (many_then Adds [] a (a ++ s.0 ∷ []) own s.1 h.0 (more (sym (append-nil s.1)) adds (none refl refl)), all_stay number_of_setting (wanted_numbers section) a s.0 h.1),
            cond-true (has_setting name.UpdateLag (a ++ s.0 ∷ [])) _ _ (stays number_of_setting (setting_number name.UpdateLag) a s.0 x.0)
                ∙ there number_of_setting (setting_number name.UpdateField) a s.0 (numbered k s.0 s.1 s.2),
          )
    ]
  ]

-- the wanted settings, which the list takes
wanted_taken : (s : Section) → List (SettingOf s)
wanted_taken section.Executable = record { name = name.Command; own = refl } ∷ record { name = name.Format; own = refl } ∷ []
wanted_taken section.Pool = record { name = name.Command; own = refl } ∷ record { name = name.Format; own = refl } ∷ []
wanted_taken section.FunctionExecutable = record { name = name.Command; own = refl } ∷ record { name = name.Format; own = refl } ∷ []
wanted_taken section.FunctionPool = record { name = name.Command; own = refl } ∷ record { name = name.Format; own = refl } ∷ []
wanted_taken section.Cache = record { name = name.SizeInCells; own = refl } ∷ []
wanted_taken _ = []

wanted_are : (s : Section) → map (number_of_taken s) (wanted_taken s) ≡ wanted_numbers s
unfolding wanted_taken
wanted_are section.Executable = refl
wanted_are _ = refl

settings_law : {Before : Option Token → Type 0} (s : Section) → Lawful Before (settings_at s) (AreSettings s) (Halts s)
unfolding settings_at
settings_law {Before = Before} s =
    let any : Lawful Before (repeat (next_setting s) []) (Listed s) (Halts s) =
    subst (λ (step : Step (List Setting)). Lawful Before (repeat step []) (Listed s) (Halts s)) (fun_ext (λ before. fun_ext (λ ts. step_is s before ts)))
    (subst (λ (ns : List ℕ). Lawful Before (repeat (next_once (taken_kind s) (λ (k : SettingOf s). setting_at k.name) (number_of_taken s) number_of_setting ns) []) (InAnyOrder (number_of_taken s) number_of_setting (λ (k : SettingOf s). IsSetting k.name) ns) (Halts s)) (wanted_are s)
    (stopping (λ a own o h x. halts s a o x) (λ a own o h x. begins_none s a o x)
    (in_any_order (wanted_taken s) (kind_placed s) (λ k. setting_law k.name) (headed s) (numbered s)))) in
    tested_law has_field_for_lag any (completes s)

-- a sign is no name
sign_no_name : (sign : ℕ) (t : Token) → is_the_sign sign t ≡ true → is_name t.kind ≡ false
unfolding is_the_sign
sign_no_name sign t e = elim (test_cases (is_signed t.kind) _ _ _ e) [
  | inr x ↦ absurd (let y = x.1 in cc)
  | inl x ↦ no_name t.kind x.0
] where
  no_name : (k : TokenKind) → is_signed k ≡ true → is_name k ≡ false
  no_name Sign h = refl
  no_name Word h = absurd cc
  no_name QuotedWord h = absurd cc
  no_name _ h = refl

halts_at : (s : Section) (settings b : List Setting) (ts rest : List Token) → Made (λ _. settings) (IsSign 41) b ts → Halts s settings (first (ts ++ rest))
halts_at s settings b ts rest h =
    let one = h.fits in
    subst (λ (us : List Token). Halts s settings (first (us ++ rest))) (sym one.parts)
    (sign_no_name 41 one.token (judged_ok (is_the_sign 41 one.token) tt h.from (Unexpected one.token.place) one.fine).0)

pub brackets_law : {Before : Option Token → Type 0} (s : Section) → Lawful Before (settings_in_brackets_at s) (AreSettingsInBrackets s) Anyhow
unfolding settings_in_brackets_at
brackets_law s =
    then (sign 40) (λ _.
    then_after (settings_law s) (λ settings. made (λ _. settings) Anyhow (λ a o x. tt) (λ a o x. tt) (sign 41)) (λ settings b ts rest h x. halts_at s settings b ts rest h))
