-- What stands after a load of a dictionary on one thread: its board's newest token is one of its list, and its name.
use Rattle.std.proofs.Common.{◌≡◌, ◌∙◌, ℕ, List, Option, Some, None, ap, fold, refl}
use Rattle.std.specs.Prelude.{IfSome}
use Rattle.dict_schema.specs.declared.definition.Definition.{Definition}
use Rattle.dict_value.specs.declared.fault.Cause.TheVariants as cause
use Rattle.dict_version.specs.Contents.{Contents}
use Rattle.version_slot.specs.Views.{HasEntries}
use Rattle.loader.specs.Boards.{BoardTold, posted}
use Rattle.loader.specs.Loaders.{ArePostings, IsAfter, IsAt, LoaderState}
use Rattle.loader.specs.declared.answers.LoadEnd.{LoadEnd}
use Rattle.loader.specs.declared.answers.LoadEnd.TheVariants.{Published, Failed, NoMemory}
use Rattle.loader.specs.declared.board.Posting.{Posting}

grown : (n : Option ℕ) (list after : List Contents) → ((told : ℕ) → HasEntries list told → HasEntries after told) → IfSome n (HasEntries list) → IfSome n (HasEntries after)
grown None list after keeps h = h
grown (Some told) list after keeps h = keeps told h

pub newest-posted : (is_told : ℕ → Type 0) (now : ℕ) (end : LoadEnd) (postings : List (Posting ℕ)) (b : BoardTold ℕ) (list after : List Contents) → ((told : ℕ) → is_told told → HasEntries after told) → ((told : ℕ) → HasEntries list told → HasEntries after told) → IfSome b.newest (HasEntries list) → ArePostings is_told now end postings → IfSome (fold posted b postings).newest (HasEntries after)
newest-posted is_told now (Published n) postings b list after entries keeps h (told, of, e) = rw e (entries told of)
newest-posted is_told now (Failed cause.Spent) postings b list after entries keeps h e = rw e (grown b.newest list after keeps h)
newest-posted is_told now (Failed cause.Start) postings b list after entries keeps h e = rw e (grown b.newest list after keeps h)
newest-posted is_told now (Failed cause.Read) postings b list after entries keeps h e = rw e (grown b.newest list after keeps h)
newest-posted is_told now (Failed cause.TimedOut) postings b list after entries keeps h e = rw e (grown b.newest list after keeps h)
newest-posted is_told now (Failed (cause.Status n)) postings b list after entries keeps h e = rw e (grown b.newest list after keeps h)
newest-posted is_told now (Failed cause.Killed) postings b list after entries keeps h e = rw e (grown b.newest list after keeps h)
newest-posted is_told now (Failed (cause.Longer n)) postings b list after entries keeps h e = rw e (grown b.newest list after keeps h)
newest-posted is_told now (Failed cause.Rows) postings b list after entries keeps h e = rw e (grown b.newest list after keeps h)
newest-posted is_told now (Failed (cause.Row bad)) postings b list after entries keeps h e = rw e (grown b.newest list after keeps h)
newest-posted is_told now (Failed (cause.Key n)) postings b list after entries keeps h e = rw e (grown b.newest list after keeps h)
newest-posted is_told now (Failed (cause.Prefix n)) postings b list after entries keeps h e = rw e (grown b.newest list after keeps h)
newest-posted is_told now (Failed cause.NoMemory) postings b list after entries keeps h e = rw e (grown b.newest list after keeps h)
newest-posted is_told now NoMemory postings b list after entries keeps h e = rw e (grown b.newest list after keeps h)

pub name-left : (d : Definition) (now : ℕ) (end : LoadEnd) (old new : LoaderState) → d.name ≡ old.definition.name → IsAfter d now end old new → new.definition.name ≡ old.definition.name
name-left d now (Published n) old new e after = ap (λ (l : LoaderState). l.definition.name) after ∙ e
name-left d now (Failed why) old new e after = ap (λ (l : LoaderState). l.definition.name) after
name-left d now NoMemory old new e after = ap (λ (l : LoaderState). l.definition.name) after

-- the loader stands at the list, the board's newest token is one of it, and the name is this
abbrev pub Holds : List ℕ → LoaderState → List Contents → BoardTold ℕ → Type 0
Holds name l list b = IsAt l list × IfSome b.newest (HasEntries list) × (l.definition.name ≡ name)

pub unmoved : (name : List ℕ) (old new : LoaderState) (list after : List Contents) (b c : BoardTold ℕ) → new ≡ old → after ≡ list → c ≡ b → Holds name old list b → Holds name new after c
unmoved name old new list after b c e f g h = rw e (rw f (rw g h))

pub loaded : (name : List ℕ) (is_told : ℕ → Type 0) (d : Definition) (now : ℕ) (end : LoadEnd) (postings : List (Posting ℕ)) (old new : LoaderState) (list after : List Contents) (b c : BoardTold ℕ) → ((told : ℕ) → is_told told → HasEntries after told) → ((told : ℕ) → HasEntries list told → HasEntries after told) → d.name ≡ old.definition.name → IsAt new after → IsAfter d now end old new → ArePostings is_told now end postings → c ≡ fold posted b postings → Holds name old list b → Holds name new after c
loaded name is_told d now end postings old new list after b c entries keeps same at state are posts h =
    (at, rw posts (newest-posted is_told now end postings b list after entries keeps h.1 are), name-left d now end old new same state ∙ h.2)

pub by-end : (r : Option LoadEnd) {G : Type 0} (P : LoadEnd → Type 0) → (r ≡ None → G) → IfSome r P → ((end : LoadEnd) → P end → G) → G
by-end None P none h some = none refl
by-end (Some end) P none h some = some end h
