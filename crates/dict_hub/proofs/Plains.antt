-- What a load leaves of a dictionary of one thread.
use Rattle.std.proofs.Common.{◌≡◌, ◌≤◌, ◌<◌, ◌+◌, ◌∙◌, ◌⊎◌, [], ◌∷◌, ◌++◌, ℕ, List, length, take, refl, sym, ap, subst, inl, inr, arith, rules, Option, Some, None}
use Rattle.std.specs.Option.{ForSome}
use Rattle.std.specs.Prelude.{◌↔◌, IfSome, IsSome, fold}
use Rattle.std.proofs.lemmas.Bool.{cases_lt}
use Rattle.std.proofs.Math.ListN.{length-take}
use mathlib.Core.List.{IsPrefix}
use Rattle.child_io.specs.Calls.{History}
use Rattle.child_io.specs.Told.{Told}
use Rattle.child_io.specs.declared.child.Script.{Script}
use Rattle.child_io.specs.declared.pieces.PieceEnd.{PieceEnd}
use Rattle.dict_schema.specs.declared.definition.Definition.{Definition}
use Rattle.dict_value.specs.declared.fault.Cause.{Cause}
use Rattle.dict_value.specs.declared.fault.Cause.TheVariants as cause
use Rattle.dict_version.specs.Contents.{Contents}
use Rattle.load_core.specs.DictSteps.{most_loads}
use Rattle.load_core.specs.declared.dictionary.DictCore.{DictCore}
use Rattle.loader.proofs.CoreEnds.{added}
use Rattle.loader.proofs.WholeLoads.{list-left}
use Rattle.loader.specs.Boards.{BoardTold, posted}
use Rattle.loader.specs.Loaders.{ArePostings, IsAfter, IsAt, IsLoad, IsSpent, LoaderState, Running, RunsLoad, RunsOne, StartsNone, version_of}
use Rattle.loader.specs.Timing.{IsDue}
use Rattle.loader.specs.declared.answers.LoadEnd.{LoadEnd}
use Rattle.loader.specs.declared.answers.LoadEnd.TheVariants as load
use Rattle.loader.specs.declared.board.Posting.{Posting}
use Rattle.loader.specs.declared.board.Posting.TheVariants as post
use Rattle.version_slot.proofs.Views.{prefix-self}
use Rattle.version_slot.specs.Views.{HasEntries, first_entries}
use Rattle.dict_hub.specs.Over.{Children, children_of}
use Rattle.dict_hub.specs.Plain.{IsPlain, IsPosted, PlainDue, PlainLoads, PlainState, PostsAll, plain_state}

-- ---- the same load, of which less is told

are-told : {T : Type 0} (is_told is_told' : T → Type 0) (now : ℕ) (end : LoadEnd) (postings : List (Posting T))
    → ((told : T) → is_told told → is_told' told) → ArePostings is_told now end postings → ArePostings is_told' now end postings
are-told is_told is_told' now (load.Published number) postings f (told, is, are) = (told, f told is, are)
are-told is_told is_told' now load.NoMemory postings f are = are
are-told is_told is_told' now (load.Failed cause.Start) postings f are = are
are-told is_told is_told' now (load.Failed cause.Read) postings f are = are
are-told is_told is_told' now (load.Failed cause.TimedOut) postings f are = are
are-told is_told is_told' now (load.Failed (cause.Status status)) postings f are = are
are-told is_told is_told' now (load.Failed cause.Killed) postings f are = are
are-told is_told is_told' now (load.Failed (cause.Longer limit)) postings f are = are
are-told is_told is_told' now (load.Failed cause.Rows) postings f are = are
are-told is_told is_told' now (load.Failed (cause.Row bad)) postings f are = are
are-told is_told is_told' now (load.Failed (cause.Key number)) postings f are = are
are-told is_told is_told' now (load.Failed (cause.Prefix row)) postings f are = are
are-told is_told is_told' now (load.Failed cause.Spent) postings f are = are
are-told is_told is_told' now (load.Failed cause.NoMemory) postings f are = are

runs-told : (runs runs' : Running) (same same' : Type 0) (d : Definition) (now : ℕ) (folder : List ℕ) (list after : List Contents)
    (old new : DictCore) (end : LoadEnd)
    → ((words : List (List ℕ)) (ending : PieceEnd) (pieces : List (List ℕ)) → runs words ending pieces → runs' words ending pieces)
    → (same → same') → RunsLoad runs d now folder list after old new end ⊎ StartsNone same d now list after old new end
    → RunsLoad runs' d now folder list after old new end ⊎ StartsNone same' d now list after old new end
runs-told runs runs' same same' d now folder list after old new end f g (inl r) = inl (record {
  words = r.words;
  ending = r.ending;
  pieces = r.pieces;
  started = r.started;
  child = f r.words r.ending r.pieces r.child;
  comes = r.comes;
})
runs-told runs runs' same same' d now folder list after old new end f g (inr n) =
    inr (record { none = g n.none; ended = n.ended; comes = n.comes })

spent-told : (same same' : Type 0) (list after : List Contents) (old new : DictCore) (end : LoadEnd) → (same → same')
    → IsSpent same list after old new end → IsSpent same' list after old new end
spent-told same same' list after old new end g s =
    record { none = g s.none; ended = s.ended; list_left = s.list_left; core_left = s.core_left }

pub load-told : {T : Type 0} (runs runs' : Running) (same same' : Type 0) (is_told is_told' : T → Type 0)
    (posts posts' : List (Posting T) → Type 0) (d : Definition) (now : ℕ) (end : LoadEnd) (old new : LoaderState) (list after : List Contents)
    → ((words : List (List ℕ)) (ending : PieceEnd) (pieces : List (List ℕ)) → runs words ending pieces → runs' words ending pieces)
    → (same → same') → ((told : T) → is_told told → is_told' told) → ((postings : List (Posting T)) → posts postings → posts' postings)
    → IsLoad runs same is_told posts d now end old new list after → IsLoad runs' same' is_told' posts' d now end old new list after
load-told runs runs' same same' is_told is_told' posts posts' d now end old new list after f g h k l = record {
  run = λ few. runs-told runs runs' same same' d now old.folder list after old.core new.core end f g (l.run few);
  spent = λ many. spent-told same same' list after old.core new.core end g (l.spent many);
  state = l.state;
  stands = l.stands;
  postings = l.postings;
  are_postings = are-told is_told is_told' now end l.postings h l.are_postings;
  posted = k l.postings l.posted;
}

-- a token of a list that stands for all of it is its length
pub whole-token : (list : List Contents) (told : ℕ) → told ≤ length list → take told list ≡ list → told ≡ length list
whole-token list told within whole =
    let size = sym (length-take told list) ∙ ap length whole in
    omega (arith, within, size)

-- ---- what a load leaves

module _ (runs : Running) (same : Type 0) (d : Definition) (now : ℕ) (folder : List ℕ) (list after : List Contents) (old new : DictCore) where
  abbrev pub Comes : LoadEnd → Type 0
  Comes end = RunsLoad runs d now folder list after old new end ⊎ StartsNone same d now list after old new end

  number-is : (number : ℕ) → Comes (load.Published number) → number ≡ length after
  number-is number (inl r) = r.comes.ends.3
  number-is number (inr n) = cc (n.ended)

  list-grows : (end : LoadEnd) → Comes end → IsPrefix list after
  list-grows (load.Published number) (inl r) = (version_of d r.comes.ends.0 now ∷ [], sym r.comes.ends.2)
  list-grows (load.Published number) (inr n) = cc (n.ended)
  list-grows (load.Failed why) r = subst (IsPrefix list) (sym (list-left runs same d now folder list after old new (load.Failed why) refl r)) (prefix-self list)
  list-grows load.NoMemory r = subst (IsPrefix list) (sym (list-left runs same d now folder list after old new load.NoMemory refl r)) (prefix-self list)

-- the loader's folder and the name stay
folder-stays : (d : Definition) (now : ℕ) (end : LoadEnd) (old new : LoaderState) → IsAfter d now end old new → new.folder ≡ old.folder
folder-stays d now (load.Published number) old new h = ap (λ (l : LoaderState). l.folder) h
folder-stays d now (load.Failed why) old new h = ap (λ (l : LoaderState). l.folder) h
folder-stays d now load.NoMemory old new h = ap (λ (l : LoaderState). l.folder) h

pub name-stays : (d : Definition) (now : ℕ) (end : LoadEnd) (old new : LoaderState) → d.name ≡ old.definition.name → IsAfter d now end old new
    → new.definition.name ≡ old.definition.name
name-stays d now (load.Published number) old new same h = ap (λ (l : LoaderState). l.definition.name) h ∙ same
name-stays d now (load.Failed why) old new same h = ap (λ (l : LoaderState). l.definition.name) h
name-stays d now load.NoMemory old new same h = ap (λ (l : LoaderState). l.definition.name) h

-- a board that keeps its newest token and its count
record Keeps (board later : BoardTold ℕ) : Type 0 where
  newest : later.newest ≡ board.newest
  oks : later.oks ≡ board.oks

keeps : (board made later : BoardTold ℕ) → later ≡ made → made.newest ≡ board.newest → made.oks ≡ board.oks → Keeps board later
keeps board made later is newest oks = record {
  newest = ap (λ (b : BoardTold ℕ). b.newest) is ∙ newest;
  oks = ap (λ (b : BoardTold ℕ). b.oks) is ∙ oks;
}

failed-keeps : (is_told : ℕ → Type 0) (now : ℕ) (why : Cause) (board later : BoardTold ℕ) (postings : List (Posting ℕ))
    → ArePostings is_told now (load.Failed why) postings → later ≡ fold posted board postings → Keeps board later
failed-keeps is_told now cause.Start board later postings are is = keeps board _ later (is ∙ ap (fold posted board) are) refl refl
failed-keeps is_told now cause.Read board later postings are is = keeps board _ later (is ∙ ap (fold posted board) are) refl refl
failed-keeps is_told now cause.TimedOut board later postings are is = keeps board _ later (is ∙ ap (fold posted board) are) refl refl
failed-keeps is_told now (cause.Status status) board later postings are is = keeps board _ later (is ∙ ap (fold posted board) are) refl refl
failed-keeps is_told now cause.Killed board later postings are is = keeps board _ later (is ∙ ap (fold posted board) are) refl refl
failed-keeps is_told now (cause.Longer limit) board later postings are is = keeps board _ later (is ∙ ap (fold posted board) are) refl refl
failed-keeps is_told now cause.Rows board later postings are is = keeps board _ later (is ∙ ap (fold posted board) are) refl refl
failed-keeps is_told now (cause.Row bad) board later postings are is = keeps board _ later (is ∙ ap (fold posted board) are) refl refl
failed-keeps is_told now (cause.Key number) board later postings are is = keeps board _ later (is ∙ ap (fold posted board) are) refl refl
failed-keeps is_told now (cause.Prefix row) board later postings are is = keeps board _ later (is ∙ ap (fold posted board) are) refl refl
failed-keeps is_told now cause.Spent board later postings are is = keeps board _ later (is ∙ ap (fold posted board) are) refl refl
failed-keeps is_told now cause.NoMemory board later postings are is = keeps board _ later (is ∙ ap (fold posted board) are) refl refl

posted-same : (board later : BoardTold ℕ) (list after : List Contents) → Keeps board later → after ≡ list → IsPosted board list → IsPosted later after
posted-same board later list after k same p = record {
  newest = subst (λ newest. ForSome newest (λ number. number ≡ length after)) (sym k.newest)
      (subst (λ (xs : List Contents). ForSome board.newest (λ number. number ≡ length xs)) (sym same) p.newest);
  counted = k.oks ∙ p.counted ∙ ap length (sym same);
}

posted-new : (board later : BoardTold ℕ) (after : List Contents) (now told number : ℕ) → told ≡ length after → number ≡ length after
    → later ≡ fold posted board (post.Begun ∷ post.Published told number now ∷ []) → IsPosted later after
posted-new board later after now told number whole count is =
    subst (λ (b : BoardTold ℕ). IsPosted b after) (sym is) (record { newest = λ x e. whole-by x e; counted = count }) where
      whole-by : (x : ℕ) → Some told ≡ Some x → x ≡ length after
      whole-by x e = let same : told ≡ x = cc e in sym same ∙ whole

-- ---- a load, by whether any are left

module _ (runs : Running) (same : Type 0) (d : Definition) (now : ℕ) (old new : LoaderState) (list after : List Contents) (board later : BoardTold ℕ) where
  abbrev pub Load : LoadEnd → Type 0
  Load end = IsLoad runs same (λ (told : ℕ). told ≡ length after) (PostsAll board later) d now end old new list after

  abbrev pub Left : Type 0
  Left = (old.core.loads < most_loads) ⊎ (most_loads ≤ old.core.loads)

  grows-by : (end : LoadEnd) → Load end → Left → IsPrefix list after
  grows-by end l (inl few) = list-grows runs same d now old.folder list after old.core new.core end (l.run few)
  grows-by end l (inr many) = subst (IsPrefix list) (sym (l.spent many).list_left) (prefix-self list)

  pub load-grows : (end : LoadEnd) → Load end → IsPrefix list after
  load-grows end l = grows-by end l (cases_lt old.core.loads most_loads)

  left-by : (end : LoadEnd) → added end ≡ 0 → Load end → Left → after ≡ list
  left-by end none l (inl few) = list-left runs same d now old.folder list after old.core new.core end none (l.run few)
  left-by end none l (inr many) = (l.spent many).list_left

  number-by : (number : ℕ) → Load (load.Published number) → Left → number ≡ length after
  number-by number l (inl few) = number-is runs same d now old.folder list after old.core new.core number (l.run few)
  number-by number l (inr many) = let e = (l.spent many).ended in cc e

  pub load-number : (end : LoadEnd) (number : ℕ) → end ≡ load.Published number → Load end → number ≡ length after
  load-number end number is l = number-by number (subst Load is l) (cases_lt old.core.loads most_loads)

  posted-by : (end : LoadEnd) → IsPosted board list → Load end → IsPosted later after
  posted-by (load.Published number) p l =
      let a = l.are_postings in
      posted-new board later after now a.0 number a.1 (load-number (load.Published number) number refl l) (l.posted ∙ ap (fold posted board) a.2)
  posted-by (load.Failed why) p l =
      posted-same board later list after (failed-keeps (λ (told : ℕ). told ≡ length after) now why board later l.postings l.are_postings l.posted)
      (left-by (load.Failed why) refl l (cases_lt old.core.loads most_loads)) p
  posted-by load.NoMemory p l =
      posted-same board later list after (keeps board _ later (l.posted ∙ ap (fold posted board) l.are_postings) refl refl)
      (left-by load.NoMemory refl l (cases_lt old.core.loads most_loads)) p

  pub load-plain : (folder : List ℕ) (end : LoadEnd) → IsPlain folder old list board → Load end → IsPlain folder new after later
  load-plain folder end p l = record {
    at = l.stands;
    folder_is = folder-stays d now end old new l.state ∙ p.folder_is;
    told = posted-by end p.told l;
  }

-- ---- the load of a loader, as one of a dictionary

-- what a load leaves of a dictionary
pub record Leaves (folder : List ℕ) (d : Definition) (from : PlainState) (before : Children) (now : ℕ) (end : LoadEnd) (to : PlainState)
    (after : Children) : Type 0 where
  pub acted : PlainLoads d from before now end to after
  pub plain : IsPlain folder to.loader to.list to.board
  pub grows : IsPrefix from.list to.list
  pub named : d.name ≡ from.loader.definition.name → to.loader.definition.name ≡ from.loader.definition.name
  pub learnt : (number : ℕ) → end ≡ load.Published number → number ≤ length to.list

pub leaves : {S C : Type 0} (scripts : S → Option (List Script)) (starts : S → Option (List (List (List ℕ))))
    (started : S → List (List ℕ) → C → S → Type 0) (told : C → Option Told) (history : History C) (faults : C → ℕ)
    (d : Definition) (now : ℕ) (spawner later_spawner : S) (old new : LoaderState) (list after : List Contents) (board later : BoardTold ℕ)
    (folder : List ℕ) (end : LoadEnd) → IsPlain folder old list board
    → IsLoad (RunsOne scripts starts started told history faults d spawner later_spawner) (later_spawner ≡ spawner)
    (λ (t : ℕ). HasEntries after t × (first_entries after t ≡ after))
    (λ (postings : List (Posting ℕ)). (first : BoardTold ℕ) (before : List (Posting ℕ)) → board ≡ fold posted first before → later ≡ fold posted first (before ++ postings))
    d now end old new list after
    → Leaves folder d (plain_state old list board) (children_of scripts starts spawner) now end (plain_state new after later)
    (children_of scripts starts later_spawner)
leaves scripts starts started told history faults d now spawner later_spawner old new list after board later folder end p l =
    let loaded : PlainLoads d (plain_state old list board) (children_of scripts starts spawner) now end (plain_state new after later) (children_of scripts starts later_spawner) =
    load-told _ _ _ _ _ _ _ _ d now end old new list after
    (λ words ending pieces r. record { script = r.told_script; words_told = r.told_words })
    (λ same. ap (children_of scripts starts) same)
    (λ t is. whole-token after t is.0 is.1)
    (λ postings posts. posts board [] refl)
    l in
    record {
      acted = loaded;
      plain = load-plain _ _ d now old new list after board later folder end p loaded;
      grows = load-grows _ _ d now old new list after board later end loaded;
      named = λ same. name-stays d now end old new same l.state;
      learnt = λ number is. let e = load-number _ _ d now old new list after board later end number is loaded in omega (arith, e);
    }

-- ---- a load where one is due

some-is : (end : LoadEnd) → IsSome (Some end)
some-is end = search rules

none-not : (result : Option LoadEnd) → result ≡ None → IsSome result → ⊥
none-not None is h = search rules
none-not (Some end) is h = cc is

-- the same of a load where one was due, and nothing else
pub record LeavesDue (folder : List ℕ) (from : PlainState) (before : Children) (now : ℕ) (result : Option LoadEnd) (to : PlainState)
    (after : Children) : Type 0 where
  pub acted : PlainDue from before now result to after
  pub plain : IsPlain folder to.loader to.list to.board
  pub grows : IsPrefix from.list to.list

pub leaves-due : {S C : Type 0} (scripts : S → Option (List Script)) (starts : S → Option (List (List (List ℕ))))
    (started : S → List (List ℕ) → C → S → Type 0) (told : C → Option Told) (history : History C) (faults : C → ℕ)
    (now : ℕ) (spawner later_spawner : S) (old new : LoaderState) (list after : List Contents) (board later : BoardTold ℕ)
    (folder : List ℕ) (result : Option LoadEnd) → IsPlain folder old list board → (IsSome result ↔ IsDue old.timing now)
    → (result ≡ None → (new ≡ old) × (later_spawner ≡ spawner) × (after ≡ list) × (later ≡ board))
    → IfSome result (λ end. IsLoad (RunsOne scripts starts started told history faults old.definition spawner later_spawner) (later_spawner ≡ spawner)
    (λ (t : ℕ). HasEntries after t × (first_entries after t ≡ after))
    (λ (postings : List (Posting ℕ)). (first : BoardTold ℕ) (before : List (Posting ℕ)) → board ≡ fold posted first before → later ≡ fold posted first (before ++ postings))
    old.definition now end old new list after)
    → LeavesDue folder (plain_state old list board) (children_of scripts starts spawner) now result (plain_state new after later)
    (children_of scripts starts later_spawner)
leaves-due scripts starts started told history faults now spawner later_spawner old new list after board later folder (Some end) p due none l =
    let left = leaves scripts starts started told history faults old.definition now spawner later_spawner old new list after board later folder end p l in
    record { acted = (due.0 (some-is end), left.acted); plain = left.plain; grows = left.grows }
leaves-due scripts starts started told history faults now spawner later_spawner old new list after board later folder None p due none l =
    let e = none refl in
    let same : plain_state new after later ≡ plain_state old list board =
    ap (λ (n : LoaderState). plain_state n after later) e.0 ∙ ap (λ (a : List Contents). plain_state old a later) e.2
    ∙ ap (λ (b : BoardTold ℕ). plain_state old list b) e.3 in
    record {
      acted = ((λ d. none-not None refl (due.1 d)), same, ap (children_of scripts starts) e.1);
      plain = subst (λ (x : PlainState). IsPlain folder x.loader x.list x.board) (sym same) p;
      grows = subst (IsPrefix list) (sym e.2) (prefix-self list);
    }
