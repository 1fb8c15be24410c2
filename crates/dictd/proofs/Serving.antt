-- A run of `once` by its end: the faults that it tells.
use Rattle.std.proofs.Common.{◌≡◌, ◌∙◌, ℕ, List, Option, Ok, Err, length, true, arith, refl, sym, ap, subst, inl, inr}
use Rattle.child_io.specs.Words.{IsFolder}
use Rattle.dict_hub.specs.Over.{Children, LoadUpTo, Ticked, over_state}
use Rattle.dict_hub.specs.Plain.{PlainState, opened}
use Rattle.dict_hub.specs.Readings.{file_state}
use Rattle.dict_io.specs.Links.{Ends}
use Rattle.dict_io.specs.Outside.{HasCause}
use Rattle.dict_schema.specs.declared.definition.Item.{Item}
use Rattle.dict_session.specs.declared.desk.ConfigEnd.{ConfigEnd}
use Rattle.dict_session.specs.declared.desk.ConfigEnd.TheVariants as config
use Rattle.dict_session.specs.declared.session.SessionEnd.{SessionEnd}
use Rattle.dict_session.specs.declared.session.SessionEnd.TheVariants as end
use Rattle.dictd.specs.CommandLine.{IsOnce}
use Rattle.dict_session.specs.Session.{Serves}
use Rattle.dictd.specs.OneRun.{AllOrigins, IsUnserved, Local, OnceRun, Outer, ReadsServed, ServesIn, ShelfTold, local_facts, local_moves}
use Rattle.dictd.specs.OneRun.{once_read, opening, outer, outer_of, status_for, status_of}
use Rattle.dictd.specs.declared.status.Status.{Status}
use Rattle.dictd.specs.declared.status.Status.TheVariants as status
use Rattle.loader.specs.Origins.{Ran}

-- ---- statuses that tell no fault of the link

abbrev NoFault : Status → Type 0
NoFault told = (told ≡ status.ReadFault → ⊥) × (told ≡ status.WriteFault → ⊥)

usage_none : (told : Status) → told ≡ status.Usage → NoFault told
usage_none told e = (
  (λ f. let other : status.Usage ≡ status.ReadFault = sym e ∙ f in absurd (cc)),
  (λ f. let other : status.Usage ≡ status.WriteFault = sym e ∙ f in absurd (cc)),
)

none_for : (told other : Status) → told ≡ other → NoFault other → NoFault told
none_for told other e none = ((λ f. none.0 (sym e ∙ f)), (λ f. none.1 (sym e ∙ f)))

no_memory_none : NoFault status.NoMemory
no_memory_none = (
  (λ f. let other : status.NoMemory ≡ status.ReadFault = f in absurd (cc)),
  (λ f. let other : status.NoMemory ≡ status.WriteFault = f in absurd (cc)),
)

file_none : (why : ConfigEnd) → NoFault (status_for why)
file_none config.Unread = (
  (λ f. let other : status.DefsUnread ≡ status.ReadFault = f in absurd (cc)),
  (λ f. let other : status.DefsUnread ≡ status.WriteFault = f in absurd (cc)),
)
file_none config.TooLong = (
  (λ f. let other : status.DefsTooLong ≡ status.ReadFault = f in absurd (cc)),
  (λ f. let other : status.DefsTooLong ≡ status.WriteFault = f in absurd (cc)),
)
file_none (config.Refused line place words) = (
  (λ f. let other : status.DefsRefused line place words ≡ status.ReadFault = f in absurd (cc)),
  (λ f. let other : status.DefsRefused line place words ≡ status.WriteFault = f in absurd (cc)),
)
file_none config.NoMemory = no_memory_none
file_none (config.Done changed published) = no_memory_none
file_none (config.Names item) = no_memory_none

unserved_none : (told : Status) → IsUnserved told → NoFault told
unserved_none told is = ((λ f. subst IsUnserved f is), (λ f. subst IsUnserved f is))

-- ---- the faults of a session

reads_of : (ended : SessionEnd) → status_of ended ≡ status.ReadFault → ended ≡ end.ReadFault
reads_of end.Quit f = let other : status.Done ≡ status.ReadFault = f in absurd (cc)
reads_of end.Ended f = let other : status.Done ≡ status.ReadFault = f in absurd (cc)
reads_of end.ReadFault f = refl
reads_of end.WriteFault f = let other : status.WriteFault ≡ status.ReadFault = f in absurd (cc)
reads_of end.LineTooLong f = let other : status.LineTooLong ≡ status.ReadFault = f in absurd (cc)
reads_of end.Spent f = let other : status.Spent ≡ status.ReadFault = f in absurd (cc)
reads_of end.NoMemory f = let other : status.NoMemory ≡ status.ReadFault = f in absurd (cc)

writes_of : (ended : SessionEnd) → status_of ended ≡ status.WriteFault → ended ≡ end.WriteFault
writes_of end.Quit f = let other : status.Done ≡ status.WriteFault = f in absurd (cc)
writes_of end.Ended f = let other : status.Done ≡ status.WriteFault = f in absurd (cc)
writes_of end.ReadFault f = let other : status.ReadFault ≡ status.WriteFault = f in absurd (cc)
writes_of end.WriteFault f = refl
writes_of end.LineTooLong f = let other : status.LineTooLong ≡ status.WriteFault = f in absurd (cc)
writes_of end.Spent f = let other : status.Spent ≡ status.WriteFault = f in absurd (cc)
writes_of end.NoMemory f = let other : status.NoMemory ≡ status.WriteFault = f in absurd (cc)

still_fault : (a b : ℕ) (P : Type 0) → b ≡ a → (P → ⊥) → HasCause a b P
still_fault a b P same none = record { later = omega (arith, same); rose = λ h. absurd (none h); still = λ n. same }

as_told : (a b : ℕ) (P Q : Type 0) → HasCause a b P → (Q → P) → (P → Q) → HasCause a b Q
as_told a b P Q cause back on =
    record { later = cause.later; rose = λ h. cause.rose (back h); still = λ n. cause.still (λ h. n (on h)) }

-- the faults of both sides of the link, as the status tells them
pub record Told (old new : Ends) (told : Status) : Type 0 where
  pub reads : HasCause old.reads.faults new.reads.faults (told ≡ status.ReadFault)
  pub writes : HasCause old.writes.faults new.writes.faults (told ≡ status.WriteFault)

told_none : (old new : Ends) (told : Status) → new ≡ old → NoFault told → Told old new told
told_none old new told same none = record {
  reads = still_fault old.reads.faults new.reads.faults (told ≡ status.ReadFault) (ap (λ (e : Ends). e.reads.faults) same) none.0;
  writes = still_fault old.writes.faults new.writes.faults (told ≡ status.WriteFault) (ap (λ (e : Ends). e.writes.faults) same) none.1;
}

module _ {R : Type 0} (shelf : ShelfTold R) (ran : Ran) where
  told_in : (items : List Item) (name folder : List ℕ) (seed : ℕ) (o : Outer R) (old : Ends) (ended : SessionEnd) (told : Status)
      (o' : Outer R) (new : Ends) → ServesIn shelf ran items name folder seed o old ended o' new → told ≡ status_of ended → Told old new told
  told_in items name folder seed o old finish told o' new (ServesIn.refused none outside same) is =
      told_none old new told same (none_for told status.NoMemory (is ∙ ap status_of none) no_memory_none)
  told_in items name folder seed o old finish told o' new (ServesIn.served last runs outside) is = record {
    reads = as_told old.reads.faults new.reads.faults (finish ≡ end.ReadFault) (told ≡ status.ReadFault) runs.serves.faults.reads
        (λ f. reads_of finish (sym is ∙ f)) (λ f. is ∙ ap status_of f);
    writes = as_told old.writes.faults new.writes.faults (finish ≡ end.WriteFault) (told ≡ status.WriteFault) runs.serves.faults.writes
        (λ f. writes_of finish (sym is ∙ f)) (λ f. is ∙ ap status_of f);
  }

  pub told_run : (words : List (List ℕ)) (o : Outer R) (old : Ends) (told : Status) (o' : Outer R) (new : Ends)
      → OnceRun shelf ran words o old told o' new → Told old new told
  told_run words o old told o' new (OnceRun.misused other is outside same) = told_none old new told same (usage_none told is)
  told_run words o old told o' new (OnceRun.unread name seed why called read is outside same) =
      told_none old new told same (none_for told (status_for why) is (file_none why))
  told_run words o old told o' new (OnceRun.unserved name seed items called read some is outside same) =
      told_none old new told same (unserved_none told is)
  told_run words o old told o' new (OnceRun.refused name seed called is outside same) =
      told_none old new told same (none_for told status.NoMemory is no_memory_none)
  told_run words o old told o' new (OnceRun.served name seed items folder ended called read all in_folder serves is) =
      told_in items name folder seed (once_read shelf o) old ended told o' new serves is

  -- ---- the file

  pub unread_run : (words : List (List ℕ)) (name : List ℕ) (seed : ℕ) (o o' : Outer R) (old : Ends) (told : Status) → IsOnce words name seed
      → ReadsServed shelf o.readings name (Err told) → o' ≡ once_read shelf o → OnceRun shelf ran words o old told o' old
  unread_run words name seed o o' old told called read outside = elim read [
    | inl why ↦ OnceRun.unread name seed why.0 called why.1 why.2 outside refl
    | inr other ↦ elim other [
      | inl some ↦ OnceRun.unserved name seed some.0 called some.1 some.2 some.3 outside refl
      | inr none ↦ OnceRun.refused name seed called none outside refl
    ]
  ]

  -- ---- the desk of the dictionaries

  pub serves_in : (items : List Item) (name text folder at : List ℕ) (seed now count : ℕ) (o o' : Outer R) (made : List PlainState)
      (start begun loaded last : Local R) (old new : Ends) (ended : SessionEnd)
      → start ≡ over_state items (file_state o.readings text) o.moments o.children made true → text ≡ name → made ≡ opened folder seed 0 items
      → Ticked start now begun → count ≡ length begun.items → LoadUpTo (local_moves shelf) now count begun loaded
      → Serves (local_facts shelf) loaded old ended last new → AllOrigins ran at last → folder ≡ at → o' ≡ outer_of last
      → ServesIn shelf ran items name folder seed o old ended o' new
  serves_in items name text folder at seed now count o o' made start begun loaded last old new ended is named opens ticked many loads serves origins there outside =
      let same : start ≡ opening items name folder seed o = is
      ∙ ap (λ (t : List ℕ). over_state items (file_state o.readings t) o.moments o.children made true) named
      ∙ ap (λ (m : List PlainState). over_state items (file_state o.readings name) o.moments o.children m true) opens in
      let whole : count ≡ length items = many ∙ ap (λ (z : Local R). length z.items) ticked.rest ∙ ap (λ (z : Local R). length z.items) same in
      ServesIn.served last record {
        now = now;
        begun = begun;
        loaded = loaded;
        ticked = subst (λ (z : Local R). Ticked z now begun) same ticked;
        loads = subst (λ (n : ℕ). LoadUpTo (local_moves shelf) now n begun loaded) whole loads;
        serves = serves;
        origins = subst (λ (f : List ℕ). AllOrigins ran f last) (sym there) origins;
      } outside

  pub same_outer : (r r' : R) (m m' : Option (List ℕ)) (ch ch' : Children) → r ≡ r' → m ≡ m' → ch ≡ ch' → outer r m ch ≡ outer r' m' ch'
  same_outer r r' m m' ch ch' a b d =
      ap (λ (z : R). outer z m ch) a ∙ ap (λ (z : Option (List ℕ)). outer r' z ch) b ∙ ap (λ (z : Children). outer r' m' z) d

  pub served_run : (words : List (List ℕ)) (name text : List ℕ) (seed : ℕ) (items : List Item) (o mid o' : Outer R) (old new : Ends)
      (ended : SessionEnd) (told : Status) → IsOnce words name seed → text ≡ name → ReadsServed shelf o.readings text (Ok items)
      → mid ≡ once_read shelf o → (folder : List ℕ) × IsFolder name folder × ServesIn shelf ran items name folder seed mid old ended o' new
      → told ≡ status_of ended → OnceRun shelf ran words o old told o' new
  served_run words name text seed items o mid o' old new ended told called named read once serves is =
      let here = subst (λ (t : List ℕ). ReadsServed shelf o.readings t (Ok items)) named read in
      OnceRun.served name seed items serves.0 ended called here.0 here.1 serves.1
      (subst (λ (z : Outer R). ServesIn shelf ran items name serves.0 seed z old ended o' new) once serves.2) is
