-- One load as its contract says it: of the loader, the list, the child and what was posted.
use Rattle.std.proofs.Common.{◌≡◌, ◌<◌, ◌≤◌, ◌∙◌, ◌⊎◌, ◌∷◌, ◌++◌, [], ℕ, zero, suc, List, Err, length, refl, sym, ap, subst, inl, inr, arith, append_assoc}
use Rattle.std.specs.Prelude.{IsErrOf, true, false, pos, negsuc}
use Rattle.std.specs.List.{concat}
use Rattle.child_io.specs.declared.child.Outcome.{Outcome}
use Rattle.child_io.specs.declared.child.Outcome.TheVariants as outcome
use Rattle.child_io.specs.Gathers.{outcome_of}
use Rattle.dict_io.specs.Outside.{HasCause}
use Rattle.dict_schema.specs.declared.definition.Definition.{Definition}
use Rattle.dict_schema.specs.declared.definition.Update.{Update}
use Rattle.dict_schema.specs.declared.definition.Update.TheVariants as update
use Rattle.dict_value.specs.declared.fault.Cause.{Cause}
use Rattle.dict_value.specs.declared.fault.Cause.TheVariants as cause
use Rattle.dict_value.specs.declared.fault.Exit.TheVariants.{Code, Killed}
use Rattle.dict_version.specs.Contents.{Contents}
use Rattle.load_core.specs.DictSteps.{stepped}
use Rattle.load_core.specs.declared.dictionary.DictCore.{DictCore}
use Rattle.load_core.specs.declared.dictionary.DictEvent.TheVariants.{Start}
use Rattle.packed_rows.specs.Columns.{RowList}
use Rattle.loader.proofs.CoreEnds.{HasEnded, added}
use Rattle.load_core.specs.declared.dictionary.DictEffect.{DictEffect}
use Rattle.load_core.specs.declared.dictionary.DictEffect.TheVariants.{Begun}
use Rattle.load_core.specs.declared.dictionary.Phase.TheVariants.{Idle}
use Rattle.loader.proofs.CoreRuns.{HasBegun, IsUsedUp, begun, spent}
use Rattle.loader.proofs.Judging.{cause-along}
use Rattle.loader.proofs.Newest.{stands-after}
use Rattle.loader.proofs.WholeLoads.{after-version, counts, list-left, stands-left}
use Rattle.loader.specs.Accepts.{Accepts, LaysTooLarge, Refuses, undecoded, untaken, too_large}
use Rattle.loader.specs.Loaders.{ArePostings, EndsLoad, IsAfter, IsAt, IsLoad, LoaderState, Running, RunsLoad, StartsNone}
use Rattle.loader.specs.Timing.{after_failure}
use Rattle.loader.specs.declared.answers.LoadEnd.{LoadEnd}
use Rattle.loader.specs.declared.answers.LoadEnd.TheVariants as load
use Rattle.loader.specs.declared.board.Posting.{Posting}
use Rattle.loader.specs.declared.board.Posting.TheVariants as post
use Rattle.loader.specs.declared.fault.LoadFault.{LoadFault}
use Rattle.loader.specs.declared.fault.LoadFault.TheVariants as fault
use Rattle.loader.specs.steps.Kept.{after_version, fault_end, posted_cause}
use Rattle.loader.specs.steps.Publishings.{IsKept, load_end_of}

-- ---- no child's outcome is that the loads are used up

no-spent-large : (u : Update) (keys : ℕ) (former fresh : RowList) → LaysTooLarge u keys former fresh cause.Spent → ⊥
no-spent-large update.None keys former fresh h = h
no-spent-large (update.Field name lag) keys former fresh (rows, laid, h) = h

no-spent-output : (d : Definition) (former : RowList) (output : List ℕ) → Refuses d former output cause.Spent → ⊥
no-spent-output d former output (undecoded h) = h
no-spent-output d former output (untaken rows decoded h) = h
no-spent-output d former output (too_large rows has h) = no-spent-large d.source.update (length d.keys) former rows h

no-spent : (d : Definition) (former : RowList) (o : Outcome) → Accepts d former o (Err cause.Spent) → ⊥
no-spent d former outcome.NotStarted h = cc
no-spent d former outcome.WriteFailed h = h
no-spent d former (outcome.Cut bytes true) h = cc
no-spent d former (outcome.Cut bytes false) h = cc
no-spent d former outcome.TooLong h = cc
no-spent d former (outcome.WaitFailed bytes) h = cc
no-spent d former (outcome.Ended bytes Killed) h = cc
no-spent d former (outcome.Ended bytes (Code (pos zero))) h = no-spent-output d former bytes h
no-spent d former (outcome.Ended bytes (Code (pos (suc n)))) h = cc
no-spent d former (outcome.Ended bytes (Code (negsuc n))) h = cc
no-spent d former outcome.NoMemory h = h

no-spent-end : (d : Definition) (now : ℕ) (list after : List Contents) (o : Outcome) → EndsLoad d now list o (load.Failed cause.Spent) after → ⊥
no-spent-end d now list after o ((former, is, h), same) = no-spent d former o h

-- ---- what is posted of a load that began and failed

are-failed : {T : Type 0} (is_told : T → Type 0) (now : ℕ) (why : Cause) → (why ≡ cause.Spent → ⊥) → ArePostings is_told now (load.Failed why) (post.Begun ∷ post.Failed why now ∷ [])
are-failed is_told now cause.Start other = refl
are-failed is_told now cause.Read other = refl
are-failed is_told now cause.TimedOut other = refl
are-failed is_told now (cause.Status status) other = refl
are-failed is_told now cause.Killed other = refl
are-failed is_told now (cause.Longer limit) other = refl
are-failed is_told now cause.Rows other = refl
are-failed is_told now (cause.Row bad) other = refl
are-failed is_told now (cause.Key number) other = refl
are-failed is_told now (cause.Prefix row) other = refl
are-failed is_told now cause.Spent other = absurd (other refl)
are-failed is_told now cause.NoMemory other = refl

-- two postings, one behind the other
pub two-posted : {T B : Type 0} (posts : B → List (Posting T) → B → Type 0) (first now : B) (before : List (Posting T)) (one two : Posting T) → posts first ((before ++ one ∷ []) ++ two ∷ []) now → posts first (before ++ one ∷ two ∷ []) now
two-posted {T} posts first now before one two h = subst (λ (postings : List (Posting T)). posts first postings now) (append_assoc before (one ∷ []) (two ∷ [])) h

-- how a fault ends a load
pub fault-end : (X : Type 0) (f : LoadFault) → load_end_of {T = X} (Err f) ≡ fault_end f
fault-end X (fault.Refused why) = refl
fault-end X fault.NoMemory = refl

-- a load fails to start where its child does
pub cause-end : {X : Type 0} (before now : ℕ) (f : LoadFault) (end : LoadEnd) → end ≡ fault_end f → HasCause before now (IsErrOf {T = X} (Err f) (fault.Refused cause.Start)) → HasCause before now (end ≡ load.Failed cause.Start)
cause-end {X} before now (fault.Refused why) end is h =
    cause-along before now (IsErrOf {T = X} (Err (fault.Refused why)) (fault.Refused cause.Start)) (end ≡ load.Failed cause.Start) h (λ e. cc) (λ e. cc)
cause-end {X} before now fault.NoMemory end is h =
    cause-along before now (IsErrOf {T = X} (Err fault.NoMemory) (fault.Refused cause.Start)) (end ≡ load.Failed cause.Start) h (λ e. cc) (λ e. cc)

-- ---- whether one begins

pub begun-at : (old counted new : DictCore) (effect : DictEffect) (number : ℕ) → counted ≡ old → counted.phase ≡ Idle → new ≡ (stepped counted Start).core → effect ≡ (stepped counted Start).effect → effect ≡ Begun number → HasBegun old new
begun-at old counted new effect number same idle is answered begins =
    subst (λ (o : DictCore). HasBegun o new) same (subst (HasBegun counted) (sym is) (begun counted number idle (sym begins ∙ answered)))

pub start-at : (old counted new : DictCore) → counted ≡ old → new ≡ (stepped counted Start).core → new ≡ (stepped old Start).core
start-at old counted new same is = is ∙ ap (λ (k : DictCore). (stepped k Start).core) same

pub spent-at : (old counted new : DictCore) (effect : DictEffect) → counted ≡ old → counted.phase ≡ Idle → new ≡ (stepped counted Start).core → effect ≡ (stepped counted Start).effect → ((number : ℕ) → effect ≡ Begun number → ⊥) → IsUsedUp old new
spent-at old counted new effect same idle is answered none =
    subst (λ (o : DictCore). IsUsedUp o new) same (subst (IsUsedUp counted) (sym is) (spent counted idle (λ number e. none number (answered ∙ e))))

-- where none begins, none fails to start
pub no-cause : (count : ℕ) (end : LoadEnd) → end ≡ load.Failed cause.Spent → HasCause count count (end ≡ load.Failed cause.Start)
no-cause count end is = record { later = omega arith; rose = λ e. cc; still = λ no. refl }

-- ---- a load that began

module _ {T : Type 0} (runs : Running) (same : Type 0) (is_told : T → Type 0) (posts : List (Posting T) → Type 0) (d : Definition) (now : ℕ) (old new : LoaderState) (list after : List Contents) (started core : DictCore) (b : HasBegun old.core started) (fewer : old.core.published ≤ old.core.loads) (start : started ≡ (stepped old.core Start).core) (at : IsAt old list) where
  -- the list has room for one more
  pub has-room : length list < 9223372036854775807
  has-room = omega (arith, b.few, fewer, at.counted)

  abbrev pub Runs : LoadEnd → Type 0
  Runs end = RunsLoad runs d now old.folder list after old.core core end ⊎ StartsNone same d now list after old.core core end

  pub core-ended : (end : LoadEnd) → Runs end → HasEnded old.core core end
  core-ended end r = (counts runs same d now old.folder list after old.core started core b fewer start end r).core_ended

  runs-new : (end : LoadEnd) → new.core ≡ core → Runs end → RunsLoad runs d now old.folder list after old.core new.core end ⊎ StartsNone same d now list after old.core new.core end
  runs-new end is r = subst (λ (c : DictCore). RunsLoad runs d now old.folder list after old.core c end ⊎ StartsNone same d now list after old.core c end) (sym is) r

  published-ends : (told : T) (number : ℕ) (kept : RowList) → Runs (load.Published number) → IsKept d now after kept → is_told told → new ≡ after_version d core kept now old → posts (post.Begun ∷ post.Published told number now ∷ []) → IsLoad runs same is_told posts d now (load.Published number) old new list after
  published-ends told number kept r k is_of is posted =
      let c = counts runs same d now old.folder list after old.core started core b fewer start (load.Published number) r in
      let counted : core.published ≡ length after = omega (arith, c.core_ended.counted, c.list_grew, at.counted) in
      record {
        run = λ few. runs-new (load.Published number) (ap (λ (l : LoaderState). l.core) is) r;
        spent = λ many. absurd (omega (arith, b.few, many));
        state = after-version d core kept now number old new is;
        stands = subst (λ (l : LoaderState). IsAt l after) (sym is) (stands-after d core kept now old after k counted);
        postings = post.Begun ∷ post.Published told number now ∷ [];
        are_postings = (told, is_of, refl);
        posted = posted;
      }

  pub load-published : (told : T) (number : ℕ) (kept : RowList) (end : LoadEnd) → end ≡ load.Published number → Runs (load.Published number) → IsKept d now after kept → is_told told → new ≡ after_version d core kept now old → posts (post.Begun ∷ post.Published told number now ∷ []) → IsLoad runs same is_told posts d now end old new list after
  load-published told number kept end ends r k is_of is posted =
      subst (λ (e : LoadEnd). IsLoad runs same is_told posts d now e old new list after) (sym ends) (published-ends told number kept r k is_of is posted)

  stands-failed : (end : LoadEnd) → added end ≡ 0 → Runs end → new ≡ record old { core = core; timing = after_failure old.timing now } → IsAt new after
  stands-failed end none r is =
      let c = core-ended end r in
      let counted : core.published ≡ old.core.published = omega (arith, c.counted, none) in
      subst (λ (l : LoaderState). IsAt l after) (sym is) (stands-left old core (after_failure old.timing now) list after at (list-left runs same d now old.folder list after old.core core end none r) counted)

  not-spent : (why : Cause) → Runs (load.Failed why) → why ≡ cause.Spent → ⊥
  not-spent why (inl r) e = no-spent-end d now list after (outcome_of r.ending (concat r.pieces)) (subst (λ (w : Cause). EndsLoad d now list (outcome_of r.ending (concat r.pieces)) (load.Failed w) after) e r.comes.ends)
  not-spent why (inr r) e = absurd (cc (r.ended))

  failed-ends : (f : LoadFault) → Runs (fault_end f) → new ≡ record old { core = core; timing = after_failure old.timing now } → posts (post.Begun ∷ post.Failed (posted_cause f) now ∷ []) → IsLoad runs same is_told posts d now (fault_end f) old new list after
  failed-ends (fault.Refused why) r is posted = record {
    run = λ few. runs-new (load.Failed why) (ap (λ (l : LoaderState). l.core) is) r;
    spent = λ many. absurd (omega (arith, b.few, many));
    state = subst (λ (l : LoaderState). IsAfter d now (load.Failed why) old l) (sym is) refl;
    stands = stands-failed (load.Failed why) refl r is;
    postings = post.Begun ∷ post.Failed why now ∷ [];
    are_postings = are-failed is_told now why (not-spent why r);
    posted = posted;
  }
  failed-ends fault.NoMemory r is posted = record {
    run = λ few. runs-new load.NoMemory (ap (λ (l : LoaderState). l.core) is) r;
    spent = λ many. absurd (omega (arith, b.few, many));
    state = subst (λ (l : LoaderState). IsAfter d now load.NoMemory old l) (sym is) refl;
    stands = stands-failed load.NoMemory refl r is;
    postings = post.Begun ∷ post.Failed cause.NoMemory now ∷ [];
    are_postings = refl;
    posted = posted;
  }

  pub load-failed : (X : Type 0) (f : LoadFault) (end : LoadEnd) → end ≡ fault_end f → Runs (load_end_of {T = X} (Err f)) → new ≡ record old { core = core; timing = after_failure old.timing now } → posts (post.Begun ∷ post.Failed (posted_cause f) now ∷ []) → IsLoad runs same is_told posts d now end old new list after
  load-failed X f end ends r is posted =
      subst (λ (e : LoadEnd). IsLoad runs same is_told posts d now e old new list after) (sym ends) (failed-ends f (subst Runs (fault-end X f) r) is posted)

-- the core of a load is idle after it
pub ended-at : (runs : Running) (same : Type 0) (d : Definition) (now : ℕ) (folder : List ℕ) (list after : List Contents) (old counted started core : DictCore) (effect : DictEffect) (number : ℕ) → counted ≡ old → counted.phase ≡ Idle → counted.published ≤ counted.loads → started ≡ (stepped counted Start).core → effect ≡ (stepped counted Start).effect → effect ≡ Begun number → (end : LoadEnd) → ((before : DictCore) → started ≡ (stepped before Start).core → RunsLoad runs d now folder list after before core end ⊎ StartsNone same d now list after before core end) → HasEnded old core end
ended-at runs same d now folder list after old counted started core effect number is idle fewer start answered begins end r =
    let b = begun-at old counted started effect number is idle start answered begins in
    let s = start-at old counted started is start in
    let f : old.published ≤ old.loads = subst (λ (k : DictCore). k.published ≤ k.loads) is fewer in
    (counts runs same d now folder list after old started core b f s end (r old s)).core_ended

-- ---- no load began, since all are used up

pub load-spent : {T : Type 0} (runs : Running) (same : Type 0) (is_told : T → Type 0) (posts : List (Posting T) → Type 0) (d : Definition) (now : ℕ) (old new : LoaderState) (list : List Contents) (begun : DictCore) (end : LoadEnd) → end ≡ load.Failed cause.Spent → IsUsedUp old.core begun → same → IsAt old list → new ≡ record old { timing = after_failure old.timing now } → posts (post.Failed cause.Spent now ∷ []) → IsLoad runs same is_told posts d now end old new list list
load-spent runs same is_told posts d now old new list begun end ends used none at is posted =
    subst (λ (e : LoadEnd). IsLoad runs same is_told posts d now e old new list list) (sym ends) (record {
      run = λ few. absurd (omega (arith, few, used.many));
      spent = λ many. record { none = none; ended = refl; list_left = refl; core_left = ap (λ (l : LoaderState). l.core) is };
      state = subst (λ (l : LoaderState). IsAfter d now (load.Failed cause.Spent) old l) (sym is) refl;
      stands = subst (λ (l : LoaderState). IsAt l list) (sym is) (stands-left old old.core (after_failure old.timing now) list list at refl refl);
      postings = post.Failed cause.Spent now ∷ [];
      are_postings = refl;
      posted = posted;
    })
