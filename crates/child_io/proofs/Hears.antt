-- A child that is read to its last read.
use Rattle.std.proofs.Common.{◌≡◌, ◌<◌, ◌≤◌, ℕ, zero, suc, ◌+◌, ◌-◌, ◌^◌, List, [], ◌∷◌, ◌++◌, length, take, drop, Bool, true, false, ◌||◌, ◌==◌, nat_lt, if◌then◌else◌, Option, Some, Ok, Err, refl, ap, sym, ◌∙◌, subst, arith, lit<, append-nil}
use Rattle.std.proofs.Math.Seq.{take-add}
use Rattle.std.proofs.lemmas.Grind.{common_steps}
use Rattle.std.proofs.lemmas.Bool.Decides.{nat_tests}
use Rattle.std.proofs.lemmas.List.Folds.{concat-append}
use Rattle.std.proofs.lemmas.List.Elements.{All-nil, All-push}
use Rattle.std.specs.List.{All, concat}
use Rattle.dict_io.specs.Memory.{size_at}
use Rattle.dict_io.specs.Outside.{count_up}
use Rattle.child_io.specs.Told.{Told, read_fails, read_times_out, read_size, heard_of, after_heard, HeardAs, HeardTold, WaitTold}
use Rattle.child_io.specs.Outcomes.{taken_by, piece_of, pieces_by, is_read, is_last_read, end_at, IsHeard}
use Rattle.child_io.specs.steps.Heard.{HearsPieces, HearTold}
use Rattle.child_io.specs.declared.run.TheConstants.{READ_ROOM}
use Rattle.dict_io.specs.declared.outside.Failed.{Failed}
use Rattle.child_io.specs.declared.child.Heard.{Heard}
use Rattle.child_io.specs.declared.child.Heard.TheVariants.{Bytes as HeardBytes, End as HeardEnd, Failed as HeardFailed, TimedOut as HeardTimedOut}
use Rattle.dict_value.specs.declared.fault.Exit.{Exit}
use Rattle.child_io.specs.declared.child.Script.{Script}
use Rattle.child_io.specs.declared.pieces.PieceEnd.{PieceEnd}
use Rattle.child_io.specs.declared.pieces.PieceEnd.TheVariants.{Cut, TooLong, WaitFailed, Ended}
use borrow.Author.Count.{below_more}

-- so far a child was read, these are the pieces, and no read was the last one
pub record Hearing (limit : ℕ) (t : Told) (pieces : List (List ℕ)) : Type 0 where
  pub taken : t.taken ≡ taken_by t.script t.reads
  pub within : t.taken ≤ length t.script.output
  pub same : pieces ≡ pieces_by t.script t.reads
  pub earlier : (j : ℕ) → j < t.reads → is_last_read t.script t.written limit j ≡ false
  pub few : t.reads ≤ t.taken

-- the same, of a child that began as t0
pub record HearsSince (limit : ℕ) (t0 : Told) (told : Option Told) (pieces : List (List ℕ)) : Type 0 where
  pub now : Told
  pub told_now : told ≡ Some now
  pub script : now.script ≡ t0.script
  pub written : now.written ≡ t0.written
  pub hearing : Hearing limit now pieces

-- so far these pieces of so many bytes in all were handed on
pub record HandedOn (took by_calls : List (List ℕ) → Type 0) (old now : Option Told) (limit total : ℕ) : Type 0 where
  pub pieces : List (List ℕ)
  pub handed : took pieces
  pub calls : by_calls pieces
  pub some : All (λ piece. 0 < length piece) pieces
  pub size : length (concat pieces) ≡ total
  pub told : (t : Told) → old ≡ Some t → t.taken ≡ 0 → t.reads ≡ 0 → HearsSince limit t now pieces

-- the pieces of the first reads are the front of the output
pub concat-pieces_by : (s : Script) (k : ℕ) → concat (pieces_by s k) ≡ take (taken_by s k) s.output
concat-pieces_by s zero = refl
concat-pieces_by s (suc k) =
    concat-append (pieces_by s k) (piece_of s k ∷ [])
    ∙ ap (λ z. z ++ (piece_of s k ++ [])) (concat-pieces_by s k)
    ∙ ap (λ z. take (taken_by s k) s.output ++ z) (append-nil (piece_of s k))
    ∙ sym (take-add (taken_by s k) (read_size s (taken_by s k) k READ_ROOM) s.output)

-- their number of bytes
pub long-of : (limit : ℕ) (t : Told) (pieces : List (List ℕ)) → Hearing limit t pieces → length (concat pieces) ≡ t.taken
long-of limit t pieces h =
    ap (λ z. length (concat z)) h.same ∙ ap length (concat-pieces_by t.script t.reads) ∙ ap (λ n. length (take n t.script.output)) (sym h.taken) ∙ grind (arith, common_steps, h.within)

-- what an answer says of the tests
abbrev pub pick : Bool → Bool → Bool → ℕ → Heard
pick f t z m = if f then HeardFailed else if t then HeardTimedOut else if z then HeardEnd else HeardBytes m

pub picks-bytes : (f t z : Bool) (m n : ℕ) → HeardBytes n ≡ pick f t z m → (f ≡ false) × (t ≡ false) × (z ≡ false) × (n ≡ m)
picks-bytes true t z m n e = cc
picks-bytes false true z m n e = cc
picks-bytes false false true m n e = cc
picks-bytes false false false m n e = (refl, refl, refl, cc)

pub picks-end : (f t z : Bool) (m : ℕ) → HeardEnd ≡ pick f t z m → (f ≡ false) × (t ≡ false) × (z ≡ true)
picks-end true t z m e = cc
picks-end false true z m e = cc
picks-end false false true m e = (refl, refl, refl)
picks-end false false false m e = cc

pub picks-failed : (f t z : Bool) (m : ℕ) → HeardFailed ≡ pick f t z m → f ≡ true
picks-failed true t z m e = refl
picks-failed false true z m e = cc
picks-failed false false true m e = cc
picks-failed false false false m e = cc

pub picks-timed_out : (f t z : Bool) (m : ℕ) → HeardTimedOut ≡ pick f t z m → (f ≡ false) × (t ≡ true)
picks-timed_out true t z m e = cc
picks-timed_out false true z m e = (refl, refl)
picks-timed_out false false true m e = cc
picks-timed_out false false false m e = cc

-- the tests of the last read, and its outcome
module _ (f t z l : Bool) where
  ends-not : f ≡ false → t ≡ false → z ≡ false → l ≡ false → (f || (t || (z || l))) ≡ false
  ends-not a b c d = rw (a, b, c, d) refl

  ends-failed : f ≡ true → (f || (t || (z || l))) ≡ true
  ends-failed a = rw a refl

  ends-timed_out : f ≡ false → t ≡ true → (f || (t || (z || l))) ≡ true
  ends-timed_out a b = rw (a, b) refl

  ends-end : f ≡ false → t ≡ false → z ≡ true → (f || (t || (z || l))) ≡ true
  ends-end a b c = rw (a, b, c) refl

  ends-long : f ≡ false → t ≡ false → z ≡ false → l ≡ true → (f || (t || (z || l))) ≡ true
  ends-long a b c d = rw (a, b, c, d) refl

module _ (f t z w : Bool) (exit : Exit) where
  abbrev choose : PieceEnd
  choose = if f then Cut false else if t then Cut true else if z then (if w then WaitFailed else Ended exit) else TooLong

  choose-failed : f ≡ true → Cut false ≡ choose
  choose-failed a = rw a refl

  choose-timed_out : f ≡ false → t ≡ true → Cut true ≡ choose
  choose-timed_out a b = rw (a, b) refl

  choose-ended : f ≡ false → t ≡ false → z ≡ true → w ≡ false → Ended exit ≡ choose
  choose-ended a b c d = rw (a, b, c, d) refl

  choose-wait : f ≡ false → t ≡ false → z ≡ true → w ≡ true → WaitFailed ≡ choose
  choose-wait a b c d = rw (a, b, c, d) refl

  choose-long : f ≡ false → t ≡ false → z ≡ false → TooLong ≡ choose
  choose-long a b c = rw (a, b, c) refl

module _ (s : Script) (input : List ℕ) (limit k : ℕ) where
  abbrev failed : Bool
  failed = read_fails s input k

  abbrev late : Bool
  late = read_times_out s true k

  abbrev end : Bool
  end = is_read s k

  abbrev long : Bool
  long = nat_lt limit (taken_by s (suc k))

  pub last-not : failed ≡ false → late ≡ false → end ≡ false → long ≡ false → is_last_read s input limit k ≡ false
  last-not = ends-not failed late end long

  pub last-failed : failed ≡ true → (is_last_read s input limit k ≡ true) × (Cut false ≡ end_at s input k)
  last-failed a = (ends-failed failed late end long a, choose-failed failed late end s.wait_fails s.exit a)

  pub last-timed_out : failed ≡ false → late ≡ true → (is_last_read s input limit k ≡ true) × (Cut true ≡ end_at s input k)
  last-timed_out a b = (ends-timed_out failed late end long a b, choose-timed_out failed late end s.wait_fails s.exit a b)

  pub last-ended : failed ≡ false → late ≡ false → end ≡ true → s.wait_fails ≡ false → (is_last_read s input limit k ≡ true) × (Ended s.exit ≡ end_at s input k)
  last-ended a b c d = (ends-end failed late end long a b c, choose-ended failed late end s.wait_fails s.exit a b c d)

  pub last-wait : failed ≡ false → late ≡ false → end ≡ true → s.wait_fails ≡ true → (is_last_read s input limit k ≡ true) × (WaitFailed ≡ end_at s input k)
  last-wait a b c d = (ends-end failed late end long a b c, choose-wait failed late end s.wait_fails s.exit a b c d)

  pub last-long : failed ≡ false → late ≡ false → end ≡ false → long ≡ true → (is_last_read s input limit k ≡ true) × (TooLong ≡ end_at s input k)
  last-long a b c d = (ends-long failed late end long a b c d, choose-long failed late end s.wait_fails s.exit a b c)

-- a size is at least 1
pub size_at-some : (sizes : List ℕ) (k room : ℕ) → 0 < room → 0 < size_at sizes k room
size_at-some sizes k room h = grind (arith, nat_tests)

pub count_up-few : (n : ℕ) → n < 2 ^ 32 → count_up n ≡ suc n
count_up-few n h = omega arith

-- where a read brings some bytes, the end wasn't reached
pub more-left : (s : Script) (taken k room : ℕ) → (read_size s taken k room == 0) ≡ false → taken ≤ length s.output → (taken == length s.output) ≡ false
more-left s taken k room h w = grind (arith, nat_tests)

pub at-end : (s : Script) (taken k room : ℕ) → 0 < room → (read_size s taken k room == 0) ≡ true → taken ≤ length s.output → (taken == length s.output) ≡ true
at-end s taken k room r h w = let some = size_at-some s.sizes k room r in grind (arith, nat_tests)

pub some-read : (n m : ℕ) → n ≡ m → (m == 0) ≡ false → 0 < n
some-read n m e z = grind (arith, nat_tests)

-- one more read
pub hears-next : (limit : ℕ) (t : Told) (pieces : List (List ℕ)) (buf : List ℕ) (n : ℕ) (new : Option Told) → limit < 2 ^ 32 → length buf ≡ READ_ROOM → Hearing limit t pieces → HeardAs t true new (HeardBytes n) buf → length (concat pieces) ≤ limit → n ≤ limit - length (concat pieces) → Hearing limit (after_heard t n) (pieces ++ take n buf ∷ [])
hears-next limit t pieces buf n new small room h a le fits =
    let p = picks-bytes (read_fails t.script t.written t.reads) (read_times_out t.script true t.reads) (read_size t.script t.taken t.reads (length buf) == 0) (read_size t.script t.taken t.reads (length buf)) n a.answer in
    let size : n ≡ read_size t.script t.taken t.reads READ_ROOM = p.3 ∙ ap (λ r. read_size t.script t.taken t.reads r) room in
    let long : length (concat pieces) ≡ t.taken = long-of limit t pieces h in
    let some : 0 < n = some-read n (read_size t.script t.taken t.reads (length buf)) p.3 p.2 in
    let up : count_up t.reads ≡ suc t.reads = count_up-few t.reads (omega (arith, h.few)) in
    let next : t.taken + n ≡ taken_by t.script (suc t.reads) = ap (λ z. t.taken + z) size ∙ ap (λ z. z + read_size t.script z t.reads READ_ROOM) h.taken in
    let here : is_last_read t.script t.written limit t.reads ≡ false = last-not t.script t.written limit t.reads p.0 p.1 (rw (← h.taken) (more-left t.script t.taken t.reads (length buf) p.2 h.within)) (rw (← next) (grind (arith, nat_tests))) in
    let piece : take n buf ≡ piece_of t.script t.reads = a.bytes ∙ ap (λ m. take m (drop t.taken t.script.output)) size ∙ ap (λ z. take (read_size t.script z t.reads READ_ROOM) (drop z t.script.output)) h.taken in
    record {
      taken = next ∙ ap (taken_by t.script) (sym up);
      within = omega (arith, h.within);
      same = ap (λ z. z ++ take n buf ∷ []) h.same ∙ ap (λ z. pieces_by t.script t.reads ++ z ∷ []) piece ∙ ap (pieces_by t.script) (sym up);
      earlier = λ j less. below_more (λ j. is_last_read t.script t.written limit j ≡ false) t.reads h.earlier here j (omega (arith, up));
      few = omega (arith, h.few, up, some);
    }

-- the tests of a child's next read
pub answer-of : (t : Told) (new : Option Told) (r : Heard) (buf : List ℕ) → length buf ≡ READ_ROOM → HeardAs t true new r buf → r ≡ pick (read_fails t.script t.written t.reads) (read_times_out t.script true t.reads) (read_size t.script t.taken t.reads READ_ROOM == 0) (read_size t.script t.taken t.reads READ_ROOM)
answer-of t new r buf room a = a.answer ∙ ap (heard_of t true) room

pub exit-of : (limit : ℕ) (t0 : Told) (told : Option Told) (pieces : List (List ℕ)) (end : PieceEnd) (h : HearsSince limit t0 told pieces) → is_last_read h.now.script h.now.written limit h.now.reads ≡ true → end ≡ end_at h.now.script h.now.written h.now.reads → IsHeard t0.script t0.written limit pieces end
exit-of limit t0 told pieces end h last at =
    subst (λ s. IsHeard s t0.written limit pieces end) h.script (subst (λ w. IsHeard h.now.script w limit pieces end) h.written (h.now.reads, (h.hearing.earlier, last), h.hearing.same, at))

pub exit-failed : (limit : ℕ) (t0 : Told) (told new : Option Told) (pieces : List (List ℕ)) (buf : List ℕ) → length buf ≡ READ_ROOM → HearsSince limit t0 told pieces → HeardTold told true new HeardFailed buf → IsHeard t0.script t0.written limit pieces (Cut false)
exit-failed limit t0 told new pieces buf room h heard =
    let a : HeardAs h.now true new HeardFailed buf = rw h.told_now at heard in
    let l = last-failed h.now.script h.now.written limit h.now.reads (picks-failed _ _ _ _ (answer-of h.now new HeardFailed buf room a)) in
    exit-of limit t0 told pieces (Cut false) h l.0 l.1

pub exit-timed_out : (limit : ℕ) (t0 : Told) (told new : Option Told) (pieces : List (List ℕ)) (buf : List ℕ) → length buf ≡ READ_ROOM → HearsSince limit t0 told pieces → HeardTold told true new HeardTimedOut buf → IsHeard t0.script t0.written limit pieces (Cut true)
exit-timed_out limit t0 told new pieces buf room h heard =
    let a : HeardAs h.now true new HeardTimedOut buf = rw h.told_now at heard in
    let p = picks-timed_out _ _ _ _ (answer-of h.now new HeardTimedOut buf room a) in
    let l = last-timed_out h.now.script h.now.written limit h.now.reads p.0 p.1 in
    exit-of limit t0 told pieces (Cut true) h l.0 l.1

pub exit-long : (limit : ℕ) (t0 : Told) (told new : Option Told) (pieces : List (List ℕ)) (buf : List ℕ) (n : ℕ) → length buf ≡ READ_ROOM → HearsSince limit t0 told pieces → HeardTold told true new (HeardBytes n) buf → length (concat pieces) ≤ limit → limit - length (concat pieces) < n → IsHeard t0.script t0.written limit pieces TooLong
exit-long limit t0 told new pieces buf n room h heard le more =
    let a : HeardAs h.now true new (HeardBytes n) buf = rw h.told_now at heard in
    let p = picks-bytes _ _ _ _ n (answer-of h.now new (HeardBytes n) buf room a) in
    let s = h.now.script in
    let g = h.hearing in
    let long : length (concat pieces) ≡ h.now.taken = long-of limit h.now pieces g in
    let next : h.now.taken + n ≡ taken_by s (suc h.now.reads) = ap (λ z. h.now.taken + z) p.3 ∙ ap (λ z. z + read_size s z h.now.reads READ_ROOM) g.taken in
    let z = rw g.taken at (more-left s h.now.taken h.now.reads READ_ROOM p.2 g.within) in
    let l = last-long s h.now.written limit h.now.reads p.0 p.1 z (rw (← next) (grind (arith, nat_tests))) in
    exit-of limit t0 told pieces TooLong h l.0 l.1

-- at the end, all of the output was read
pub all-read : (limit : ℕ) (t : Told) (new : Option Told) (pieces : List (List ℕ)) (buf : List ℕ) → length buf ≡ READ_ROOM → Hearing limit t pieces → HeardAs t true new HeardEnd buf → (taken_by t.script t.reads == length t.script.output) ≡ true
all-read limit t new pieces buf room h a =
    let p = picks-end _ _ _ _ (answer-of t new HeardEnd buf room a) in
    let z = at-end t.script t.taken t.reads READ_ROOM (lit< tt) p.2 h.within in
    rw h.taken at z

pub exit-ended : (limit : ℕ) (t0 : Told) (told new : Option Told) (pieces : List (List ℕ)) (buf : List ℕ) (exit : Exit) → length buf ≡ READ_ROOM → HearsSince limit t0 told pieces → HeardTold told true new HeardEnd buf → WaitTold new (Ok exit) → IsHeard t0.script t0.written limit pieces (Ended exit)
exit-ended limit t0 told new pieces buf exit room h heard wait =
    let a : HeardAs h.now true new HeardEnd buf = rw h.told_now at heard in
    let p = picks-end _ _ _ _ (answer-of h.now new HeardEnd buf room a) in
    let e = all-read limit h.now new pieces buf room h.hearing a in
    let w = rw a.after at wait in
    let l = last-ended h.now.script h.now.written limit h.now.reads p.0 p.1 e w.1 in
    exit-of limit t0 told pieces (Ended exit) h l.0 (rw w.0 l.1)

pub exit-wait : (limit : ℕ) (t0 : Told) (told new : Option Told) (pieces : List (List ℕ)) (buf : List ℕ) (failed : Failed) → length buf ≡ READ_ROOM → HearsSince limit t0 told pieces → HeardTold told true new HeardEnd buf → WaitTold new (Err failed) → IsHeard t0.script t0.written limit pieces WaitFailed
exit-wait limit t0 told new pieces buf failed room h heard wait =
    let a : HeardAs h.now true new HeardEnd buf = rw h.told_now at heard in
    let p = picks-end _ _ _ _ (answer-of h.now new HeardEnd buf room a) in
    let e = all-read limit h.now new pieces buf room h.hearing a in
    let w = rw a.after at wait in
    let l = last-wait h.now.script h.now.written limit h.now.reads p.0 p.1 e w in
    exit-of limit t0 told pieces WaitFailed h l.0 l.1

pub hears-since-next : (limit : ℕ) (t0 : Told) (told new : Option Told) (pieces : List (List ℕ)) (buf : List ℕ) (n : ℕ) → limit < 2 ^ 32 → length buf ≡ READ_ROOM → HearsSince limit t0 told pieces → HeardTold told true new (HeardBytes n) buf → length (concat pieces) ≤ limit → n ≤ limit - length (concat pieces) → HearsSince limit t0 new (pieces ++ take n buf ∷ [])
hears-since-next limit t0 told new pieces buf n small room h heard le fits =
    let a : HeardAs h.now true new (HeardBytes n) buf = rw h.told_now at heard in
    record {
      now = after_heard h.now n;
      told_now = a.after;
      script = h.script;
      written = h.written;
      hearing = hears-next limit h.now pieces buf n new small room h.hearing a le fits;
    }

-- before the first read
pub hears-fresh : (limit : ℕ) (t0 : Told) (told : Option Told) → told ≡ Some t0 → t0.taken ≡ 0 → t0.reads ≡ 0 → HearsSince limit t0 told []
hears-fresh limit t0 told e n r = record {
  now = t0;
  told_now = e;
  script = refl;
  written = refl;
  hearing = record {
    taken = n ∙ ap (taken_by t0.script) (sym r);
    within = omega (arith, n);
    same = ap (pieces_by t0.script) (sym r);
    earlier = λ j less. absurd (omega (arith, r));
    few = omega (arith, r);
  };
}

pub handed-none : (took calls : List (List ℕ) → Type 0) (old : Option Told) (limit : ℕ) → took [] → calls [] → HandedOn took calls old old limit 0
handed-none took calls old limit h so = record { pieces = []; handed = h; calls = so; some = All-nil (λ piece. 0 < length piece); size = refl; told = λ t e n r. hears-fresh limit t old e n r }

-- one more piece was handed on
pub handed-next : (took more calls next : List (List ℕ) → Type 0) (old now new : Option Told) (limit total n : ℕ) (buf : List ℕ) → limit < 2 ^ 32 → length buf ≡ READ_ROOM → 0 < n → n ≤ length buf → total ≤ limit → n ≤ limit - total → (h : HandedOn took calls old now limit total) → HeardTold now true new (HeardBytes n) buf
    → ((pieces : List (List ℕ)) → took pieces → more (pieces ++ take n buf ∷ [])) → ((pieces : List (List ℕ)) → calls pieces → next (pieces ++ take n buf ∷ [])) → HandedOn more next old new limit (total + n)
handed-next took more calls next old now new limit total n buf small room some bound le fits h heard takes reads =
    let size : length (take n buf) ≡ n = grind (arith, common_steps) in
    record {
      pieces = h.pieces ++ take n buf ∷ [];
      handed = takes h.pieces h.handed;
      calls = reads h.pieces h.calls;
      some = All-push (λ piece. 0 < length piece) h.pieces (take n buf) h.some (rw size some);
      size = ap length (concat-append h.pieces (take n buf ∷ [])) ∙ grind (arith, common_steps, h.size, size);
      told = λ t e i r. hears-since-next limit t now new h.pieces buf n small room (h.told t e i r) heard (rw h.size le) (rw h.size fits);
    }

-- the bytes in all, by an end of the hearing
pub heard-of : (took calls ended : List (List ℕ) → Type 0) (old now : Option Told) (limit total : ℕ) (end : PieceEnd) → total ≤ limit → (h : HandedOn took calls old now limit total) → (calls h.pieces → ended h.pieces)
    → ((t : Told) → HearsSince limit t now h.pieces → IsHeard t.script t.written limit h.pieces end) → HearsPieces took limit (HearTold old limit end) ended
heard-of took calls ended old now limit total end le h reads ends = record { pieces = h.pieces; handed = h.handed; some = h.some; within = rw h.size le; told = λ t e n r. ends t (h.told t e n r); calls = reads h.calls }

-- a piece that goes past the limit
pub long-piece : (limit total n : ℕ) (pieces : List (List ℕ)) (buf : List ℕ) → length (concat pieces) ≡ total → total ≤ limit → n ≤ length buf → limit - total < n → limit < length (concat pieces) + length (take n buf)
long-piece limit total n pieces buf size within bound more =
    let long : length (take n buf) ≡ n = grind (arith, common_steps) in
    omega (arith, size, within, more, long)
