-- A child that gets its input.
use Rattle.std.proofs.Common.{◌≡◌, ◌<◌, ◌≤◌, ℕ, zero, suc, ◌+◌, ◌-◌, min, List, ◌++◌, length, take, drop, Bool, true, false, ◌||◌, ◌&&◌, ◌==◌, nat_lt, if◌then◌else◌, Option, Some, refl, ap, sym, ◌∙◌, arith}
use Rattle.std.proofs.Math.Seq.{take-add, take-length}
use Rattle.std.proofs.lemmas.List.{length-take}
use Rattle.std.proofs.lemmas.Grind.{common_steps}
use Rattle.std.proofs.lemmas.Bool.Decides.{nat_tests}
use Rattle.child_io.specs.Told.{Told, fresh, holds_number, put_size, after_put, PutTold}
use Rattle.child_io.specs.Outcomes.{input_fails}
use Rattle.child_io.specs.steps.Fed.{FedAs}
use Rattle.dict_io.specs.declared.outside.Put.TheVariants.{Bytes as PutBytes, Failed as PutFailed}
use Rattle.child_io.specs.declared.child.Script.{Script}

-- so far this much of the input went into a child that was fresh
pub record Feeding (s : Script) (input : List ℕ) (done : ℕ) (told : Option Told) : Type 0 where
  pub now : Told
  pub told_now : told ≡ Some now
  pub script : now.script ≡ s
  pub written : now.written ≡ take done input
  pub taken : now.taken ≡ 0
  pub reads : now.reads ≡ 0
  pub first : done ≡ 0 → now.writes ≡ 0
  pub later : 0 < done → (holds_number s.failing_writes 0 ≡ false) × (done ≡ min (length input) s.room)

-- what the answer says of the size
pub puts-bytes : (b : Bool) (size n : ℕ) → PutBytes n ≡ (if b then PutFailed else PutBytes size) → (b ≡ false) × (n ≡ size)
puts-bytes true size n e = cc
puts-bytes false size n e = (refl, cc)

pub puts-failed : (b : Bool) (size : ℕ) → PutFailed ≡ (if b then PutFailed else PutBytes size) → b ≡ true
puts-failed true size e = refl
puts-failed false size e = cc

pub put-bytes : (size n : ℕ) → PutBytes n ≡ (if size == 0 then PutFailed else PutBytes size) → (0 < size) × (n ≡ size)
put-bytes size n e = let p = puts-bytes (size == 0) size n e in (grind (arith, nat_tests, p.0), p.1)

pub put-failed : (size : ℕ) → PutFailed ≡ (if size == 0 then PutFailed else PutBytes size) → size ≡ 0
put-failed size e = let p = puts-failed (size == 0) size e in grind (arith, nat_tests, p)

-- the size where no write was before
pub size-first : (b : Bool) (size room : ℕ) → 0 < (if b then 0 else min size (room - 0)) → (b ≡ false) × ((if b then 0 else min size (room - 0)) ≡ min size room)
size-first true size room h = absurd (omega arith)
size-first false size room h = (refl, omega arith)

pub size-none : (b : Bool) (size room : ℕ) → 0 < size → (if b then 0 else min size (room - 0)) ≡ 0 → (b || nat_lt room size) ≡ true
size-none true size room h e = refl
size-none false size room h e = grind (arith, nat_tests)

-- and where one was
pub size-later : (b : Bool) (size room used : ℕ) → room ≤ used → (if b then 0 else min size (room - used)) ≡ 0
size-later true size room used h = refl
size-later false size room used h = omega arith

pub fails-of : (b : Bool) (room size : ℕ) → 0 < size → (b || nat_lt room size) ≡ true → (nat_lt 0 size && (b || nat_lt room size)) ≡ true
fails-of b room size h e = rw e (grind (arith, nat_tests))

pub fails-room : (b : Bool) (room size : ℕ) → room < size → (nat_lt 0 size && (b || nat_lt room size)) ≡ true
fails-room true room size h = grind (arith, nat_tests)
fails-room false room size h = grind (arith, nat_tests)

pub fails-not : (b : Bool) (room size : ℕ) → b ≡ false → size ≤ room → (nat_lt 0 size && (b || nat_lt room size)) ≡ false
fails-not b room size e h = rw e (grind (arith, nat_tests))

-- the size, by its parts
abbrev pub sized : List ℕ → ℕ → ℕ → ℕ → ℕ → ℕ
sized failing room writes used size = if holds_number failing writes then 0 else min size (room - used)

pub sized-first : {told : Option Told} (s : Script) (input : List ℕ) (f : Feeding s input 0 told) → put_size f.now (length input - 0) ≡ sized s.failing_writes s.room 0 0 (length input)
sized-first s input f =
    let whole : length input - 0 ≡ length input = omega arith in
    ap (λ (z : Script). sized z.failing_writes z.room f.now.writes (length f.now.written) (length input - 0)) f.script
    ∙ ap (λ w. sized s.failing_writes s.room w (length f.now.written) (length input - 0)) (f.first refl)
    ∙ ap (λ u. sized s.failing_writes s.room 0 u (length input - 0)) (ap length f.written)
    ∙ ap (λ n. sized s.failing_writes s.room 0 0 n) whole

pub sized-later : {told : Option Told} (s : Script) (input : List ℕ) (done : ℕ) (f : Feeding s input done told) → 0 < done → done < length input → put_size f.now (length input - done) ≡ 0
sized-later s input done f some less =
    let full : s.room ≤ length f.now.written = omega (arith, (f.later some).1, ap length f.written, length-take {A = ℕ} done input) in
    size-later (holds_number f.now.script.failing_writes f.now.writes) (length input - done) f.now.script.room (length f.now.written) (rw f.script full)

-- the first write takes what there is room for, and a later one nothing
pub feed-size : {told : Option Told} (s : Script) (input : List ℕ) (done n : ℕ) (f : Feeding s input done told) → done < length input → 0 < put_size f.now (length input - done) → n ≡ put_size f.now (length input - done) → (holds_number s.failing_writes 0 ≡ false) × (done + n ≡ min (length input) s.room)
feed-size s input zero n f less some e =
    let size = sized-first s input f in
    let p = size-first (holds_number s.failing_writes 0) (length input) s.room (rw size at some) in
    (p.0, omega (arith, e, size, p.1))
feed-size s input (suc m) n f less some e = absurd (omega (arith, sized-later s input (suc m) f (omega arith) less))

pub feed-none : {told : Option Told} (s : Script) (input : List ℕ) (done : ℕ) (f : Feeding s input done told) → done < length input → put_size f.now (length input - done) ≡ 0 → input_fails s input ≡ true
feed-none s input zero f less e = fails-of (holds_number s.failing_writes 0) s.room (length input) less (size-none (holds_number s.failing_writes 0) (length input) s.room less (rw (sized-first s input f) at e))
feed-none s input (suc m) f less e = fails-room (holds_number s.failing_writes 0) s.room (length input) (omega (arith, (f.later (omega arith)).1))

pub feed-not : (s : Script) (input : List ℕ) (done : ℕ) → done ≡ length input → (0 < done → (holds_number s.failing_writes 0 ≡ false) × (done ≡ min (length input) s.room)) → input_fails s input ≡ false
feed-not s input zero e later = rw (← e) refl
feed-not s input (suc m) e later = let l = later (omega arith) in fails-not (holds_number s.failing_writes 0) s.room (length input) l.0 (omega (arith, l.1))

-- one write
pub feed-next : (s : Script) (input : List ℕ) (done n : ℕ) (told new : Option Told) → done < length input → Feeding s input done told → PutTold told new (PutBytes n) (drop done input) → Feeding s input (done + n) new
feed-next s input done n told new less f put =
    let t = f.now in
    let a : PutTold (Some t) new (PutBytes n) (drop done input) = rw f.told_now at put in
    let size : length (drop done input) ≡ length input - done = grind (arith, common_steps) in
    let p = put-bytes (put_size t (length (drop done input))) n a.0 in
    let step = feed-size s input done n f less (rw size at p.0) (rw size at p.1) in
    record {
      now = after_put t (drop done input);
      told_now = a.1;
      script = f.script;
      written = ap (λ z. z ++ take (put_size t (length (drop done input))) (drop done input)) f.written ∙ ap (λ m. take done input ++ take m (drop done input)) (sym p.1) ∙ sym (take-add done n input);
      taken = f.taken;
      reads = f.reads;
      first = λ e. absurd (omega (arith, p));
      later = λ _. step;
    }

-- a write that failed
pub feed-failed : (s : Script) (input : List ℕ) (done : ℕ) (told new : Option Told) → done < length input → Feeding s input done told → PutTold told new PutFailed (drop done input) → input_fails s input ≡ true
feed-failed s input done told new less f put =
    let t = f.now in
    let a : PutTold (Some t) new PutFailed (drop done input) = rw f.told_now at put in
    let size : length (drop done input) ≡ length input - done = grind (arith, common_steps) in
    feed-none s input done f less (rw size at (put-failed (put_size t (length (drop done input))) a.0))

-- all of it was written
pub feed-done : (s : Script) (input : List ℕ) (done : ℕ) (told : Option Told) → done ≡ length input → Feeding s input done told → (input_fails s input ≡ false) × FedAs s input told
feed-done s input done told e f = (
  feed-not s input done e f.later,
  record {
    now = f.now;
    told_now = f.told_now;
    script = f.script;
    written = f.written ∙ ap (λ n. take n input) e ∙ take-length input;
    taken = f.taken;
    reads = f.reads;
  },
)

pub feed-fresh : (s : Script) (input : List ℕ) (told : Option Told) → told ≡ Some (fresh s) → Feeding s input 0 told
feed-fresh s input told e = record {
  now = fresh s;
  told_now = e;
  script = refl;
  written = refl;
  taken = refl;
  reads = refl;
  first = λ _. refl;
  later = λ h. absurd (omega arith);
}
