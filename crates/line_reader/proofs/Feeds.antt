-- Lists of bytes and their line feeds.
use Rattle.std.proofs.Common.{◌≡◌, ℕ, ◌+◌, ◌-◌, ◌<◌, ◌≤◌, List, [], ◌∷◌, ◌++◌, length, take, drop, sym, ◌∙◌, ap, subst}
use Rattle.std.proofs.Common.{arith, length-append, length-take, Option, refl}
use Rattle.std.proofs.lemmas.List.{take-append-drop, take-take, drop-take, take-append-le, take_at, drop_at, drop-drop}
use Rattle.std.proofs.Math.Seq.{take-append-add, take-append_seam}
use Rattle.dict_io.specs.Outside.{GotWithin, GotGives}
use Rattle.dict_io.specs.declared.outside.Got.{Got}
use Rattle.dict_io.specs.declared.outside.Got.TheVariants.{Bytes as GotBytes, End as GotEnd, Failed as GotFailed}
use Rattle.dict_value.specs.Split.{Lacks}
use Rattle.dict_value.specs.declared.letters.TheConstants.{LINE_FEED}
use Rattle.line_reader.specs.Reading.{IsLine, ReadsAt}

-- what a line feed cuts off the bytes read ahead
cut_off : (xs : List ℕ) (at n : ℕ) → at < n → drop at (take n xs) ≡ LINE_FEED ∷ drop (at + 1) (take n xs)
    → take n xs ≡ take at xs ++ LINE_FEED ∷ take (n - (at + 1)) (drop (at + 1) xs)
cut_off xs at n h e =
    let same : (at + 1) + (n - (at + 1)) ≡ n = omega arith in
    let rest : drop (at + 1) (take n xs) ≡ take (n - (at + 1)) (drop (at + 1) xs) =
    subst (λ m. drop (at + 1) (take m xs) ≡ take (n - (at + 1)) (drop (at + 1) xs)) same (drop-take (at + 1) (n - (at + 1)) xs) in
    sym (take-append-drop at (take n xs)) ∙ ap (λ z. z ++ drop at (take n xs)) (take-take at n xs (omega arith))
    ∙ ap (λ z. take at xs ++ z) (e ∙ ap (λ z. LINE_FEED ∷ z) rest)

-- the line that stands first in bytes that a line feed cuts
pub first_line : (buf now line rest : List ℕ) (from to : ℕ) → now ≡ buf → from ≤ to → to ≤ 65537
    → take (to - from) (drop from now) ≡ line ++ LINE_FEED ∷ rest → Lacks LINE_FEED line
    → IsLine (take (from + length line - from) (drop from buf))
    × (take (to - from) (drop from buf) ≡ take (from + length line - from) (drop from buf)
    ++ LINE_FEED ∷ take (to - (from + (length line + 1))) (drop (from + (length line + 1)) buf))
first_line buf now line rest from to e order top cut lacks =
    let xs = drop from buf in
    let at = length line in
    let ys : take (to - from) xs ≡ line ++ LINE_FEED ∷ rest =
    subst (λ b. take (to - from) (drop from b) ≡ line ++ LINE_FEED ∷ rest) e cut in
    let size : length (take (to - from) xs) ≡ at + length (LINE_FEED ∷ rest) = ap length ys ∙ length-append line (LINE_FEED ∷ rest) in
    let within : at < to - from = omega (arith, simp length-take at size) in
    let front : take at xs ≡ line =
    sym (take-take at (to - from) xs (omega arith)) ∙ ap (take at) ys ∙ take_at line (LINE_FEED ∷ rest) at refl in
    let back : drop at (take (to - from) xs) ≡ LINE_FEED ∷ rest = ap (drop at) ys ∙ drop_at line (LINE_FEED ∷ rest) at refl in
    let behind : drop (at + 1) (take (to - from) xs) ≡ rest = sym (drop-drop 1 at (take (to - from) xs)) ∙ ap (drop 1) back in
    let count : from + at - from ≡ at = omega arith in
    let cut_line : take (from + at - from) xs ≡ line = ap (λ n. take n xs) count ∙ front in
    let left : to - (from + (at + 1)) ≡ to - from - (at + 1) = omega arith in
    let after : drop (at + 1) xs ≡ drop (from + (at + 1)) buf = drop-drop (at + 1) from buf in (
      subst IsLine (sym cut_line) record { lacks = lacks; short = omega arith },
      cut_off xs at (to - from) within (back ∙ ap (λ z. LINE_FEED ∷ z) (sym behind))
          ∙ ap (λ z. z ++ LINE_FEED ∷ take (to - from - (at + 1)) (drop (at + 1) xs)) (front ∙ sym cut_line)
          ∙ ap (λ z. take (from + at - from) xs ++ LINE_FEED ∷ z)
          (ap (λ n. take n (drop (at + 1) xs)) (sym left) ∙ ap (take (to - (from + (at + 1)))) after),
    )

-- bytes that were read into a buffer from a place on
read_into : (front bytes more : List ℕ) (at n : ℕ) → length front ≡ at → n ≤ length bytes
    → take (at + n) (front ++ (bytes ++ more)) ≡ front ++ take n bytes
read_into front bytes more at n l h =
    subst (λ a. take (a + n) (front ++ (bytes ++ more)) ≡ front ++ take n bytes) l
    (take-append-add front (bytes ++ more) n ∙ ap (λ z. front ++ z) (take-append-le n bytes more h))

-- what a read into a part of a buffer did
pub read_part : (left left' : Option (List ℕ)) (old buf post : List ℕ) (at : ℕ) (got : Got) → at < length old → GotWithin got buf
    → GotGives left left' got buf → ReadsAt left (take at old) at got left' (take at old ++ (buf ++ post))
read_part left left' old buf post at (GotBytes n) h within gives =
    let l : length (take at old) ≡ at = rw length-take (omega arith) in
    let m : length (take n buf) ≡ n = rw length-take (omega (arith, within.1)) in
    (take n buf, omega (arith, m, within.0), m, simp length-append (omega (arith, l, within.1)), gives, read_into (take at old) buf post at n l within.1)
read_part left left' old buf post at GotEnd h within gives =
    let l : length (take at old) ≡ at = rw length-take (omega arith) in
    (gives.0, gives.1, subst (λ n. take n (take at old ++ (buf ++ post)) ≡ take at old) l (take-append_seam (take at old) (buf ++ post)))
read_part left left' old buf post at GotFailed h within gives =
    let l : length (take at old) ≡ at = rw length-take (omega arith) in
    (gives, subst (λ n. take n (take at old ++ (buf ++ post)) ≡ take at old) l (take-append_seam (take at old) (buf ++ post)))
