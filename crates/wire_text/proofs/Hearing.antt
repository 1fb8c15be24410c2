-- An input has one list of requests, and can't have none.
use Rattle.std.proofs.Common.{◌≡◌, ◌⊎◌, ◌≤◌, ◌++◌, ◌∙◌, ℕ, zero, suc, List, [], ◌∷◌, Bool, length}
use Rattle.std.proofs.Common.{refl, sym, ap, subst, inl, inr, arith}
use Rattle.dict_value.proofs.Cuts.{cut-once, lacks-not}
use Rattle.dict_value.specs.Split.{Lacks}
use Rattle.dict_value.specs.declared.letters.TheConstants.{LINE_FEED}
use Rattle.wire_text.proofs.Answering.{request_once}
use Rattle.wire_text.proofs.BlockLines.{block_once}
use Rattle.wire_text.specs.Requests.{IsRequest, LinesAfter}
use Rattle.wire_text.specs.RequestTexts.{FirstLine, FirstLines, FirstRequest, Heard, HeardOf, Hears, IsBlockHead, IsTooLarge}
use Rattle.wire_text.specs.declared.request.Request.{Request}
use Rattle.wire_text.specs.declared.request.Request.TheVariants as request

-- a text that lacks line feeds has no line that ended
not_ended : (text line rest : List ℕ) → Lacks LINE_FEED text → text ≡ line ++ LINE_FEED ∷ rest → ⊥
not_ended text line rest lacks e = lacks-not LINE_FEED line rest (subst (λ (t : List ℕ). Lacks LINE_FEED t) e lacks)

-- one line stands first
line_once : (closed : Bool) (text a b p q : List ℕ) → FirstLine closed text a p → FirstLine closed text b q
    → (a ≡ b) × (p ≡ q)
line_once closed text a b p q (FirstLine.ended x k e) (FirstLine.ended y l f) = cut-once LINE_FEED a p b q x y (sym e ∙ f)
line_once closed text a b p q (FirstLine.ended x k e) (FirstLine.last o y l n f) =
    absurd (not_ended text a p (subst (λ (t : List ℕ). Lacks LINE_FEED t) (sym f) y) e)
line_once closed text a b p q (FirstLine.last o x k n e) (FirstLine.ended y l f) =
    absurd (not_ended text b q (subst (λ (t : List ℕ). Lacks LINE_FEED t) (sym e) x) f)
line_once closed text a b p q (FirstLine.last o x k n e) (FirstLine.last u y l m f) = (sym e ∙ f, refl)

-- no line stands in an empty text
no_line : (closed : Bool) (text line rest : List ℕ) → text ≡ [] → FirstLine closed text line rest → ⊥
no_line closed text [] rest none (FirstLine.ended x k e) = let stands : [] ≡ LINE_FEED ∷ rest = sym none ∙ e in cc
no_line closed text (b ∷ line) rest none (FirstLine.ended x k e) =
    let stands : [] ≡ b ∷ (line ++ LINE_FEED ∷ rest) = sym none ∙ e in cc
no_line closed text line rest none (FirstLine.last o x k n e) = n (sym e ∙ none)

-- so many lines stand first in one way
lines_once : (closed : Bool) (count : ℕ) (text p q : List ℕ) (a b : List (List ℕ)) → FirstLines closed count text a p
    → FirstLines closed count text b q → (a ≡ b) × (p ≡ q)
lines_once closed zero text p q a b FirstLines.none FirstLines.none = (refl, refl)
lines_once closed (suc count) text p q a b (FirstLines.lacking o) (FirstLines.lacking u) = (refl, refl)
lines_once closed (suc count) text p q a b (FirstLines.lacking o) (FirstLines.line {first = first} {behind = behind} y more) =
    absurd (no_line closed [] first behind refl y)
lines_once closed (suc count) text p q a b (FirstLines.line {first = first} {behind = behind} x more) (FirstLines.lacking u) =
    absurd (no_line closed [] first behind refl x)
lines_once closed (suc count) text p q a b
    (FirstLines.line {first = f} {behind = r} {more = l} x m) (FirstLines.line {first = g} {behind = s} {more = k} y n) =
    let head = line_once closed text f g r s x y in
    let tail = lines_once closed count s p q l k (subst (λ (t : List ℕ). FirstLines closed count t l p) head.1 m) n in
    (rw (head.0, tail.0) refl, tail.1)

-- one number of lines follows a line
extent_once : (line : List ℕ) (n m : ℕ) → LinesAfter line n → LinesAfter line m → n ≡ m
extent_once line n m (inl a) (inl b) = block_once line n m a b
extent_once line n m (inl a) (inr b) = absurd (b.0 n a)
extent_once line n m (inr a) (inl b) = absurd (a.0 m b)
extent_once line n m (inr a) (inr b) = a.1 ∙ sym b.1

-- what a request's lines are heard as
heard_once : (first : List ℕ) (more : List (List ℕ)) (count : ℕ) (behind rest : List ℕ) (h k : Heard)
    → HeardOf first more count behind rest h → HeardOf first more count behind rest k → h ≡ k
heard_once first more count behind rest h k (HeardOf.large a b) (HeardOf.large c d) = refl
heard_once first more count behind rest h k (HeardOf.large a b) (HeardOf.large_bad c d) = absurd (d b)
heard_once first more count behind rest h k (HeardOf.large a b) (HeardOf.whole c d e) = absurd (c a)
heard_once first more count behind rest h k (HeardOf.large a b) (HeardOf.unread c d e) = absurd (c a)
heard_once first more count behind rest h k (HeardOf.large a b) (HeardOf.cut c d) = absurd (c a)
heard_once first more count behind rest h k (HeardOf.large_bad a b) (HeardOf.large c d) = absurd (b d)
heard_once first more count behind rest h k (HeardOf.large_bad a b) (HeardOf.large_bad c d) = refl
heard_once first more count behind rest h k (HeardOf.large_bad a b) (HeardOf.whole c d e) = absurd (c a)
heard_once first more count behind rest h k (HeardOf.large_bad a b) (HeardOf.unread c d e) = refl
heard_once first more count behind rest h k (HeardOf.large_bad a b) (HeardOf.cut c d) = refl
heard_once first more count behind rest h k (HeardOf.whole a b c) (HeardOf.large d e) = absurd (a d)
heard_once first more count behind rest h k (HeardOf.whole a b c) (HeardOf.large_bad d e) = absurd (a d)
heard_once first more count behind rest h k (HeardOf.whole {asked = x} a b c) (HeardOf.whole {asked = y} d e f) =
    ap (λ (r : Request). Heard.asks r) (request_once first more x y c f)
heard_once first more count behind rest h k (HeardOf.whole {asked = x} a b c) (HeardOf.unread d e f) = absurd (f x c)
heard_once first more count behind rest h k (HeardOf.whole a b c) (HeardOf.cut d e) = absurd (omega (arith, b, e))
heard_once first more count behind rest h k (HeardOf.unread a b c) (HeardOf.large d e) = absurd (a d)
heard_once first more count behind rest h k (HeardOf.unread a b c) (HeardOf.large_bad d e) = refl
heard_once first more count behind rest h k (HeardOf.unread a b c) (HeardOf.whole {asked = y} d e f) = absurd (c y f)
heard_once first more count behind rest h k (HeardOf.unread a b c) (HeardOf.unread d e f) = refl
heard_once first more count behind rest h k (HeardOf.unread a b c) (HeardOf.cut d e) = refl
heard_once first more count behind rest h k (HeardOf.cut a b) (HeardOf.large d e) = absurd (a d)
heard_once first more count behind rest h k (HeardOf.cut a b) (HeardOf.large_bad d e) = refl
heard_once first more count behind rest h k (HeardOf.cut a b) (HeardOf.whole d e f) = absurd (omega (arith, b, e))
heard_once first more count behind rest h k (HeardOf.cut a b) (HeardOf.unread d e f) = refl
heard_once first more count behind rest h k (HeardOf.cut a b) (HeardOf.cut d e) = refl

-- the parts of a text at its first request: its first line, the lines that follow, how many should, the text of these and
-- of what is behind, and the latter alone
abbrev pub Parts : Type 0
Parts = List ℕ × (List (List ℕ) × (ℕ × (List ℕ × List ℕ)))

abbrev pub parts_of : List ℕ → List (List ℕ) → ℕ → List ℕ → List ℕ → Parts
parts_of first more count behind rest = (first, (more, (count, (behind, rest))))

-- one request stands first
pub parts_once : (closed : Bool) (text f g p q : List ℕ) (a b : List (List ℕ))
    (r : FirstRequest closed text f a p) (s : FirstRequest closed text g b q)
    → parts_of f a r.count r.behind p ≡ parts_of g b s.count s.behind q
parts_once closed text f g p q a b r s =
    let head = line_once closed text f g r.behind s.behind r.head s.head in
    let count = extent_once g r.count s.count (subst (λ (t : List ℕ). LinesAfter t r.count) head.0 r.extent) s.extent in
    let lines = lines_once closed s.count s.behind p q a b
    (subst (λ (n : ℕ). FirstLines closed n s.behind a p) count
    (subst (λ (t : List ℕ). FirstLines closed r.count t a p) head.1 r.lines)) s.lines in
    rw (head.0, head.1, count, lines.0, lines.1) refl

abbrev PartsHeard : Parts → Heard → Type 0
PartsHeard p h = HeardOf p.0 p.1.0 p.1.1.0 p.1.1.1.0 p.1.1.1.1 h

-- what is heard of the request that stands first
pub first_once : (closed : Bool) (text f g p q : List ℕ) (a b : List (List ℕ)) (h k : Heard)
    (r : FirstRequest closed text f a p) (s : FirstRequest closed text g b q)
    → HeardOf f a r.count r.behind p h → HeardOf g b s.count s.behind q k → h ≡ k
first_once closed text f g p q a b h k r s x y =
    heard_once g b s.count s.behind q h k
    (subst (λ (t : Parts). PartsHeard t h) (parts_once closed text f g p q a b r s) x) y

pub hears_once : (closed : Bool) (most : ℕ) (text : List ℕ) (h k : List Heard) → Hears closed most text h
    → Hears closed most text k → h ≡ k
hears_once closed zero text h k Hears.spent Hears.spent = refl
hears_once closed (suc most) text h k (Hears.over none) (Hears.over other) = refl
hears_once closed (suc most) text h k (Hears.over none) (Hears.quits {first = g} {more = b} {rest = q} s y) =
    absurd (none g b q s)
hears_once closed (suc most) text h k (Hears.over none) (Hears.next {first = g} {more = b} {rest = q} s y other later) =
    absurd (none g b q s)
hears_once closed (suc most) text h k (Hears.quits {first = f} {more = a} {rest = p} r x) (Hears.over none) =
    absurd (none f a p r)
hears_once closed (suc most) text h k (Hears.quits r x) (Hears.quits s y) = refl
hears_once closed (suc most) text h k (Hears.quits {first = f} {more = a} {rest = p} r x)
    (Hears.next {first = g} {more = b} {rest = q} {heard = l} s y other later) =
    absurd (other (sym (first_once closed text f g p q a b (Heard.asks request.Quit) l r s x y)))
hears_once closed (suc most) text h k (Hears.next {first = f} {more = a} {rest = p} r x other later) (Hears.over none) =
    absurd (none f a p r)
hears_once closed (suc most) text h k (Hears.next {first = f} {more = a} {rest = p} {heard = l} r x other later)
    (Hears.quits {first = g} {more = b} {rest = q} s y) =
    absurd (other (first_once closed text f g p q a b l (Heard.asks request.Quit) r s x y))
hears_once closed (suc most) text h k
    (Hears.next {first = f} {more = a} {rest = p} {heard = l} {later = v} r x other later)
    (Hears.next {first = g} {more = b} {rest = q} {heard = m} {later = w} s y another after) =
    let heard : l ≡ m = first_once closed text f g p q a b l m r s x y in
    let parts = parts_once closed text f g p q a b r s in
    let rest : p ≡ q = ap (λ (t : Parts). t.1.1.1.1) parts in
    let tail : v ≡ w = hears_once closed most q v w (subst (λ (t : List ℕ). Hears closed most t v) rest later) after in
    rw (heard, tail) refl

-- ---- an input can't have none

-- what holds in either case of anything can't fail to hold
either_way : (P : Type 0) → ((P ⊎ (P → ⊥)) → ⊥) → ⊥
either_way P never = never (inr (λ p. never (inl p)))

-- there are at most as many lines as are wanted
lines_within : (closed : Bool) (count : ℕ) (text rest : List ℕ) (more : List (List ℕ)) → FirstLines closed count text more rest
    → length more ≤ count
lines_within closed zero text rest more FirstLines.none = omega arith
lines_within closed (suc count) text rest more (FirstLines.lacking o) = omega arith
lines_within closed (suc count) text rest more (FirstLines.line {behind = behind} {more = others} x others_first) =
    let within = lines_within closed count behind rest others others_first in omega (arith, within)

-- each request is heard as something
heard_some : (first : List ℕ) (more : List (List ℕ)) (count : ℕ) (behind rest : List ℕ) → length more ≤ count
    → ((h : Heard) → HeardOf first more count behind rest h → ⊥) → ⊥
heard_some first more count behind rest within never =
    either_way (IsTooLarge count behind rest) λ large. elim large [
      | inl l ↦ either_way (IsBlockHead first) λ head. elim head [
        | inl h ↦ never Heard.too_large (HeardOf.large l h)
        | inr n ↦ never Heard.bad (HeardOf.large_bad l n)
      ]
      | inr n ↦ either_way (length more ≡ count) λ whole. elim whole [
        | inl e ↦ either_way ((asked : Request) × IsRequest first more asked) λ request. elim request [
          | inl r ↦ never (Heard.asks r.0) (HeardOf.whole n e r.1)
          | inr none ↦ never Heard.bad (HeardOf.unread n e (λ asked is. none (asked, is)))
        ]
        | inr other ↦ never Heard.bad (HeardOf.cut n (omega (arith, within, other)))
      ]
    ]

-- the lines of a request that stands first
abbrev StandsFirst : Bool → List ℕ → Type 0
StandsFirst closed text =
    (first : List ℕ) × (more : List (List ℕ)) × (rest : List ℕ) × FirstRequest closed text first more rest

pub hears_some : (closed : Bool) (most : ℕ) (text : List ℕ) → ((heard : List Heard) → Hears closed most text heard → ⊥) → ⊥
hears_some closed zero text never = never [] Hears.spent
hears_some closed (suc most) text never = either_way (StandsFirst closed text) λ stands. elim stands [
  | inr none ↦ never [] (Hears.over (λ first more rest r. none (first, more, rest, r)))
  | inl s ↦
      let r = s.3 in
      let within = lines_within closed r.count r.behind s.2 s.1 r.lines in
      heard_some s.0 s.1 r.count r.behind s.2 within λ h is.
      either_way (h ≡ Heard.asks request.Quit) λ quit. elim quit [
        | inl e ↦ never (Heard.asks request.Quit ∷ []) (Hears.quits r (subst (λ (k : Heard). HeardOf s.0 s.1 r.count r.behind s.2 k) e is))
        | inr other ↦ hears_some closed most s.2 λ later l. never (h ∷ later) (Hears.next r is other l)
      ]
]
