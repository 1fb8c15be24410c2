-- The requests that a session heard are those of its input.
use Rattle.std.proofs.Common.{◌≡◌, ◌≢◌, ◌<◌, ◌≤◌, ◌+◌, ◌⊎◌, ◌++◌, ◌∙◌, ℕ, zero, suc, List, [], ◌∷◌, Bool, true, false, Option, Some, None, length, map}
use Rattle.std.proofs.Common.{append_assoc, append-nil, length-append, arith, refl, sym, ap, subst, inl, inr}
use Rattle.std.specs.List.{AllByRecursion}
use Rattle.std.specs.Io.KnownBytes.{prepend_known}
use Rattle.std.proofs.lemmas.Option.{none-some, same_Some}
use Rattle.dict_value.proofs.Cuts.{cut-once, lacks-not}
use Rattle.dict_value.specs.Split.{Lacks}
use Rattle.dict_value.specs.declared.letters.TheConstants.{LINE_FEED}
use Rattle.line_reader.specs.Reading.{IsLine, IsLong, NothingLeft}
use Rattle.request_reader.specs.Taking.{AreTooFew, IsHeardAs, IsRequestText, IsUnfinished, fed}
use Rattle.request_reader.specs.declared.reader.Asking.{Asking}
use Rattle.request_reader.specs.declared.reader.Asking.TheVariants as asking
use Rattle.wire_text.proofs.BlockLines.{block_once}
use Rattle.wire_text.proofs.Hearing.{first_once, parts_of, parts_once}
use Rattle.wire_text.specs.Requests.{LinesAfter}
use Rattle.wire_text.specs.RequestTexts.{FirstLine, FirstLines, FirstRequest, Heard, HeardOf, IsTooLarge}
use Rattle.wire_text.specs.declared.request.Request.{Request}
use Rattle.wire_text.specs.declared.request.Request.TheVariants as request
use Rattle.dict_session.specs.Found.{IsByInput, heards}
use Rattle.dict_session.specs.Session.{AreRequests, Exchange, IsEnd, LastQuits, NoneQuits, asks_to_quit, bytes, heard_in}
use Rattle.dict_session.specs.declared.session.SessionEnd.{SessionEnd}
use Rattle.dict_session.specs.declared.session.SessionEnd.TheVariants as end

-- ---- what stands first still does with more behind it

line_more : (text line behind z : List ℕ) → FirstLine false text line behind → FirstLine true (text ++ z) line (behind ++ z)
line_more text line behind z (FirstLine.ended x k e) =
    FirstLine.ended x k (ap (λ (t : List ℕ). t ++ z) e ∙ append_assoc line (LINE_FEED ∷ behind) z)
line_more text line behind z (FirstLine.last o x k n e) = absurd (cc o)

lines_more : (count : ℕ) (text rest z : List ℕ) (more : List (List ℕ)) → FirstLines false count text more rest → FirstLines true count (text ++ z) more (rest ++ z)
lines_more zero text rest z more FirstLines.none = FirstLines.none
lines_more (suc count) text rest z more (FirstLines.lacking o) = absurd (cc o)
lines_more (suc count) text rest z more (FirstLines.line {first = first} {behind = behind} {more = others} x m) =
    FirstLines.line (line_more text first behind z x) (lines_more count behind rest z others m)

large_to : (count : ℕ) (behind z : List ℕ) → IsTooLarge count behind [] → IsTooLarge count (behind ++ z) z
large_to count behind z (inl a) = inl a
large_to count behind z (inr a) = inr (omega (arith, a, length-append behind z))

large_from : (count : ℕ) (behind z : List ℕ) → IsTooLarge count (behind ++ z) z → IsTooLarge count behind []
large_from count behind z (inl a) = inl a
large_from count behind z (inr a) = inr (omega (arith, a, length-append behind z))

heard_more : (first : List ℕ) (more : List (List ℕ)) (count : ℕ) (behind z : List ℕ) (h : Heard) → HeardOf first more count behind [] h → HeardOf first more count (behind ++ z) z h
heard_more first more count behind z h (HeardOf.large a b) = HeardOf.large (large_to count behind z a) b
heard_more first more count behind z h (HeardOf.large_bad a b) = HeardOf.large_bad (large_to count behind z a) b
heard_more first more count behind z h (HeardOf.whole a b c) = HeardOf.whole (λ l. a (large_from count behind z l)) b c
heard_more first more count behind z h (HeardOf.unread a b c) = HeardOf.unread (λ l. a (large_from count behind z l)) b c
heard_more first more count behind z h (HeardOf.cut a b) = HeardOf.cut (λ l. a (large_from count behind z l)) b

heard_as : (first : List ℕ) (more : List (List ℕ)) (count : ℕ) (behind : List ℕ) (a : Asking) (h : Heard) → heard_in a ≡ Some h → IsHeardAs first more count behind a → HeardOf first more count behind [] h
heard_as first more count behind (asking.Asks asked) h e is = subst (HeardOf first more count behind []) (same_Some (Heard.asks asked) h e) is
heard_as first more count behind asking.Bad h e is = subst (HeardOf first more count behind []) (same_Some Heard.bad h e) is
heard_as first more count behind asking.TooLarge h e is = subst (HeardOf first more count behind []) (same_Some Heard.too_large h e) is
heard_as first more count behind (asking.NoMemory lost) h e is = absurd (none-some h e)

-- ---- a list of requests that stands in a text

-- a request stands in front of a rest
pub record Stands (x : Exchange) (z : List ℕ) : Type 0 where
  pub heard : Heard
  pub is : heard_in x.asking ≡ Some heard
  pub first : List ℕ
  pub more : List (List ℕ)
  pub request : FirstRequest true (x.text ++ z) first more z
  pub of : HeardOf first more request.count request.behind z heard

abbrev pub NoRequest : List ℕ → Type 0
NoRequest z = (first : List ℕ) (more : List (List ℕ)) (rest : List ℕ) → FirstRequest true z first more rest → ⊥

-- requests stand before a rest; none behind them does, or the last one ends the session
pub data Stood : List Exchange → List ℕ → Type 0 where
  over : {z : List ℕ} → NoRequest z → Stood [] z
  quits : {x : Exchange} {z : List ℕ} → Stands x z → asks_to_quit x.asking ≡ true → Stood (x ∷ []) z
  next : {x : Exchange} {xs : List Exchange} {z : List ℕ} → Stands x (bytes xs ++ z) → asks_to_quit x.asking ≡ false → Stood xs z
      → Stood (x ∷ xs) z

stands_open : (x : Exchange) (z : List ℕ) (h : Heard) → heard_in x.asking ≡ Some h → IsRequestText false x.text x.asking → Stands x z
stands_open x z h e t = record {
  heard = h;
  is = e;
  first = t.first;
  more = t.lines;
  request = record {
    count = t.request.count;
    behind = t.request.behind ++ z;
    head = line_more x.text t.first t.request.behind z t.request.head;
    extent = t.request.extent;
    lines = lines_more t.request.count t.request.behind [] z t.lines t.request.lines;
  };
  of = heard_more t.first t.lines t.request.count t.request.behind z h
      (heard_as t.first t.lines t.request.count t.request.behind x.asking h e t.is);
}

stands_last : (x : Exchange) (z : List ℕ) (h : Heard) → heard_in x.asking ≡ Some h → IsRequestText true x.text x.asking → z ≡ [] → Stands x z
stands_last x z h e t none =
    let whole : x.text ++ z ≡ x.text = ap (λ (r : List ℕ). x.text ++ r) none ∙ append-nil x.text in
    let back : [] ≡ z = sym none in
    record {
      heard = h;
      is = e;
      first = t.first;
      more = t.lines;
      request = record {
        count = t.request.count;
        behind = t.request.behind;
        head = subst (λ (r : List ℕ). FirstLine true r t.first t.request.behind) (sym whole) t.request.head;
        extent = t.request.extent;
        lines = subst (λ (r : List ℕ). FirstLines true t.request.count t.request.behind t.lines r) back t.request.lines;
      };
      of = subst (λ (r : List ℕ). HeardOf t.first t.lines t.request.count t.request.behind r h) back
          (heard_as t.first t.lines t.request.count t.request.behind x.asking h e t.is);
    }

-- something was heard of a request
abbrev pub HasHeard : Exchange → Type 0
HasHeard x = (h : Heard) × (heard_in x.asking ≡ Some h)

rest_with : (z : List ℕ) → z ≡ [] → (bytes [] ++ z) ≡ []
rest_with z e = e

module _ (closed : Type 0) (z : List ℕ) (ends : closed → z ≡ []) where
  stood_stay : (xs : List Exchange) → AreRequests closed xs → AllByRecursion HasHeard xs → NoneQuits xs → NoRequest z → Stood xs z
  stood_stay [] are heard stay none = Stood.over none
  stood_stay (x ∷ xs) (inl a) heard stay none =
      Stood.next (stands_open x (bytes xs ++ z) heard.0.0 heard.0.1 a.0) stay.0 (stood_stay xs a.1 heard.1 stay.1 none)
  stood_stay (x ∷ []) (inr a) heard stay none =
      Stood.next (stands_last x z heard.0.0 heard.0.1 a.0 (ends a.2)) stay.0 (Stood.over none)
  stood_stay (x ∷ y ∷ xs) (inr a) heard stay none = absurd (let e = a.1 in cc)

  stood_quit : (before : List Exchange) (last : Exchange) → AreRequests closed (before ++ last ∷ []) → AllByRecursion HasHeard (before ++ last ∷ []) → NoneQuits before → asks_to_quit last.asking ≡ true → Stood (before ++ last ∷ []) z
  stood_quit [] last (inl a) heard stay quit = Stood.quits (stands_open last z heard.0.0 heard.0.1 a.0) quit
  stood_quit [] last (inr a) heard stay quit = Stood.quits (stands_last last z heard.0.0 heard.0.1 a.0 (ends a.2)) quit
  stood_quit (x ∷ before) last (inl a) heard stay quit =
      Stood.next (stands_open x (bytes (before ++ last ∷ []) ++ z) heard.0.0 heard.0.1 a.0) stay.0 (stood_quit before last a.1 heard.1 stay.1 quit)
  stood_quit (x ∷ []) last (inr a) heard stay quit = absurd (let e = a.1 in cc)
  stood_quit (x ∷ y ∷ before) last (inr a) heard stay quit = absurd (let e = a.1 in cc)

-- ---- one text has one such list

-- whether what was heard ends a session
is_quit : Heard → Bool
is_quit (Heard.asks request.Quit) = true
is_quit _ = false

quit_is : (a : Asking) (h : Heard) → heard_in a ≡ Some h → asks_to_quit a ≡ is_quit h
unfolding is_quit
quit_is (asking.Asks asked) h e = asked_is asked ∙ ap is_quit (same_Some (Heard.asks asked) h e) where
  asked_is : (r : Request) → asks_to_quit (asking.Asks r) ≡ is_quit (Heard.asks r)
  asked_is (request.Asked q) = refl
  asked_is (request.Reload name) = refl
  asked_is (request.Status name) = refl
  asked_is (request.After name n) = refl
  asked_is (request.Show name) = refl
  asked_is request.Config = refl
  asked_is request.Quit = refl
quit_is asking.Bad h e = ap is_quit (same_Some Heard.bad h e)
quit_is asking.TooLarge h e = ap is_quit (same_Some Heard.too_large h e)
quit_is (asking.NoMemory lost) h e = absurd (none-some h e)

same_stands : (x y : Exchange) (z w : List ℕ) (a : Stands x z) (b : Stands y w) → x.text ++ z ≡ y.text ++ w → (heard_in x.asking ≡ heard_in y.asking) × (z ≡ w) × (asks_to_quit x.asking ≡ asks_to_quit y.asking)
same_stands x y z w a b e =
    let r : FirstRequest true (y.text ++ w) a.first a.more z = record {
      count = a.request.count;
      behind = a.request.behind;
      head = subst (λ (t : List ℕ). FirstLine true t a.first a.request.behind) e a.request.head;
      extent = a.request.extent;
      lines = a.request.lines;
    } in
    let heard : a.heard ≡ b.heard = first_once true (y.text ++ w) a.first b.first z w a.more b.more a.heard b.heard r b.request a.of b.of in
    let parts = parts_once true (y.text ++ w) a.first b.first z w a.more b.more r b.request in (
      a.is ∙ ap Some heard ∙ sym b.is,
      ap (λ p. p.1.1.1.1) parts,
      quit_is x.asking a.heard a.is ∙ ap is_quit heard ∙ sym (quit_is y.asking b.heard b.is),
    )

-- the bytes of a list behind its first request
bytes_cons : (x : Exchange) (xs : List Exchange) (z : List ℕ) → bytes (x ∷ xs) ++ z ≡ x.text ++ (bytes xs ++ z)
bytes_cons x xs z = append_assoc x.text (bytes xs) z

no_stands : (x : Exchange) (z w : List ℕ) → Stands x w → NoRequest z → z ≡ x.text ++ w → ⊥
no_stands x z w a none e = none a.first a.more w record {
  count = a.request.count;
  behind = a.request.behind;
  head = subst (λ (t : List ℕ). FirstLine true t a.first a.request.behind) (sym e) a.request.head;
  extent = a.request.extent;
  lines = a.request.lines;
}

heads_of : (x y : Exchange) (xs ys : List Exchange) → heard_in x.asking ≡ heard_in y.asking → heards xs ≡ heards ys → heards (x ∷ xs) ≡ heards (y ∷ ys)
heads_of x y xs ys e f = λ i. e i ∷ f i

pub requests_once : (xs ys : List Exchange) (z w : List ℕ) → Stood xs z → Stood ys w → bytes xs ++ z ≡ bytes ys ++ w → (heards xs ≡ heards ys) × (z ≡ w)
requests_once [] [] z w (Stood.over a) (Stood.over b) e = (refl, e)
requests_once [] (y ∷ []) z w (Stood.over a) (Stood.quits b q) e = absurd (no_stands y z w b a (e ∙ bytes_cons y [] w))
requests_once [] (y ∷ ys) z w (Stood.over a) (Stood.next b q more) e = absurd (no_stands y z (bytes ys ++ w) b a (e ∙ bytes_cons y ys w))
requests_once (x ∷ []) [] z w (Stood.quits a p) (Stood.over b) e = absurd (no_stands x w z a b (sym e ∙ bytes_cons x [] z))
requests_once (x ∷ xs) [] z w (Stood.next a p more) (Stood.over b) e = absurd (no_stands x w (bytes xs ++ z) a b (sym e ∙ bytes_cons x xs z))
requests_once (x ∷ []) (y ∷ []) z w (Stood.quits a p) (Stood.quits b q) e =
    let same = same_stands x y z w a b (sym (bytes_cons x [] z) ∙ e ∙ bytes_cons y [] w) in
    (heads_of x y [] [] same.0 refl, same.1)
requests_once (x ∷ []) (y ∷ ys) z w (Stood.quits a p) (Stood.next b q more) e =
    let same = same_stands x y z (bytes ys ++ w) a b (sym (bytes_cons x [] z) ∙ e ∙ bytes_cons y ys w) in
    absurd (cc (sym p ∙ same.2 ∙ q))
requests_once (x ∷ xs) (y ∷ []) z w (Stood.next a p more) (Stood.quits b q) e =
    let same = same_stands x y (bytes xs ++ z) w a b (sym (bytes_cons x xs z) ∙ e ∙ bytes_cons y [] w) in
    absurd (cc (sym p ∙ same.2 ∙ q))
requests_once (x ∷ xs) (y ∷ ys) z w (Stood.next a p more) (Stood.next b q others) e =
    let same = same_stands x y (bytes xs ++ z) (bytes ys ++ w) a b (sym (bytes_cons x xs z) ∙ e ∙ bytes_cons y ys w) in
    let rest = requests_once xs ys z w more others same.1 in
    (heads_of x y xs ys same.0 rest.0, rest.1)

-- ---- where no request stands

no_line : (z line rest : List ℕ) → z ≡ [] → FirstLine true z line rest → ⊥
no_line z [] rest none (FirstLine.ended x k e) = let stands : [] ≡ LINE_FEED ∷ rest = sym none ∙ e in cc
no_line z (b ∷ line) rest none (FirstLine.ended x k e) = let stands : [] ≡ b ∷ (line ++ LINE_FEED ∷ rest) = sym none ∙ e in cc
no_line z line rest none (FirstLine.last o x k n e) = n (sym e ∙ none)

none_empty : (z : List ℕ) → z ≡ [] → NoRequest z
none_empty z e first more rest r = no_line z first r.behind e r.head

-- a line that ends within bytes that lack line feeds
lacks_within : (part z line rest : List ℕ) → Lacks LINE_FEED part → length line < length part → part ++ z ≡ line ++ LINE_FEED ∷ rest → ⊥
lacks_within [] z line rest lacks low e = omega (arith, low)
lacks_within (b ∷ part) z [] rest lacks low e = let same : b ≡ LINE_FEED = cc in lacks.0 same
lacks_within (b ∷ part) z (c ∷ line) rest lacks low e =
    let tail : part ++ z ≡ line ++ LINE_FEED ∷ rest = cc in lacks_within part z line rest lacks.1 (omega (arith, low)) tail

long_none : (text part z line rest : List ℕ) → IsLong part → text ≡ part ++ z → FirstLine true text line rest → ⊥
long_none text part z line rest long t (FirstLine.ended x k e) =
    lacks_within part z line rest long.lacks (omega (arith, k, long.long)) (sym t ∙ e)
long_none text part z line rest long t (FirstLine.last o x k n e) =
    let size = ap length (sym t ∙ e) in omega (arith, size, k, long.long, length-append part z)

-- the line that ends first
first_ends : (text l rest line behind : List ℕ) → IsLine l → text ≡ l ++ LINE_FEED ∷ rest → FirstLine true text line behind → (l ≡ line) × (rest ≡ behind)
first_ends text l rest line behind is t (FirstLine.ended x k e) = cut-once LINE_FEED l rest line behind is.lacks x (sym t ∙ e)
first_ends text l rest line behind is t (FirstLine.last o x k n e) =
    absurd (lacks-not LINE_FEED l rest (subst (λ (s : List ℕ). Lacks LINE_FEED s) (sym e ∙ t) x))

starts_not : (l rest : List ℕ) → [] ≡ l ++ LINE_FEED ∷ rest → ⊥
starts_not [] rest e = cc
starts_not (b ∷ l) rest e = cc

fed_cons : (l : List ℕ) (ls : List (List ℕ)) (w : List ℕ) → fed (l ∷ ls) ++ w ≡ l ++ LINE_FEED ∷ (fed ls ++ w)
fed_cons l ls w = append_assoc l (LINE_FEED ∷ fed ls) w

lines_none : (lines : List (List ℕ)) (count : ℕ) (text part z rest : List ℕ) (more : List (List ℕ)) → AllByRecursion IsLine lines → length lines < count → IsLong part → text ≡ fed lines ++ (part ++ z) → FirstLines true count text more rest → ⊥
lines_none lines zero text part z rest more are few long t FirstLines.none = omega (arith, few)
lines_none [] (suc count) text part z rest more are few long t (FirstLines.lacking o) =
    let size = ap length t in omega (arith, size, long.long, length-append part z)
lines_none [] (suc count) text part z rest more are few long t (FirstLines.line {first = first} {behind = behind} x m) =
    long_none text part z first behind long t x
lines_none (l ∷ ls) (suc count) text part z rest more are few long t (FirstLines.lacking o) =
    starts_not l (fed ls ++ (part ++ z)) (t ∙ fed_cons l ls (part ++ z))
lines_none (l ∷ ls) (suc count) text part z rest more are few long t (FirstLines.line {first = first} {behind = behind} {more = others} x m) =
    let head = first_ends text l (fed ls ++ (part ++ z)) first behind are.0 (t ∙ fed_cons l ls (part ++ z)) x in
    lines_none ls count behind part z rest others are.1 (omega (arith, few)) long (sym head.1) m

extent_once : (line : List ℕ) (n m : ℕ) → LinesAfter line n → LinesAfter line m → n ≡ m
extent_once line n m (inl a) (inl b) = block_once line n m a b
extent_once line n m (inl a) (inr b) = absurd (b.0 n a)
extent_once line n m (inr a) (inl b) = absurd (a.0 m b)
extent_once line n m (inr a) (inr b) = a.1 ∙ sym b.1

few_none : (lines : List (List ℕ)) (text part z : List ℕ) → AreTooFew lines → IsLong part → text ≡ fed lines ++ (part ++ z) → NoRequest text
few_none [] text part z few long t first more rest r = long_none text part z first r.behind long t r.head
few_none (l ∷ ls) text part z few long t first more rest r =
    let head = first_ends text l (fed ls ++ (part ++ z)) first r.behind few.0.0 (t ∙ fed_cons l ls (part ++ z)) r.head in
    let count : few.1.0 ≡ r.count = extent_once first few.1.0 r.count (subst (λ (k : List ℕ). LinesAfter k few.1.0) head.0 few.1.1) r.extent in
    lines_none ls r.count r.behind part z rest more few.0.1 (let low = few.1.2 in omega (arith, low, count)) long (sym head.1) r.lines

none_unfinished : (tail z : List ℕ) → IsUnfinished IsLong tail → NoRequest (tail ++ z)
none_unfinished tail z u =
    few_none u.lines (tail ++ z) u.part z u.few u.is (ap (λ (t : List ℕ). t ++ z) u.text_is ∙ append_assoc (fed u.lines) u.part z)

-- ---- how it ends

rest_nothing : (left : Option (List ℕ)) (tail l : List ℕ) → left ≡ Some l → tail ≡ [] → NothingLeft left → tail ++ l ≡ []
rest_nothing left tail l e none nothing = ap (λ (t : List ℕ). t ++ l) none ∙ subst NothingLeft e nothing

pub stood_of : (ended : SessionEnd) (xs : List Exchange) (out closing tail l : List ℕ) (left : Option (List ℕ)) → IsByInput ended → left ≡ Some l → AreRequests ((tail ≡ []) × NothingLeft left) xs → AllByRecursion HasHeard xs → IsEnd ended xs out closing tail left → Stood xs (tail ++ l)
stood_of end.Quit xs out closing tail l left by e are heard is =
    let last = is.2 in
    subst (λ (ys : List Exchange). Stood ys (tail ++ l)) (sym last.2)
    (stood_quit ((tail ≡ []) × NothingLeft left) (tail ++ l) (λ c. rest_nothing left tail l e c.0 c.1) last.0 last.1
    (subst (AreRequests ((tail ≡ []) × NothingLeft left)) last.2 are) (subst (AllByRecursion HasHeard) last.2 heard) last.3 last.4)
stood_of end.Ended xs out closing tail l left by e are heard is =
    stood_stay ((tail ≡ []) × NothingLeft left) (tail ++ l) (λ c. rest_nothing left tail l e c.0 c.1) xs are heard is.2
    (none_empty (tail ++ l) (rest_nothing left tail l e is.3 is.4))
stood_of end.LineTooLong xs out closing tail l left by e are heard is =
    stood_stay ((tail ≡ []) × NothingLeft left) (tail ++ l) (λ c. rest_nothing left tail l e c.0 c.1) xs are heard is.2
    (none_unfinished tail l is.3)
stood_of end.ReadFault xs out closing tail l left by e are heard is = absurd by
stood_of end.WriteFault xs out closing tail l left by e are heard is = absurd by
stood_of end.Spent xs out closing tail l left by e are heard is = absurd by
stood_of end.NoMemory xs out closing tail l left by e are heard is = absurd by

-- a list that stays has the same heards as none that quits
stays_as : (xs ys : List Exchange) → AllByRecursion HasHeard xs → heards xs ≡ heards ys → NoneQuits ys → NoneQuits xs
stays_as [] ys heard e stay = tt
stays_as (x ∷ xs) [] heard e stay = cc
stays_as (x ∷ xs) (y ∷ ys) heard e stay =
    let head : heard_in x.asking ≡ heard_in y.asking = cc in
    let tail : heards xs ≡ heards ys = cc in
    let h : Heard = heard.0.0 in
    (quit_is x.asking h heard.0.1 ∙ sym (quit_is y.asking h (sym head ∙ heard.0.1)) ∙ stay.0, stays_as xs ys heard.1 tail stay.1)

last_quits : (before : List Exchange) (last : Exchange) → NoneQuits (before ++ last ∷ []) → asks_to_quit last.asking ≡ true → ⊥
last_quits [] last stay quit = cc (sym quit ∙ stay.0)
last_quits (x ∷ before) last stay quit = last_quits before last stay.1 quit

quits_not : (xs ys : List Exchange) → AllByRecursion HasHeard xs → heards xs ≡ heards ys → LastQuits xs → NoneQuits ys → ⊥
quits_not xs ys heard e last stay =
    last_quits last.0 last.1 (subst NoneQuits last.2 (stays_as xs ys heard e stay)) last.4

-- bytes without a line feed that are too long are some
unfinished_some : (tail l : List ℕ) → IsUnfinished IsLong tail → tail ++ l ≡ [] → ⊥
unfinished_some tail l u e =
    let size = ap length (ap (λ (t : List ℕ). t ++ l) (sym u.text_is) ∙ e) in
    omega (arith, size, u.is.long, length-append (fed u.lines ++ u.part) l, length-append (fed u.lines) u.part)

pub ends_once : (ended other : SessionEnd) (xs ys : List Exchange) (out closing tail l put closed back k : List ℕ) (left still : Option (List ℕ)) → IsByInput ended → IsByInput other → left ≡ Some l → still ≡ Some k → AllByRecursion HasHeard xs → AllByRecursion HasHeard ys
    → heards xs ≡ heards ys → tail ++ l ≡ back ++ k → IsEnd ended xs out closing tail left → IsEnd other ys put closed back still → ended ≡ other
ends_once end.Quit end.Quit xs ys out closing tail l put closed back k left still by also e f heard heards_ same rest is was = refl
ends_once end.Ended end.Ended xs ys out closing tail l put closed back k left still by also e f heard heards_ same rest is was = refl
ends_once end.LineTooLong end.LineTooLong xs ys out closing tail l put closed back k left still by also e f heard heards_ same rest is was = refl
ends_once end.Quit end.Ended xs ys out closing tail l put closed back k left still by also e f heard heards_ same rest is was = absurd (quits_not xs ys heard same is.2 was.2)
ends_once end.Quit end.LineTooLong xs ys out closing tail l put closed back k left still by also e f heard heards_ same rest is was = absurd (quits_not xs ys heard same is.2 was.2)
ends_once end.Ended end.Quit xs ys out closing tail l put closed back k left still by also e f heard heards_ same rest is was = absurd (quits_not ys xs heards_ (sym same) was.2 is.2)
ends_once end.LineTooLong end.Quit xs ys out closing tail l put closed back k left still by also e f heard heards_ same rest is was = absurd (quits_not ys xs heards_ (sym same) was.2 is.2)
ends_once end.Ended end.LineTooLong xs ys out closing tail l put closed back k left still by also e f heard heards_ same rest is was =
    absurd (unfinished_some back k was.3 (sym rest ∙ rest_nothing left tail l e is.3 is.4))
ends_once end.LineTooLong end.Ended xs ys out closing tail l put closed back k left still by also e f heard heards_ same rest is was =
    absurd (unfinished_some tail l is.3 (rest ∙ rest_nothing still back k f was.3 was.4))
ends_once ended end.ReadFault xs ys out closing tail l put closed back k left still by also e f heard heards_ same rest is was = absurd also
ends_once ended end.WriteFault xs ys out closing tail l put closed back k left still by also e f heard heards_ same rest is was = absurd also
ends_once ended end.Spent xs ys out closing tail l put closed back k left still by also e f heard heards_ same rest is was = absurd also
ends_once ended end.NoMemory xs ys out closing tail l put closed back k left still by also e f heard heards_ same rest is was = absurd also
ends_once ended other xs ys out closing tail l put closed back k left still by also e f heard heards_ same rest is was = absurd by
