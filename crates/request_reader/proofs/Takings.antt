-- Which bytes were taken as the lines of a request.
use Rattle.std.proofs.Common.{◌≡◌, ◌≤◌, ◌<◌, ◌+◌, ◌-◌, ◌*◌, ◌==◌, ◌++◌, ◌∙◌, ℕ, zero, suc, List, [], ◌∷◌, length, refl, sym, ap, subst}
use Rattle.std.proofs.Common.{arith, append_assoc, length-append, Option, None, Some, Bool, true, false}
use Rattle.std.specs.Io.KnownBytes.{prepend_known}
use Rattle.std.specs.List.{AllByRecursion}
use Rattle.std.proofs.lemmas.List.{append-nil}
use Rattle.std.proofs.lemmas.Bool.Decides.{nat_tests}
use Rattle.dict_io.proofs.Known.{prepend_known-twice}
use Rattle.dict_value.specs.declared.letters.TheConstants.{LINE_FEED}
use Rattle.line_reader.specs.Reading.{Held, IsLine, IsNext}
use Rattle.line_reader.specs.declared.lines.Next.TheVariants as next_is
use Rattle.request_reader.specs.Taking.{IsHeardAs, IsRequestText, IsUnfinished, Keeps, MoreFor, fed}
use Rattle.request_reader.specs.declared.further.Further.{Further}
use Rattle.request_reader.specs.declared.further.More.TheVariants as more_is
use Rattle.request_reader.specs.declared.reader.Asking.{Asking}
use Rattle.wire_text.specs.RequestTexts.{FirstLine, FirstLines}
use Rattle.wire_text.specs.Requests.{LinesAfter}

pub prepend_none : (o : Option (List ℕ)) → prepend_known [] o ≡ o
prepend_none None = refl
prepend_none (Some xs) = refl

pub known_more : (next left left' : Option (List ℕ)) (a b c d : List ℕ) → next ≡ prepend_known (a ++ b) left
    → prepend_known b left ≡ prepend_known c left' → a ++ c ≡ d → next ≡ prepend_known d left'
known_more next left left' a b c d h k e =
    h ∙ sym (prepend_known-twice left a b) ∙ ap (prepend_known a) k ∙ prepend_known-twice left' a c ∙ ap (λ z. prepend_known z left') e

fed-append : (xs ys : List (List ℕ)) → fed (xs ++ ys) ≡ fed xs ++ fed ys
fed-append [] ys = refl
fed-append (x ∷ xs) ys = ap (λ z. x ++ LINE_FEED ∷ z) (fed-append xs ys) ∙ sym (append_assoc x (LINE_FEED ∷ fed xs) (fed ys))

fed-push : (xs : List (List ℕ)) (line ahead : List ℕ) → fed xs ++ (line ++ LINE_FEED ∷ ahead) ≡ fed (xs ++ line ∷ []) ++ ahead
fed-push xs line ahead =
    let e : (line ++ LINE_FEED ∷ []) ++ ahead ≡ line ++ LINE_FEED ∷ ahead = append_assoc line (LINE_FEED ∷ []) ahead in
    ap (λ z. fed xs ++ z) (sym e) ∙ sym (append_assoc (fed xs) (line ++ LINE_FEED ∷ []) ahead)
    ∙ ap (λ z. z ++ ahead) (sym (fed-append xs (line ∷ [])))

fed-size : (xs : List (List ℕ)) (line : List ℕ) → length (fed (xs ++ line ∷ [])) ≡ length (fed xs) + (length line + 1)
fed-size xs line = ap length (fed-append xs (line ∷ [])) ∙ length-append (fed xs) (line ++ LINE_FEED ∷ []) ∙ ap (λ n. length (fed xs) + n) (length-append line (LINE_FEED ∷ []))

each-append : (xs ys : List (List ℕ)) → AllByRecursion IsLine xs → AllByRecursion IsLine ys → AllByRecursion IsLine (xs ++ ys)
each-append [] ys h k = k
each-append (x ∷ xs) ys h k = (h.0, each-append xs ys h.1 k)

-- whole lines stand before others
pub lines_fed : (closed : Bool) (lines others : List (List ℕ)) (count : ℕ) (tail : List ℕ) → AllByRecursion IsLine lines
    → FirstLines closed count tail others [] → FirstLines closed (length lines + count) (fed lines ++ tail) (lines ++ others) []
lines_fed closed [] others count tail are stand =
    let on : 0 + count ≡ count = omega arith in
    subst (λ n. FirstLines closed n tail others []) (sym on) stand
lines_fed closed (line ∷ lines) others count tail are stand =
    let on : length (line ∷ lines) + count ≡ suc (length lines + count) = omega arith in
    subst (λ n. FirstLines closed n (fed (line ∷ lines) ++ tail) ((line ∷ lines) ++ others) []) (sym on)
    (FirstLines.line (FirstLine.ended are.0.lacks (omega (arith, are.0.short)) (append_assoc line (LINE_FEED ∷ fed lines) tail))
    (lines_fed closed lines others count tail are.1 stand))

-- all the lines that should follow
all_stand : (lines : List (List ℕ)) (count : ℕ) → AllByRecursion IsLine lines → length lines ≡ count
    → FirstLines false count (fed lines) lines []
all_stand lines count are same =
    let on : length lines + 0 ≡ count = omega (arith, same) in
    subst (λ n. FirstLines false n (fed lines) lines []) on
    (subst (λ z. FirstLines false (length lines + 0) z lines []) (append-nil (fed lines))
    (subst (λ z. FirstLines false (length lines + 0) (fed lines ++ []) z []) (append-nil lines)
    (lines_fed false lines [] 0 [] are FirstLines.none)))

-- fewer, at the end of the input
none_stand : (lines : List (List ℕ)) (count : ℕ) → AllByRecursion IsLine lines → length lines < count
    → FirstLines true count (fed lines) lines []
none_stand lines zero are few = absurd (omega arith)
none_stand lines (suc count) are few =
    let rest : ℕ = count - length lines in
    let on : length lines + suc rest ≡ suc count = omega arith in
    subst (λ n. FirstLines true n (fed lines) lines []) on
    (subst (λ z. FirstLines true (length lines + suc rest) z lines []) (append-nil (fed lines))
    (subst (λ z. FirstLines true (length lines + suc rest) (fed lines ++ []) z []) (append-nil lines)
    (lines_fed true lines [] (suc rest) [] are (FirstLines.lacking refl))))

-- the lines behind a last one
after_last : (count : ℕ) → FirstLines true count [] [] []
after_last zero = FirstLines.none
after_last (suc count) = FirstLines.lacking refl

-- and a last one without its line feed
last_stands : (lines : List (List ℕ)) (line : List ℕ) (count : ℕ) → AllByRecursion IsLine lines → IsLine line → (line ≡ [] → ⊥)
    → length lines < count → FirstLines true count (fed lines ++ line) (lines ++ line ∷ []) []
last_stands lines line zero are is some few = absurd (omega arith)
last_stands lines line (suc count) are is some few =
    let rest : ℕ = count - length lines in
    let on : length lines + suc rest ≡ suc count = omega arith in
    subst (λ n. FirstLines true n (fed lines ++ line) (lines ++ line ∷ []) []) on
    (lines_fed true lines (line ∷ []) (suc rest) line are
    (FirstLines.line (FirstLine.last refl is.lacks (omega (arith, is.short)) some refl) (after_last rest)))

-- so many further lines were read
pub record SoFar (next : Option (List ℕ)) (at : ℕ) (further : Further) (ahead : List ℕ) (left : Option (List ℕ)) : Type 0 where
  pub lines : List (List ℕ)
  pub are : AllByRecursion IsLine lines
  pub count : length lines ≡ at
  pub known : next ≡ prepend_known (fed lines ++ ahead) left
  pub keeps : Keeps further lines (length (fed lines))
  pub small : further.bytes ≤ at * 65538

pub so_far_none : (ahead : List ℕ) (left : Option (List ℕ)) (further : Further) → Keeps further [] 0
    → SoFar (prepend_known ahead left) 0 further ahead left
so_far_none ahead left further keeps = record {
  lines = [];
  are = tt;
  count = refl;
  known = refl;
  keeps = keeps;
  small = omega (arith, keeps.bytes);
}

-- what an adding does
abbrev pub Adds : Further → List ℕ → ℕ → Further → Type 0
Adds old line feed new =
    (lines : List (List ℕ)) (size : ℕ) → Keeps old lines size → Keeps new (lines ++ line ∷ []) (size + (length line + feed))

module _ (next left left' : Option (List ℕ)) (at : ℕ) (old : Further) (ahead now : List ℕ) (held : Held) (s : SoFar next at old ahead left) where
  pub so_far_more : (new : Further) → IsNext ahead left next_is.Whole held left' → now ≡ held.line → Adds old now 1 new
      → SoFar next (at + 1) new held.ahead left'
  so_far_more new line same adds =
      let keeps = subst (λ n. Keeps new (s.lines ++ held.line ∷ []) n) (sym (fed-size s.lines held.line))
      (subst (λ z. Keeps new (s.lines ++ z ∷ []) (length (fed s.lines) + (length z + 1))) same (adds s.lines (length (fed s.lines)) s.keeps)) in record {
        lines = s.lines ++ held.line ∷ [];
        are = each-append s.lines (held.line ∷ []) s.are (line.0, tt);
        count = simp length-append (omega (arith, s.count));
        known = known_more next left left' (fed s.lines) ahead (held.line ++ LINE_FEED ∷ held.ahead)
            (fed (s.lines ++ held.line ∷ []) ++ held.ahead) s.known line.1 (fed-push s.lines held.line held.ahead);
        keeps = keeps;
        small = omega (arith, keeps.bytes, s.keeps.bytes, s.small, fed-size s.lines held.line, line.0.short);
      }

  pub more_last : (count : ℕ) (new : Further) → at < count → IsNext ahead left next_is.Last held left' → now ≡ held.line
      → Adds old now 0 new → MoreFor next count (more_is.Closed new (at + 1 == count)) held.ahead left'
  more_last count new below line same adds =
      let lines = s.lines ++ held.line ∷ [] in
      let size : length (fed s.lines ++ held.line) ≡ length (fed s.lines) + (length held.line + 0) =
      length-append (fed s.lines) held.line ∙ ap (λ n. length (fed s.lines) + n) (omega arith) in
      let keeps = subst (λ n. Keeps new lines n) (sym size)
      (subst (λ z. Keeps new (s.lines ++ z ∷ []) (length (fed s.lines) + (length z + 0))) same (adds s.lines (length (fed s.lines)) s.keeps)) in
      let counted : length lines ≡ at + 1 = simp length-append (omega (arith, s.count)) in
      let some : held.line ≡ [] → ⊥ = λ e. let short = ap length e in omega (arith, line.1, short) in (
        lines,
        record {
          behind = fed s.lines ++ held.line;
          known = known_more next left left' (fed s.lines) ahead held.line ((fed s.lines ++ held.line) ++ held.ahead) s.known line.4
              (sym (append-nil (fed s.lines ++ held.line)) ∙ ap (λ z. (fed s.lines ++ held.line) ++ z) (sym line.2));
          stand = last_stands s.lines held.line count s.are line.0 some (omega (arith, s.count));
          keeps = keeps;
        },
        line.2,
        line.3,
        (λ e. grind (arith, nat_tests)),
        (λ e. grind (arith, nat_tests)),
      )

  pub more_end : (count : ℕ) → at < count → IsNext ahead left next_is.End held left'
      → MoreFor next count (more_is.Closed old false) held.ahead left'
  more_end count below end = (
    s.lines,
    record {
      behind = fed s.lines;
      known = known_more next left left' (fed s.lines) ahead [] (fed s.lines ++ held.ahead) s.known (end.2 ∙ sym (prepend_none left'))
          (ap (λ z. fed s.lines ++ z) (sym end.0));
      stand = none_stand s.lines count s.are (omega (arith, s.count));
      keeps = s.keeps;
    },
    end.0,
    end.1,
    (λ e. absurd (cc)),
    (λ e. omega (arith, s.count)),
  )

  pub more_all : (count : ℕ) → at ≡ count → MoreFor next count (more_is.All old) ahead left
  more_all count same = (
    s.lines,
    record { behind = fed s.lines; known = s.known; stand = all_stand s.lines count s.are (s.count ∙ same); keeps = s.keeps },
    s.count ∙ same,
  )

-- ---- whole requests

-- a first line, and what was taken behind it
pub first_known : (next mid left : Option (List ℕ)) (first b c : List ℕ) → next ≡ prepend_known (first ++ LINE_FEED ∷ b) mid
    → prepend_known b mid ≡ prepend_known c left → next ≡ prepend_known (first ++ LINE_FEED ∷ c) left
first_known next mid left first b c h k =
    known_more next mid left (first ++ LINE_FEED ∷ []) b c (first ++ LINE_FEED ∷ c)
    (h ∙ ap (λ z. prepend_known z mid) (sym (append_assoc first (LINE_FEED ∷ []) b))) k (append_assoc first (LINE_FEED ∷ []) c)

-- a request whose first line ended
pub block_text : (closed : Bool) (first behind : List ℕ) (lines : List (List ℕ)) (count : ℕ) (asking : Asking) → IsLine first
    → LinesAfter first count → FirstLines closed count behind lines [] → IsHeardAs first lines count behind asking
    → IsRequestText closed (first ++ LINE_FEED ∷ behind) asking
block_text closed first behind lines count asking line extent stand is = record {
  first = first;
  lines = lines;
  request = record {
    count = count;
    behind = behind;
    head = FirstLine.ended line.lacks (omega (arith, line.short)) refl;
    extent = extent;
    lines = stand;
  };
  is = is;
}

-- a request whose first line is the last one of the input
pub last_text : (first : List ℕ) (count : ℕ) (asking : Asking) → IsLine first → 0 < length first → LinesAfter first count
    → IsHeardAs first [] count [] asking → IsRequestText true first asking
last_text first count asking line some extent is = record {
  first = first;
  lines = [];
  request = record {
    count = count;
    behind = [];
    head = FirstLine.last refl line.lacks (omega (arith, line.short)) (λ e. let short = ap length e in omega (arith, some, short)) refl;
    extent = extent;
    lines = after_last count;
  };
  is = is;
}

-- a block that isn't all there
pub unfinished_block : (P : List ℕ → Type 0) (next left : Option (List ℕ)) (first ahead part : List ℕ) (mid : Option (List ℕ))
    (lines : List (List ℕ)) (count : ℕ) → IsLine first → LinesAfter first count → AllByRecursion IsLine lines → length lines < count
    → P part → prepend_known ahead mid ≡ prepend_known (fed lines ++ part) left
    → (tail : List ℕ) × (prepend_known (first ++ LINE_FEED ∷ ahead) mid ≡ prepend_known tail left) × IsUnfinished P tail
unfinished_block P next left first ahead part mid lines count line extent are few is known = (
  first ++ LINE_FEED ∷ (fed lines ++ part),
  first_known (prepend_known (first ++ LINE_FEED ∷ ahead) mid) mid left first ahead (fed lines ++ part) refl known,
  record {
    lines = first ∷ lines;
    part = part;
    few = ((line, are), (count, extent, few));
    is = is;
    text_is = sym (append_assoc first (LINE_FEED ∷ fed lines) part);
  },
)

-- a first line that isn't all there
pub unfinished_line : (P : List ℕ → Type 0) (next left : Option (List ℕ)) (part : List ℕ) → P part → next ≡ prepend_known part left
    → (tail : List ℕ) × (next ≡ prepend_known tail left) × IsUnfinished P tail
unfinished_line P next left part is known =
    (part, known, record { lines = []; part = part; few = tt; is = is; text_is = refl })
