-- What is heard of lines whose reading is known.
use Rattle.std.proofs.Common.{◌≡◌, ◌≤◌, ◌<◌, ◌++◌, ◌∙◌, ℕ, List, [], ◌∷◌, Bool, true, false, length, refl, sym, ap, subst, arith, inl, inr}
use Rattle.std.proofs.Common.{append_assoc, append-nil, Option}
use Rattle.std.specs.Io.KnownBytes.{prepend_known}
use Rattle.std.specs.Prelude.{MatchBool}
use Rattle.dict_value.specs.declared.letters.TheConstants.{LINE_FEED}
use Rattle.line_reader.specs.Reading.{IsLine, IsLong, NothingLeft}
use Rattle.request_reader.specs.Taking.{BlockReads, IsHeardAs, MoreFor, TakesFor}
use Rattle.request_reader.specs.declared.further.Further.{Further}
use Rattle.request_reader.specs.declared.further.More.TheVariants as more_is
use Rattle.request_reader.specs.declared.reader.Asking.{Asking}
use Rattle.request_reader.specs.declared.reader.Asking.TheVariants as asking_is
use Rattle.request_reader.specs.declared.reader.Taken.TheVariants as taken
use Rattle.request_reader.proofs.Takings.{block_text, first_known, last_text, unfinished_block}
use Rattle.wire_text.proofs.Quits.{quit_alone}
use Rattle.wire_text.specs.RequestTexts.{FirstLines, Heard, HeardOf, IsTooLarge}
use Rattle.wire_text.specs.Requests.{IsRequest, LinesAfter}
use Rattle.wire_text.specs.declared.request.Request.{Request}
use Rattle.wire_text.specs.declared.request.Request.TheVariants as request

-- what asks for something is a request with all its lines
heard_whole : {first : List ℕ} {lines : List (List ℕ)} {count : ℕ} {behind rest : List ℕ} {h : Heard}
    → HeardOf first lines count behind rest h → (r : Request) → h ≡ Heard.asks r → (length lines ≡ count) × IsRequest first lines r
heard_whole (HeardOf.large a b) r e = let other : Heard.too_large ≡ Heard.asks r = e in absurd (cc)
heard_whole (HeardOf.large_bad a b) r e = let other : Heard.bad ≡ Heard.asks r = e in absurd (cc)
heard_whole (HeardOf.unread a b c) r e = let other : Heard.bad ≡ Heard.asks r = e in absurd (cc)
heard_whole (HeardOf.cut a b) r e = let other : Heard.bad ≡ Heard.asks r = e in absurd (cc)
heard_whole {first} {lines} (HeardOf.whole {asked = asked} a b c) r e =
    let same : asked ≡ r = cc in (b, subst (λ (z : Request). IsRequest first lines z) same c)

-- no block ends the session
pub block_goes_on : (first : List ℕ) (lines : List (List ℕ)) (count : ℕ) (behind : List ℕ) → 0 < count
    → ¬ (HeardOf first lines count behind [] (Heard.asks request.Quit))
block_goes_on first lines count behind some = λ h.
    let w = heard_whole h request.Quit refl in
    let none = ap length (quit_alone first lines w.1) in omega (arith, some, w.0, none)

none_large : ¬ (IsTooLarge 0 [] [])
none_large = λ h. elim h [ inl a ↦ omega (arith, a) | inr b ↦ omega (arith, b) ]

pub single_asks : (line : List ℕ) (r : Request) → IsRequest line [] r → HeardOf line [] 0 [] [] (Heard.asks r)
single_asks line r is = HeardOf.whole none_large refl is

pub single_bad : (line : List ℕ) → ((r : Request) → ¬ (IsRequest line [] r)) → HeardOf line [] 0 [] [] Heard.bad
single_bad line none = HeardOf.unread none_large refl none

pub single_lost : (line : List ℕ) (quits : Bool) → MatchBool quits (IsRequest line [] request.Quit) (¬ (IsRequest line [] request.Quit))
    → IsHeardAs line [] 0 [] (asking_is.NoMemory quits)
single_lost line true is = single_asks line request.Quit is
single_lost line false none = λ h. none (heard_whole h request.Quit refl).1

-- few lines with few bytes are not too large
pub small_block : (count bytes : ℕ) (behind : List ℕ) → count ≤ 4096 → bytes ≤ 1048576 → bytes ≡ length behind → ¬ (IsTooLarge count behind [])
small_block count bytes behind a b e = λ h. elim h [ inl c ↦ omega (arith, a, c) | inr d ↦ omega (arith, b, e, d) ]

-- ---- what was taken

pub taken_single : (next left : Option (List ℕ)) (line ahead : List ℕ) (asking : Asking) → IsLine line → LinesAfter line 0
    → next ≡ prepend_known (line ++ LINE_FEED ∷ ahead) left → IsHeardAs line [] 0 [] asking → TakesFor next (taken.Request asking false) ahead left
taken_single next left line ahead asking is extent known heard = (
  line ++ LINE_FEED ∷ [],
  known ∙ ap (λ z. prepend_known z left) (sym (append_assoc line (LINE_FEED ∷ []) ahead)),
  block_text false line [] [] 0 asking is extent FirstLines.none heard,
  (λ e. absurd (cc)),
)

pub taken_last : (next left : Option (List ℕ)) (line ahead : List ℕ) (count : ℕ) (asking : Asking) → IsLine line → 0 < length line
    → LinesAfter line count → ahead ≡ [] → NothingLeft left → next ≡ prepend_known line left → IsHeardAs line [] count [] asking
    → TakesFor next (taken.Request asking true) ahead left
taken_last next left line ahead count asking is some extent none nothing known heard = (
  line,
  known ∙ ap (λ z. prepend_known z left) (sym (append-nil line) ∙ ap (λ z. line ++ z) (sym none)),
  last_text line count asking is some extent heard,
  (λ e. (none, nothing)),
)

module _ (line ahead ahead' : List ℕ) (mid left : Option (List ℕ)) (count : ℕ) (is : IsLine line) (extent : LinesAfter line count) where
  block_known : (behind : List ℕ) → prepend_known ahead mid ≡ prepend_known (behind ++ ahead') left
      → prepend_known (line ++ LINE_FEED ∷ ahead) mid ≡ prepend_known ((line ++ LINE_FEED ∷ behind) ++ ahead') left
  block_known behind known =
      first_known (prepend_known (line ++ LINE_FEED ∷ ahead) mid) mid left line ahead (behind ++ ahead') refl known
      ∙ ap (λ z. prepend_known z left) (sym (append_assoc line (LINE_FEED ∷ behind) ahead'))

  pub taken_all : (further : Further) (asking : Asking) → MoreFor (prepend_known ahead mid) count (more_is.All further) ahead' left
      → BlockReads line count further true asking
      → TakesFor (prepend_known (line ++ LINE_FEED ∷ ahead) mid) (taken.Request asking false) ahead' left
  taken_all further asking m reads = (
    line ++ LINE_FEED ∷ m.1.behind,
    block_known m.1.behind m.1.known,
    block_text false line m.1.behind m.0 count asking is extent m.1.stand (reads m.0 m.1.behind m.1.keeps (λ e. m.2) (λ e. absurd (cc))),
    (λ e. absurd (cc)),
  )

  pub taken_closed : (further : Further) (all : Bool) (asking : Asking)
      → MoreFor (prepend_known ahead mid) count (more_is.Closed further all) ahead' left → BlockReads line count further all asking
      → TakesFor (prepend_known (line ++ LINE_FEED ∷ ahead) mid) (taken.Request asking true) ahead' left
  taken_closed further all asking m reads = (
    line ++ LINE_FEED ∷ m.1.behind,
    block_known m.1.behind m.1.known,
    block_text true line m.1.behind m.0 count asking is extent m.1.stand (reads m.0 m.1.behind m.1.keeps m.4 m.5),
    (λ e. (m.2, m.3)),
  )

  pub taken_too_long : MoreFor (prepend_known ahead mid) count more_is.TooLong ahead' left
      → TakesFor (prepend_known (line ++ LINE_FEED ∷ ahead) mid) taken.TooLong ahead' left
  taken_too_long m = unfinished_block IsLong left left line ahead ahead' mid m.0 count is extent m.1 m.2 m.3 m.4

  pub taken_failed : MoreFor (prepend_known ahead mid) count more_is.Failed ahead' left
      → TakesFor (prepend_known (line ++ LINE_FEED ∷ ahead) mid) taken.Failed ahead' left
  taken_failed m = unfinished_block IsLine left left line ahead ahead' mid m.0 count is extent m.1 m.2 m.3 m.4
