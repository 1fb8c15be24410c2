-- The text of a value's reply, and of a block's, tells what it comes from and what it gives.
use Rattle.std.proofs.Common.{◌≡◌, ◌≢◌, ◌<◌, ◌^◌, ◌++◌, ◌∙◌, ℕ, List, [], ◌∷◌, length, map, codes, decimal, sym, ap, refl, arith}
use Rattle.std.specs.List.{AllByRecursion, flat_map}
use Rattle.std.proofs.lemmas.Fmt.{decimal_injective, decimal_is_IsNumeral}
use Rattle.std.proofs.lemmas.List.{append_assoc, append_cancel_left, same_from_push}
use Rattle.dict_value.proofs.Cuts.{AllByRecursion-append, cut-once, digits-lack}
use Rattle.dict_value.specs.Split.{Lacks}
use Rattle.dict_value.specs.declared.letters.TheConstants.{LINE_FEED, TAB}
use Rattle.wire_text.specs.Replies.{IsNumbered, IsWholeLine, block_line, mark_text, moment_text, reply_text, told_line}
use Rattle.wire_text.specs.declared.reply.Line.{Line}
use Rattle.wire_text.specs.declared.reply.Mark.{Mark}
use Rattle.wire_text.specs.declared.reply.Mark.TheVariants as mark
use Rattle.wire_text.specs.declared.reply.Reply.TheVariants as reply

-- a number's text has digits alone
number_lacks : (byte n : ℕ) → byte < 48 → n < 2 ^ 64 → Lacks byte (decimal n)
number_lacks byte n low small = digits-lack byte (decimal n) low (decimal_is_IsNumeral n small).0.1

mark_lacks : (byte : ℕ) (m : Mark) → byte < 48 → IsNumbered m → Lacks byte (mark_text m)
mark_lacks byte (mark.Version n) low small = (omega (arith, low), number_lacks byte n low small)
mark_lacks byte (mark.Moment n) low small = (omega (arith, low), number_lacks byte n low small)
mark_lacks byte mark.Function low small = (omega (arith, low), tt)

heads : (x y : ℕ) (a b : List ℕ) → x ∷ a ≡ y ∷ b → x ≡ y
heads x y a b e = cc

tails : (x y : ℕ) (a b : List ℕ) → x ∷ a ≡ y ∷ b → a ≡ b
tails x y a b e = cc

-- a mark is told by its text
mark_once : (m n : Mark) → IsNumbered m → IsNumbered n → mark_text m ≡ mark_text n → m ≡ n
mark_once (mark.Version a) (mark.Version b) p q e =
    ap (λ (n : ℕ). mark.Version n) (decimal_injective a b p q (tails 118 118 (decimal a) (decimal b) e))
mark_once (mark.Version a) (mark.Moment b) p q e = absurd (omega (arith, heads 118 116 (decimal a) (decimal b) e))
mark_once (mark.Version a) mark.Function p q e = absurd (omega (arith, heads 118 102 (decimal a) [] e))
mark_once (mark.Moment a) (mark.Version b) p q e = absurd (omega (arith, heads 116 118 (decimal a) (decimal b) e))
mark_once (mark.Moment a) (mark.Moment b) p q e =
    ap (λ (n : ℕ). mark.Moment n) (decimal_injective a b p q (tails 116 116 (decimal a) (decimal b) e))
mark_once (mark.Moment a) mark.Function p q e = absurd (omega (arith, heads 116 102 (decimal a) [] e))
mark_once mark.Function (mark.Version b) p q e = absurd (omega (arith, heads 102 118 [] (decimal b) e))
mark_once mark.Function (mark.Moment b) p q e = absurd (omega (arith, heads 102 116 [] (decimal b) e))
mark_once mark.Function mark.Function p q e = refl

-- what stands behind the first word and the mark of an answer
behind_mark : (m : Mark) (text rest : List ℕ)
    → (codes "OK" ++ (codes "\t" ++ mark_text m) ++ (codes "\t" ++ text)) ++ rest ≡ codes "OK\t" ++ (mark_text m ++ TAB ∷ (text ++ rest))
behind_mark m text rest = ap (λ (t : List ℕ). codes "OK\t" ++ t) (append_assoc (mark_text m) (TAB ∷ text) rest)

behind_ok : (a b : List ℕ) → codes "OK\t" ++ a ≡ codes "OK\t" ++ b → a ≡ b
behind_ok a b e = append_cancel_left (codes "OK\t") a b e

-- an answer's mark, and what stands behind it, are told by its text
answer_once : (m n : Mark) (a b : List ℕ) → IsNumbered m → IsNumbered n
    → codes "OK\t" ++ (mark_text m ++ TAB ∷ a) ≡ codes "OK\t" ++ (mark_text n ++ TAB ∷ b) → (m ≡ n) × (a ≡ b)
answer_once m n a b p q e =
    let tail = behind_ok (mark_text m ++ TAB ∷ a) (mark_text n ++ TAB ∷ b) e in
    let cut = cut-once TAB (mark_text m) a (mark_text n) b (mark_lacks TAB m (omega arith) p) (mark_lacks TAB n (omega arith) q) tail in
    (mark_once m n p q cut.0, cut.1)

pub value_once : (m n : Mark) (a b : List ℕ) → IsNumbered m → IsNumbered n → reply_text (reply.One m a) ≡ reply_text (reply.One n b)
    → (m ≡ n) × (a ≡ b)
value_once m n a b p q e =
    let whole = answer_once m n (a ++ LINE_FEED ∷ []) (b ++ LINE_FEED ∷ []) p q
    (sym (behind_mark m a (LINE_FEED ∷ [])) ∙ e ∙ behind_mark n b (LINE_FEED ∷ [])) in
    (whole.0, (same_from_push a b LINE_FEED LINE_FEED whole.1).0)

-- a line without its line feed, behind the moment where the mark is one
abbrev line_front : Mark → Line → List ℕ
line_front (mark.Moment m) line = moment_text line.moment ++ TAB ∷ line.text
line_front (mark.Version n) line = line.text
line_front mark.Function line = line.text

line_parts : (m : Mark) (line : Line) (rest : List ℕ) → block_line m line ++ rest ≡ line_front m line ++ LINE_FEED ∷ rest
line_parts (mark.Moment m) line rest =
    append_assoc (moment_text line.moment) (TAB ∷ (line.text ++ codes "\n")) rest
    ∙ ap (λ (t : List ℕ). moment_text line.moment ++ TAB ∷ t) (append_assoc line.text (codes "\n") rest)
    ∙ sym (append_assoc (moment_text line.moment) (TAB ∷ line.text) (LINE_FEED ∷ rest))
line_parts (mark.Version n) line rest = append_assoc line.text (codes "\n") rest
line_parts mark.Function line rest = append_assoc line.text (codes "\n") rest

abbrev told : ℕ → List ℕ → Line
told moment text = record { moment = moment; text = text }

no_line : (front rest : List ℕ) → [] ≡ front ++ LINE_FEED ∷ rest → ⊥
no_line [] rest e = cc
no_line (b ∷ front) rest e = cc

moment_lacks : (byte n : ℕ) → byte < 48 → n < 2 ^ 64 → Lacks byte (moment_text n)
moment_lacks byte n low small = (omega (arith, low), number_lacks byte n low small)

front_lacks : (m : Mark) (line : Line) → IsWholeLine line → Lacks LINE_FEED (line_front m line)
front_lacks (mark.Moment m) line w =
    AllByRecursion-append (λ b. b ≢ LINE_FEED) (moment_text line.moment) (TAB ∷ line.text)
    (moment_lacks LINE_FEED line.moment (omega arith) w.1) (omega arith, w.0)
front_lacks (mark.Version n) line w = w.0
front_lacks mark.Function line w = w.0

moment_once : (m n : ℕ) → m < 2 ^ 64 → n < 2 ^ 64 → moment_text m ≡ moment_text n → m ≡ n
moment_once m n p q e = decimal_injective m n p q (tails 116 116 (decimal m) (decimal n) e)

told_same : (m n : ℕ) (a b : List ℕ) → m ≡ n → a ≡ b → told m a ≡ told n b
told_same m n a b e f = rw (e, f) refl

-- a line is told by its front
line_once : (m : Mark) (a b : Line) → IsWholeLine a → IsWholeLine b → line_front m a ≡ line_front m b
    → told_line m a ≡ told_line m b
line_once (mark.Moment m) a b p q e =
    let cut = cut-once TAB (moment_text a.moment) a.text (moment_text b.moment) b.text
    (moment_lacks TAB a.moment (omega arith) p.1) (moment_lacks TAB b.moment (omega arith) q.1) e in
    let moment = moment_once a.moment b.moment p.1 q.1 cut.0 in
    let text = cut.1 in
    told_same a.moment b.moment a.text b.text moment text
line_once (mark.Version n) a b p q e = told_same 0 0 a.text b.text refl e
line_once mark.Function a b p q e = told_same 0 0 a.text b.text refl e

-- a block's lines are told by their text
lines_once : (m : Mark) (a b : List Line) → AllByRecursion IsWholeLine a → AllByRecursion IsWholeLine b
    → flat_map (block_line m) a ≡ flat_map (block_line m) b → map (told_line m) a ≡ map (told_line m) b
lines_once m [] [] p q e = refl
lines_once m [] (y ∷ b) p q e =
    absurd (no_line (line_front m y) (flat_map (block_line m) b) (e ∙ line_parts m y (flat_map (block_line m) b)))
lines_once m (x ∷ a) [] p q e =
    absurd (no_line (line_front m x) (flat_map (block_line m) a) (sym e ∙ line_parts m x (flat_map (block_line m) a)))
lines_once m (x ∷ a) (y ∷ b) p q e =
    let cut = cut-once LINE_FEED (line_front m x) (flat_map (block_line m) a) (line_front m y) (flat_map (block_line m) b)
    (front_lacks m x p.0) (front_lacks m y q.0)
    (sym (line_parts m x (flat_map (block_line m) a)) ∙ e ∙ line_parts m y (flat_map (block_line m) b)) in
    let head = line_once m x y p.0 q.0 cut.0 in
    let tail = lines_once m a b p.1 q.1 cut.1 in
    rw (head, tail) refl

-- what stands behind the first word and the mark of a block
block_parts : (m : Mark) (lines : List Line)
    → reply_text (reply.Many m lines) ≡ codes "OK\t" ++ (mark_text m ++ TAB ∷ (decimal (length lines) ++ LINE_FEED ∷ flat_map (block_line m) lines))
block_parts m lines = behind_mark m (decimal (length lines)) (LINE_FEED ∷ flat_map (block_line m) lines)

pub block_once : (m n : Mark) (a b : List Line) → IsNumbered m → IsNumbered n → length a < 2 ^ 64 → length b < 2 ^ 64
    → AllByRecursion IsWholeLine a → AllByRecursion IsWholeLine b → reply_text (reply.Many m a) ≡ reply_text (reply.Many n b)
    → (m ≡ n) × (map (told_line m) a ≡ map (told_line m) b)
block_once m n a b p q f g v w e =
    let whole = answer_once m n (decimal (length a) ++ LINE_FEED ∷ flat_map (block_line m) a)
    (decimal (length b) ++ LINE_FEED ∷ flat_map (block_line n) b) p q (sym (block_parts m a) ∙ e ∙ block_parts n b) in
    let cut = cut-once LINE_FEED (decimal (length a)) (flat_map (block_line m) a) (decimal (length b)) (flat_map (block_line n) b)
    (number_lacks LINE_FEED (length a) (omega arith) f) (number_lacks LINE_FEED (length b) (omega arith) g) whole.1 in
    (whole.0, lines_once m a b v w (cut.1 ∙ ap (λ (k : Mark). flat_map (block_line k) b) (sym whole.0)))
