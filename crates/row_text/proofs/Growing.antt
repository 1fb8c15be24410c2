-- What lines bring, line by line and part by part.
use Rattle.std.proofs.Common.{◌≡◌, ◌≢◌, ◌≤◌, ◌<◌, ◌+◌, ◌∷◌, ◌++◌, ◌∙◌, ◌↔◌, [], ℕ, List, length, drop, refl, sym, ap, subst, inl, inr, arith, append_assoc, Option, Some, Result, Ok, Err}
use Rattle.std.specs.List.{AllByRecursion, flat_map}
use Rattle.std.proofs.lemmas.List.{append-nil, drop-drop, length-append, length-drop, nil_from_length, take_rest}
use Rattle.std.proofs.lemmas.List.Concat.{flat_map-append}
use Rattle.dict_value.specs.declared.value.Format.{Format}
use Rattle.dict_value.specs.declared.value.Value.{Value}
use Rattle.dict_value.specs.declared.value.TheConstants.{MOST_ROWS}
use Rattle.dict_value.specs.declared.letters.TheConstants.{LINE_FEED}
use Rattle.row_text.specs.declared.cutter.CutRule.{CutRule}
use Rattle.row_text.specs.declared.decode.DecodeFault.{DecodeFault}
use Rattle.row_text.specs.declared.decode.DecodeFault.TheVariants as decode
use Rattle.row_text.specs.Cutting.{Cuts, IsOpen, IsWhole, ended}
use Rattle.row_text.specs.Decoding.{AreTypedRows, Decoded, Decodes, Reader, rule_of}
use Rattle.row_text.specs.Growing.{AddsRowsOf, AddsWhole, Bring, BringRows, DecodesBehind, DecodesOn}
use Rattle.row_text.specs.Tables.{AreLines, last_line}
use Rattle.row_text.specs.steps.CutSteps.{BeginsWithLine}
use Rattle.row_text.specs.steps.DecodeSteps.{AddsLine, FirstBrings, LineBrings, LineFails}
use Rattle.row_text.proofs.CutSteps.{open-nil}
use Rattle.row_text.proofs.Decoded.{Unless, all-lines, typed-all, typed-more}
use Rattle.row_text.proofs.MarkLists.{all-append}
use Rattle.row_text.proofs.Pieces.{joined-more}
use Rattle.row_text.proofs.Reached.{suffix}
use Rattle.row_text.proofs.Tabled.{one-lines}

-- no line
pub bring-none : (format : Format) (columns : List Reader) (old : List (List Value)) → length old ≤ MOST_ROWS → BringRows format columns [] old old
bring-none format columns old few = record { rows = []; typed = tt; joined = sym (append-nil old); few = few }

-- one line more
pub bring-more : (format : Format) (columns : List Reader) (lines : List (List ℕ)) (line : List ℕ) (old mid new : List (List Value)) → BringRows format columns lines old mid → AddsLine format columns line mid new
    → BringRows format columns (lines ++ line ∷ []) old new
bring-more format columns lines line old mid new b (inl (blank, same)) = record {
  rows = b.rows;
  typed = typed-more format columns lines line b.rows b.rows b.typed (inl (blank, refl));
  joined = same ∙ b.joined;
  few = omega (arith, ap length same, b.few);
}
bring-more format columns lines line old mid new b (inr (is, room, (values, row, same))) = record {
  rows = b.rows ++ values ∷ [];
  typed = typed-more format columns lines line b.rows (b.rows ++ values ∷ []) b.typed (inr (is, omega (arith, room, ap length b.joined, length-append old b.rows), (values, row, refl)));
  joined = same ∙ ap (λ (rs : List (List Value)). rs ++ values ∷ []) b.joined ∙ append_assoc old b.rows (values ∷ []);
  few = omega (arith, ap length same, length-append mid (values ∷ []), room);
}

-- the line behind them has a fault
pub bring-fails : (format : Format) (columns : List Reader) (lines : List (List ℕ)) (line : List ℕ) (later : List (List ℕ)) (number : ℕ) (old mid : List (List Value)) → BringRows format columns lines old mid
    → (fault : DecodeFault) → LineFails format columns line (number + length lines + 1) mid fault → Bring format columns (lines ++ line ∷ later) number old (Err fault)
bring-fails format columns lines line later number old mid b (decode.Bad bad) (is, room, at, reason) = record {
  rows = b.rows;
  line = line;
  stands = record { before = lines; after = later; split = refl; typed = b.typed; is_row = is };
  room = subst (λ (rs : List (List Value)). length rs < MOST_ROWS) b.joined room;
  numbered = at;
  reason = reason;
}
bring-fails format columns lines line later number old mid b decode.TooMany (is, full) = record {
  rows = b.rows;
  line = line;
  stands = record { before = lines; after = later; split = refl; typed = b.typed; is_row = is };
  full = subst (λ (rs : List (List Value)). length rs ≡ MOST_ROWS) b.joined full;
}
bring-fails format columns lines line later number old mid b decode.NoMemory fails = absurd fails

-- all rows behind more rows
joined-all : (old mid rows others : List (List Value)) → mid ≡ old ++ rows → mid ++ others ≡ old ++ (rows ++ others)
joined-all old mid rows others e = ap (λ (rs : List (List Value)). rs ++ others) e ∙ append_assoc old rows others

-- lines behind lines
pub bring-on : (format : Format) (columns : List Reader) (lines later : List (List ℕ)) (number : ℕ) (old mid : List (List Value)) → BringRows format columns lines old mid
    → (answer : Decoded) → Bring format columns later (number + length lines) mid answer → Bring format columns (lines ++ later) number old answer
bring-on format columns lines later number old mid b (Ok new) m = record {
  rows = b.rows ++ m.rows;
  typed = typed-all format columns lines later b.rows m.rows b.typed m.typed;
  joined = m.joined ∙ joined-all old mid b.rows m.rows b.joined;
  few = m.few;
}
bring-on format columns lines later number old mid b (Err (decode.Bad bad)) m = record {
  rows = b.rows ++ m.rows;
  line = m.line;
  stands = record {
    before = lines ++ m.stands.before;
    after = m.stands.after;
    split = ap (λ (ls : List (List ℕ)). lines ++ ls) m.stands.split ∙ sym (append_assoc lines m.stands.before (m.line ∷ m.stands.after));
    typed = typed-all format columns lines m.stands.before b.rows m.rows b.typed m.stands.typed;
    is_row = m.stands.is_row;
  };
  room = subst (λ (rs : List (List Value)). length rs < MOST_ROWS) (joined-all old mid b.rows m.rows b.joined) m.room;
  numbered = m.numbered ∙ omega (arith, length-append lines m.stands.before);
  reason = m.reason;
}
bring-on format columns lines later number old mid b (Err decode.TooMany) m = record {
  rows = b.rows ++ m.rows;
  line = m.line;
  stands = record {
    before = lines ++ m.stands.before;
    after = m.stands.after;
    split = ap (λ (ls : List (List ℕ)). lines ++ ls) m.stands.split ∙ sym (append_assoc lines m.stands.before (m.line ∷ m.stands.after));
    typed = typed-all format columns lines m.stands.before b.rows m.rows b.typed m.stands.typed;
    is_row = m.stands.is_row;
  };
  full = subst (λ (rs : List (List Value)). length rs ≡ MOST_ROWS) (joined-all old mid b.rows m.rows b.joined) m.full;
}
bring-on format columns lines later number old mid b (Err decode.NoMemory) m = absurd m

-- a fault stays, whatever follows
pub bring-fault : (format : Format) (columns : List Reader) (lines later : List (List ℕ)) (number : ℕ) (old : List (List Value)) (fault : DecodeFault) → Bring format columns lines number old (Err fault)
    → Bring format columns (lines ++ later) number old (Err fault)
bring-fault format columns lines later number old (decode.Bad bad) b = record {
  rows = b.rows;
  line = b.line;
  stands = record {
    before = b.stands.before;
    after = b.stands.after ++ later;
    split = ap (λ (ls : List (List ℕ)). ls ++ later) b.stands.split ∙ append_assoc b.stands.before (b.line ∷ b.stands.after) later;
    typed = b.stands.typed;
    is_row = b.stands.is_row;
  };
  room = b.room;
  numbered = b.numbered;
  reason = b.reason;
}
bring-fault format columns lines later number old decode.TooMany b = record {
  rows = b.rows;
  line = b.line;
  stands = record {
    before = b.stands.before;
    after = b.stands.after ++ later;
    split = ap (λ (ls : List (List ℕ)). ls ++ later) b.stands.split ∙ append_assoc b.stands.before (b.line ∷ b.stands.after) later;
    typed = b.stands.typed;
    is_row = b.stands.is_row;
  };
  full = b.full;
}
bring-fault format columns lines later number old decode.NoMemory b = absurd b

-- rows behind whole rows
pub cuts-behind : (by : CutRule) (text rest left : List ℕ) (lines rows : List (List ℕ)) → text ≡ flat_map ended lines ++ rest → AllByRecursion (IsWhole by) lines → Cuts by rest rows left → Cuts by text (lines ++ rows) left
cuts-behind by text rest left lines rows e whole c = record {
  joined = e ∙ ap (λ (t : List ℕ). flat_map ended lines ++ t) c.joined ∙ sym (append_assoc (flat_map ended lines) (flat_map ended rows) left)
      ∙ ap (λ (t : List ℕ). t ++ left) (sym (flat_map-append ended lines rows));
  whole = all-append (IsWhole by) lines rows whole c.whole;
  opened = c.opened;
}

-- lines behind whole rows
pub lines-behind : (by : CutRule) (text rest : List ℕ) (lines later : List (List ℕ)) → text ≡ flat_map ended lines ++ rest → AllByRecursion (IsWhole by) lines → AreLines by rest later → AreLines by text (lines ++ later)
lines-behind by text rest lines later e whole (rows, left, cuts, are) = (
  lines ++ rows,
  left,
  cuts-behind by text rest left lines rows e whole cuts,
  ap (λ (ls : List (List ℕ)). lines ++ ls) are ∙ sym (append_assoc lines rows (last_line left)),
)

-- the lines of a text that is cut
pub cut-lines : (by : CutRule) (text rest : List ℕ) (lines : List (List ℕ)) → Cuts by text lines rest → AreLines by text (lines ++ last_line rest)
cut-lines by text rest lines cuts = (lines, rest, cuts, refl)

-- the size of a line with its line feed
pub begins-size : (by : CutRule) (text line : List ℕ) (size : ℕ) → BeginsWithLine by text line size → size ≡ length line + 1
begins-size by text line size (whole, within, is) =
    omega (arith, within, ap length is, length-append (ended line) (drop size text), length-append line (LINE_FEED ∷ []), length-drop size text)

-- so many bytes are whole lines, and these are the rows with theirs
pub record Gone (format : Format) (columns : List Reader) (text : List ℕ) (done number count : ℕ) (old new : List (List Value)) : Type 0 where
  pub lines : List (List ℕ)
  pub whole : AllByRecursion (IsWhole (rule_of format)) lines
  pub within : done ≤ length text
  pub joined : text ≡ flat_map ended lines ++ drop done text
  pub counted : count ≡ number + length lines
  pub paced : length lines ≤ done
  pub brings : BringRows format columns lines old new

pub gone-none : (format : Format) (columns : List Reader) (text : List ℕ) (number : ℕ) (old : List (List Value)) → length old ≤ MOST_ROWS → Gone format columns text 0 number number old old
gone-none format columns text number old few = record {
  lines = [];
  whole = tt;
  within = omega arith;
  joined = refl;
  counted = omega arith;
  paced = omega arith;
  brings = bring-none format columns old few;
}

-- what follows a line
left-joined : (text line : List ℕ) (done size : ℕ) → suffix text done ≡ ended line ++ drop size (suffix text done) → drop done text ≡ line ++ LINE_FEED ∷ drop (done + size) text
left-joined text line done size e =
    sym (take_rest text done) ∙ e ∙ append_assoc line (LINE_FEED ∷ []) (drop size (suffix text done))
    ∙ ap (λ (t : List ℕ). line ++ LINE_FEED ∷ t) (ap (drop size) (take_rest text done) ∙ drop-drop size done text)

gone-joined : (format : Format) (columns : List Reader) (text line : List ℕ) (done size number counted : ℕ) (old mid : List (List Value)) → (w : Gone format columns text done number counted old mid)
    → BeginsWithLine (rule_of format) (suffix text done) line size → text ≡ flat_map ended (w.lines ++ line ∷ []) ++ drop (done + size) text
gone-joined format columns text line done size number counted old mid w (whole, within, is) =
    joined-more text [] (drop done text) line (drop (done + size) text) w.lines w.joined (left-joined text line done size is)

pub gone-more : (format : Format) (columns : List Reader) (text line : List ℕ) (done size number counted : ℕ) (old mid new : List (List Value)) → Gone format columns text done number counted old mid
    → BeginsWithLine (rule_of format) (suffix text done) line size → AddsLine format columns line mid new → Gone format columns text (done + size) number (counted + 1) old new
gone-more format columns text line done size number counted old mid new w begins adds = record {
  lines = w.lines ++ line ∷ [];
  whole = all-append (IsWhole (rule_of format)) w.lines (line ∷ []) w.whole (begins.0, tt);
  within = omega (arith, w.within, begins.1, ap length (take_rest text done), length-drop done text);
  joined = gone-joined format columns text line done size number counted old mid w begins;
  counted = omega (arith, w.counted, length-append w.lines (line ∷ []));
  paced = omega (arith, w.paced, length-append w.lines (line ∷ []), begins-size (rule_of format) (suffix text done) line size begins);
  brings = bring-more format columns w.lines line old mid new w.brings adds;
}

-- no line ends in the rest
pub gone-all : (format : Format) (columns : List Reader) (text : List ℕ) (done number counted : ℕ) (old new : List (List Value)) → Gone format columns text done number counted old new
    → IsOpen (rule_of format) (suffix text done) → AddsWhole format columns number old text (Ok done) counted new
gone-all format columns text done number counted old new w opened = (
  w.lines,
  w.within,
  w.counted,
  (record { joined = w.joined; whole = w.whole; opened = subst (IsOpen (rule_of format)) (take_rest text done) opened }, w.brings),
)

-- the next line has a fault
pub gone-fault : (format : Format) (columns : List Reader) (text : List ℕ) (done number counted later : ℕ) (old mid new other : List (List Value)) → Gone format columns text done number counted old mid
    → (fault : DecodeFault) → Unless {A = Option ℕ} (Err fault) (FirstBrings format columns (suffix text done) counted mid (Err fault) new)
    → Unless {A = ℕ} (Err fault) (AddsWhole format columns number old text (Err fault) later other)
gone-fault format columns text done number counted later old mid new other w fault told want =
    let found = told (λ e. want (let same : fault ≡ decode.NoMemory = cc in ap (λ (f : DecodeFault). Err f) same)) in
    let size = found.0 in
    let line = found.1 in
    let begins = found.2 in
    let more = all-lines (rule_of format) [] (drop (done + size) text) (open-nil (rule_of format)) in
    let rows = more.1.0 in
    let left = more.1.1 in
    let all = all-append (IsWhole (rule_of format)) w.lines (line ∷ []) w.whole (begins.0, tt) in
    let joined = gone-joined format columns text line done size number counted old mid w begins in
    let cuts = cuts-behind (rule_of format) text (drop (done + size) text) left (w.lines ++ line ∷ []) rows joined all more.1.2 in
    let at : counted + 1 ≡ number + length w.lines + 1 = omega (arith, w.counted) in (
      w.lines ++ line ∷ rows,
      left,
      (
        subst (λ (ls : List (List ℕ)). Cuts (rule_of format) text ls left) (append_assoc w.lines (line ∷ []) rows) cuts,
        bring-fails format columns w.lines line rows number old mid w.brings fault (subst (λ (n : ℕ). LineFails format columns line n mid fault) at found.3),
      ),
    )

-- each line has its line feed
lines-paced : (lines : List (List ℕ)) → length lines ≤ length (flat_map ended lines)
lines-paced [] = omega arith
lines-paced (line ∷ lines) = omega (arith, lines-paced lines, length-append (ended line) (flat_map ended lines), length-append line (LINE_FEED ∷ []))

-- there are no more whole lines than bytes of them
pub whole-paced : (format : Format) (columns : List Reader) (text : List ℕ) (size number count : ℕ) (old new : List (List Value)) → AddsWhole format columns number old text (Ok size) count new → count ≤ number + size
whole-paced format columns text size number count old new (lines, within, at, (cuts, brings)) =
    omega (arith, within, at, lines-paced lines, ap length cuts.joined, length-append (flat_map ended lines) (drop size text), length-drop size text)

-- the fault of a whole line is that of the text
pub more-fault : (format : Format) (columns : List Reader) (text : List ℕ) (number counted : ℕ) (old new other : List (List Value)) (fault : DecodeFault)
    → Unless {A = ℕ} (Err fault) (AddsWhole format columns number old text (Err fault) counted new) → Unless {A = Unit {0}} (Err fault) (AddsRowsOf format columns number old text (Err fault) other)
more-fault format columns text number counted old new other fault told want =
    let (lines, rest, (cuts, brings)) = told (λ e. want (let same : fault ≡ decode.NoMemory = cc in ap (λ (f : DecodeFault). Err f) same)) in
    (lines ++ last_line rest, cut-lines (rule_of format) text rest lines cuts, bring-fault format columns lines (last_line rest) number old fault brings)

-- nothing stands behind the whole lines
pub more-none : (format : Format) (columns : List Reader) (text : List ℕ) (size number counted : ℕ) (old new : List (List Value)) → AddsWhole format columns number old text (Ok size) counted new → size ≡ length text
    → AddsRowsOf format columns number old text (Ok tt) new
more-none format columns text size number counted old new (lines, within, at, (cuts, brings)) all =
    let none : drop size text ≡ [] = nil_from_length (drop size text) (length-drop size text ∙ omega (arith, all)) in
    (lines ++ last_line [], cut-lines (rule_of format) text [] lines (subst (λ (t : List ℕ). Cuts (rule_of format) text lines t) none cuts), subst (λ (ls : List (List ℕ)). BringRows format columns ls old new) (sym (append-nil lines)) brings)

-- the last line lacks its line feed
pub more-last : (format : Format) (columns : List Reader) (text : List ℕ) (size number counted : ℕ) (old mid new : List (List Value)) → AddsWhole format columns number old text (Ok size) counted mid → size ≢ length text
    → (answer : Result (Unit {0}) DecodeFault) → Unless answer (LineBrings format columns (suffix text size) (counted + 1) mid answer new) → Unless answer (AddsRowsOf format columns number old text answer new)
more-last format columns text size number counted old mid new (lines, within, at, (cuts, brings)) some answer told want =
    let line = drop size text in
    let here : last_line line ≡ line ∷ [] = one-last line (omega (arith, length-drop size text)) in
    let are : AreLines (rule_of format) text (lines ++ line ∷ []) = subst (λ (ls : List (List ℕ)). AreLines (rule_of format) text (lines ++ ls)) here (cut-lines (rule_of format) text line lines cuts) in
    let found = subst (λ (t : List ℕ). LineBrings format columns t (counted + 1) mid answer new) (take_rest text size) (told want) in
    last answer are (subst (λ (n : ℕ). LineBrings format columns (drop size text) n mid answer new) (ap (λ (n : ℕ). n + 1) at) found)
  where
    one-last : (line : List ℕ) → length line ≢ 0 → last_line line ≡ line ∷ []
    one-last [] none = absurd (none refl)
    one-last (b ∷ line) none = refl

    last : (answer : Result (Unit {0}) DecodeFault) → AreLines (rule_of format) text (lines ++ drop size text ∷ []) → LineBrings format columns (drop size text) (number + length lines + 1) mid answer new
        → AddsRowsOf format columns number old text answer new
    last (Ok u) are found = (lines ++ drop size text ∷ [], are, bring-more format columns lines (drop size text) old mid new brings found)
    last (Err fault) are found = (lines ++ drop size text ∷ [], are, bring-fails format columns lines (drop size text) [] number old mid brings fault found)

-- behind no rows and no lines
pub from-none : (format : Format) (columns : List Reader) (text : List ℕ) (answer : Decoded) → DecodesBehind format columns 0 [] text answer → Decodes format columns text answer
from-none format columns text (Ok new) (lines, cut, b) =
    record { lines = lines; cut = cut; typed = subst (AreTypedRows format columns lines) (sym b.joined) b.typed; few = b.few }
from-none format columns text (Err (decode.Bad bad)) (lines, cut, b) = record {
  rows = b.rows;
  line = b.line;
  stands = record {
    before = b.stands.before;
    after = b.stands.after;
    cut = subst (AreLines (rule_of format) text) b.stands.split cut;
    typed = b.stands.typed;
    is_row = b.stands.is_row;
  };
  room = b.room;
  numbered = b.numbered ∙ omega arith;
  reason = b.reason;
}
from-none format columns text (Err decode.TooMany) (lines, cut, b) = record {
  rows = b.rows;
  line = b.line;
  stands = record {
    before = b.stands.before;
    after = b.stands.after;
    cut = subst (AreLines (rule_of format) text) b.stands.split cut;
    typed = b.stands.typed;
    is_row = b.stands.is_row;
  };
  full = b.full;
}
from-none format columns text (Err decode.NoMemory) (lines, cut, b) = absurd b

pub to-none : (format : Format) (columns : List Reader) (text : List ℕ) (answer : Decoded) → Decodes format columns text answer → DecodesBehind format columns 0 [] text answer
to-none format columns text (Ok new) h = (h.lines, h.cut, record { rows = new; typed = h.typed; joined = refl; few = h.few })
to-none format columns text (Err (decode.Bad bad)) h = (
  h.stands.before ++ h.line ∷ h.stands.after,
  h.stands.cut,
  record {
    rows = h.rows;
    line = h.line;
    stands = record { before = h.stands.before; after = h.stands.after; split = refl; typed = h.stands.typed; is_row = h.stands.is_row };
    room = h.room;
    numbered = h.numbered ∙ omega arith;
    reason = h.reason;
  },
)
to-none format columns text (Err decode.TooMany) h = (
  h.stands.before ++ h.line ∷ h.stands.after,
  h.stands.cut,
  record {
    rows = h.rows;
    line = h.line;
    stands = record { before = h.stands.before; after = h.stands.after; split = refl; typed = h.stands.typed; is_row = h.stands.is_row };
    full = h.full;
  },
)
to-none format columns text (Err decode.NoMemory) h = absurd h

-- a text that is cut behind a row's end
pub goes-on : (format : Format) (columns : List Reader) (number : ℕ) (old : List (List Value)) (front rest : List ℕ) (lines : List (List ℕ)) (first answer : Decoded) → Cuts (rule_of format) front lines []
    → DecodesBehind format columns number old front first → DecodesOn format columns number old lines rest first answer → DecodesBehind format columns number old (front ++ rest) answer
goes-on format columns number old front rest lines first answer cuts (lines', cut, brings) on =
    let same : lines' ≡ lines = one-lines (rule_of format) front lines' lines cut (lines, [], cuts, sym (append-nil lines)) in
    let joined : front ++ rest ≡ flat_map ended lines ++ rest = ap (λ (t : List ℕ). t ++ rest) (cuts.joined ∙ append-nil (flat_map ended lines)) in
    parts first answer joined (subst (λ (ls : List (List ℕ)). Bring format columns ls number old first) same brings) on
  where
    parts : (first answer : Decoded) → front ++ rest ≡ flat_map ended lines ++ rest → Bring format columns lines number old first → DecodesOn format columns number old lines rest first answer
        → DecodesBehind format columns number old (front ++ rest) answer
    parts (Ok mid) answer joined brings (later, cut, more) =
        (lines ++ later, lines-behind (rule_of format) (front ++ rest) rest lines later joined cuts.whole cut, bring-on format columns lines later number old mid brings answer more)
    parts (Err fault) answer joined brings on =
        let more = all-lines (rule_of format) [] rest (open-nil (rule_of format)) in (
          lines ++ more.0,
          lines-behind (rule_of format) (front ++ rest) rest lines more.0 joined cuts.whole more.1,
          subst (λ (a : Decoded). Bring format columns (lines ++ more.0) number old a) (sym on) (bring-fault format columns lines more.0 number old fault brings),
        )
