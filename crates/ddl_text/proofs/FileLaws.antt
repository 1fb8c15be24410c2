-- A file is read by its grammar, and its first fault is told.
use Rattle.std.proofs.Common.{◌≡◌, Bool, true, false, List, [], ◌∷◌, ◌++◌, Option, Ok, Err, refl, sym, ap, subst, ◌∙◌, ◌⊎◌, inl, inr, append_assoc}
use Rattle.std.proofs.lemmas.List.{append-nil}
use Rattle.dict_schema.specs.declared.definition.Item.{Item}
use Rattle.dict_schema.specs.declared.fault.DefFault.{DefFault}
use Rattle.dict_schema.specs.Judging.{Rule, AreClear, IsFirstFault}
use Rattle.ddl_tokens.specs.declared.fault.SyntaxFault.{SyntaxFault}
use Rattle.ddl_tokens.specs.declared.fault.SyntaxFault.TheVariants as syntax
use Rattle.ddl_tokens.specs.Tokens.{Token}
use Rattle.ddl_tokens.specs.Reading.{◌>>=◌, Read}
use Rattle.ddl_tokens.specs.Laws.{IsLeast, first}
use Rattle.ddl_tokens.specs.Verdicts.{Verdict, stands, falls, verdict_map, told, LawfulVerdict, VerdictStops}
use Rattle.ddl_tokens.proofs.Laws.{first_front, ok_is}
use Rattle.ddl_tokens.proofs.Verdicts.{read_as}
use Rattle.ddl_text.specs.declared.fault.DdlFault.{DdlFault}
use Rattle.ddl_text.specs.declared.statement.Statement.{Statement}
use Rattle.ddl_text.specs.Faults.{of_syntax}
use Rattle.ddl_text.specs.Grammar.{EndsItems, IsStatement, StatementStops, is_at_end}
use Rattle.ddl_text.specs.Reading.{statement_at}
use Rattle.ddl_text.specs.Items.{IsRefused, IsTaken, item_of, rules_of}
use Rattle.ddl_text.specs.Files.{IsEnded, AreEnded, none, more, IsFile, empty, last, fallen, IsAtEnd, AreItemsFrom, AreItems, IsDefined, FileSoFar, FallsFor, IsLeastOfFile, GoesOn, IsReadWhole}
use Rattle.ddl_text.proofs.StatementLaws.{no_end_first, statement_begins, statement_law}

-- ---- one statement

abbrev law : LawfulVerdict (λ _. Unit {0}) statement_at IsStatement StatementStops
law = statement_law

abbrev reads : List Token → Read (Verdict Statement)
reads = law.judged

-- a statement that ends is read whatever follows
ended_stops : (statement : Statement) (o : Option Token) → statement.ended ≡ true → StatementStops statement o
ended_stops statement o e = subst (λ (b : Bool). EndsItems b o) (sym e) tt

reads_ended : (statement : Statement) (own rest : List Token) → IsEnded statement own → reads (own ++ rest) ≡ Ok (stands statement, rest)
reads_ended statement own rest h = law.law.only (stands statement) own rest h.1 (ended_stops statement (first rest) h.0)

-- a statement without a semicolon is read at the text's end
last_stops : (statement : Statement) (o : Option Token) → statement.ended ≡ false → is_at_end o ≡ true → StatementStops statement o
last_stops statement o e h = subst (λ (b : Bool). EndsItems b o) (sym e) h

-- no statement begins at the text's end
begins_before_end : (v : Verdict Statement) (own rest ts : List Token) → ts ≡ own ++ rest → IsStatement v own → is_at_end (first ts) ≡ false
begins_before_end v own rest ts e h = ap (λ (us : List Token). is_at_end (first us)) e ∙ no_end_first own rest (statement_begins v own h)

-- ---- what stands first in a file

-- a file goes on behind a statement
record GoesBehind (statement : Statement) (tail rest : List Token) (v : Verdict (List Statement)) : Type 0 where
  others : Verdict (List Statement)
  own : List Token
  fits : IsFile others own
  parts : rest ≡ own ++ tail
  stops : VerdictStops IsAtEnd others (first tail)
  is : v ≡ verdict_map (λ (behind : List Statement). statement ∷ behind) others

-- what is behind a statement that stands
abbrev Onward : Statement → List Token → List Token → Verdict (List Statement) → Bool → Type 0
Onward statement tail rest v false = v ≡ stands (statement ∷ [])
Onward statement tail rest v true = GoesBehind statement tail rest v

-- how a file begins
abbrev Then : List Token → List Token → Verdict (List Statement) → Verdict Statement → Type 0
Then tail rest v (stands statement) = Onward statement tail rest v statement.ended
Then tail rest v (falls e) = v ≡ falls e

data View (tail all : List Token) (v : Verdict (List Statement)) : Type 0 where
  at_end : is_at_end (first all) ≡ true → v ≡ stands [] → View tail all v
  goes : (x : Verdict Statement) (rest : List Token) → is_at_end (first all) ≡ false → reads all ≡ Ok (x, rest) → Then tail rest v x → View tail all v

same_stops : (statement : Statement) (others : Verdict (List Statement)) (o : Option Token) → VerdictStops IsAtEnd (verdict_map (λ (behind : List Statement). statement ∷ behind) others) o → VerdictStops IsAtEnd others o
same_stops statement (stands statements) o s = s
same_stops statement (falls e) o s = tt

view : (v : Verdict (List Statement)) (own tail all : List Token) → IsFile v own → all ≡ own ++ tail → VerdictStops IsAtEnd v (first tail) → View tail all v
view v own tail all empty e s = at_end (ap (λ (us : List Token). is_at_end (first us)) e ∙ s) refl
view v own tail all (last {statement = statement} begun h) e s =
    goes (stands statement) tail (begins_before_end (stands statement) own tail all e h)
    (ap reads e ∙ law.law.only (stands statement) own tail h (last_stops statement (first tail) begun s))
    (subst (λ (b : Bool). Onward statement tail tail v b) (sym begun) refl)
view v own tail all (fallen {e = f} h) e s =
    goes (falls f) tail (begins_before_end (falls f) own tail all e h) (ap reads e ∙ law.law.only (falls f) own tail h tt) refl
view v own tail all (more {statement = statement} {others = others} {own = one} {rest = rest} parts ended m is) e s =
    let split : all ≡ one ++ (rest ++ tail) = e ∙ ap (λ (us : List Token). us ++ tail) parts ∙ append_assoc one rest tail in
    let goes_behind : GoesBehind statement tail (rest ++ tail) v = record {
      others = others;
      own = rest;
      fits = m;
      parts = refl;
      stops = same_stops statement others (first tail) (subst (λ (w : Verdict (List Statement)). VerdictStops IsAtEnd w (first tail)) is s);
      is = is;
    } in
    goes (stands statement) (rest ++ tail) (begins_before_end (stands statement) one (rest ++ tail) all split ended.1)
    (ap reads split ∙ reads_ended statement one (rest ++ tail) ended)
    (subst (λ (b : Bool). Onward statement tail (rest ++ tail) v b) (sym ended.0) goes_behind)

-- two readings are the same
same_read : (all : List Token) (x y : Verdict Statement) (us vs : List Token) → reads all ≡ Ok (x, us) → reads all ≡ Ok (y, vs) → (x ≡ y) × (us ≡ vs)
same_read all x y us vs p q =
    let same = ok_is (x, us) (y, vs) (sym p ∙ q) in
    (ap (λ (z : Verdict Statement × List Token). z.0) same, ap (λ (z : Verdict Statement × List Token). z.1) same)

-- ---- whole statements, and what is behind them

abbrev behind : List Statement → Verdict (List Statement) → Verdict (List Statement)
behind statements v = verdict_map (λ (others : List Statement). statements ++ others) v

behind_none : (v : Verdict (List Statement)) → v ≡ behind [] v
behind_none (stands statements) = refl
behind_none (falls e) = refl

behind_more : (statement : Statement) (statements : List Statement) (v : Verdict (List Statement)) → verdict_map (λ (others : List Statement). statement ∷ others) (behind statements v) ≡ behind (statement ∷ statements) v
behind_more statement statements (stands others) = refl
behind_more statement statements (falls e) = refl

ended_then : (statements : List Statement) (front : List Token) (statement : Statement) (own : List Token) → AreEnded statements front → IsEnded statement own → AreEnded (statements ++ statement ∷ []) (front ++ own)
ended_then statements front statement own none h = more (sym (append-nil own)) h none
ended_then statements front statement own (more {own = one} {rest = rest} e x m) h =
    more (ap (λ (us : List Token). us ++ own) e ∙ append_assoc one rest own) x (ended_then _ rest statement own m h)

file_behind : (statements : List Statement) (front : List Token) (v : Verdict (List Statement)) (own : List Token) → AreEnded statements front → IsFile v own → IsFile (behind statements v) (front ++ own)
file_behind statements front v own none h = subst (λ (w : Verdict (List Statement)). IsFile w own) (behind_none v) h
file_behind statements front v own (more {statement = statement} {others = others} {own = one} {rest = rest} e x m) h =
    more (ap (λ (us : List Token). us ++ own) e ∙ append_assoc one rest own) x (file_behind others rest v own m h) (sym (behind_more statement others v))

-- a file over these statements and what is ahead of them goes on with a file ahead
record Ahead (statements : List Statement) (v : Verdict (List Statement)) (ahead tail : List Token) : Type 0 where
  others : Verdict (List Statement)
  own : List Token
  fits : IsFile others own
  is : v ≡ behind statements others
  parts : ahead ≡ own ++ tail
  stops : VerdictStops IsAtEnd others (first tail)

ahead_of : (statements : List Statement) (front ahead all own tail : List Token) (v : Verdict (List Statement)) → AreEnded statements front → all ≡ front ++ ahead → IsFile v own → all ≡ own ++ tail → VerdictStops IsAtEnd v (first tail)
    → Ahead statements v ahead tail
ahead_of statements front ahead all own tail v none p h q s = record { others = v; own = own; fits = h; is = behind_none v; parts = sym p ∙ q; stops = s }
ahead_of statements front ahead all own tail v (more {statement = statement} {others = others} {own = one} {rest = rest} e x m) p h q s = elim (view v own tail all h q s) [
  | at_end at is ↦ absurd (let k = sym at ∙ begins_before_end (stands statement) one (rest ++ ahead) all split x.1 in cc)
  | goes w us begun read then ↦
      let same = same_read all w (stands statement) us (rest ++ ahead) read (ap reads split ∙ reads_ended statement one (rest ++ ahead) x) in
      let g : GoesBehind statement tail us v = subst (λ (b : Bool). Onward statement tail us v b) x.0 (subst (λ (y : Verdict Statement). Then tail us v y) same.0 then) in
      let a = ahead_of others rest ahead us g.own tail g.others m same.1 g.fits g.parts g.stops in
      record {
        others = a.others;
        own = a.own;
        fits = a.fits;
        is = g.is ∙ ap (λ (y : Verdict (List Statement)). verdict_map (λ (others : List Statement). statement ∷ others) y) a.is ∙ behind_more statement others a.others;
        parts = a.parts;
        stops = a.stops;
      }
] where
  split : all ≡ one ++ (rest ++ ahead)
  split = p ∙ ap (λ (us : List Token). us ++ ahead) e ∙ append_assoc one rest ahead

-- ---- items

items_then : (before items : List Item) (statements : List Statement) (statement : Statement) → AreItemsFrom before statements items → IsTaken items statement → AreItemsFrom before (statements ++ statement ∷ []) (items ++ item_of statement ∷ [])
unfolding AreItemsFrom
items_then before items [] statement same taken = (subst (λ (xs : List Item). IsTaken xs statement) (sym same) taken, ap (λ (xs : List Item). xs ++ item_of statement ∷ []) same)
items_then before items (one ∷ statements) statement made taken = (made.0, items_then (before ++ item_of one ∷ []) items statements statement made.1 taken)

items_once : (before a b : List Item) (statements : List Statement) → AreItemsFrom before statements a → AreItemsFrom before statements b → a ≡ b
unfolding AreItemsFrom
items_once before a b [] p q = sym p ∙ q
items_once before a b (one ∷ statements) p q = items_once (before ++ item_of one ∷ []) a b statements p.1 q.1

-- what is behind some statements is taken behind their items
items_behind : (before a b : List Item) (statements : List Statement) (statement : Statement) (others : List Statement) → AreItemsFrom before statements a → AreItemsFrom before (statements ++ statement ∷ others) b → IsTaken a statement
unfolding AreItemsFrom
items_behind before a b [] statement others same q = subst (λ (xs : List Item). IsTaken xs statement) same q.0
items_behind before a b (one ∷ statements) statement others p q = items_behind (before ++ item_of one ∷ []) a b statements statement others p.1 q.1

-- a first fault stands in no clear table
clear_or_fault : (rules : List Rule) (why : DefFault) → AreClear rules → IsFirstFault rules why → ⊥
clear_or_fault [] why c f = f
clear_or_fault (rule ∷ rules) why c (inl f) = c.0 why f
clear_or_fault (rule ∷ rules) why c (inr f) = clear_or_fault rules why c.1 f.1

-- no statement both stands and falls
taken_or_refused : (before : List Item) (statement : Statement) (e : DdlFault) → IsTaken before statement → IsRefused before statement e → ⊥
taken_or_refused before statement e t (inl r) = let k = sym t.0 ∙ r.0 in cc
taken_or_refused before statement e t (inr r) = elim r.1 [
  | inl f ↦ clear_or_fault (rules_of (item_of statement)) f.0 t.1.0 f.1
  | inr f ↦ let k = sym t.1.1 ∙ f.1 in cc
]

-- ---- the steps over a file

pub starts_so_far : (all : List Token) → FileSoFar all [] all
unfolding AreItemsFrom
starts_so_far all = record { statements = []; front = []; parts = refl; before = none; made = refl }

pub goes_so_far : (all ahead rest : List Token) (before items : List Item) → FileSoFar all before ahead → GoesOn before ahead items rest true → FileSoFar all items rest
goes_so_far all ahead rest before items f (inl g) = absurd (let k = g.1 in cc)
goes_so_far all ahead rest before items f (inr g) = record {
  statements = f.statements ++ g.0 ∷ [];
  front = f.front ++ g.1.own;
  parts = f.parts ∙ ap (λ (us : List Token). f.front ++ us) g.1.parts ∙ sym (append_assoc f.front g.1.own rest);
  before = ended_then f.statements f.front g.0 g.1.own f.before (sym g.2, g.1.fits);
  made = subst (λ (xs : List Item). AreItems (f.statements ++ g.0 ∷ []) xs) (sym g.4) (items_then [] before f.statements g.0 f.made g.3);
}

-- what is read whole is defined
pub whole_defined : (all : List Token) (items : List Item) → IsReadWhole all items → IsDefined all items
whole_defined all items (before, ahead, rest, f, inl g) = record {
  statements = f.statements ++ [];
  text = (ahead, record { own = f.front ++ []; parts = f.parts ∙ ap (λ (us : List Token). us ++ ahead) (sym (append-nil f.front)); fits = file_behind f.statements f.front (stands []) [] f.before empty; stops = g.0 });
  made = subst (λ (xs : List Item). AreItems (f.statements ++ []) xs) (sym g.2) (subst (λ (ss : List Statement). AreItems ss before) (sym (append-nil f.statements)) f.made);
}
whole_defined all items (before, ahead, rest, f, inr g) = record {
  statements = f.statements ++ g.0 ∷ [];
  text = (
    rest,
    record {
      own = f.front ++ g.1.own;
      parts = f.parts ∙ ap (λ (us : List Token). f.front ++ us) g.1.parts ∙ sym (append_assoc f.front g.1.own rest);
      fits = file_behind f.statements f.front (stands (g.0 ∷ [])) g.1.own f.before (last (sym g.2) g.1.fits);
      stops = subst (λ (b : Bool). EndsItems b (first rest)) (sym g.2) g.1.stops;
    },
  );
  made = subst (λ (xs : List Item). AreItems (f.statements ++ g.0 ∷ []) xs) (sym g.4) (items_then [] before f.statements g.0 f.made g.3);
}

-- a file's statements are those behind it, and what is ahead
ahead_in : (all ahead : List Token) (before items : List Item) (f : FileSoFar all before ahead) (d : IsDefined all items) → Ahead f.statements (stands d.statements) ahead d.text.0
ahead_in all ahead before items f d = ahead_of f.statements f.front ahead all d.text.1.own d.text.0 (stands d.statements) f.before f.parts d.text.1.fits d.text.1.parts d.text.1.stops

stands_same : (statements others : List Statement) (v : Verdict (List Statement)) → stands statements ≡ behind others v → v ≡ stands [] → statements ≡ others
stands_same statements others v e f =
    let k : stands statements ≡ stands (others ++ []) = e ∙ ap (behind others) f in
    let m : statements ≡ others ++ [] = cc in
    m ∙ append-nil others

stands_behind : (statements others more_of : List Statement) (v : Verdict (List Statement)) → stands statements ≡ behind others v → v ≡ stands more_of → statements ≡ others ++ more_of
stands_behind statements others more_of v e f =
    let k : stands statements ≡ stands (others ++ more_of) = e ∙ ap (behind others) f in
    cc

-- what is read whole is all that is defined
pub whole_only : (all : List Token) (items others : List Item) → IsReadWhole all items → IsDefined all others → items ≡ others
whole_only all items others (before, ahead, rest, f, inl g) d =
    let a = ahead_in all ahead before others f d in
    elim (view a.others a.own d.text.0 ahead a.fits a.parts a.stops) [
      | at_end at is ↦
          let same = stands_same d.statements f.statements a.others a.is is in
          g.2 ∙ items_once [] before others f.statements f.made (subst (λ (ss : List Statement). AreItems ss others) same d.made)
      | goes x us begun read then ↦ absurd (let k = sym g.0 ∙ begun in cc)
    ]
whole_only all items others (before, ahead, rest, f, inr g) d =
    let a = ahead_in all ahead before others f d in
    elim (view a.others a.own d.text.0 ahead a.fits a.parts a.stops) [
      | at_end at is ↦ absurd (let k = sym at ∙ begins_before_end (stands g.0) g.1.own rest ahead g.1.parts g.1.fits in cc)
      | goes x us begun read then ↦
          let same = same_read ahead x (stands g.0) us rest read (ap reads g.1.parts ∙ law.law.only (stands g.0) g.1.own rest g.1.fits g.1.stops) in
          let one : a.others ≡ stands (g.0 ∷ []) = subst (λ (b : Bool). Onward g.0 d.text.0 us a.others b) (sym g.2) (subst (λ (y : Verdict Statement). Then d.text.0 us a.others y) same.0 then) in
          let all_of = stands_behind d.statements f.statements (g.0 ∷ []) a.others a.is one in
          g.4 ∙ items_once [] (before ++ item_of g.0 ∷ []) others (f.statements ++ g.0 ∷ []) (items_then [] before f.statements g.0 f.made g.3) (subst (λ (ss : List Statement). AreItems ss others) all_of d.made)
    ]

-- ---- what falls

-- a fault of the grammar is told by its own name alone
same_fault : (a b : SyntaxFault) → of_syntax a ≡ of_syntax b → a ≡ b
same_fault (syntax.Unexpected m) (syntax.Unexpected n) e = cc
same_fault (syntax.UnknownSetting m) (syntax.UnknownSetting n) e = cc
same_fault (syntax.Twice m) (syntax.Twice n) e = cc
same_fault (syntax.Unsupported m) (syntax.Unsupported n) e = cc
same_fault (syntax.Unexpected m) (syntax.UnknownSetting n) e = absurd cc
same_fault (syntax.Unexpected m) (syntax.Twice n) e = absurd cc
same_fault (syntax.Unexpected m) (syntax.Unsupported n) e = absurd cc
same_fault (syntax.UnknownSetting m) (syntax.Unexpected n) e = absurd cc
same_fault (syntax.UnknownSetting m) (syntax.Twice n) e = absurd cc
same_fault (syntax.UnknownSetting m) (syntax.Unsupported n) e = absurd cc
same_fault (syntax.Twice m) (syntax.Unexpected n) e = absurd cc
same_fault (syntax.Twice m) (syntax.UnknownSetting n) e = absurd cc
same_fault (syntax.Twice m) (syntax.Unsupported n) e = absurd cc
same_fault (syntax.Unsupported m) (syntax.Unexpected n) e = absurd cc
same_fault (syntax.Unsupported m) (syntax.UnknownSetting n) e = absurd cc
same_fault (syntax.Unsupported m) (syntax.Twice n) e = absurd cc

-- no statement is refused for a fault of the grammar
no_syntax : (a : SyntaxFault) (before : List Item) (statement : Statement) → IsRefused before statement (of_syntax a) → ⊥
no_syntax (syntax.Unexpected n) before statement (inl r) = let k = r.1 in cc
no_syntax (syntax.UnknownSetting n) before statement (inl r) = let k = r.1 in cc
no_syntax (syntax.Twice n) before statement (inl r) = let k = r.1 in cc
no_syntax (syntax.Unsupported n) before statement (inl r) = let k = r.1 in cc
no_syntax (syntax.Unexpected n) before statement (inr r) = elim r.1 [ inl f ↦ let k = f.2 in cc | inr f ↦ let k = f.2 in cc ]
no_syntax (syntax.UnknownSetting n) before statement (inr r) = elim r.1 [ inl f ↦ let k = f.2 in cc | inr f ↦ let k = f.2 in cc ]
no_syntax (syntax.Twice n) before statement (inr r) = elim r.1 [ inl f ↦ let k = f.2 in cc | inr f ↦ let k = f.2 in cc ]
no_syntax (syntax.Unsupported n) before statement (inr r) = elim r.1 [ inl f ↦ let k = f.2 in cc | inr f ↦ let k = f.2 in cc ]

-- what a reading tells that fails: the grammar's fault, or that of a value that falls
told_fault : (r : Read (Verdict Statement)) (e : SyntaxFault) → (r >>= λ x. told x.0 x.1) ≡ Err e → (r ≡ Err e) ⊎ ((rest : List Token) × (r ≡ Ok (falls e, rest)))
told_fault (Ok x) e h = value x.0 x.1 h where
  value : (v : Verdict Statement) (us : List Token) → told v us ≡ Err e → (read_as v us ≡ Err e) ⊎ ((rest : List Token) × (read_as v us ≡ read_as (falls e) rest))
  value (stands b) us k = absurd cc
  value (falls f) us k = let same : f ≡ e = cc in inr (us, ap (λ (g : SyntaxFault). read_as (falls g) us) same)
told_fault (Err f) e h = inl (let same : f ≡ e = cc in ap (λ (g : SyntaxFault). Err g) same)

reading_fails : (ts : List Token) (e : SyntaxFault) → statement_at ts ≡ Err e → (reads ts ≡ Err e) ⊎ ((rest : List Token) × (reads ts ≡ Ok (falls e, rest)))
reading_fails ts e h = told_fault (reads ts) e (sym (law.tells ts) ∙ h)

-- no statements that stand are a file that begins with what doesn't
fallen_ahead : (statements : List Statement) (e : SyntaxFault) (v : Verdict (List Statement)) (others : List Statement) → stands statements ≡ behind others v → v ≡ falls e → ⊥
fallen_ahead statements e v others p q =
    let k : stands statements ≡ falls e = p ∙ ap (behind others) q in
    cc

-- a statement that is refused is behind items, and so are those of a file that has it
refused_ahead : (before items : List Item) (statements all_of : List Statement) (statement : Statement) (e : DdlFault) (tail rest : List Token) (v : Verdict (List Statement)) → IsRefused before statement e → AreItems statements before → AreItems all_of items
    → stands all_of ≡ behind statements v → (b : Bool) → Onward statement tail rest v b → ⊥
refused_ahead before items statements all_of statement e tail rest v refused made all_made is false only =
    taken_or_refused before statement e
    (items_behind [] before items statements statement [] made (subst (λ (ss : List Statement). AreItems ss items) (stands_behind all_of statements (statement ∷ []) v is only) all_made)) refused
refused_ahead before items statements all_of statement e tail rest v refused made all_made is true g = at g.others g.is where
  at : (w : Verdict (List Statement)) → v ≡ verdict_map (λ (behind : List Statement). statement ∷ behind) w → ⊥
  at (stands others) k =
      taken_or_refused before statement e
      (items_behind [] before items statements statement others made (subst (λ (ss : List Statement). AreItems ss items) (stands_behind all_of statements (statement ∷ others) v is k) all_made)) refused
  at (falls f) k = fallen_ahead all_of f v statements is k

pub falls_or_defined : (all : List Token) (e : DdlFault) (items : List Item) → FallsFor all e → IsDefined all items → ⊥
falls_or_defined all e items (before, ahead, f, (begun, inl r)) d =
    let a = ahead_in all ahead before items f d in
    elim (view a.others a.own d.text.0 ahead a.fits a.parts a.stops) [
      | at_end at is ↦ let k = sym at ∙ begun in cc
      | goes x us more_of read then ↦ elim (reading_fails ahead r.0 r.1) [
        | inl k ↦ let m = sym k ∙ read in cc
        | inr k ↦
            let same = same_read ahead x (falls r.0) us k.0 read k.1 in
            fallen_ahead d.statements r.0 a.others f.statements a.is (subst (λ (y : Verdict Statement). Then d.text.0 us a.others y) same.0 then)
      ]
    ]
falls_or_defined all e items (before, ahead, f, (begun, inr r)) d =
    let a = ahead_in all ahead before items f d in
    elim (view a.others a.own d.text.0 ahead a.fits a.parts a.stops) [
      | at_end at is ↦ let k = sym at ∙ begun in cc
      | goes x us more_of read then ↦
          let same = same_read ahead x (stands r.0) us r.1 read (ap reads r.2.parts ∙ law.law.only (stands r.0) r.2.own r.1 r.2.fits r.2.stops) in
          refused_ahead before items f.statements d.statements r.0 e d.text.0 us a.others r.3 f.made d.made a.is r.0.ended (subst (λ (y : Verdict Statement). Then d.text.0 us a.others y) same.0 then)
    ]

-- ---- the least place

-- a statement's tokens are a file
alone : (v : Verdict Statement) (own : List Token) → IsStatement v own → (w : Verdict (List Statement)) × IsFile w own
alone (falls e) own h = (falls e, fallen h)
alone (stands statement) own h = at statement.ended refl where
  at : (b : Bool) → statement.ended ≡ b → (w : Verdict (List Statement)) × IsFile w own
  at true e = (stands (statement ∷ []), more {others = stands []} (sym (append-nil own)) (e, h) empty refl)
  at false e = (stands (statement ∷ []), last e h)

-- a fault of the statement ahead is the file's
least_ahead : (all ahead : List Token) (before : List Item) (e : SyntaxFault) → FileSoFar all before ahead → is_at_end (first ahead) ≡ false → reads ahead ≡ Err e → IsLeast IsFile (VerdictStops IsAtEnd) all e
least_ahead all ahead before e f begun r =
    let p = law.law.least ahead e tt r in
    let one = alone p.value (p.before ++ p.more) p.can_go_on in
    record {
      before = f.front ++ p.before;
      rest = p.rest;
      parts = f.parts ∙ ap (λ (us : List Token). f.front ++ us) p.parts ∙ sym (append_assoc f.front p.before p.rest);
      place = p.place;
      value = behind f.statements one.0;
      more = p.more;
      can_go_on = subst (λ (us : List Token). IsFile (behind f.statements one.0) us) (sym (append_assoc f.front p.before p.more)) (file_behind f.statements f.front one.0 (p.before ++ p.more) f.before one.1);
      stuck = λ v others own tail o same fits stops.
          let a = ahead_of f.statements f.front (p.before ++ others) ((f.front ++ p.before) ++ others) own tail v f.before (append_assoc f.front p.before others) fits same stops in
          elim (view a.others a.own tail (p.before ++ others) a.fits a.parts a.stops) [
            | at_end at is ↦
                let later : is_at_end (first (p.before ++ others)) ≡ false = ap is_at_end (first_front p.before others p.rest o) ∙ ap (λ (us : List Token). is_at_end (first us)) (sym p.parts) ∙ begun in
                let k = sym at ∙ later in
                cc
            | goes x us more_of read then ↦ let k = sym read ∙ p.again others o in cc
          ];
    }

pub first_of_file : (all : List Token) (e : DdlFault) → FallsFor all e → IsLeastOfFile all e
first_of_file all e (before, ahead, f, (begun, inl r)) wanted is =
    let same : r.0 ≡ wanted = same_fault r.0 wanted (sym r.2 ∙ is) in
    elim (reading_fails ahead wanted (r.1 ∙ ap (λ (g : SyntaxFault). Err g) same)) [
      | inl k ↦ inl (least_ahead all ahead before wanted f begun k)
      | inr k ↦
          let p = law.law.found ahead (falls wanted) k.0 tt k.1 in
          inr (
            k.0,
            record {
              own = f.front ++ p.own;
              parts = f.parts ∙ ap (λ (us : List Token). f.front ++ us) p.parts ∙ sym (append_assoc f.front p.own k.0);
              fits = file_behind f.statements f.front (falls wanted) p.own f.before (fallen p.fits);
              stops = tt;
            },
          )
    ]
first_of_file all e (before, ahead, f, (begun, inr r)) wanted is = absurd (no_syntax wanted before r.0 (subst (λ (g : DdlFault). IsRefused before r.0 g) is r.3))
