-- The calls of a child, one after another.
use Rattle.std.proofs.Common.{◌≡◌, ℕ, ◌+◌, List, [], ◌∷◌, ◌++◌, length, map, take, drop, Err, Ok, append_assoc, append-nil, refl, ap, sym, ◌∙◌, subst}
use Rattle.std.proofs.Math.Seq.{take-add, take-length}
use Rattle.std.proofs.lemmas.List.{map-append, take-append-drop}
use Rattle.std.proofs.lemmas.List.Folds.{concat-append}
use Rattle.std.specs.List.{concat}
use Rattle.dict_io.specs.declared.outside.Failed.{Failed}
use Rattle.child_io.specs.Calls.{Act, History, Takes, write_took, write_failed, input_closed, read_gave}
use Rattle.child_io.specs.Runs.{AreCalls, heard, IsEnding, Order}
use Rattle.child_io.specs.steps.Fed.{FeedCalls}
use Rattle.child_io.specs.steps.Heard.{HearCalls}
use Rattle.child_io.specs.declared.pieces.PieceEnd.{PieceEnd}

-- one more call of a row of them
pub map-more : (f : List ℕ → Act) (acts : List Act) (xs : List (List ℕ)) (x : List ℕ) → (acts ++ map f xs) ++ f x ∷ [] ≡ acts ++ map f (xs ++ x ∷ [])
map-more f acts xs x = append_assoc acts (map f xs) (f x ∷ []) ∙ ap (λ z. acts ++ z) (sym (map-append f xs (x ∷ [])))

-- so far writes took this much of the input
abbrev pub Writing : {C : Type 0} → History C → C → List ℕ → ℕ → C → Type 0
Writing {C} history old input done now = (first : C) (acts : List Act) → history first acts old
    → (chunks : List (List ℕ)) × (concat chunks ≡ take done input) × history first (acts ++ map write_took chunks) now

-- so far these pieces were read
abbrev pub Reading : {C : Type 0} → History C → C → ℕ → C → List (List ℕ) → Type 0
Reading {C} history old read_ms now pieces = (first : C) (acts : List Act) → history first acts old → history first (acts ++ map (read_gave read_ms) pieces) now

module _ {C : Type 0} (history : History C) (old now new : C) where
  pub writing-next : (input : List ℕ) (done n : ℕ) → Writing history old input done now → Takes history now (write_took (take n (drop done input))) new → Writing history old input (done + n) new
  writing-next input done n so takes = λ first acts h.
      let w = so first acts h in
      let x = take n (drop done input) in
      let all : concat (w.0 ++ x ∷ []) ≡ take (done + n) input = concat-append w.0 (x ∷ []) ∙ ap (λ z. z ++ (x ++ [])) w.1 ∙ ap (λ z. take done input ++ z) (append-nil x) ∙ sym (take-add done n input) in
      (w.0 ++ x ∷ [], all, subst (λ z. history first z new) (map-more write_took acts w.0 x) (takes first (acts ++ map write_took w.0) w.2))

  pub writing-failed : (input : List ℕ) (done : ℕ) (failed : Failed) → Writing history old input done now → Takes history now write_failed new → FeedCalls history old input (Err failed) new
  writing-failed input done failed so takes = λ first acts h.
      let w = so first acts h in
      let all : concat w.0 ++ drop done input ≡ input = ap (λ z. z ++ drop done input) w.1 ∙ take-append-drop done input in
      (map write_took w.0 ++ write_failed ∷ [], (w.0, (drop done input, all), refl), subst (λ z. history first z new) (append_assoc acts (map write_took w.0) (write_failed ∷ [])) (takes first (acts ++ map write_took w.0) w.2))

  pub reading-next : (read_ms : ℕ) (piece : List ℕ) → Takes history now (read_gave read_ms piece) new → (pieces : List (List ℕ)) → Reading history old read_ms now pieces → Reading history old read_ms new (pieces ++ piece ∷ [])
  reading-next read_ms piece takes pieces so = λ first acts h. subst (λ z. history first z new) (map-more (read_gave read_ms) acts pieces piece) (takes first (acts ++ map (read_gave read_ms) pieces) (so first acts h))

  -- the read that ends it
  pub reading-ends : (limit read_ms : ℕ) (end : PieceEnd) (act : Act) (pieces : List (List ℕ)) → Takes history now act new → IsEnding limit read_ms pieces end (act ∷ []) → Reading history old read_ms now pieces → HearCalls history old limit read_ms end new pieces
  reading-ends limit read_ms end act pieces takes is so = λ first acts h.
      (act ∷ [], is, subst (λ z. history first z new) (append_assoc acts (map (read_gave read_ms) pieces) (act ∷ [])) (takes first (acts ++ map (read_gave read_ms) pieces) (so first acts h)))

-- the read that finds the end, and the wait
pub reading-waits : {C : Type 0} (history : History C) (old now mid new : C) (limit read_ms : ℕ) (end : PieceEnd) (act last : Act) (pieces : List (List ℕ)) → Takes history now act mid → Takes history mid last new → IsEnding limit read_ms pieces end (act ∷ last ∷ []) → Reading history old read_ms now pieces → HearCalls history old limit read_ms end new pieces
reading-waits history old now mid new limit read_ms end act last pieces takes waits is so = λ first acts h.
    let front = acts ++ map (read_gave read_ms) pieces in
    let same : (front ++ act ∷ []) ++ last ∷ [] ≡ acts ++ (map (read_gave read_ms) pieces ++ act ∷ last ∷ []) =
    append_assoc front (act ∷ []) (last ∷ []) ∙ append_assoc acts (map (read_gave read_ms) pieces) (act ∷ last ∷ []) in
    (act ∷ last ∷ [], is, subst (λ z. history first z new) same (waits first (front ++ act ∷ []) (takes first front (so first acts h))))

pub writing-none : {C : Type 0} (history : History C) (old : C) (input : List ℕ) → Writing history old input 0 old
writing-none history old input = λ first acts h. ([], refl, subst (λ z. history first z old) (sym (append-nil acts)) h)

pub writing-done : {C : Type 0} (history : History C) (old now : C) (input : List ℕ) (done : ℕ) → done ≡ length input → Writing history old input done now → FeedCalls history old input (Ok tt) now
writing-done history old now input done e so = λ first acts h.
    let w = so first acts h in
    (map write_took w.0, (w.0, w.1 ∙ ap (λ n. take n input) e ∙ take-length input, refl), w.2)

pub reading-none : {C : Type 0} (history : History C) (old : C) (read_ms : ℕ) → Reading history old read_ms old []
reading-none history old read_ms = λ first acts h. subst (λ z. history first z old) (sym (append-nil acts)) h

-- the calls of a run whose input was written
pub run-calls : {C : Type 0} (history : History C) (first fed closed last : C) (order : Order) (end : PieceEnd) (pieces : List (List ℕ))
    → history first [] first → FeedCalls history first order.input (Ok tt) fed → Takes history fed input_closed closed
    → HearCalls history closed order.limit order.read_ms end last pieces → (acts : List Act) × history first acts last × AreCalls order pieces end acts
run-calls history first fed closed last order end pieces start feeds closes hears =
    let w = feeds first [] start in
    let e = hears first (w.0 ++ input_closed ∷ []) (closes first w.0 w.2) in
    ((w.0 ++ input_closed ∷ []) ++ (map (read_gave order.read_ms) pieces ++ e.0), e.2, heard w.0 e.0 w.1 e.1 (append_assoc w.0 (input_closed ∷ []) (map (read_gave order.read_ms) pieces ++ e.0)))
