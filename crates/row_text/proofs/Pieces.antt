-- Rows that end in a piece.
use Rattle.std.proofs.Common.{◌≡◌, ◌+◌, ◌-◌, ◌∷◌, ◌++◌, ◌∙◌, [], ℕ, List, length, take, drop, sym, ap, arith, append_assoc}
use Rattle.std.specs.List.{flat_map}
use Rattle.std.proofs.lemmas.List.{append-nil, drop_at, length-append, take_all, take_at}
use Rattle.std.proofs.lemmas.List.Concat.{flat_map-append}
use Rattle.dict_value.specs.declared.letters.TheConstants.{LINE_FEED}
use Rattle.row_text.specs.Cutting.{ended}

-- what stands before the row end
pub front-of : (left front tail : List ℕ) (count : ℕ) → left ≡ front ++ LINE_FEED ∷ tail → count ≡ length front + 1 → take (count - 1) left ≡ front
front-of left front tail count e n = rw e (take_at front (LINE_FEED ∷ tail) (count - 1) (omega arith))

-- what stands behind it
pub rest-of : (left front tail : List ℕ) (count : ℕ) → left ≡ front ++ LINE_FEED ∷ tail → count ≡ length front + 1 → take (length left - count) (drop count left) ≡ tail
rest-of left front tail count e n =
    let split : left ≡ (front ++ LINE_FEED ∷ []) ++ tail = e ∙ sym (append_assoc front (LINE_FEED ∷ []) tail) in
    let at : length (front ++ LINE_FEED ∷ []) ≡ count = length-append front (LINE_FEED ∷ []) ∙ omega arith in
    let behind : drop count left ≡ tail = ap (drop count) split ∙ drop_at (front ++ LINE_FEED ∷ []) tail count at in
    let size : length left ≡ count + length tail = ap length split ∙ length-append (front ++ LINE_FEED ∷ []) tail ∙ ap (λ (k : ℕ). k + length tail) at in
    rw behind (take_all (length left - count) tail (omega arith))

-- one more row
pub joined-more : (text row left front tail : List ℕ) (rows : List (List ℕ)) → text ≡ flat_map ended rows ++ (row ++ left) → left ≡ front ++ LINE_FEED ∷ tail
    → text ≡ flat_map ended (rows ++ (row ++ front) ∷ []) ++ tail
joined-more text row left front tail rows e split =
    let end : row ++ left ≡ ended (row ++ front) ++ tail =
    ap (λ (t : List ℕ). row ++ t) split ∙ sym (append_assoc row front (LINE_FEED ∷ tail)) ∙ sym (append_assoc (row ++ front) (LINE_FEED ∷ []) tail) in
    e ∙ ap (λ (t : List ℕ). flat_map ended rows ++ t) end ∙ sym (append_assoc (flat_map ended rows) (ended (row ++ front)) tail)
    ∙ ap (λ (t : List ℕ). t ++ tail) (ap (λ (t : List ℕ). flat_map ended rows ++ t) (sym (append-nil (ended (row ++ front)))) ∙ sym (flat_map-append ended rows ((row ++ front) ∷ [])))
