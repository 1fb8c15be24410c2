-- The columns of a shape, place by place.
use Rattle.std.proofs.Common.{◌≡◌, ◌<◌, ℕ, zero, suc, ◌+◌, List, [], ◌∷◌, ◌++◌, Bool, true, false, length, take, get_or, refl, sym, ap, subst, ◌∙◌, arith, append_assoc, add-one, slice_get, if◌then◌else◌}
use Rattle.std.specs.List.{filter, filter_map, range_with_len}
use Rattle.std.specs.Option.{option_map}
use Rattle.std.proofs.lemmas.List.{take_more, append-nil}
use Rattle.std.proofs.lemmas.List.Elements.{filter-append, filter_map-append}
use Rattle.dict_schema.specs.declared.definition.Definition.{Definition}
use Rattle.dict_schema.specs.declared.definition.Role.{Role}
use Rattle.dict_schema.specs.declared.definition.ShapeColumn.{ShapeColumn}
use Rattle.dict_schema.specs.Shapes.{columns_at, shape_column}

-- the columns at two lists of places
pub columns-append : (d : Definition) (role : Role) (xs ys : List ℕ) → columns_at d role (xs ++ ys) ≡ columns_at d role xs ++ columns_at d role ys
columns-append d role xs ys = filter_map-append (λ place. option_map (shape_column role) (slice_get d.columns place)) xs ys

-- a shape that gets the columns of one more place
pub more-columns : (d : Definition) (role : Role) (shape before after : List ShapeColumn) (places more : List ℕ) → before ≡ shape ++ columns_at d role places → after ≡ before ++ columns_at d role more → after ≡ shape ++ columns_at d role (places ++ more)
more-columns d role shape before after places more p q =
    q ∙ ap (λ (z : List ShapeColumn). z ++ columns_at d role more) p ∙ append_assoc shape (columns_at d role places) (columns_at d role more)
    ∙ ap (λ (z : List ShapeColumn). shape ++ z) (sym (columns-append d role places more))

-- one more number
pub range-more : (a n : ℕ) → range_with_len a (n + 1) ≡ range_with_len a n ++ ((a + n) ∷ [])
range-more a n = ap (range_with_len a) (add-one n) ∙ go a n
  where
    go : (a n : ℕ) → range_with_len a (suc n) ≡ range_with_len a n ++ ((a + n) ∷ [])
    go a zero = let e : a ≡ a + 0 = omega arith in ap (λ (k : ℕ). k ∷ []) e
    go a (suc n) =
        let e : (a + 1) + n ≡ a + suc n = omega arith in
        ap (λ (z : List ℕ). a ∷ z) (go (a + 1) n ∙ ap (λ (k : ℕ). range_with_len (a + 1) n ++ k ∷ []) e)

zero-plus : (n : ℕ) → 0 + n ≡ n
zero-plus n = omega arith

-- the places below one more that pass a test
filter-one : (p : ℕ → Bool) (n : ℕ) (b : Bool) → p n ≡ b → filter p (n ∷ []) ≡ (if b then n ∷ [] else [])
filter-one p n b h = ap (λ (t : Bool). if t then n ∷ [] else []) h

filter-next : (p : ℕ → Bool) (n : ℕ) → filter p (range_with_len 0 (n + 1)) ≡ filter p (range_with_len 0 n) ++ filter p (n ∷ [])
filter-next p n =
    ap (filter p) (range-more 0 n) ∙ filter-append p (range_with_len 0 n) ((0 + n) ∷ [])
    ∙ ap (λ (k : ℕ). filter p (range_with_len 0 n) ++ filter p (k ∷ [])) (zero-plus n)

pub filter-passed : (p : ℕ → Bool) (n : ℕ) → p n ≡ true → filter p (range_with_len 0 (n + 1)) ≡ filter p (range_with_len 0 n) ++ n ∷ []
filter-passed p n h = filter-next p n ∙ ap (λ (z : List ℕ). filter p (range_with_len 0 n) ++ z) (filter-one p n true h)

pub filter-left : (p : ℕ → Bool) (n : ℕ) → p n ≡ false → filter p (range_with_len 0 (n + 1)) ≡ filter p (range_with_len 0 n)
filter-left p n h =
    filter-next p n ∙ ap (λ (z : List ℕ). filter p (range_with_len 0 n) ++ z) (filter-one p n false h) ∙ append-nil (filter p (range_with_len 0 n))
