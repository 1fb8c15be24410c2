-- Lists that go side by side, of which only the second matters.
use Rattle.std.proofs.Common.{◌≡◌, ◌∷◌, [], List, length, arith}
use Rattle.std.specs.Prelude.{All}
use Rattle.std.specs.List.{AllZip}
use Rattle.std.proofs.lemmas.List.Elements.{All-head, All-tail}

-- what holds of each second one holds of each two
pub zip-of_second : {A B : Type 0} (P : B → Type 0) (xs : List A) (ys : List B) → length ys ≡ length xs → All P ys
    → AllZip (λ x y. P y) xs ys
zip-of_second P [] [] long all = tt
zip-of_second P [] (y ∷ ys) long all = absurd (omega (arith, long))
zip-of_second P (x ∷ xs) [] long all = absurd (omega (arith, long))
zip-of_second P (x ∷ xs) (y ∷ ys) long all = (All-head P y ys all, zip-of_second P xs ys (omega (arith, long)) (All-tail P y ys all))
