use Rattle.std.proofs.Common.{◌≡◌, ◌∙◌, ◌++◌, ◌∷◌, [], ℕ, List, Some, ap, sym, subst, refl, arith, length, slice_get}
use Rattle.std.specs.List.{AllZip}
use Rattle.std.proofs.lemmas.Option.{same_Some}
use Rattle.dict_value.specs.Values.{FitsColumn}
use Rattle.dict_value.specs.declared.value.AttrType.{AttrType}
use Rattle.dict_value.specs.declared.value.Value.{Value}
use Rattle.dict_value.specs.declared.value.Value.TheVariants.{U, S}
use Rattle.packed_rows.specs.Packs.{Building}
use Rattle.overlay.proofs.tests.push_line.Goals as goal

-- the types of two values
record PairOf (types : List AttrType) (a b : Value) : Type 0 where
  pub first : AttrType
  pub second : AttrType
  pub are : types ≡ first ∷ second ∷ []
  pub fits_first : FitsColumn first a
  pub fits_second : FitsColumn second b

pair-of : (types : List AttrType) (a b : Value) → AllZip FitsColumn types (a ∷ b ∷ []) → PairOf types a b
pair-of [] a b z = absurd z
pair-of (t ∷ []) a b z = absurd z.1
pair-of (t ∷ u ∷ []) a b z = record { first = t; second = u; are = refl; fits_first = z.0; fits_second = z.1.0 }
pair-of (t ∷ u ∷ v ∷ types) a b z = absurd z.1.1

-- the type at a place of those that are held
named : (held types : List AttrType) (at n : ℕ) (known t : AttrType) → held ≡ types → at ≡ n → slice_get types n ≡ Some known → slice_get held at ≡ Some t → known ≡ t
named held types at n known t e same is found =
    same_Some known t (sym is ∙ ap (slice_get types) (sym same) ∙ ap (λ (ts : List AttrType). slice_get ts at) (sym e) ∙ found)

pub push_cell-requires-clause-fits : goal.push_cell-requires-clause-fits
push_cell-requires-clause-fits c = λ t e.
    let types = c.args.types.now in
    let p = pair-of types (U c.args.number) (S c.args.text.now) c.requires.pair in
    let same : p.first ≡ t = named c.args.rows.now.types types (length c.args.rows.now.open_row) 0 p.first t c.requires.between.types_are (ap length c.requires.between.none_open) (ap (λ (ts : List AttrType). slice_get ts 0) p.are) e in
    subst (λ (w : AttrType). FitsColumn w (U c.args.number)) same p.fits_first

pub push_cell-requires-2-clause-room : goal.push_cell-requires-2-clause-room
push_cell-requires-2-clause-room c =
    let p = pair-of c.args.types.now (U c.args.number) (S c.args.text.now) c.requires.pair in
    let ok = c.in_ok-push_cell.ensures.ok in
    let held : length c.push_cell.new.self.open_row ≡ 1 = ap (λ (b : Building). length b.open_row) ok ∙ ap (λ (row : List Value). length (row ++ U c.args.number ∷ [])) c.requires.between.none_open in
    let types : length c.push_cell.new.self.types ≡ 2 = ap (λ (b : Building). length b.types) ok ∙ ap length (c.requires.between.types_are ∙ p.are) in
    omega (arith, held, types)

pub push_cell-requires-2-clause-fits : goal.push_cell-requires-2-clause-fits
push_cell-requires-2-clause-fits c = λ t e.
    let types = c.args.types.now in
    let p = pair-of types (U c.args.number) (S c.args.text.now) c.requires.pair in
    let ok = c.in_ok-push_cell.ensures.ok in
    let held : length c.push_cell.new.self.open_row ≡ 1 = ap (λ (b : Building). length b.open_row) ok ∙ ap (λ (row : List Value). length (row ++ U c.args.number ∷ [])) c.requires.between.none_open in
    let same : p.second ≡ t = named c.push_cell.new.self.types types (length c.push_cell.new.self.open_row) 1 p.second t (ap (λ (b : Building). b.types) ok ∙ c.requires.between.types_are) held (ap (λ (ts : List AttrType). slice_get ts 1) p.are) e in
    subst (λ (w : AttrType). FitsColumn w (S c.args.text.now)) same p.fits_second

pub end_row-requires-clause-whole : goal.end_row-requires-clause-whole
end_row-requires-clause-whole c =
    let p = pair-of c.args.types.now (U c.args.number) (S c.args.text.now) c.requires.pair in
    let ok = c.in_ok-push_cell.ensures.ok in
    let next = c.in_ok-push_cell-2.ensures.ok in
    let row : List Value → List Value = λ r. (r ++ U c.args.number ∷ []) ++ S c.args.text.now ∷ [] in
    let held : length c.push_cell-2.new.self.open_row ≡ 2 = ap (λ (b : Building). length b.open_row) next ∙ ap (λ (b : Building). length (b.open_row ++ S c.args.text.now ∷ [])) ok ∙ ap (λ (r : List Value). length (row r)) c.requires.between.none_open in
    let types : length c.push_cell-2.new.self.types ≡ 2 = ap (λ (b : Building). length b.types) next ∙ ap (λ (b : Building). length b.types) ok ∙ ap length (c.requires.between.types_are ∙ p.are) in
    held ∙ sym types
