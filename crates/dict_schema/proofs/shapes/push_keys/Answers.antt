use Rattle.std.proofs.Common.{◌≡◌, ◌+◌, ◌++◌, ◌∷◌, [], ℕ, List, length, take, ap, subst, sym, ◌∙◌, arith}
use Rattle.std.proofs.lemmas.List.{take_more, take_all}
use Rattle.dict_schema.specs.declared.definition.Role.TheVariants.{Key}
use Rattle.dict_schema.specs.declared.definition.ShapeColumn.{ShapeColumn}
use Rattle.dict_schema.specs.Shapes.{columns_at}
use Rattle.dict_schema.proofs.ShapePlaces.{more-columns}
use Rattle.dict_schema.proofs.shapes.push_keys.Goals as goal

pub loop-key-preserved : goal.loop-key-preserved
loop-key-preserved c =
    let keys = c.as_slice-key-items.result.now in
    let pushed = more-columns c.args.d.now Key c.args.shape.now c.loop-key.shape c.push_column.new.shape (take c.loop-key.key-index keys) (c.from.result ∷ []) c.loop-key.invariant c.in_ok-push_column.ensures in
    let next : take c.loop-key.key-index keys ++ c.from.result ∷ [] ≡ take (c.loop-key.key-index + 1) keys =
    ap (λ (k : ℕ). take c.loop-key.key-index keys ++ k ∷ []) c.from.ensures ∙ sym (take_more keys c.loop-key.key-index 0 c.loop-key-test.true) in
    subst (λ (places : List ℕ). c.push_column.new.shape ≡ c.args.shape.now ++ columns_at c.args.d.now Key places) next pushed

pub returns : goal.returns
returns c =
    let keys = c.as_slice-key-items.result.now in
    let all : take c.loop-key.key-index keys ≡ c.args.d.now.keys = take_all c.loop-key.key-index keys c.loop-key-test.false ∙ c.as_slice-key-items.ensures in
    subst (λ (places : List ℕ). c.loop-key.shape ≡ c.args.shape.now ++ columns_at c.args.d.now Key places) all c.loop-key.invariant
