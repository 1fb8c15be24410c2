use Rattle.std.proofs.Common.{◌≡◌, subst, ap, sym, refl, ◌∙◌, false, inr}
use Rattle.std.proofs.lemmas.Result.{err_from_is_err_and}
use Rattle.dict_schema.specs.declared.definition.Item.{Item}
use Rattle.dict_schema.specs.Sound.{IsSoundItem}
use Rattle.ddl_clauses.specs.declared.parts.Sizes.{Sizes}
use Rattle.ddl_text.specs.Items.{IsRefusedItem, IsTakenItem, count_of, is_full, sizes_of}
use Rattle.ddl_text.proofs.Counts.{sound_item}
use Rattle.ddl_text.proofs.Steps.{full, refused_made}
use Rattle.ddl_text.proofs.judging.take.Goals as goal

pub returns-in_err-item-clause-refused : goal.returns-in_err-item-clause-refused
returns-in_err-item-clause-refused c =
    let p = err_from_is_err_and c.from_residual.result c.from_residual.ensures.1 in
    let few : is_full c.args.before.now c.args.statement ≡ false = full _ _ _ refl (c.count_of.ensures ∙ ap (λ k. count_of k c.args.before.now) c.number_of_written.ensures) c.if-count_of-ge-MOST.false in
    rw (p.1, p.2) (refused_made c.args.before.now c.args.statement c.in_err-item.field-0.0 few c.in_err-item.ensures.refused)

pub returns-in_err-judge-clause-refused : goal.returns-in_err-judge-clause-refused
returns-in_err-judge-clause-refused c =
    let p = err_from_is_err_and c.from_residual-in_err-judge.result c.from_residual-in_err-judge.ensures.1 in
    let few : is_full c.args.before.now c.args.statement ≡ false = full _ _ _ refl (c.count_of.ensures ∙ ap (λ k. count_of k c.args.before.now) c.number_of_written.ensures) c.if-count_of-ge-MOST.false in
    let judged = subst (λ (sizes : Sizes). IsRefusedItem c.args.before.now c.in_ok-item.item sizes c.args.statement.place c.in_err-judge.field-0.0) c.sizes_of-sizes.ensures c.in_err-judge.ensures in
    rw (p.1, p.2) (inr (few, subst (λ (item : Item). IsRefusedItem c.args.before.now item (sizes_of c.args.statement.written) c.args.statement.place c.in_err-judge.field-0.0) c.in_ok-item.ensures.made judged))

pub returns-clause-taken : goal.returns-clause-taken
returns-clause-taken c =
    let few : is_full c.args.before.now c.args.statement ≡ false = full _ _ _ refl (c.count_of.ensures ∙ ap (λ k. count_of k c.args.before.now) c.number_of_written.ensures) c.if-count_of-ge-MOST.false in
    (c.in_ok-item.ensures.made, (few, subst (λ (item : Item). IsTakenItem c.args.before.now item) c.in_ok-item.ensures.made c.in_ok-judge.ensures))

pub returns-clause-sound : goal.returns-clause-sound
returns-clause-sound c = λ types.
    let judged = subst (λ (item : Item). IsTakenItem c.args.before.now item) c.in_ok-item.ensures.made c.in_ok-judge.ensures in
    subst (λ (item : Item). IsSoundItem item) (sym c.in_ok-item.ensures.made) (sound_item c.args.statement.written types judged.0)
