use Rattle.std.proofs.Common.{rules, ◌<◌, ◌∷◌, ◌++◌, ◌∙◌, [], ℕ, List, Err, length, sym, ap, subst, arith, append_assoc}
use Rattle.std.specs.Prelude.{slice_get}
use Rattle.std.specs.Vec.Iter.{into_iter_items}
use Rattle.std.proofs.lemmas.List.{length-append}
use Rattle.dict_value.specs.declared.value.Field.{Field}
use Rattle.row_text.specs.declared.decode.RowFault.{RowFault}
use Rattle.row_text.specs.steps.DecodeSteps.{TakeAll, column_fault}
use Rattle.row_text.proofs.Readings.{Unless, read-fault, read-more, readings-none}
use Rattle.row_text.proofs.decode.read_values.Goals as goal

pub loop-field-init : goal.loop-field-init
loop-field-init g c = record {
  split = sym (c.into_iter-field-iterator.ensures.into_iter_gives.0 ∙ c.into_vec-field-items.ensures);
  left = search rules;
  count = ap length c.in-Ok.ensures;
  read = rw c.in-Ok.ensures (readings-none (g.C.Columns.columns c.args.columns.now));
}

pub returns-in-Err : goal.returns-in-Err
returns-in-Err g c =
    let columns = g.C.Columns.columns c.args.columns.now in
    let before = c.loop-field.invariant in
    let split = before.split ∙ ap (λ (t : List Field). c.loop-field.yielded ++ t) c.in-Some.ensures.steps.0 in
    let below : length c.loop-field.yielded < length columns = omega (arith, ap length split, c.requires.count, length-append c.loop-field.yielded (c.in-Some.field ∷ into_iter_items c.next.new.self)) in
    subst (λ (fault : RowFault). Unless fault (TakeAll columns c.args.fields (Err fault))) (sym (c.of_column.ensures ∙ ap (λ (n : ℕ). column_fault n c.in-Err.fault) c.len-in-Err.ensures))
    (read-fault columns c.args.fields c.loop-field.yielded c.in-Some.field (into_iter_items c.next.new.self) c.loop-field.row c.in-Err.fault split before.count below before.read
    (λ column here. c.in-Err.ensures column (ap (slice_get _) (c.len-in-loop-field.ensures ∙ before.count) ∙ here)))

pub loop-field-preserved : goal.loop-field-preserved
loop-field-preserved g c =
    let columns = g.C.Columns.columns c.args.columns.now in
    let before = c.loop-field.invariant in
    let split = before.split ∙ ap (λ (t : List Field). c.loop-field.yielded ++ t) c.in-Some.ensures.steps.0 in
    let below : length c.loop-field.yielded < length columns = omega (arith, ap length split, c.requires.count, length-append c.loop-field.yielded (c.in-Some.field ∷ into_iter_items c.next.new.self)) in
    let pushed = c.in-Ok-push.ensures.ok in
    record {
      split = split ∙ sym (append_assoc c.loop-field.yielded (c.in-Some.field ∷ []) (into_iter_items c.next.new.self));
      left = omega (arith, c.in-Some.ensures.steps.1, before.left, ap length c.in-Some.ensures.steps.0);
      count = omega (arith, ap length pushed, before.count, length-append c.loop-field.row (c.in-Ok-read.value ∷ []), length-append c.loop-field.yielded (c.in-Some.field ∷ []));
      read = rw pushed (read-more columns c.loop-field.yielded c.in-Some.field c.loop-field.row c.in-Ok-read.value below before.read
          (λ column here. c.in-Ok-read.ensures column (ap (slice_get _) (c.len-in-loop-field.ensures ∙ before.count) ∙ here)));
    }
