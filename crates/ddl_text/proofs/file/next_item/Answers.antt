use Rattle.std.proofs.Common.{Bool, List, All, Err, subst, sym}
use Rattle.std.proofs.lemmas.List.Elements.{All-push}
use Rattle.std.proofs.lemmas.Result.{err_from_is_err_and}
use Rattle.dict_schema.specs.declared.definition.Item.{Item}
use Rattle.dict_schema.specs.Sound.{IsSoundItem}
use Rattle.ddl_text.specs.Items.{IsRefused, IsTaken}
use Rattle.ddl_text.specs.Files.{IfFault}
use Rattle.ddl_text.proofs.Steps.{begins_here, ends_here, item_fails, item_follows, statement_fails}
use Rattle.ddl_text.proofs.file.next_item.Goals as goal

pub returns-then-is_at_end-clause-value : goal.returns-then-is_at_end-clause-value
returns-then-is_at_end-clause-value c = ends_here c.args.items.now c.args.r.now c.is_at_end.result c.is_at_end.ensures c.if-is_at_end.true

pub returns-in_err-statement : goal.returns-in_err-statement
returns-in_err-statement c =
    let p = err_from_is_err_and c.from_residual.result c.from_residual.ensures.1 in
    let begun = begins_here c.args.r.now c.is_at_end.result c.is_at_end.ensures c.if-is_at_end.false in
    rw (p.1, p.2) (record { value = tt; refused = statement_fails Bool c.args.items.now c.args.r.now c.statement.new.r c.in_err-statement.field-0.0 begun c.in_err-statement.ensures.value; sound = tt; shorter = tt })

pub returns-in_err-item : goal.returns-in_err-item
returns-in_err-item c =
    let p = err_from_is_err_and c.from_residual-in_err-item.result c.from_residual-in_err-item.ensures.1 in
    let begun = begins_here c.args.r.now c.is_at_end.result c.is_at_end.ensures c.if-is_at_end.false in
    rw (p.1, p.2) (record {
      value = tt;
      refused = item_fails Bool c.args.items.now c.args.r.now c.statement.new.r c.in_ok-statement.statement c.in_err-item.field-0.0 begun c.in_ok-statement.ensures.value
          (subst (λ (items : List Item). IfFault {X = Item} (Err c.in_err-item.field-0.0) (IsRefused items c.in_ok-statement.statement)) c.as_slice.ensures c.in_err-item.ensures.refused);
      sound = tt;
      shorter = tt;
    })

pub returns : goal.returns
returns c = record {
  value = item_follows c.args.items.now c.push.new.self c.args.r.now c.statement.new.r c.in_ok-statement.statement c.in_ok-item.item c.in_ok-statement.ensures.value c.in_ok-item.ensures.taken.0 (subst (λ (items : List Item). IsTaken items c.in_ok-statement.statement) c.as_slice.ensures c.in_ok-item.ensures.taken.1) c.in_ok-push.ensures.ok;
  refused = tt;
  sound = λ all. subst (λ (items : List Item). All IsSoundItem items) (sym c.in_ok-push.ensures.ok) (All-push IsSoundItem c.args.items.now c.in_ok-item.item all (c.in_ok-item.ensures.sound c.in_ok-statement.ensures.sound));
  shorter = λ more. c.in_ok-statement.ensures.shorter;
}
