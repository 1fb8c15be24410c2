use Rattle.std.proofs.Common.{Bool, List, All, subst, sym}
use Rattle.std.proofs.lemmas.List.Elements.{All-nil}
use Rattle.dict_schema.specs.declared.definition.Item.{Item}
use Rattle.dict_schema.specs.Sound.{IsSoundItem}
use Rattle.ddl_text.specs.Files.{FileSoFar, GoesOn}
use Rattle.ddl_text.proofs.Counts.{items_few}
use Rattle.ddl_text.proofs.FileLaws.{goes_so_far, starts_so_far}
use Rattle.ddl_text.proofs.file.read_items.Goals as goal

pub loop-items-init : goal.loop-items-init
loop-items-init c = record {
  so_far = subst (λ (items : List Item). FileSoFar c.args.r.now items c.args.r.now) (sym c.new-items.ensures) (starts_so_far c.args.r.now);
  sound = subst (λ (items : List Item). All IsSoundItem items) (sym c.new-items.ensures) (All-nil IsSoundItem);
}

pub next_item-requires : goal.next_item-requires
next_item-requires c = items_few c.loop-items.items c.loop-items.invariant.so_far.statements c.loop-items.invariant.so_far.made

pub loop-items-preserved : goal.loop-items-preserved
loop-items-preserved c = record {
  so_far =
      goes_so_far c.args.r.now c.loop-items.r c.next_item.new.r c.loop-items.items c.next_item.new.items c.loop-items.invariant.so_far
      (subst (λ (more : Bool). GoesOn c.loop-items.items c.loop-items.r c.next_item.new.items c.next_item.new.r more) c.if-branch.true c.in_ok-next_item.ensures.value);
  sound = c.in_ok-next_item.ensures.sound c.loop-items.invariant.sound;
}
