use Rattle.std.proofs.Common.{◌≡◌, ◌<◌, length, rules, ◌∙◌}
use Rattle.std.specs.Prelude.{get_or}
use Rattle.std.proofs.lemmas.List.{get_or_default}
use Rattle.packed_rows.proofs.Packing.{fresh-empty, fresh-filled, fresh-packs, fresh-types}
use Rattle.packed_rows.proofs.builder.RowsBuilder.with_room.Goals as goal

pub loop-ty-preserved : goal.loop-ty-preserved
loop-ty-preserved c =
    let ts = c.args.types.now in
    let i = c.loop-ty.ty-index in
    let ty = c.empty_column.result.ty in
    let below : i < length ts = search rules in
    let at : ty ≡ get_or ts i ty = c.empty_column.ensures.0 ∙ get_or_default ts i _ ty below in
    record {
      types = rw c.in-Ok.ensures.items (fresh-types c.loop-ty.columns.items c.empty_column.result ts i c.loop-ty.invariant.types below at);
      empty = rw c.in-Ok.ensures.items (fresh-empty c.loop-ty.columns.items c.empty_column.result c.loop-ty.invariant.empty c.empty_column.ensures.1 c.empty_column.ensures.2);
      filled = rw c.in-Ok.ensures.items (fresh-filled c.loop-ty.columns.items c.empty_column.result c.loop-ty.invariant.filled c.empty_column.ensures.1 c.empty_column.ensures.2);
    }

pub invariant_of-result : goal.invariant_of-result
invariant_of-result c = fresh-packs c.loop-ty.columns.items c.room_for.result c.room_for.ensures c.loop-ty.invariant.filled c.loop-ty.invariant.empty
