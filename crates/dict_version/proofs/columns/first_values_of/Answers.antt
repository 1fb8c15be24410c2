use Rattle.std.proofs.Common.{◌≡◌, ◌∷◌, ◌++◌, [], arith, rules, take}
use Rattle.dict_version.proofs.RowCells.{row-grown}
use Rattle.dict_version.proofs.columns.first_values_of.Goals as goal

pub loop-place-preserved : goal.loop-place-preserved
loop-place-preserved c =
    row-grown (take c.args.count) c.args.rows.now c.loop-place.place c.loop-place.lists.items c.push.new.self.items c.in_ok-list.list
    c.loop-place.invariant (omega arith) (search rules) (λ row here. c.in_ok-list.ensures row here)
