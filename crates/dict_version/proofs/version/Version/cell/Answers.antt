use Rattle.std.proofs.Common.{◌≡◌}
use Rattle.dict_version.proofs.VersionCells.{is-some, seen-cell}
use Rattle.dict_version.proofs.version.Version.cell.Goals as goal

pub cell-requires : goal.cell-requires
cell-requires g c =
    let it = c.self.inside in
    let cell = seen-cell it.definition it.rows it.moment it.types it.index it.hier c.self.invariant c.args.self.now c.self.view_is
    c.args.place c.args.column c.requires.place c.requires.column in
    is-some _ _ cell.cell
