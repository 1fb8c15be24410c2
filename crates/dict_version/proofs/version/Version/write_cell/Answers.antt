use Rattle.std.proofs.Common.{◌≡◌, ◌++◌, ◌∙◌, ap, subst, sym}
use Rattle.std.proofs.lemmas.Result.{on_ok_weaker}
use Rattle.dict_value.specs.Values.{FitsColumn}
use Rattle.packed_rows.specs.Cells.{meaning}
use Rattle.dict_version.proofs.VersionCells.{is-some, kept-fits, kept-printed, seen-cell}
use Rattle.dict_version.proofs.version.Version.write_cell.Goals as goal

pub cell-cell-requires : goal.cell-cell-requires
cell-cell-requires g c =
    let it = c.self.inside in
    let cell = seen-cell it.definition it.rows it.moment it.types it.index it.hier c.self.invariant c.args.self.now c.self.view_is
    c.args.place c.args.column c.requires.place c.requires.column in
    is-some _ _ cell.cell

pub print_cell-requires : goal.print_cell-requires
print_cell-requires g c =
    let it = c.self.inside in
    rw c.as_slice.ensures
    (kept-fits it.definition it.rows it.moment it.types it.index it.hier c.self.invariant c.args.self.now c.self.view_is
    c.args.place c.args.column c.requires.place c.requires.column _ (meaning c.cell-cell.result) c.cell-cell.ensures)

pub returns-clause-ok : goal.returns-clause-ok
returns-clause-ok g c =
    let it = c.self.inside in
    let at = kept-printed it.definition it.rows it.moment it.types it.index it.hier c.self.invariant c.args.self.now c.self.view_is
    c.args.place c.args.column c.requires.place c.requires.column _ (meaning c.cell-cell.result) c.cell-cell.ensures in
    let ok = rw c.as_slice.ensures at c.print_cell.ensures.ok in
    on_ok_weaker c.print_cell.result (λ e. (_, at, e)) ok
