use Rattle.std.proofs.Common.{◌≡◌, ◌++◌, ◌∙◌, ap, subst, sym}
use Rattle.std.proofs.lemmas.Result.{on_ok_weaker}
use Rattle.dict_value.specs.Values.{FitsColumn}
use Rattle.packed_rows.specs.Cells.{meaning}
use Rattle.packed_rows.specs.Columns.{cell_at}
use Rattle.dict_version.specs.Contents.{Contents}
use Rattle.dict_version.proofs.VersionCells.{kept-fits, kept-printed}
use Rattle.dict_version.proofs.version.Version.write_found.Goals as goal

pub print_cell-requires : goal.print_cell-requires
print_cell-requires g c =
    let it = c.self.inside in
    let same : it.rows ≡ c.args.self.now.rows = ap (λ (v : Contents). v.rows) c.self.view_is in
    rw c.as_slice.ensures
    (kept-fits it.definition it.rows it.moment it.types it.index it.hier c.self.invariant c.args.self.now c.self.view_is
    c.requires.stands.0 c.args.column c.requires.stands.1 c.requires.column _ (meaning c.args.cell.now)
    (ap (λ rows. cell_at rows c.requires.stands.0 c.args.column) same ∙ c.requires.stands.2))

pub returns-clause-ok : goal.returns-clause-ok
returns-clause-ok g c =
    let it = c.self.inside in
    let same : it.rows ≡ c.args.self.now.rows = ap (λ (v : Contents). v.rows) c.self.view_is in
    let ok = rw c.as_slice.ensures at c.print_cell.ensures.ok in
    on_ok_weaker c.print_cell.result
    (λ e. (
      _,
      (λ place low here. kept-printed it.definition it.rows it.moment it.types it.index it.hier c.self.invariant
          c.args.self.now c.self.view_is place c.args.column low c.requires.column _ (meaning c.args.cell.now)
          (ap (λ rows. cell_at rows place c.args.column) same ∙ here)),
      e,
    )) ok
