use Rattle.std.proofs.Common.{◌≤◌, ◌∙◌, List, inl, length, subst, sym}
use Rattle.std.specs.List.{concat}
use Rattle.dict_schema.specs.declared.definition.Column.{Column}
use Rattle.dict_schema.specs.declared.definition.ShapeColumn.{ShapeColumn}
use Rattle.rows_typed.specs.Fits.{HasFittingDefaults}
use Rattle.loader.proofs.Givings.{runs-made}
use Rattle.loader.proofs.RowsTaken.{decoded-taken}
use Rattle.loader.proofs.SoundLoads.{no_bad_default, output_few, shape-fits, shape_few}
use Rattle.loader.specs.Origins.{asked_since}
use Rattle.loader.specs.steps.Defaults.{ColumnsFit, NoBadDefault}
use Rattle.loader.specs.steps.Makings.{kept_in}
use Rattle.loader.proofs.loading.load_version.Goals as goal

pub see_defaults-requires : goal.see_defaults-requires
see_defaults-requires g c =
    subst (λ (columns : List Column). NoBadDefault columns) (sym c.as_slice.ensures) (no_bad_default c.args.d.now c.requires.sound)

pub read_child-requires-clause-output : goal.read_child-requires-clause-output
read_child-requires-clause-output g c = output_few c.args.d.now c.requires.sound

pub read_child-requires-clause-columns : goal.read_child-requires-clause-columns
read_child-requires-clause-columns g c =
    subst (λ (shape : List ShapeColumn). length shape ≤ 4294967295) (sym c.in_ok-columns.ensures) (shape_few c.args.d.now c.requires.sound)

pub read_child-requires-clause-defaults : goal.read_child-requires-clause-defaults
read_child-requires-clause-defaults g c =
    let fit = subst (λ (columns : List Column). ColumnsFit columns) c.as_slice.ensures c.see_defaults.ensures in
    subst (λ (shape : List ShapeColumn). HasFittingDefaults shape) (sym c.in_ok-columns.ensures) (shape-fits c.args.d.now fit)

pub make-requires-clause-takes : goal.make-requires-clause-takes
make-requires-clause-takes g c =
    let d = c.args.d.now in
    let fit = subst (λ (columns : List Column). ColumnsFit columns) c.as_slice.ensures c.see_defaults.ensures in
    let read = c.in_ok-fresh.ensures.read in
    decoded-taken d (concat read.pieces) c.in_ok-fresh.fresh (shape-fits d fit) read.given.2

pub returns-clause-loaded : goal.returns-clause-loaded
returns-clause-loaded g c =
    let d = c.args.d.now in
    let asked = asked_since d c.args.folder.now c.args.since in
    inl (runs-made _ g.S.Spawner.ran d c.as_slice-2.result.now asked (kept_in c.args.former.now) c.in_ok-fresh.fresh c.make.result
    (c.as_slice-2.ensures ∙ c.in_ok-words.ensures) c.in_ok-fresh.ensures.read c.make.ensures)
