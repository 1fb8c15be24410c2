use Rattle.std.proofs.Common.{◌≡◌, ◌∙◌, ℕ, List, None, Option, ap, arith, length, rules, subst, sym}
use Rattle.std.specs.Prelude.{MatchOption}
use Rattle.std.proofs.lemmas.Result.{err_from_is_err_and}
use Rattle.dict_schema.specs.Shapes.{cell_types, shape_of}
use Rattle.dict_value.specs.declared.value.AttrType.{AttrType}
use Rattle.overlay.proofs.OneOverlay.{overlay-types}
use Rattle.overlay.specs.Overlays.{HaveTypes}
use Rattle.dict_version.specs.Lookups.{lookup_by}
use Rattle.dict_version.specs.Rows.{IsRefusedBy, LayoutTakesBy}
use Rattle.dict_version.specs.declared.fault.LayoutFault.TheVariants as refusal
use Rattle.loader.proofs.Givings.{taken-refused}
use Rattle.loader.proofs.RowsTaken.{overlay-taken}
use Rattle.loader.proofs.SoundLoads.{keys_shown, some_key, updated_layout}
use Rattle.loader.specs.steps.Makings.{kept_in}
use Rattle.loader.proofs.making.update.Goals as goal

pub first_untaken-requires : goal.first_untaken-requires
first_untaken-requires g c = updated_layout c.args.d.now c.requires.sound c.requires.update

pub lay-requires-clause-keys : goal.lay-requires-clause-keys
lay-requires-clause-keys g c =
    let d = c.args.d.now in
    let types : c.as_slice.result.now ≡ cell_types (shape_of d) = c.as_slice.ensures ∙ c.in_ok-types.ensures ∙ ap cell_types c.requires.shape in
    let some = some_key d c.requires.sound in
    let shown = keys_shown d c.requires.sound in
    let long = ap length types in
    (omega (arith, some, c.len.ensures), omega (arith, shown, c.len.ensures, long))

pub copy_rows-requires-clause-fit : goal.copy_rows-requires-clause-fit
copy_rows-requires-clause-fit g c =
    let d = c.args.d.now in
    let types : c.as_slice-2.result.now ≡ cell_types (shape_of d) = c.as_slice-2.ensures ∙ c.in_ok-types.ensures ∙ ap cell_types c.requires.shape in
    subst (λ (ts : List AttrType). HaveTypes ts c.in_ok-rows.rows) (sym types)
    (overlay-types (cell_types (shape_of d)) c.len.result (kept_in c.args.former.now) c.args.fresh.now c.in_ok-rows.rows c.requires.former.takes c.requires.takes c.in_ok-rows.ensures.laid)

pub build-requires-clause-takes : goal.build-requires-clause-takes
build-requires-clause-takes g c =
    overlay-types (cell_types (shape_of c.args.d.now)) c.len.result (kept_in c.args.former.now) c.args.fresh.now c.in_ok-rows.rows c.requires.former.takes c.requires.takes c.in_ok-rows.ensures.laid

pub returns-in_err-version : goal.returns-in_err-version
returns-in_err-version g c =
    let d = c.args.d.now in
    let none : c.first_untaken.result ≡ None = search rules in
    let fresh_taken : LayoutTakesBy (lookup_by d.layout) c.args.fresh.now =
    subst (λ (o : Option ℕ). MatchOption o (LayoutTakesBy (lookup_by d.layout) c.args.fresh.now) (λ key. IsRefusedBy (lookup_by d.layout) c.args.fresh.now (refusal.KeyTooLarge key))) none c.first_untaken.ensures in
    let taken = overlay-taken (lookup_by d.layout) c.len.result (kept_in c.args.former.now) c.args.fresh.now c.in_ok-rows.rows c.in_ok-rows.ensures.laid c.requires.former.taken fresh_taken in
    let p = err_from_is_err_and c.from_residual-in_err-version.result c.from_residual-in_err-version.ensures.1 in
    rw (p.1, p.2) (taken-refused ℕ d (kept_in c.args.former.now) c.args.fresh.now c.in_ok-rows.rows c.in_err-version.field-0.0 taken c.in_err-version.ensures)
