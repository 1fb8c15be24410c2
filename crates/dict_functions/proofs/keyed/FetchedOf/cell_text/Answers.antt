use Rattle.std.proofs.Common.{◌<◌, ◌++◌, ◌∙◌, List, length, inr, slice_get, sym, ap, subst}
use Rattle.dict_value.specs.declared.value.Value.{Value}
use Rattle.row_text.specs.Written.{printed}
use Rattle.dict_functions.proofs.FetchedCells.{cell-fits, cell-within}
use Rattle.dict_functions.proofs.SideBySide.{item-here}
use Rattle.dict_functions.proofs.Unfitting.{named-at}
use Rattle.dict_functions.proofs.keyed.FetchedOf.cell_text.Goals as goal

pub bounds-as_slice-self : goal.bounds-as_slice-self
bounds-as_slice-self c =
    let it = c.args.self.now in
    let of = c.requires.of in
    let low : it.cell < length c.args.row.now =
    rw of.cell_is (cell-within it.d.now of.sound it.attribute.now.place it.column.now of.here of.of.named.attribute c.args.row.now c.requires.fits) in
    subst (λ (r : List Value). it.cell < length r) (sym c.as_slice.ensures) low

pub print_value-requires : goal.print_value-requires
print_value-requires c =
    let it = c.args.self.now in
    let of = c.requires.of in
    let v = c.index-as_slice-self.result in
    let low : it.cell < length c.args.row.now =
    rw of.cell_is (cell-within it.d.now of.sound it.attribute.now.place it.column.now of.here of.of.named.attribute c.args.row.now c.requires.fits) in
    let at = ap (slice_get c.args.row.now) (sym of.cell_is) ∙ item-here c.as_slice.result.now c.args.row.now it.cell v c.as_slice.ensures low c.index-as_slice-self.is in
    inr (cell-fits it.d.now of.sound it.attribute.now.place it.column.now of.here of.of.named.attribute c.args.row.now c.requires.fits v at)

pub returns-in-Ok : goal.returns-in-Ok
returns-in-Ok c =
    let it = c.args.self.now in
    let of = c.requires.of in
    let v = c.index-as_slice-self.result in
    let low : it.cell < length c.args.row.now =
    rw of.cell_is (cell-within it.d.now of.sound it.attribute.now.place it.column.now of.here of.of.named.attribute c.args.row.now c.requires.fits) in
    let at = ap (slice_get c.args.row.now) (sym of.cell_is) ∙ item-here c.as_slice.result.now c.args.row.now it.cell v c.as_slice.ensures low c.index-as_slice-self.is in
    record {
      place = it.attribute.now.place;
      column = it.column.now;
      named = named-at it.d.now it.q.now.attribute it.attribute.now.place of.of.column it.column.now of.of.named of.here;
      is = (v, at, c.in-Ok.ensures.ok ∙ ap (λ l. l ++ printed it.column.now.ty.base v) c.new-text.ensures);
    }
