use Rattle.std.proofs.Common.{◌≡◌, ◌<◌, ◌++◌, ◌∙◌, Err, List, Some, length, ap, slice_get, subst, sym}
use Rattle.std.proofs.lemmas.Option.{slice_get_within}
use Rattle.dict_schema.specs.declared.definition.Column.{Column}
use Rattle.row_text.specs.Written.{printed}
use Rattle.wire_text.specs.declared.reply.ReplyFault.{ReplyFault}
use Rattle.dict_functions.specs.Refusals.{IsUnfitting}
use Rattle.dict_functions.proofs.SideBySide.{item-here}
use Rattle.dict_functions.proofs.Unfitting.{bad-default, named-at, stand-in-fits, unknown-attribute}
use Rattle.dict_functions.proofs.asking.attribute_of.Goals as goal

pub returns-in_default : goal.returns-in_default
returns-in_default c = λ other. unknown-attribute c.args.d.now c.args.q.now c.requires.verb c.in_default.ensures

pub bounds-as_slice-place : goal.bounds-as_slice-place
bounds-as_slice-place c =
    let named = c.in-Some.ensures in
    subst (λ (xs : List Column). c.in-Some.place < length xs) (sym c.as_slice.ensures)
    (slice_get_within c.args.d.now.columns c.in-Some.place named.0 named.1.here)

pub returns-in-Err : goal.returns-in-Err
returns-in-Err c = λ other.
    let d = c.args.d.now in
    let q = c.args.q.now in
    let place = c.in-Some.place in
    let column = c.index-as_slice-place.result in
    let named = c.in-Some.ensures in
    let here : slice_get d.columns place ≡ Some column = item-here c.as_slice.result.now d.columns place column c.as_slice.ensures
    (slice_get_within d.columns place named.0 named.1.here) c.index-as_slice-place.is in
    subst (λ (f : ReplyFault). IsUnfitting d q f) (sym c.default_fault.ensures)
    (bad-default d q place column c.in-Err.fault c.requires.verb (named-at d q.attribute place named.0 column named.1 here)
    (λ e. c.stand_in.ensures.bad (c.in-Err.is ∙ ap Err e))
    (λ e. other (ap Err (c.default_fault.ensures ∙ e))))

pub print_value-requires : goal.print_value-requires
print_value-requires c =
    let d = c.args.d.now in
    let q = c.args.q.now in
    let place = c.in-Some.place in
    let column = c.index-as_slice-place.result in
    let named = c.in-Some.ensures in
    let here : slice_get d.columns place ≡ Some column = item-here c.as_slice.result.now d.columns place column c.as_slice.ensures
    (slice_get_within d.columns place named.0 named.1.here) c.index-as_slice-place.is in
    stand-in-fits d c.requires.sound q.verb place column q.fallback c.in-Ok.value here c.in-Ok.ensures.ok

pub returns-in-Ok-print_value : goal.returns-in-Ok-print_value
returns-in-Ok-print_value c = λ other.
    let d = c.args.d.now in
    let q = c.args.q.now in
    let place = c.in-Some.place in
    let column = c.index-as_slice-place.result in
    let named = c.in-Some.ensures in
    let here : slice_get d.columns place ≡ Some column = item-here c.as_slice.result.now d.columns place column c.as_slice.ensures
    (slice_get_within d.columns place named.0 named.1.here) c.index-as_slice-place.is in
    record {
      column = column;
      value = c.in-Ok.value;
      named = named-at d q.attribute place named.0 column named.1 here;
      stands = c.in-Ok.ensures.ok;
      missing = c.in-Ok-print_value.ensures.ok ∙ ap (λ l. l ++ printed column.ty.base c.in-Ok.value) c.new-missing.ensures;
    }
