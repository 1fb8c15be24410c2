use Rattle.std.proofs.Common.{◌≡◌, ◌<◌, ◌≤◌, ◌++◌, ◌∷◌, ◌∙◌, [], length, take, sym, ap, arith, rules}
use Rattle.std.proofs.lemmas.List.{take_all}
use Rattle.std.proofs.lemmas.Slice.Zip.{AllZip-long}
use Rattle.dict_value.specs.Values.{FitsColumn}
use Rattle.row_text.specs.Written.{written_fields}
use Rattle.dict_functions.proofs.SentRows.{fits-at, written-more}
use Rattle.dict_functions.proofs.sending.written_fields.Goals as goal

pub bounds-types-place : goal.bounds-types-place
bounds-types-place c = omega (arith, c.loop-place-test.true, AllZip-long FitsColumn c.args.types.now c.args.values.now c.requires)

pub written_field-requires : goal.written_field-requires
written_field-requires c =
    let types = c.args.types.now in
    let values = c.args.values.now in
    let low : c.loop-place.place < length types = omega (arith, c.loop-place-test.true, AllZip-long FitsColumn types values c.requires) in
    fits-at types values c.loop-place.place _ c.index-values-place.result c.requires low c.index-values-place.is

pub loop-place-preserved : goal.loop-place-preserved
loop-place-preserved c =
    let types = c.args.types.now in
    let values = c.args.values.now in
    let i = c.loop-place.place in
    let f = c.in_ok-written_field.field-0 in
    let low : i < length values = c.loop-place-test.true in
    let also : i < length types = omega (arith, low, AllZip-long FitsColumn types values c.requires) in
    let grew : c.push.new.self ≡ c.loop-place.fields ++ f ∷ [] = search rules in
    grew ∙ ap (λ l. l ++ f ∷ []) c.loop-place.invariant
    ∙ ap (λ x. written_fields (take i types) (take i values) ++ x ∷ []) c.in_ok-written_field.ensures
    ∙ sym (written-more types values i _ c.index-values-place.result also low c.index-values-place.is)

pub returns : goal.returns
returns c =
    let types = c.args.types.now in
    let values = c.args.values.now in
    let i = c.loop-place.place in
    let past : length values ≤ i = c.loop-place-test.false in
    let also : length types ≤ i = omega (arith, past, AllZip-long FitsColumn types values c.requires) in
    c.loop-place.invariant ∙ ap (λ l. written_fields l (take i values)) (take_all i types also) ∙ ap (written_fields types) (take_all i values past)
