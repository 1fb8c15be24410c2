use Rattle.std.proofs.Common.{◌<◌, length, arith, option_map, rules, slice_get}
use Rattle.std.proofs.lemmas.List.{length-map}
use Rattle.dict_version.specs.Keys.{key_number}
use Rattle.packed_rows.specs.Cells.{meaning}
use Rattle.loader.proofs.LargeKeys.{below-all, below-more, key-here}
use Rattle.loader.proofs.making.first_large_key.Goals as goal

pub loop-place-preserved : goal.loop-place-preserved
loop-place-preserved c =
    let rows = c.args.rows.now in
    let place = c.loop-place.place in
    let key = c.number_in-key.result in
    let within : place < length rows = omega (arith, c.loop-place-test.true, c.len-place-end.ensures) in
    let low : key < c.args.limit = search rules in
    below-more rows c.args.limit place key c.loop-place.invariant (key-here rows place key (option_map meaning c.get.result) within c.get.ensures c.number_in-key.ensures) low

pub returns : goal.returns
returns c =
    let rows = c.args.rows.now in
    let long = length-map rows (λ row. key_number (slice_get row 0)) in
    below-all rows c.args.limit c.loop-place.place c.loop-place.invariant (omega (arith, long, c.loop-place-test.false, c.len-place-end.ensures))
