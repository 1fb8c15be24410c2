use Rattle.std.proofs.Common.{◌<◌, ◌++◌, ◌∙◌, length, ap, arith, subst, sym}
use Rattle.std.specs.Prelude.{All}
use Rattle.std.specs.List.{AllZip}
use Rattle.std.proofs.lemmas.List.{take_all}
use Rattle.std.proofs.lemmas.List.Elements.{All-get_or, All-more}
use Rattle.cache_layout.specs.Fetching.{CanBeSent}
use Rattle.dict_value.specs.Values.{FitsColumn}
use Rattle.row_text.specs.Written.{written_row}
use Rattle.dict_functions.proofs.sending.can_be_sent.Goals as goal

pub loop-place-preserved : goal.loop-place-preserved
loop-place-preserved c =
    let types = c.args.types.now in
    let rows = c.args.rows.now in
    let i = c.loop-place.place in
    let row = c.index-rows-place.result in
    let low : i < length rows = c.loop-place-test.true in
    let written = c.in_ok-write_values.ensures.ok ∙ ap (λ l. l ++ written_row c.args.format types c.as_slice.result.now) c.clear.ensures
    ∙ ap (written_row c.args.format types) c.as_slice.ensures in
    let long = ap length written in
    let fits : AllZip FitsColumn types row = subst (AllZip FitsColumn types) (sym c.index-rows-place.is) (All-get_or (AllZip FitsColumn types) rows i row low c.requires.fits) in
    let here : CanBeSent c.args.format types row = record { fits = fits; small = omega (arith, long) } in
    All-more (CanBeSent c.args.format types) rows i row low c.loop-place.invariant (subst (CanBeSent c.args.format types) c.index-rows-place.is here)

pub returns-clause-yes : goal.returns-clause-yes
returns-clause-yes c = λ e.
    subst (All (CanBeSent c.args.format c.args.types.now)) (take_all c.loop-place.place c.args.rows.now c.loop-place-test.false) c.loop-place.invariant
