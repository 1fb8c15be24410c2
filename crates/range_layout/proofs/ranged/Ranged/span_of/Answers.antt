-- The span at the least place is the key's.
use Rattle.std.proofs.Common.{◌≡◌, arith, subst}
use Rattle.std.proofs.lemmas.Option.{get_or_from_slice_get}
use Rattle.range_layout.specs.Kept.{IsSpanOf}
use Rattle.range_layout.specs.steps.Filling.{span_at}
use Rattle.range_layout.proofs.ranged.Ranged.span_of.Goals as goal

pub returns-then-place-len-clause-found : goal.returns-then-place-len-clause-found
returns-then-place-len-clause-found g c = λ keys ends strategy is.
    let self = c.args.self.now in
    let key = c.args.key.now in
    let place = c.in_ok-place.field-0 in
    let least = c.in_ok-place.ensures keys is.table_is in
    let at : span_at self.spans place ≡ c.at.result = get_or_from_slice_get self.spans place c.at.result (record { start = 0; end = 0 }) c.at.ensures.item in
    ((place, least.equal), subst (IsSpanOf keys ends strategy self.edges self.winners key) at (is.each key place least).1)

pub returns-else-place-len-clause-found : goal.returns-else-place-len-clause-found
returns-else-place-len-clause-found g c = λ keys ends strategy is place has.
    let least = c.in_ok-place.ensures keys is.table_is in
    let within = (is.each c.args.key.now c.in_ok-place.field-0 least).0 in
    let past = c.if-place-len.false in
    let len = c.len.ensures in
    omega (arith, within, past, len)
