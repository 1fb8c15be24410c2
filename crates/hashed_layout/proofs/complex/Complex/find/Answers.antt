-- What the probes came to is what is found.
use Rattle.std.proofs.Common.{◌≡◌, ◌<◌, ◌-◌, ◌∙◌, ℕ, List, ap, length, subst, sym}
use Rattle.std.specs.Prelude.{None, Some}
use Rattle.dict_value.specs.FindByKey.{FindsByKey}
use Rattle.hashed_layout.specs.KeyTables.{number_at, number_below_tag}
use Rattle.hashed_layout.proofs.KeyTableLemmas.{entry-read, found-free, found-nowhere, found-taken, number-read, stops-moved}
use Rattle.hashed_layout.proofs.complex.Complex.find.Goals as goal

pub returns-in_err-at : goal.returns-in_err-at
returns-in_err-at c = λ keys table.
    let it = c.args.self.now in
    let all = stops-moved _ it.entries _ it.bytes _ it.cells.items c.args.key.now None c.as_slice.ensures c.as_slice-2.ensures c.as_slice-3.ensures.value c.in_err-at.ensures.ends in
    subst (FindsByKey keys c.args.key.now) (sym c.from_residual.ensures) (found-nowhere keys it.bytes it.entries it.cells.items c.args.key.now table all)

pub returns-then-number-eq0 : goal.returns-then-number-eq0
returns-then-number-eq0 c = λ keys table.
    let it = c.args.self.now in
    let stops = stops-moved _ it.entries _ it.bytes _ it.cells.items c.args.key.now (Some c.in_ok-at.at) c.as_slice.ensures c.as_slice-2.ensures c.as_slice-3.ensures.value c.in_ok-at.ensures.ends in
    let within : c.in_ok-at.at < length it.cells.items = subst (λ (z : List ℕ). c.in_ok-at.at < length z) c.as_slice-3.ensures.value c.in_ok-at.ensures.within in
    let number = number-read it.cells.items c.in_ok-at.at c.index.result.now within c.index.ensures in
    found-free keys it.bytes it.entries it.cells.items c.args.key.now table c.in_ok-at.at within stops (ap number_below_tag number ∙ (sym c.number_in-number.ensures ∙ c.if-number-eq0.true))

pub returns-in-Some : goal.returns-in-Some
returns-in-Some c = λ keys table.
    let it = c.args.self.now in
    let at = c.in_ok-at.at in
    let stops = stops-moved _ it.entries _ it.bytes _ it.cells.items c.args.key.now (Some at) c.as_slice.ensures c.as_slice-2.ensures c.as_slice-3.ensures.value c.in_ok-at.ensures.ends in
    let within : at < length it.cells.items = subst (λ (z : List ℕ). at < length z) c.as_slice-3.ensures.value c.in_ok-at.ensures.within in
    let number = number-read it.cells.items at c.index.result.now within c.index.ensures in
    let h = c.in-Some.ensures.lookup in
    let held : c.number_in-number.result ≡ number_at it.cells.items at = c.number_in-number.ensures ∙ sym (ap number_below_tag number) in
    let entry = entry-read _ it.entries (c.number_in-number.result - 1) (number_at it.cells.items at - 1) c.in-Some.entry.now c.as_slice-4.ensures (ap (λ n. n - 1) held) h.3.0 h.1 in
    found-taken keys it.bytes it.entries it.cells.items c.args.key.now table at c.in-Some.entry.now within stops (λ e. c.if-number-eq0.false (held ∙ e)) entry
