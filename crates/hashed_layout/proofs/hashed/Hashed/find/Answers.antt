-- What the probes came to is what is found.
use Rattle.std.proofs.Common.{◌<◌, ℕ, List, arith, length, subst, sym}
use Rattle.std.specs.Prelude.{Option, None, Some}
use Rattle.dict_value.specs.FindByKey.{FindsByKey}
use Rattle.hashed_layout.specs.Probing.{home_of}
use Rattle.hashed_layout.specs.Tables.{held}
use Rattle.hashed_layout.specs.declared.hashed.Cell.{Cell}
use Rattle.hashed_layout.specs.steps.Filling.{ProbesEndAt}
use Rattle.hashed_layout.proofs.TableLemmas.{found-free, found-nowhere, found-taken, read}
use Rattle.hashed_layout.proofs.hashed.Hashed.find.Goals as goal

abbrev Ends : ℕ → Option ℕ → List Cell → Type 0
Ends key end cells = ProbesEndAt (length cells) (home_of (length cells) key) (held cells) key end

pub returns-in_err-at : goal.returns-in_err-at
returns-in_err-at c = λ keys table.
    let cells = c.args.self.now.cells.items in
    let all = subst (Ends c.args.key None) c.as_slice.ensures.value c.in_err-at.ensures.ends in
    subst (FindsByKey keys c.args.key) (sym c.from_residual.ensures) (found-nowhere keys cells c.args.key table all)

pub returns-then-next-eq0 : goal.returns-then-next-eq0
returns-then-next-eq0 c = λ keys table.
    let cells = c.args.self.now.cells.items in
    let lands = subst (Ends c.args.key (Some c.in_ok-at.at)) c.as_slice.ensures.value c.in_ok-at.ensures.ends in
    let within : c.in_ok-at.at < length cells = subst (λ (z : List Cell). c.in_ok-at.at < length z) c.as_slice.ensures.value c.in_ok-at.ensures.within in
    found-free keys cells c.args.key c.in_ok-at.at c.index.result.now table lands (read cells c.in_ok-at.at c.index.result.now within c.index.ensures) c.if-next-eq0.true

pub returns-else-next-eq0 : goal.returns-else-next-eq0
returns-else-next-eq0 c = λ keys table.
    let cells = c.args.self.now.cells.items in
    let lands = subst (Ends c.args.key (Some c.in_ok-at.at)) c.as_slice.ensures.value c.in_ok-at.ensures.ends in
    let within : c.in_ok-at.at < length cells = subst (λ (z : List Cell). c.in_ok-at.at < length z) c.as_slice.ensures.value c.in_ok-at.ensures.within in
    found-taken keys cells c.args.key c.in_ok-at.at c.index.result.now table lands (read cells c.in_ok-at.at c.index.result.now within c.index.ensures) (omega arith)
