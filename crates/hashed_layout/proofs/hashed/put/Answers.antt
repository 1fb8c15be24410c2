-- The row is added, or its key is there.
use Rattle.std.proofs.Common.{◌<◌, ℕ, List, arith, get_or, length, subst}
use Rattle.hashed_layout.specs.Probing.{home_of}
use Rattle.hashed_layout.specs.Tables.{held}
use Rattle.hashed_layout.specs.declared.hashed.Cell.{Cell}
use Rattle.hashed_layout.specs.steps.Filling.{ProbesEndAt}
use Rattle.hashed_layout.proofs.TableLemmas.{added, full, home-within, kept, lands-free, lands-taken, read}
use Rattle.std.specs.Prelude.{Option, None, Some}
use Rattle.hashed_layout.proofs.hashed.put.Goals as goal

abbrev Ends : ℕ → Option ℕ → List Cell → Type 0
Ends key end cells = ProbesEndAt (length cells) (home_of (length cells) key) (held cells) key end

pub unreachable-requires : goal.unreachable-requires
unreachable-requires c =
    let cells = c.args.cells.now.items in
    let key = get_or c.args.keys.now c.args.row 0 in
    let all = subst (Ends key None) c.as_slice.ensures.value c.in_default.ensures.ends in
    let some : 0 < length cells = omega arith in
    let none = full cells (home_of (length cells) key) key (home-within (length cells) key some) all in
    omega (arith, none, c.requires.table.room)

pub returns-then-index-eq0-clause-table : goal.returns-then-index-eq0-clause-table
returns-then-index-eq0-clause-table c =
    let cells = c.args.cells.now.items in
    let key = get_or c.args.keys.now c.args.row 0 in
    let lands = subst (Ends key (Some c.in-Some.at)) c.as_slice.ensures.value c.in-Some.ensures.ends in
    let within : c.in-Some.at < length cells = subst (λ (z : List Cell). c.in-Some.at < length z) c.as_slice.ensures.value c.in-Some.ensures.within in
    let here = read cells c.in-Some.at c.index.result.now within c.index.ensures in
    added c.args.keys.now cells c.args.row c.in-Some.at _ within c.requires.table lands (lands-free cells c.in-Some.at c.index.result.now here c.if-index-eq0.true) (omega arith) (omega arith)

pub returns-else-index-eq0-clause-table : goal.returns-else-index-eq0-clause-table
returns-else-index-eq0-clause-table c =
    let cells = c.args.cells.now.items in
    let key = get_or c.args.keys.now c.args.row 0 in
    let lands = subst (Ends key (Some c.in-Some.at)) c.as_slice.ensures.value c.in-Some.ensures.ends in
    let within : c.in-Some.at < length cells = subst (λ (z : List Cell). c.in-Some.at < length z) c.as_slice.ensures.value c.in-Some.ensures.within in
    let here = read cells c.in-Some.at c.index.result.now within c.index.ensures in
    kept c.args.keys.now cells c.args.row c.in-Some.at c.requires.table lands (lands-taken cells (home_of (length cells) key) key c.in-Some.at c.index.result.now lands here c.if-index-eq0.false)
