-- The row is added, or its key is there.
use Rattle.std.proofs.Common.{◌≡◌, ◌<◌, ◌+◌, ◌/◌, ◌%◌, ◌^◌, ◌∙◌, ℕ, List, ap, arith, length, length-append, refl, subst, sym}
use Rattle.std.specs.Prelude.{None, Some}
use Rattle.hashed_layout.specs.KeyTables.{key_home, number_at, number_below_tag, tag_in, tag_of}
use Rattle.hashed_layout.proofs.KeyTableLemmas.{added-key, full-keys, kept-key, number-read, row-read, stops-moved, table-moved}
use Rattle.hashed_layout.proofs.complex.put.Goals as goal

pub unreachable-requires : goal.unreachable-requires
unreachable-requires c =
    let cells = c.args.cells.now.items in
    let key = c.index-keys-row.result in
    let all = stops-moved _ c.args.entries.now _ c.args.bytes.now _ cells key None c.as_slice.ensures c.as_slice-2.ensures c.as_slice-3.ensures.value c.in_default.ensures.ends in
    let some : 0 < length cells = omega arith in
    let home = subst (λ (z : List ℕ). 0 < length z → key_home (length z) key < length z) c.as_slice-3.ensures.value c.in_default.ensures.home in
    let none = full-keys c.args.entries.now c.args.bytes.now cells key (home some) all in
    omega (arith, none, c.requires.table.room)

pub returns-then-number_in-ne0-clause-table : goal.returns-then-number_in-ne0-clause-table
returns-then-number_in-ne0-clause-table c =
    let cells = c.args.cells.now.items in
    let key = c.index-keys-row.result in
    let at = c.in-Some.at in
    let stops = stops-moved _ c.args.entries.now _ c.args.bytes.now _ cells key (Some at) c.as_slice.ensures c.as_slice-2.ensures c.as_slice-3.ensures.value c.in-Some.ensures.ends in
    let within : at < length cells = subst (λ (z : List ℕ). at < length z) c.as_slice-3.ensures.value c.in-Some.ensures.within in
    let number = number-read cells at c.index.result.now within c.index.ensures in
    let here = row-read c.args.keys.now c.args.row key c.requires.row c.index-keys-row.is in
    kept-key c.args.keys.now c.args.bytes.now c.args.entries.now cells c.args.row key here c.requires.table at within stops (λ e. c.if-number_in-ne0.true (c.number_in.ensures ∙ (sym (ap number_below_tag number) ∙ e)))

pub returns-clause-table : goal.returns-clause-table
returns-clause-table c =
    let cells = c.args.cells.now.items in
    let key = c.index-keys-row.result in
    let at = c.in-Some.at in
    let stops = stops-moved _ c.args.entries.now _ c.args.bytes.now _ cells key (Some at) c.as_slice.ensures c.as_slice-2.ensures c.as_slice-3.ensures.value c.in-Some.ensures.ends in
    let within : at < length cells = subst (λ (z : List ℕ). at < length z) c.as_slice-3.ensures.value c.in-Some.ensures.within in
    let number = number-read cells at c.index.result.now within c.index.ensures in
    let here = row-read c.args.keys.now c.args.row key c.requires.row c.index-keys-row.is in
    let entries = c.args.entries.now in
    let long = ap length c.in_ok-push.ensures.ok ∙ length-append entries _ in
    let next : c.len.result ≡ length entries + 1 = omega (arith, c.len.ensures, long) in
    let none : c.number_in.result ≡ 0 = omega (arith, c.if-number_in-ne0.false) in
    let free : number_at cells at ≡ 0 = ap number_below_tag number ∙ (sym c.number_in.ensures ∙ none) in
    let tag : tag_in c.cell_of.result ≡ tag_of key = c.cell_of.ensures.tag ∙ (c.tag_of.ensures ∙ ap (λ n. n % 2 ^ 32 / 2 ^ 23) c.hash_of-bits.ensures) in
    table-moved c.args.keys.now (c.args.row + 1) _ _ _ _ _ c.in_ok-push_key.ensures c.in_ok-push.ensures.ok
    (added-key c.args.keys.now c.args.bytes.now entries cells c.args.row key here c.requires.table at within stops free _ (omega (arith, c.len-start.ensures)) refl
    c.cell_of.result (c.cell_of.ensures.number ∙ next) tag)
