-- From the empty table to that of all rows.
use Rattle.std.proofs.Common.{◌≡◌, ◌*◌, ◌∙◌, ℕ, List, [], ap, arith, length, subst, sym}
use Rattle.std.proofs.lemmas.List.{length-replicate}
use Rattle.hashed_layout.specs.declared.complex.Entry.{Entry}
use Rattle.hashed_layout.specs.steps.KeyFilling.{IsKeyTableTo}
use Rattle.hashed_layout.proofs.KeyTableLemmas.{all-rows, no-rows}
use Rattle.hashed_layout.proofs.complex.Complex.build.Goals as goal

pub loop-row-init : goal.loop-row-init
loop-row-init c =
    let n = 2 * length c.args.keys.now in
    let is = c.in-Ok.ensures.items_if_clones_equal (λ y e. e) in
    record {
      len = ap length is ∙ length-replicate n 0;
      table = subst (λ (x : List ℕ). IsKeyTableTo c.args.keys.now 0 x c.in_ok-entries.entries c.in-Ok.cells.items) (sym c.in_ok-bytes.ensures)
          (subst (λ (x : List Entry). IsKeyTableTo c.args.keys.now 0 [] x c.in-Ok.cells.items) (sym c.in_ok-entries.ensures)
          (subst (λ (x : List ℕ). IsKeyTableTo c.args.keys.now 0 [] [] x) (sym is) (no-rows c.args.keys.now n)));
    }

pub returns : goal.returns
returns c =
    let all : c.loop-row.row ≡ length c.args.keys.now = omega arith in
    all-rows c.args.keys.now c.loop-row.bytes c.loop-row.entries c.loop-row.cells.items
    (subst (λ n. IsKeyTableTo c.args.keys.now n c.loop-row.bytes c.loop-row.entries c.loop-row.cells.items) all c.loop-row.invariant.table)
