-- From the empty table to that of all rows.
use Rattle.std.proofs.Common.{◌≡◌, ◌*◌, ◌∙◌, List, ap, arith, length, refl, subst, sym}
use Rattle.std.proofs.lemmas.List.{length-replicate}
use Rattle.hashed_layout.specs.declared.hashed.Cell.{Cell}
use Rattle.hashed_layout.specs.steps.Filling.{IsTableTo}
use Rattle.hashed_layout.proofs.TableLemmas.{none-yet, whole}
use Rattle.hashed_layout.proofs.hashed.Hashed.build.Goals as goal

pub loop-row-init : goal.loop-row-init
loop-row-init c =
    let n = 2 * length c.args.keys.now in
    let is = c.in-Ok.ensures.items_if_clones_equal (λ y e. e) in
    record {
      len = ap length is ∙ length-replicate n _;
      table = subst (λ (z : List Cell). IsTableTo c.args.keys.now 0 z) (sym is) (none-yet c.args.keys.now n _ refl);
    }

pub returns : goal.returns
returns c =
    let cells = c.loop-row.cells.items in
    let all : c.loop-row.row ≡ length c.args.keys.now = omega arith in
    whole c.args.keys.now cells (subst (λ n. IsTableTo c.args.keys.now n cells) all c.loop-row.invariant.table)
