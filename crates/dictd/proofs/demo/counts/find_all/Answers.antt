use Rattle.std.proofs.Common.{arith, ap, sym, subst, ◌∙◌, ◌+◌}
use Rattle.dictd.proofs.Demos.{Counted, found-below, none-counted, one-found, one-missed}
use Rattle.dictd.specs.Demo.{row_keys}
use Rattle.dictd.specs.declared.demo.counts.Counts as CountsOf
use Rattle.dictd.proofs.demo.counts.find_all.Goals.{in-Some, in_default}
use Rattle.dictd.proofs.demo.counts.find_all.Goals as goal

pub loop-lookup-init : goal.loop-lookup-init
loop-lookup-init c = (none-counted c.args.rows c.args.seed, omega arith, omega arith)

pub loop-lookup-preserved : goal.loop-lookup-preserved
loop-lookup-preserved c = elim c.match-find.branch [
  | in-Some w ↦
      let keys = row_keys c.args.rows c.args.seed in
      let finds = w.in-Some.ensures keys c.requires.table in
      let more = one-found c.args.rows c.args.seed c.loop-lookup.lookup c.loop-lookup.counts.hits c.loop-lookup.counts.sum c.asked_key.result
      c.loop-lookup.invariant.0 c.asked_key.ensures w.in-Some.value finds in
      let low = found-below c.args.rows c.args.seed c.asked_key.result w.in-Some.value finds in
      let hits = ap (λ (z : CountsOf.Counts). z.hits) w.counts-is in
      let sum = ap (λ (z : CountsOf.Counts). z.sum) w.counts-is ∙ ap (λ v. c.loop-lookup.counts.sum + v) w.from.ensures in (
        subst (λ h. Counted c.args.rows c.args.seed (c.loop-lookup.lookup + 1) h c.match-find.counts.sum) (sym hits)
            (subst (λ s. Counted c.args.rows c.args.seed (c.loop-lookup.lookup + 1) (c.loop-lookup.counts.hits + 1) s) (sym sum) more),
        omega (arith, hits, c.loop-lookup.invariant.1),
        omega (arith, sum, low, c.requires.few, c.loop-lookup.invariant.2),
      )
  | in_default w ↦
      let keys = row_keys c.args.rows c.args.seed in
      let finds = w.in_default.ensures keys c.requires.table in
      let more = one-missed c.args.rows c.args.seed c.loop-lookup.lookup c.loop-lookup.counts.hits c.loop-lookup.counts.sum c.asked_key.result
      c.loop-lookup.invariant.0 c.asked_key.ensures finds in
      let same = sym w.counts-is in
      let hits = ap (λ (z : CountsOf.Counts). z.hits) w.counts-is in
      let sum = ap (λ (z : CountsOf.Counts). z.sum) w.counts-is in (
        subst (λ (z : CountsOf.Counts). Counted c.args.rows c.args.seed (c.loop-lookup.lookup + 1) z.hits z.sum) same more,
        omega (arith, hits, c.loop-lookup.invariant.1),
        omega (arith, sum, c.loop-lookup.invariant.2),
      )
]
