use Rattle.std.proofs.Common.{List, refl, subst, ℕ}
use Rattle.std.specs.Prelude.{pos}
use Rattle.loader.proofs.Judging.{judged-whole}
use Rattle.loader.specs.steps.Readings.{IsDecoded}
use Rattle.loader.proofs.reading.judge_output.Goals as goal

pub returns : goal.returns
returns c =
    judged-whole c.args.d.now c.args.gathered.now (pos 0) c.read_rows.result refl c.if-gathered.false
    (subst (λ (bytes : List ℕ). IsDecoded c.args.d.now bytes c.read_rows.result) c.as_slice.ensures c.read_rows.ensures)
