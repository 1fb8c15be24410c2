use Rattle.std.proofs.Common.{◌≡◌, ◌∙◌, ap, rules, subst, sym}
use Rattle.std.specs.Prelude.{pos}
use Rattle.child_io.specs.declared.pieces.PieceEnd.TheVariants.{Ended}
use Rattle.dict_value.specs.declared.fault.Exit.{Exit}
use Rattle.dict_value.specs.declared.fault.Exit.TheVariants.{Code}
use Rattle.loader.specs.steps.Readings.{IsChildJudged}
use Rattle.loader.proofs.reading.judge_exit.Goals as goal

pub returns-else-status-ne0 : goal.returns-else-status-ne0
returns-else-status-ne0 c =
    let zero : c.in-Code.status ≡ pos 0 = search rules in
    let e : c.args.exit ≡ Code (pos 0) = c.in-Code.is ∙ ap Code zero in
    subst (λ (exit : Exit). IsChildJudged c.args.d.now c.args.gathered.now (Ended exit) c.judge_output.result) (sym e) c.judge_output.ensures
