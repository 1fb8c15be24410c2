use Rattle.std.proofs.Common.{◌≡◌, ◌∙◌, ◌++◌, ◌∷◌, [], ℕ, map, take, get_or, ap, arith}
use Rattle.dict_value.specs.declared.letters.TheConstants.{BACKSLASH}
use Rattle.row_text.specs.Marks.{bare}
use Rattle.row_text.specs.steps.DirectSteps.{EndsNoLine}
use Rattle.row_text.proofs.DirectTab.{escape-unended, piece-behind}
use Rattle.row_text.proofs.MarkLists.{all-append}
use Rattle.row_text.proofs.Reached.{at-suffix, meant-mark, meant-run, on-ok, reach-mark, suffix}
use Rattle.row_text.proofs.direct.tab_line.unescape.Goals as goal

pub returns-then-end-ne-BACKSLASH : goal.returns-then-end-ne-BACKSLASH
returns-then-end-ne-BACKSLASH c =
    let before = c.runs.invariant in
    let run = take c.in_ok-run.run' (suffix c.args.text.now c.runs.at) in (
      before.0 ++ map bare run,
      piece-behind c.args.text.now c.runs.at c.in_ok-run.run' c.in_ok-run.end before.0 before.1 before.2 c.in_ok-run.ensures,
      on-ok c.extend.result _ c.if-is_err.ensures.negation c.extend.ensures.ok ∙ meant-run c.runs.scratch run before.0 before.3,
    )

pub runs-preserved : goal.runs-preserved
runs-preserved c =
    let before = c.runs.invariant in
    let left = suffix c.args.text.now c.runs.at in
    let size = c.in_ok-run.run' in
    let run = take size left in
    let marks = before.0 ++ map bare run in
    let front = piece-behind c.args.text.now c.runs.at size c.in_ok-run.end before.0 before.1 before.2 c.in_ok-run.ensures in
    let text = on-ok c.extend.result _ c.if-is_err.ensures.negation c.extend.ensures.ok ∙ meant-run c.runs.scratch run before.0 before.3 in
    let first : get_or (suffix left size) 0 0 ≡ BACKSLASH =
    at-suffix left size 0 ∙ ap (λ (i : ℕ). get_or left i 0) (omega arith) ∙ c.in_ok-run.ensures.2 ∙ c.if-end-ne-BACKSLASH.false in
    let escape = c.in_ok-byte.ensures.escape in (
      marks ++ escape.0 ∷ [],
      reach-mark c.args.text.now c.runs.at size c.in_ok-byte.size marks escape.0 front.reaches escape.4,
      all-append EndsNoLine marks (escape.0 ∷ []) front.unended (escape-unended (suffix left size) c.in_ok-byte.size escape.0 first escape.4, tt),
      on-ok c.push.result _ c.if-is_err-2.ensures.negation c.push.ensures.ok ∙ meant-mark c.extend.new.self c.in_ok-byte.byte marks escape.0 text escape.1,
    )
