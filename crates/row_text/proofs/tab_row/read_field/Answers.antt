use Rattle.std.proofs.Common.{◌≢◌, ◌<◌, ◌-◌, ◌∙◌, ◌++◌, ◌∷◌, ◌+◌, [], get_or, sym, arith, map, take}
use Rattle.dict_value.specs.declared.letters.TheConstants.{CARRIAGE_RETURN}
use Rattle.row_text.specs.Marks.{bare}
use Rattle.row_text.proofs.MarkLists.{ends-append_cons}
use Rattle.row_text.proofs.Reached.{at-suffix, bad-at, meant-mark, meant-run, on-ok, reach-mark, reach-plain, run-opens, run-shuts, suffix, whole-spells}
use Rattle.row_text.proofs.tab_row.read_field.Goals as goal
use Rattle.row_text.proofs.tab_row.read_field.Goals.{else-run-gt0-via-then-run-gt0+else-left-run-eq-CARRIAGE_RETURN, else-run-gt0-via-else-run-gt0}

pub returns-then-left-run-eq-CARRIAGE_RETURN : goal.returns-then-left-run-eq-CARRIAGE_RETURN
returns-then-left-run-eq-CARRIAGE_RETURN c _ =
    let before = c.runs.invariant in
    let run = c.run_len-run in
    let reached = reach-plain c.args.rest.now c.runs.at run.result before.0 before.1 run.ensures.within run.ensures.plain in (
      _,
      whole-spells _ _ _ reached c.if-stop-rest.true,
      run-shuts (suffix c.args.rest.now c.runs.at) run.result before.0 run.ensures.within c.if-run-gt0.true c.if-left-run-eq-CARRIAGE_RETURN.true,
    )

pub returns-then-stop-rest : goal.returns-then-stop-rest
returns-then-stop-rest c _ =
    let before = c.runs.invariant in
    let run = c.run_len-run in
    let left = suffix c.args.rest.now c.runs.at in
    let reached = reach-plain c.args.rest.now c.runs.at run.result before.0 before.1 run.ensures.within run.ensures.plain in
    let text = on-ok c.extend.result _ c.if-is_err.ensures.negation c.extend.ensures.ok ∙ meant-run c.runs.text (take run.result left) before.0 before.3 in
    let last : 0 < run.result → get_or left (run.result - 1) 0 ≢ CARRIAGE_RETURN = λ some. elim c.else-run-gt0.branch [
      | else-run-gt0-via-then-run-gt0+else-left-run-eq-CARRIAGE_RETURN w ↦ w.if-left-run-eq-CARRIAGE_RETURN.false
      | else-run-gt0-via-else-run-gt0 w ↦ absurd (omega (arith, some, w.if-run-gt0.false))
    ] in (
      _,
      reached,
      c.field_from.ensures _ (whole-spells _ _ _ reached c.if-stop-rest.true) text,
      (λ lt. absurd (omega (arith, lt, c.if-stop-rest.true))),
      (λ _. run-opens left run.result before.0 run.ensures.within before.2 last),
    )

pub returns-then-left-run-eq-TAB : goal.returns-then-left-run-eq-TAB
returns-then-left-run-eq-TAB c _ =
    let before = c.runs.invariant in
    let run = c.run_len-run in
    let left = suffix c.args.rest.now c.runs.at in
    let reached = reach-plain c.args.rest.now c.runs.at run.result before.0 before.1 run.ensures.within run.ensures.plain in
    let text = on-ok c.extend.result _ c.if-is_err.ensures.negation c.extend.ensures.ok ∙ meant-run c.runs.text (take run.result left) before.0 before.3 in (
      _,
      reached,
      c.field_from-then-left-run-eq-TAB.ensures _ reached.spells text,
      (λ _. sym (at-suffix c.args.rest.now c.runs.at run.result) ∙ c.if-left-run-eq-TAB.true),
      (λ end. absurd (c.if-stop-rest.false end)),
    )

pub returns-in_default : goal.returns-in_default
returns-in_default c _ =
    let before = c.runs.invariant in
    let run = c.run_len-run in
    let reached = reach-plain c.args.rest.now c.runs.at run.result before.0 before.1 run.ensures.within run.ensures.plain in
    (_, c.runs.at + run.result, (omega arith), reached.spells, bad-at c.args.rest.now c.runs.at run.result c.in_default.ensures.escape)

pub runs-preserved : goal.runs-preserved
runs-preserved c =
    let before = c.runs.invariant in
    let run = c.run_len-run in
    let left = suffix c.args.rest.now c.runs.at in
    let marks = before.0 ++ map bare (take run.result left) in
    let reached = reach-plain c.args.rest.now c.runs.at run.result before.0 before.1 run.ensures.within run.ensures.plain in
    let text = on-ok c.extend.result _ c.if-is_err.ensures.negation c.extend.ensures.ok ∙ meant-run c.runs.text (take run.result left) before.0 before.3 in
    let escape = c.in-Some.ensures.escape in (
      marks ++ escape.0 ∷ [],
      reach-mark c.args.rest.now c.runs.at run.result c.in-Some.size marks escape.0 reached escape.4,
      ends-append_cons marks escape.0 [] ∙ escape.3,
      on-ok c.push.result _ c.if-is_err-2.ensures.negation c.push.ensures.ok ∙ meant-mark c.extend.new.self c.in-Some.byte marks escape.0 text escape.1,
    )
