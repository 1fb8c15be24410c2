use Rattle.std.proofs.Common.{[], refl, ◌∙◌}
use Rattle.child_io.specs.Runs.{Order, order_of, unwritten, EndFails}
use Rattle.child_io.specs.declared.pieces.PieceEnd.TheVariants.{WriteFailed}
use Rattle.child_io.proofs.Histories.{run-calls}
use Rattle.child_io.proofs.Runs.{cause-from, hands-none, outcome-heard, outcome-unwritten, child-heard, pieces-ran, run-told}
use Rattle.child_io.proofs.run.run_pieces.Goals as goal

pub returns-in-Err-clause-run : goal.returns-in-Err-clause-run
returns-in-Err-clause-run g c =
    let order : Order = order_of c.args.words.now c.args.input.now c.args.limit c.args.read_ms in
    let child = c.in-Ok.child in
    let w = c.in-Err.ensures.calls child [] c.in-Ok.ensures.history in
    let outcome = outcome-unwritten (g.S.C.Child.told child) (g.S.C.Child.told c.feed.new.child) c.args.input.now c.args.limit c.in-Err.field-0 c.in-Err.ensures.told in
    hands-none _ _ _ _ _ c.requires
    (run-told g.S.C.Child.told c.args.input.now c.args.limit _ _ child [] WriteFailed (λ e. cc) c.in-Ok.ensures.told outcome)
    (λ _ _. record {
      first = child;
      last = c.feed.new.child;
      acts = w.0;
      start = c.in-Ok.ensures.started;
      calls = w.2;
      run = unwritten refl refl w.1;
      cause = record { later = c.in-Err.ensures.cause.later; rose = λ _. c.in-Err.ensures.cause.rose refl; still = λ n. absurd (n tt) };
      outcome = outcome;
    })
    tt

pub returns-clause-run : goal.returns-clause-run
returns-clause-run g c =
    let order : Order = order_of c.args.words.now c.args.input.now c.args.limit c.args.read_ms in
    let child = c.in-Ok.child in
    let h = c.hear.ensures.heard in
    let w = run-calls g.S.C.Child.history child c.feed.new.child c.close_input.new.self c.hear.new.child order c.hear.result h.pieces
    c.in-Ok.ensures.history c.in-Ok-feed.ensures.calls c.close_input.ensures.history h.calls in
    let started = g.S.C.Child.told child in
    let fed = g.S.C.Child.told c.feed.new.child in
    let closed = g.S.C.Child.told c.close_input.new.self in
    let outcome = outcome-heard started fed closed c.args.input.now c.args.limit h.pieces c.hear.result c.in-Ok-feed.ensures.told c.close_input.ensures.told h.told in
    record {
      pieces = h.pieces;
      handed = h.handed;
      some = h.some;
      within = h.within;
      told = run-told g.S.C.Child.told c.args.input.now c.args.limit _ _ child h.pieces c.hear.result c.hear.ensures.had_memory c.in-Ok.ensures.told outcome;
      child = λ _ _. record {
        first = child;
        last = c.hear.new.child;
        acts = w.0;
        start = c.in-Ok.ensures.started;
        calls = w.1;
        run = w.2;
        cause = cause-from _ _ _ (EndFails c.hear.result) (c.close_input.ensures.faults ∙ c.in-Ok-feed.ensures.cause.still (λ f. cc)) c.hear.ensures.cause;
        outcome = outcome;
      };
      full = pieces-ran g.S.Spawner.ran c.args.words.now started c.args.input.now c.args.limit h.pieces c.hear.result c.in-Ok.ensures.ran c.in-Ok.ensures.fresh
          (λ s e. (child-heard started fed closed c.args.input.now c.args.limit h.pieces c.hear.result c.in-Ok-feed.ensures.told c.close_input.ensures.told h.told s e).1);
    }
