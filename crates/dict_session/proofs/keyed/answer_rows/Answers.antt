use Rattle.std.proofs.Common.{subst}
use Rattle.dict_functions.specs.Keyed.{AnswersKeyed}
use Rattle.dict_session.proofs.Keying.{one_definition}
use Rattle.dict_session.proofs.keyed.answer_rows.Goals as goal

pub returns-in-Some : goal.returns-in-Some
returns-in-Some c = λ d item other.
    let same = one_definition c.args.items.now c.args.place c.in-Some.d.now d c.in-Some.ensures.here.0 item in
    subst (λ z. AnswersKeyed z c.args.q.now c.args.now c.args.rows.now c.answer_keyed.result) same (c.answer_keyed.ensures other)
