use Rattle.std.proofs.Common.{◌≡◌, List, length, arith}
use Rattle.dict_value.specs.Values.{FitsColumn}
use Rattle.dict_functions.proofs.Paired.{zip-of_second}
use Rattle.dict_functions.proofs.tests.calls.call_reply.Goals as goal

pub answer_function-requires-clause-given : goal.answer_function-requires-clause-given
answer_function-requires-clause-given c =
    let f = c.args.f.now in
    let rows = c.in-Ok.rows in
    let values = c.in_ok-values.values in
    let long : length values ≡ length rows = omega arith in
    (rows, c.in-Ok.ensures (λ e. cc), zip-of_second (FitsColumn f.returns) rows values long c.in_ok-values.ensures)
