use Rattle.std.proofs.Common.{◌≡◌, List, length, arith}
use Rattle.cache_layout.specs.Fetching.{FitsReply}
use Rattle.dict_value.specs.declared.value.FetchedRow.{FetchedRow}
use Rattle.dict_functions.proofs.Paired.{zip-of_second}
use Rattle.dict_functions.proofs.tests.fetching.keyed_reply.Goals as goal

pub answer_keyed-requires-clause-rows : goal.answer_keyed-requires-clause-rows
answer_keyed-requires-clause-rows c =
    let d = c.args.d.now in
    let keys = c.in-Ok.keys in
    let rows = c.in_ok-rows.rows in
    let long : length rows ≡ length keys = omega arith in
    (keys, c.in-Ok.ensures (λ e. cc), zip-of_second (λ (fetched : FetchedRow). FitsReply d fetched.row) keys rows long c.in_ok-rows.ensures)
