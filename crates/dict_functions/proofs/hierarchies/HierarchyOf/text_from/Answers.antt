use Rattle.std.proofs.Common.{arith}
use Rattle.dict_functions.proofs.KeysRead.{number-at}
use Rattle.dict_functions.proofs.hierarchies.HierarchyOf.text_from.Goals as goal

pub returns-in_default-clause-unread : goal.returns-in_default-clause-unread
returns-in_default-clause-unread c = λ e has.
    let at = number-at c.args.fields.now has.0 0 c.index-fields-0.result (omega (arith, c.requires.count)) c.index-fields-0.is has.1 in
    c.in_default.ensures at.0 at.1
