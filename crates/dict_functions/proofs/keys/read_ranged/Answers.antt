use Rattle.std.proofs.Common.{◌≡◌, ◌∙◌, Err, ap}
use Rattle.dict_functions.specs.declared.lines.LineFault.TheVariants.{Unread}
use Rattle.dict_functions.proofs.KeysRead.{last-point}
use Rattle.dict_functions.proofs.keys.read_ranged.Goals as goal

pub returns-in-Err-read_point-clause-bad : goal.returns-in-Err-read_point-clause-bad
returns-in-Err-read_point-clause-bad c = λ e values point reads.
    let same : c.in-Err-read_point.fault ≡ Unread = cc (e) in
    c.read_point.ensures.bad (c.in-Err-read_point.is ∙ ap Err same) point
    (last-point c.args.d.now c.args.fields.now values point c.index-fields-count.result reads c.index-fields-count.is)
