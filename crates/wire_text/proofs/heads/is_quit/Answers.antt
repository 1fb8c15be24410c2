use Rattle.wire_text.proofs.Quits.{quits}
use Rattle.wire_text.proofs.heads.is_quit.Goals as goal

pub returns : goal.returns
returns c = quits c.args.line.now c.means.result c.means.ensures
