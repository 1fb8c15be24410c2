use Rattle.std.proofs.Common.{refl, sym}
use Rattle.row_text.proofs.CutSteps.{keeps_open-nil, open-nil}
use Rattle.row_text.proofs.cutter.Cutter.new.Goals as goal

pub returns : goal.returns
returns c = record { by_rule = refl; opened = open-nil c.args.rule; started = refl; inside = sym (keeps_open-nil c.args.rule) }
