use Rattle.std.proofs.Common.{codes}
use Rattle.std.proofs.lemmas.Bool.Decides.{Decides-eqb}
use Rattle.std.proofs.lemmas.Slice.Eq.{strip_prefix_is}
use Rattle.wire_text.proofs.lines.behind_many.Goals as goal

pub returns : goal.returns
returns c = strip_prefix_is Decides-eqb c.args.line.now (codes "many\t") c.strip_prefix.result c.strip_prefix.ensures.cases
