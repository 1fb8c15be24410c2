use Rattle.load_core.proofs.WorldFits.{world-fits}
use Rattle.load_core.proofs.verdict.RowJudgeAsked.ask.Goals as goal

pub decode_rows-requires-clause-fit : goal.decode_rows-requires-clause-fit
decode_rows-requires-clause-fit c = world-fits
