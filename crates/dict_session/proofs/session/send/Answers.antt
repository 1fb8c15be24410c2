use Rattle.std.proofs.Common.{inr, refl}
use Rattle.dict_session.specs.Answers.{no_memory}
use Rattle.dict_session.proofs.session.send.Goals as goal

pub returns-in-Err : goal.returns-in-Err
returns-in-Err g c = (no_memory, inr refl, c.write_link-in-Err.ensures)
