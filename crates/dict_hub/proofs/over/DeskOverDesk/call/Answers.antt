use Rattle.dict_hub.proofs.Places.{never-function}
use Rattle.dict_hub.proofs.over.DeskOverDesk.call.Goals as goal

pub returns-clause-act : goal.returns-clause-act
returns-clause-act g c = never-function c.args.self.now.items c.args._f c.requires.function.0 c.list-items.ensures.are.loaded c.requires.function.1
