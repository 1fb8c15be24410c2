use Rattle.dict_hub.proofs.Places.{never-keyed}
use Rattle.dict_hub.proofs.over.DeskOverDesk.keyed.Goals as goal

pub returns-clause-act : goal.returns-clause-act
returns-clause-act g c = never-keyed c.args.self.now.items c.args._d c.requires.keyed.0 c.list-items.ensures.are.loaded c.requires.keyed.1
