use Rattle.dict_hub.proofs.Plains.{leaves}
use Rattle.dict_hub.proofs.plain.PlainDictDictAt.load.Goals as goal

pub invariant_of-self : goal.invariant_of-self
invariant_of-self g c = (leaves _ _ _ _ _ _ _ c.args.now _ _ _ _ _ _ _ _ g.F.Folder.folder _ c.self.invariant c.load.ensures.load).plain

pub returns-clause-act : goal.returns-clause-act
returns-clause-act g c = rw (← c.self.view_is) (leaves _ _ _ _ _ _ _ c.args.now _ _ _ _ _ _ _ _ g.F.Folder.folder _ c.self.invariant c.load.ensures.load).acted

pub returns-clause-grows : goal.returns-clause-grows
returns-clause-grows g c = rw (← c.self.view_is) (leaves _ _ _ _ _ _ _ c.args.now _ _ _ _ _ _ _ _ g.F.Folder.folder _ c.self.invariant c.load.ensures.load).grows
