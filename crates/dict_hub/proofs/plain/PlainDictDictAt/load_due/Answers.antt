use Rattle.dict_hub.proofs.Plains.{leaves-due}
use Rattle.dict_hub.proofs.plain.PlainDictDictAt.load_due.Goals as goal

pub invariant_of-self : goal.invariant_of-self
invariant_of-self g c = (leaves-due _ _ _ _ _ _ c.args.now _ _ _ _ _ _ _ _ g.F.Folder.folder c.load_due.result c.self.invariant c.load_due.ensures.due c.load_due.ensures.none c.load_due.ensures.load).plain

pub returns-clause-act : goal.returns-clause-act
returns-clause-act g c = rw (← c.self.view_is) (leaves-due _ _ _ _ _ _ c.args.now _ _ _ _ _ _ _ _ g.F.Folder.folder c.load_due.result c.self.invariant c.load_due.ensures.due c.load_due.ensures.none c.load_due.ensures.load).acted

pub returns-clause-grows : goal.returns-clause-grows
returns-clause-grows g c = rw (← c.self.view_is) (leaves-due _ _ _ _ _ _ c.args.now _ _ _ _ _ _ _ _ g.F.Folder.folder c.load_due.result c.self.invariant c.load_due.ensures.due c.load_due.ensures.none c.load_due.ensures.load).grows
