use Rattle.ddl_text.proofs.Same.{same_name_is}
use Rattle.ddl_text.proofs.items.same_name.Goals as goal

pub returns : goal.returns
returns c = same_name_is c.is_same.result c.args.a.now c.args.b.now c.is_same.ensures
