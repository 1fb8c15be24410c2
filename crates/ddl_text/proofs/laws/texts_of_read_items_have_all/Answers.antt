use Rattle.ddl_text.proofs.ReadItems.{read_items_have}
use Rattle.ddl_text.proofs.laws.texts_of_read_items_have_all.Goals as goal

pub returns : goal.returns
returns c = read_items_have
