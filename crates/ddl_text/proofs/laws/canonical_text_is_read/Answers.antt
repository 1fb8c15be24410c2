use Rattle.ddl_text.proofs.ItemTexts.{read_as_itself}
use Rattle.ddl_text.proofs.laws.canonical_text_is_read.Goals as goal

pub returns : goal.returns
returns c = read_as_itself
