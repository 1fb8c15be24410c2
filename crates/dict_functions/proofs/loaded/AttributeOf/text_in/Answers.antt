use Rattle.dict_functions.proofs.Cells.{attribute-within}
use Rattle.dict_functions.proofs.loaded.AttributeOf.text_in.Goals as goal

pub write_found-requires-clause-column : goal.write_found-requires-clause-column
write_found-requires-clause-column c =
    let it = c.args.self.now in
    rw c.requires.cell (attribute-within it.version.now.definition c.requires.sound it.q.now it.attribute.now c.requires.of)
