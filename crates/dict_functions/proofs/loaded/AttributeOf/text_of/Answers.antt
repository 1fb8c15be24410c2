use Rattle.dict_functions.proofs.Cells.{attribute-within}
use Rattle.dict_functions.proofs.loaded.AttributeOf.text_of.Goals as goal

pub write_cell-requires-clause-column : goal.write_cell-requires-clause-column
write_cell-requires-clause-column c =
    rw c.requires.cell
    (attribute-within c.args.self.now.version.now.definition c.requires.sound c.args.self.now.q.now c.args.self.now.attribute.now c.requires.of)
