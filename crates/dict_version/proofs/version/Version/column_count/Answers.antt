use Rattle.std.proofs.Common.{◌∙◌, ap, length}
use Rattle.dict_schema.specs.Shapes.{shape_of}
use Rattle.dict_version.specs.Contents.{Contents}
use Rattle.dict_version.proofs.VersionCells.{length-types}
use Rattle.dict_version.proofs.version.Version.column_count.Goals as goal

pub returns : goal.returns
returns g c =
    let it = c.self.inside in
    c.len.ensures ∙ length-types it.definition it.rows it.moment it.types it.index it.hier c.self.invariant
    ∙ ap (λ (v : Contents). length (shape_of v.definition)) c.self.view_is
