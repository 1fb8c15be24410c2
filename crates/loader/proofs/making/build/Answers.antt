use Rattle.std.proofs.Common.{subst, sym}
use Rattle.dict_schema.specs.declared.definition.Definition.{Definition}
use Rattle.dict_version.specs.Rows.{TakesRows}
use Rattle.loader.proofs.making.build.Goals as goal

pub build-requires-clause-takes : goal.build-requires-clause-takes
build-requires-clause-takes g c =
    subst (λ (d : Definition). TakesRows d c.args.rows) (sym c.in_ok-definition.ensures) c.requires.takes
