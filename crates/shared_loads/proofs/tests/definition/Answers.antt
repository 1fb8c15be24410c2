use Rattle.std.proofs.Common.{subst}
use Rattle.std.specs.Prelude.{All}
use Rattle.std.proofs.lemmas.List.Elements.{All-head}
use Rattle.dict_schema.specs.Sound.{IsSoundItem}
use Rattle.shared_loads.proofs.tests.definition.Goals as goal

pub returns-in-Some-Dictionary : goal.returns-in-Some-Dictionary
returns-in-Some-Dictionary c =
    let sound = subst (All IsSoundItem) c.in-Some-Dictionary.ensures c.in-Ok.ensures.sound in
    let first = All-head IsSoundItem c.in-Some-Dictionary.field-0 c.pop_front.new.self sound in
    subst IsSoundItem c.in-Some-Dictionary.field-0-is first
