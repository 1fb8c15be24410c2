use Rattle.std.proofs.Common.{◌∙◌, List, ap, map}
use Rattle.dict_hub.specs.Plain.{PlainState}
use Rattle.dict_hub.proofs.Opened.{opened-named}
use Rattle.dict_hub.proofs.local.local_desk.Goals as goal

pub new-requires : goal.new-requires
new-requires g c =
    let made = c.requires in
    ap (λ (ds : List PlainState). map (λ (s : PlainState). s.loader.definition.name) ds) made.2
    ∙ opened-named made.0 made.1 0 c.args.items c.list-items.ensures.are.loaded
