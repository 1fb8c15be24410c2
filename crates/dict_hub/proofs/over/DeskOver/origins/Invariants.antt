use Rattle.std.proofs.Common.{◌≡◌, ◌<◌, ℕ, map, length}
use Rattle.dict_hub.specs.Over.{view_at}
use Rattle.version_slot.specs.Views.{EachHasFact}
use Rattle.dict_hub.proofs.over.DeskOver.origins.Given as goal

abbrev pub invariant-loop-d : goal.invariant-loop-d
invariant-loop-d g l = record {
  seen : (k : ℕ) → k < l.d → EachHasFact g.C.DictAt.allows (view_at g.C.DictAt.view (map g.C.DictAt.state l.self.dictionaries.items) k);
}
