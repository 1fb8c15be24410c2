use Rattle.std.proofs.Common.{◌≡◌, ◌≤◌, length, drop, map}
use Rattle.std.specs.List.{All}
use Rattle.dict_schema.specs.Sound.{IsSoundItem}
use Rattle.dict_session.specs.Facts.{Grows}
use Rattle.dict_hub.specs.Over.{FollowUpTo, IsLoaded, children_of, item_name, moves_of, over_facts}
use Rattle.dict_hub.proofs.Places.{state_of}
use Rattle.dict_hub.proofs.over.DeskOver.follow.Given as goal

abbrev pub invariant-loop-item : goal.invariant-loop-item
invariant-loop-item g l =
    let moves = moves_of g.C.DictAt.entered g.C.DictAt.taught g.C.DictAt.loaded g.C.DictAt.due g.C.DictAt.loaded_as
    g.C.DictAt.judged g.F.FileAt.reads in
    let old = state_of g.C.DictAt.state l.initial.self.items (g.F.FileAt.state l.initial.self.file)
    (g.K.Clock.moments l.initial.self.clock)
    (children_of g.S.Spawner.scripts g.S.Spawner.starts l.initial.self.spawner)
    l.initial.self.dictionaries.items l.initial.self.reloads in
    let new = state_of g.C.DictAt.state l.self.items (g.F.FileAt.state l.self.file) (g.K.Clock.moments l.self.clock)
    (children_of g.S.Spawner.scripts g.S.Spawner.starts l.self.spawner) l.self.dictionaries.items l.self.reloads in
    record {
      left : l.items ≡ drop l.place l.initial.items;
      within : l.place ≤ length l.initial.items;
      all : length l.initial.items ≡ length l.initial.self.items;
      sound : All IsSoundItem l.items;
      loaded : All IsLoaded l.items;
      follows : FollowUpTo moves l.now l.initial.items l.place old l.counts new;
      grows : Grows (over_facts g.C.DictAt.view moves) old new;
      many : length l.self.dictionaries.items ≡ length l.initial.self.dictionaries.items;
      asked : map (λ c. g.C.DictAt.name (g.C.DictAt.state c)) l.self.dictionaries.items ≡ map item_name l.initial.items;
      changed : l.counts.changed ≤ l.place;
      fewer : l.counts.published ≤ l.counts.changed;
    }

abbrev pub decreases-loop-item : goal.decreases-loop-item
decreases-loop-item g l = length l.items
