use Rattle.std.proofs.Common.{◌≡◌, length, map}
use Rattle.dict_session.specs.Facts.{Grows}
use Rattle.dict_hub.specs.Over.{LoadUpTo, children_of, moves_of, over_facts}
use Rattle.dict_hub.proofs.Places.{state_of}
use Rattle.dict_hub.proofs.over.DeskOver.first.Given as goal

abbrev pub invariant-loop-d : goal.invariant-loop-d
invariant-loop-d g l =
    let moves = moves_of g.C.DictAt.entered g.C.DictAt.taught g.C.DictAt.loaded g.C.DictAt.due g.C.DictAt.loaded_as
    g.C.DictAt.judged g.F.FileAt.reads in
    let old = state_of g.C.DictAt.state l.initial.self.items (g.F.FileAt.state l.initial.self.file)
    (g.K.Clock.moments l.initial.self.clock)
    (children_of g.S.Spawner.scripts g.S.Spawner.starts l.initial.self.spawner)
    l.initial.self.dictionaries.items l.initial.self.reloads in
    let new = state_of g.C.DictAt.state l.self.items (g.F.FileAt.state l.self.file) (g.K.Clock.moments l.self.clock)
    (children_of g.S.Spawner.scripts g.S.Spawner.starts l.self.spawner) l.self.dictionaries.items l.self.reloads in
    record {
      loads : LoadUpTo moves l.now l.d old new;
      grows : Grows (over_facts g.C.DictAt.view moves) old new;
      many : length l.self.dictionaries.items ≡ length l.initial.self.dictionaries.items;
    }
