use Rattle.std.proofs.Common.{◌∙◌, ap}
use Rattle.loader.specs.declared.answers.StatusRow as Row
use Rattle.shared_loads.proofs.Boards.{number-learnt}
use Rattle.shared_loads.proofs.board.Posted.teach.Goals as goal

pub returns-clause-number : goal.returns-clause-number
returns-clause-number g c =
    number-learnt (λ told. told.list) c.self.inside.state.newest c.teach.result.number c.teach.new.viewer.list
    (ap (λ (row : Row.StatusRow). row.number) c.teach.ensures.row ∙ c.self.invariant.1) c.teach.ensures.learnt
