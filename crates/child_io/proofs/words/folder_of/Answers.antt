use Rattle.child_io.proofs.Paths.{folder-before}
use Rattle.child_io.proofs.words.folder_of.Goals as goal

pub returns-in-Some : goal.returns-in-Some
returns-in-Some c = folder-before c.args.path.now c.in-Some.place c.in-Some.ensures
