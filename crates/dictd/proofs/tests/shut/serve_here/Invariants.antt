use Rattle.std.proofs.Common.{[]}
use Rattle.dictd.proofs.tests.shut.serve_here.Given as goal

-- the folder that the programs lie in: where the program was started
abbrev pub ghosts-serve : goal.ghosts-serve
ghosts-serve g a = record { folder = [] }
