use Rattle.shared_loads.proofs.tests.post_here.Given as goal

-- the slot that was made
abbrev pub ghosts-post_beside : goal.ghosts-post_beside
ghosts-post_beside g a = record { slot = a.viewer.slot }
