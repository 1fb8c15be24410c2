use Rattle.dictd.proofs.once.serve_items.Given as goal

-- the folder that the programs lie in
abbrev pub ghosts-serve_in : goal.ghosts-serve_in
ghosts-serve_in g a = record { folder = a.folder.now }
