use Rattle.shared_loads.proofs.tests.load_here.Given as goal

-- the folder of the loader
abbrev pub ghosts-load_in_slot : goal.ghosts-load_in_slot
ghosts-load_in_slot g a = record { folder = a.loader.folder }
