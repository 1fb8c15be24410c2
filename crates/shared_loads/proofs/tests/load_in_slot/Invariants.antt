use Rattle.shared_loads.proofs.tests.load_in_slot.Given as goal

-- the slot that was made
abbrev pub ghosts-load_three : goal.ghosts-load_three
ghosts-load_three g a = record { slot = a.publisher.slot }
