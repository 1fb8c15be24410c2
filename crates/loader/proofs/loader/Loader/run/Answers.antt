use Rattle.loader.proofs.loader.Loader.run.Goals as goal

pub run_load-requires-clause-sound : goal.run_load-requires-clause-sound
run_load-requires-clause-sound g c = (c.requires.other c.in-Some.d c.in-Some.is).sound
