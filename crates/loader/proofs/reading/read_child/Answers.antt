use Rattle.std.proofs.Common.{arith}
use Rattle.loader.proofs.Judging.{gathered-short, read-given, start-cause}
use Rattle.loader.proofs.reading.read_child.Goals as goal

pub judge-requires-clause-few : goal.judge-requires-clause-few
judge-requires-clause-few g c =
    let run = c.run_pieces-end.ensures.run in
    gathered-short c.run_pieces-end.new.out.gathered run.pieces c.args.d.now.max_output 4294967295 run.handed run.within (omega (arith, c.requires.output))

pub returns-clause-read : goal.returns-clause-read
returns-clause-read g c =
    let run = c.run_pieces-end.ensures.run in
    let out = c.run_pieces-end.new.out.gathered in
    record {
      ending = c.run_pieces-end.result;
      pieces = run.pieces;
      some = run.some;
      within = run.within;
      run = record { told_script = run.told; told_words = c.run_pieces-end.ensures.starts; child = run.child };
      given = read-given g.S.Spawner.ran c.args.d.now c.args.words.now out run.pieces c.run_pieces-end.result c.judge.result run.handed run.full c.judge.ensures;
    }

pub returns-clause-cause : goal.returns-clause-cause
returns-clause-cause g c =
    start-cause _ _ c.args.d.now c.run_pieces-end.new.out.gathered c.run_pieces-end.result c.judge.result c.judge.ensures c.run_pieces-end.ensures.cause
