use Rattle.dict_io.specs.Outside.{Rose}
use Rattle.dictd.specs.Statuses.{status_text}
use Rattle.dictd.proofs.Telling.{tells}
use Rattle.dictd.proofs.status.tell.Goals as goal

pub returns : goal.returns
returns g c =
    let failed = Rose (g.E.Sink.write_faults c.args.err.now) (g.E.Sink.write_faults c.write_status.new.err) in
    tells (g.E.Sink.written c.args.err.now) (g.E.Sink.written c.write_status.new.err) (status_text c.args.status) failed c.write_status.result c.write_status.ensures.bytes c.write_status.ensures.cause.rose
