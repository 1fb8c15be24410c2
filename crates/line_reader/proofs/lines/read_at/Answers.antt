use Rattle.line_reader.proofs.Feeds.{read_part}
use Rattle.line_reader.proofs.lines.read_at.Goals as goal

pub returns-clause-bytes : goal.returns-clause-bytes
returns-clause-bytes g c = read_part _ _ c.args.buf.now c.read.new.buf _ c.args.at c.read.result c.requires.room c.read.ensures.bound c.read.ensures.bytes
