use Rattle.request_reader.proofs.Hearing.{block_goes_on}
use Rattle.request_reader.proofs.reader.read_kept.Goals as goal

pub returns-in-Err : goal.returns-in-Err
returns-in-Err c = λ line e lines behind keeps a b. block_goes_on line lines c.args.count behind c.requires.some
