use Rattle.std.proofs.Common.{refl}
use Rattle.request_reader.proofs.Hearing.{taken_all, taken_closed, taken_failed, taken_too_long}
use Rattle.request_reader.proofs.reader.take_block.Goals as goal

pub returns-in-All : goal.returns-in-All
returns-in-All g c = λ line kept is extent.
    let e = c.in-All.ensures in record {
      request = taken_all line _ _ _ _ c.args.count is extent _ _ e.lines (c.read_kept.ensures line kept);
      ended = e.ended;
      cause = record { later = e.cause.later; rose = λ h. absurd (cc); still = λ h. e.cause.still (λ k. cc) };
      writes = e.writes;
    }

pub returns-in-Closed : goal.returns-in-Closed
returns-in-Closed g c = λ line kept is extent.
    let e = c.in-Closed.ensures in record {
      request = taken_closed line _ _ _ _ c.args.count is extent _ _ _ e.lines (c.read_kept-in-Closed.ensures line kept);
      ended = e.ended;
      cause = record { later = e.cause.later; rose = λ h. absurd (cc); still = λ h. e.cause.still (λ k. cc) };
      writes = e.writes;
    }

pub returns-in-TooLong : goal.returns-in-TooLong
returns-in-TooLong g c = λ line kept is extent.
    let e = c.in-TooLong.ensures in record {
      request = taken_too_long line _ _ _ _ c.args.count is extent e.lines;
      ended = e.ended;
      cause = record { later = e.cause.later; rose = λ h. absurd (cc); still = λ h. e.cause.still (λ k. cc) };
      writes = e.writes;
    }

pub returns : goal.returns
returns g c = λ line kept is extent.
    let e = c.in-Failed.ensures in record {
      request = taken_failed line _ _ _ _ c.args.count is extent e.lines;
      ended = e.ended;
      cause = record { later = e.cause.later; rose = λ h. e.cause.rose refl; still = λ h. absurd (h refl) };
      writes = e.writes;
    }
