-- The risen list has the same numbers.
use Rattle.std.proofs.Common.{arith}
use Rattle.range_layout.proofs.points.points_of.Goals as goal

pub returns-in-Ok : goal.returns-in-Ok
returns-in-Ok c =
    let r = c.risen.ensures in
    let a = c.in-Ok.ensures in
    let l = r.len in
    let m = a.len in
    record {
      rises = r.rises;
      few = omega (arith, l, m);
      small = r.small;
      low = λ row l. (r.each _).1 (a.low row l);
      past = λ row l there. (r.each _).1 (a.past row l there);
    }
