-- The risen list has the same borders.
use Rattle.std.proofs.Common.{arith}
use Rattle.range_layout.proofs.stretches.borders_of.Goals as goal

pub returns-in-Ok : goal.returns-in-Ok
returns-in-Ok c =
    let r = c.risen.ensures in
    let a = c.in-Ok.ensures in
    let l = r.len in
    let m = a.len in
    record {
      rises = r.rises;
      few = omega (arith, l, m);
      each = λ row border less is. (r.each border).1 (a.each row border less is);
      origin = λ border h. a.origin border ((r.each border).0 h);
    }
