use Rattle.std.proofs.Common.{arith, ap, sym, ◌∙◌}
use Rattle.line_reader.specs.Reading.{Held}
use Rattle.line_reader.proofs.Feeds.{first_line}
use Rattle.line_reader.proofs.lines.Lines.cut.Goals as goal

pub returns-in-Some : goal.returns-in-Some
returns-in-Some c =
    let s = c.self.inside in
    let line = first_line s.buf.items c.deref.result.now _ _ s.from s.to c.deref.ensures.value (omega arith) (omega arith) c.in-Some.ensures.0 c.in-Some.ensures.1 in
    (line.0, sym (ap (λ (h : Held). h.ahead) c.self.view_is) ∙ line.1)
