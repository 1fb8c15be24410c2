use Rattle.std.proofs.Common.{◌≡◌}
use Rattle.dict_value.specs.declared.value.FetchedRow.{FetchedRow}
use Rattle.wire_text.specs.declared.reply.Line.{Line}
use Rattle.dict_functions.specs.Keyed.{IsKeyedLine, is_present}
use Rattle.dict_functions.specs.Values.{flag}
use Rattle.dict_functions.proofs.KeyedTexts.{present-is}
use Rattle.dict_functions.proofs.SideBySide.{zip-weaker}
use Rattle.dict_functions.proofs.keyed.present_lines.Goals as goal

pub returns-in-Ok : goal.returns-in-Ok
returns-in-Ok c =
    let d = c.args.d.now in
    let q = c.args.q.now in
    zip-weaker (λ (fetched : FetchedRow) (line : Line). (line.moment ≡ fetched.moment) × (line.text ≡ flag (is_present fetched.row))) (IsKeyedLine d q)
    (λ fetched line made. record { moment = made.0; text = present-is d q fetched.row line.text c.requires.verb made.1 })
    c.args.rows.now c.in-Ok.lines c.in-Ok.ensures.made
