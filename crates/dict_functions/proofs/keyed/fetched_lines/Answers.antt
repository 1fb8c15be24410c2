use Rattle.std.proofs.Common.{◌≡◌}
use Rattle.dict_value.specs.declared.value.FetchedRow.{FetchedRow}
use Rattle.wire_text.specs.declared.reply.Line.{Line}
use Rattle.dict_functions.specs.Keyed.{IsFetchedAttribute, IsKeyedLine}
use Rattle.dict_functions.proofs.KeyedTexts.{fetched-is}
use Rattle.dict_functions.proofs.SideBySide.{zip-weaker}
use Rattle.dict_functions.proofs.keyed.fetched_lines.Goals as goal

pub returns-in-Ok-each_line : goal.returns-in-Ok-each_line
returns-in-Ok-each_line c =
    let d = c.args.d.now in
    let q = c.args.q.now in
    zip-weaker (λ (fetched : FetchedRow) (line : Line). (line.moment ≡ fetched.moment) × IsFetchedAttribute d q fetched.row line.text) (IsKeyedLine d q)
    (λ fetched line made. record { moment = made.0; text = fetched-is d q fetched.row line.text c.requires.verb made.1 })
    c.args.rows.now c.in-Ok-each_line.lines c.in-Ok-each_line.ensures.made
