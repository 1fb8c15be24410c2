use Rattle.std.proofs.Common.{◌≡◌, ◌∙◌, ◌<◌, ℕ, List, Option, Err, IfSome, length, ap, arith}
use Rattle.std.proofs.lemmas.Slice.Zip.{AllZip-long}
use Rattle.dict_value.specs.declared.value.Field.{Field}
use Rattle.dict_version.specs.declared.key.Key.TheVariants as key
use Rattle.packed_rows.specs.declared.cell.Cell.{Cell}
use Rattle.wire_text.specs.declared.reply.Line.{Line}
use Rattle.dict_functions.specs.Keys.{ReadsKey}
use Rattle.dict_functions.specs.declared.lines.LinesFault.TheVariants.{Unread}
use Rattle.dict_functions.specs.steps.Lines.{HasCell, HasLine, HasTextOf, IsCellFor, IsRowFor, MayStand}
use Rattle.dict_functions.proofs.Cells.{attribute-within, has-stands, number-line}
use Rattle.dict_functions.proofs.SideBySide.{zip-second, zip-through}
use Rattle.dict_functions.proofs.loaded.numbered_lines.Goals as goal

pub returns-in-Err-clause-unread : goal.returns-in-Err-clause-unread
returns-in-Err-clause-unread c = λ n e.
    let same : c.in-Err.fault ≡ Unread n = cc (e) in c.each_line.ensures.unread n (c.in-Err.is ∙ ap Err same)

pub each_line-requires-2-clause-few : goal.each_line-requires-2-clause-few
each_line-requires-2-clause-few c =
    let v = c.args.of.now.version.now in
    omega (
      arith,
      c.requires.few,
      AllZip-long (λ (fields : List Field) (n : ℕ). ReadsKey v.definition fields (key.Simple n))
          c.args.lines.now c.in-Ok.numbers c.in-Ok.ensures.made,
    )

pub each_line-requires-3-clause-takes : goal.each_line-requires-3-clause-takes
each_line-requires-3-clause-takes c = λ k d low.
    let it = c.args.of.now in
    let v = it.version.now in (
      rw c.requires.cell (attribute-within v.definition c.requires.sound it.q.now it.attribute.now c.requires.of),
      zip-second (IsRowFor v) (λ found. IfSome found (λ row. row < length v.rows)) (λ n found is. is.1)
          c.in-Ok.numbers c.in-Ok-each_line.rows c.in-Ok-each_line.ensures.made k d low,
    )

pub each_line-requires-3-clause-few : goal.each_line-requires-3-clause-few
each_line-requires-3-clause-few c =
    let it = c.args.of.now in
    let v = it.version.now in
    omega (
      arith,
      c.requires.few,
      AllZip-long (λ (fields : List Field) (n : ℕ). ReadsKey v.definition fields (key.Simple n))
          c.args.lines.now c.in-Ok.numbers c.in-Ok.ensures.made,
      AllZip-long (IsRowFor v) c.in-Ok.numbers c.in-Ok-each_line.rows c.in-Ok-each_line.ensures.made,
    )

pub each_line-requires-4-clause-takes : goal.each_line-requires-4-clause-takes
each_line-requires-4-clause-takes c = λ k d low.
    let it = c.args.of.now in (
      c.requires.of,
      c.requires.cell,
      c.requires.sound,
      zip-second (HasCell it.version.now it.cell) (MayStand it.version.now it.cell)
          (λ (found : Option ℕ) (cell : Option Cell) has. has-stands it.version.now it.cell found cell has)
          c.in-Ok-each_line.rows c.in-Ok-each_line-2.cells c.in-Ok-each_line-2.ensures.made k d low,
    )

pub each_line-requires-4-clause-few : goal.each_line-requires-4-clause-few
each_line-requires-4-clause-few c =
    let it = c.args.of.now in
    let v = it.version.now in
    omega (
      arith,
      c.requires.few,
      AllZip-long (λ (fields : List Field) (n : ℕ). ReadsKey v.definition fields (key.Simple n))
          c.args.lines.now c.in-Ok.numbers c.in-Ok.ensures.made,
      AllZip-long (IsRowFor v) c.in-Ok.numbers c.in-Ok-each_line.rows c.in-Ok-each_line.ensures.made,
      AllZip-long (HasCell v it.cell) c.in-Ok-each_line.rows c.in-Ok-each_line-2.cells c.in-Ok-each_line-2.ensures.made,
    )

pub returns-in-Ok-each_line-3-clause-made : goal.returns-in-Ok-each_line-3-clause-made
returns-in-Ok-each_line-3-clause-made c =
    let it = c.args.of.now in
    let v = it.version.now in
    let q = it.q.now in
    let attribute = it.attribute.now in
    let made = c.in-Ok-each_line-3.made in
    let cells = zip-through (IsRowFor v) (HasCell v it.cell) (IsCellFor v it.cell)
    (λ n found cell is has. (found, is.0, has)) c.in-Ok.numbers c.in-Ok-each_line.rows c.in-Ok-each_line-2.cells
    c.in-Ok-each_line.ensures.made c.in-Ok-each_line-2.ensures.made in
    let texts = zip-through (IsCellFor v it.cell)
    (λ (cell : Option Cell) (line : Line). (line.moment ≡ 0) × HasTextOf v q attribute it.cell cell line.text)
    (λ (n : ℕ) (line : Line). (cell : Option Cell) × IsCellFor v it.cell n cell × ((line.moment ≡ 0) × HasTextOf v q attribute it.cell cell line.text))
    (λ n cell line is text. (cell, is, text)) c.in-Ok.numbers c.in-Ok-each_line-2.cells made
    cells c.in-Ok-each_line-3.ensures.made in
    zip-through (λ (fields : List Field) (n : ℕ). ReadsKey v.definition fields (key.Simple n))
    (λ (n : ℕ) (line : Line). (cell : Option Cell) × IsCellFor v it.cell n cell × ((line.moment ≡ 0) × HasTextOf v q attribute it.cell cell line.text))
    (HasLine v q)
    (λ fields n line reads has. number-line v q attribute it.cell fields n has.0 line reads has.1 has.2)
    c.args.lines.now c.in-Ok.numbers made c.in-Ok.ensures.made texts
