use Rattle.std.proofs.Common.{◌≡◌, ◌∙◌, Some, sym, ap}
use Rattle.wire_text.specs.steps.Fields.{request_word}
use Rattle.wire_text.proofs.Answering.{block_answers, single_answers}
use Rattle.wire_text.proofs.RowReadings.{text_stands}
use Rattle.wire_text.proofs.reading.read_asked.Goals as goal

pub returns-in-Many : goal.returns-in-Many
returns-in-Many c =
    let read : request_word c.in-Some.text ≡ Some c.in-Some-read_word.word =
    ap request_word (sym c.as_slice.ensures) ∙ sym c.read_word.ensures ∙ c.in-Some-read_word.is in
    block_answers c.args.line.now c.in-Some.text c.in-Some-read_word.word c.args.fields c.take_text.new.fields c.args.rows c.read_block.result
    (text_stands c.args.fields c.take_text.new.fields c.in-Some.text c.in-Some.ensures) read c.in-Many.is c.read_block.ensures

pub returns-in_default-word : goal.returns-in_default-word
returns-in_default-word c =
    let read : request_word c.in-Some.text ≡ Some c.in-Some-read_word.word =
    ap request_word (sym c.as_slice.ensures) ∙ sym c.read_word.ensures ∙ c.in-Some-read_word.is in
    single_answers c.args.line.now c.in-Some.text c.in-Some-read_word.word c.args.fields c.take_text.new.fields c.args.rows c.read_single.result
    (text_stands c.args.fields c.take_text.new.fields c.in-Some.text c.in-Some.ensures) read c.in_default-word.not-Many c.read_single.ensures
