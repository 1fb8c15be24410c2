use Rattle.std.proofs.Common.{◌∙◌, sym, arith}
use Rattle.row_text.proofs.Escapes.{escape-hex, escape-one}
use Rattle.row_text.proofs.tab_row.escape_of.Goals as goal

pub returns-then-rest-ne-LETTER_X-clause-escape : goal.returns-then-rest-ne-LETTER_X-clause-escape
returns-then-rest-ne-LETTER_X-clause-escape c = rw c.unescaped.ensures (escape-one c.args.rest.now c.requires.first c.if-rest-lt2.false c.if-rest-ne-LETTER_X.true)

pub returns-in-Some-Some-clause-escape : goal.returns-in-Some-Some-clause-escape
returns-in-Some-Some-clause-escape c = escape-hex c.args.rest.now _ _ c.requires.first c.if-rest-lt4.false (omega arith)
    (sym c.hex_digit.ensures.value ∙ c.in-Some-Some.is-0) (sym c.hex_digit-2.ensures.value ∙ c.in-Some-Some.is-1)
