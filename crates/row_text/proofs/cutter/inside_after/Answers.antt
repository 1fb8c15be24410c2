use Rattle.std.proofs.Common.{◌∙◌, sym, refl, false, not}
use Rattle.std.proofs.lemmas.Bool.{ne_eqb}
use Rattle.dict_value.specs.declared.letters.TheConstants.{BACKSLASH, DOUBLE_QUOTE}
use Rattle.row_text.proofs.CutSteps.{keeps_open-push, toggle-at, toggle-other}
use Rattle.row_text.proofs.cutter.inside_after.Goals as goal

pub returns-in-Plain : goal.returns-in-Plain
returns-in-Plain c row e = sym (keeps_open-push c.args.rule row c.args.byte ∙ rw c.in-Plain.is refl)

pub returns-then-byte-eq-BACKSLASH : goal.returns-then-byte-eq-BACKSLASH
returns-then-byte-eq-BACKSLASH c row e = sym (keeps_open-push c.args.rule row c.args.byte
    ∙ rw (← e, c.in-Tab.is) (toggle-at c.args.byte BACKSLASH (not c.args.inside) false c.if-byte-eq-BACKSLASH.true))

pub returns-else-byte-eq-BACKSLASH : goal.returns-else-byte-eq-BACKSLASH
returns-else-byte-eq-BACKSLASH c row e = sym (keeps_open-push c.args.rule row c.args.byte
    ∙ rw (← e, c.in-Tab.is) (toggle-other c.args.byte BACKSLASH (not c.args.inside) false c.if-byte-eq-BACKSLASH.false
    ∙ sym (ne_eqb c.args.byte BACKSLASH c.if-byte-eq-BACKSLASH.false)))

pub returns-then-byte-eq-DOUBLE_QUOTE : goal.returns-then-byte-eq-DOUBLE_QUOTE
returns-then-byte-eq-DOUBLE_QUOTE c row e = sym (keeps_open-push c.args.rule row c.args.byte
    ∙ rw (← e, c.in-Csv.is) (toggle-at c.args.byte DOUBLE_QUOTE (not c.args.inside) c.args.inside c.if-byte-eq-DOUBLE_QUOTE.true))

pub returns-else-byte-eq-DOUBLE_QUOTE : goal.returns-else-byte-eq-DOUBLE_QUOTE
returns-else-byte-eq-DOUBLE_QUOTE c row e = sym (keeps_open-push c.args.rule row c.args.byte
    ∙ rw (← e, c.in-Csv.is) (toggle-other c.args.byte DOUBLE_QUOTE (not c.args.inside) c.args.inside c.if-byte-eq-DOUBLE_QUOTE.false))
