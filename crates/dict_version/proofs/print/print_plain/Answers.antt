use Rattle.std.proofs.Common.{◌++◌, ◌∙◌, ap, sym}
use Rattle.std.proofs.lemmas.Result.{on_ok_weaker}
use Rattle.dict_version.proofs.PlainTexts.{printed-plain}
use Rattle.dict_version.proofs.print.print_plain.Goals as goal

pub returns-clause-ok : goal.returns-clause-ok
returns-clause-ok c =
    on_ok_weaker c.write_value.result (λ e. e ∙ ap (λ t. c.args.out.now ++ t) (sym (printed-plain c.args.ty.now c.args.value.now c.requires.fits c.requires.some c.requires.plain)))
    c.write_value.ensures.ok
