use Rattle.std.proofs.Common.{◌∷◌, [], sym}
use Rattle.std.proofs.lemmas.Slice.Zip.{AllZip-long}
use Rattle.dict_functions.specs.Keys.{ReadsNumber}
use Rattle.dict_functions.proofs.SideBySide.{first-number}
use Rattle.dict_functions.proofs.keys.only_number.Goals as goal

pub returns-then-fields-ne1-clause-bad : goal.returns-then-fields-ne1-clause-bad
returns-then-fields-ne1-clause-bad c = λ e n reads.
    c.if-fields-ne1.true (sym (AllZip-long ReadsNumber c.args.fields.now (n ∷ []) reads))

pub returns-in-None-clause-bad : goal.returns-in-None-clause-bad
returns-in-None-clause-bad c = λ e n reads.
    c.in-None.ensures n (first-number c.args.fields.now n c.index-fields-0.result c.index-fields-0.is reads)
