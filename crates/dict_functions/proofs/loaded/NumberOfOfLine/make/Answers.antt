use Rattle.std.proofs.Common.{◌∷◌, [], ℕ, false}
use Rattle.std.proofs.lemmas.Result.{IfOk-weaker}
use Rattle.dict_version.specs.Lookups.{lookup_by}
use Rattle.dict_version.specs.declared.key.Key.TheVariants as key
use Rattle.dict_functions.specs.Keys.{ReadsNumbers}
use Rattle.dict_functions.specs.Refusals.{HasKey}
use Rattle.dict_functions.proofs.NumberedKeys.{numbered-key}
use Rattle.dict_functions.proofs.loaded.NumberOfOfLine.make.Goals as goal

pub returns-clause-read : goal.returns-clause-read
returns-clause-read c =
    let d = c.args.self.now.version.now.definition in
    let fields = c.args.fields.now in
    IfOk-weaker c.only_number.result (λ (n : ℕ). ReadsNumbers fields (n ∷ [])) (λ n. HasKey d false fields)
    (λ n reads. (key.Simple n, numbered-key (lookup_by d.layout) d fields n c.requires reads))
    (rw c.as_slice.ensures at c.only_number.ensures.ok)
