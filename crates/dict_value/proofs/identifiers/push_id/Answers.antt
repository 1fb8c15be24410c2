-- The text is that of the identifier's bytes.
use Rattle.std.proofs.Common.{◌≡◌, ◌++◌, ap, ◌∙◌}
use Rattle.std.proofs.lemmas.Result.{on_ok_weaker}
use Rattle.uuid.specs.Text.{hyphenated_text, lower}
use Rattle.dict_value.specs.Identifiers.{id_text}
use Rattle.dict_value.proofs.identifiers.push_id.Goals as goal

pub returns-clause-ok : goal.returns-clause-ok
returns-clause-ok c =
    let same : c.as_bytes.result.now ≡ id_text c.args.id =
    c.as_bytes.ensures.value ∙ c.encode_lower-text.ensures.text
    ∙ ap (hyphenated_text lower) (c.hyphenated.ensures ∙ c.from_u128.ensures) in
    on_ok_weaker c.extend.result (λ e. e ∙ ap (λ l. c.args.out.now ++ l) same) c.extend.ensures.ok
