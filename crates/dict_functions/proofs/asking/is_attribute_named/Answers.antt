use Rattle.std.proofs.Common.{◌≡◌, ◌∙◌, true, ap, sym}
use Rattle.std.proofs.lemmas.Option.{same_Some}
use Rattle.dict_schema.specs.declared.definition.Column.{Column}
use Rattle.dict_functions.proofs.SideBySide.{item-here}
use Rattle.dict_functions.proofs.asking.is_attribute_named.Goals as goal

pub returns-clause-yes : goal.returns-clause-yes
returns-clause-yes c = λ e. (
  c.index-as_slice-place.result,
  record {
    here = item-here c.as_slice.result.now c.args.d.now.columns c.args.place c.index-as_slice-place.result c.as_slice.ensures c.requires c.index-as_slice-place.is;
    named = ap (λ (x : Column). x.name) c.index-as_slice-place.is ∙ c.is_same.ensures.0 e;
    attribute = sym c.is_attribute.ensures ∙ c.if-not-is_attribute.false;
  },
)

pub returns-clause-no : goal.returns-clause-no
returns-clause-no c = λ e column named.
    let here = item-here c.as_slice.result.now c.args.d.now.columns c.args.place c.index-as_slice-place.result c.as_slice.ensures c.requires c.index-as_slice-place.is in
    let same : c.index-as_slice-place.result ≡ column = same_Some c.index-as_slice-place.result column (sym here ∙ named.here) in
    let yes : c.is_same.result ≡ true = c.is_same.ensures.1 (ap (λ (x : Column). x.name) (sym c.index-as_slice-place.is ∙ same) ∙ named.named) in
    cc
