use Rattle.std.proofs.Common.{◌≡◌, Err, List, refl, subst}
use Rattle.dict_schema.specs.declared.definition.Item.{Item}
use Rattle.ddl_tokens.specs.Lines.{line_of}
use Rattle.ddl_text.specs.declared.fault.DdlRefusal.{DdlRefusal}
use Rattle.ddl_text.specs.Faults.{place_of_fault}
use Rattle.ddl_text.specs.Files.{FallsFor, IfRefused, IsLeastOfFile}
use Rattle.dict_hub.specs.Texts.{OfTokens}
use Rattle.dict_hub.proofs.reading.items_of.Goals as goal

pub returns-in-Err-Refused-clause-gives : goal.returns-in-Err-Refused-clause-gives
returns-in-Err-Refused-clause-gives c =
    let text = c.args.text.now in
    let Falls : DdlRefusal → Type 0 = λ z. OfTokens text (λ tokens. IfRefused {X = List Item} (Err z) (λ line. FallsFor tokens)) in
    let Least : DdlRefusal → Type 0 = λ z. OfTokens text (λ tokens. IfRefused {X = List Item} (Err z) (λ line. IsLeastOfFile tokens)) in
    let Lined : DdlRefusal → Type 0 = λ z. IfRefused {X = List Item} (Err z) (λ line fault. line ≡ line_of text (place_of_fault fault)) in
    record {
      fault = c.in-Err-Refused.fault;
      faulty = record {
        none = λ items tokens are defined. let e = c.in-Err-Refused.ensures.only tokens items are defined (λ same. cc) in cc;
        falls = subst Falls c.in-Err-Refused.field-0-is c.in-Err-Refused.ensures.exact;
        least = subst Least c.in-Err-Refused.field-0-is c.in-Err-Refused.ensures.least;
        lined = subst Lined c.in-Err-Refused.field-0-is c.in-Err-Refused.ensures.line;
      };
      place_is = c.place_of.ensures;
      words_are = c.fault_words.ensures;
    }
