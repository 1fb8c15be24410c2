use Rattle.std.proofs.Common.{List, Ok, Err, ap, subst, sym}
use Rattle.dict_schema.specs.declared.definition.Item.{Item}
use Rattle.ddl_tokens.specs.Tokens.{Token}
use Rattle.ddl_text.specs.declared.fault.FileFault.{FileFault}
use Rattle.ddl_text.specs.Files.{FallsFor, IfFault, IsDefined, IsLeastOfFile}
use Rattle.ddl_text.proofs.FileLaws.{falls_or_defined, first_of_file, whole_defined, whole_only}
use Rattle.ddl_text.proofs.parse_definitions.Goals as goal

pub returns-in-Ok-clause-found : goal.returns-in-Ok-clause-found
returns-in-Ok-clause-found c = λ tokens a.
    subst (λ (ts : List Token). IsDefined ts c.in-Ok.items) (c.new-reader.ensures.only tokens a) (whole_defined c.new-reader.result c.in-Ok.items c.in-Ok.ensures.value)

pub returns-in-Ok-clause-only : goal.returns-in-Ok-clause-only
returns-in-Ok-clause-only c = λ tokens items a defined n.
    ap (λ (xs : List Item). Ok xs) (whole_only c.new-reader.result c.in-Ok.items items c.in-Ok.ensures.value (subst (λ (ts : List Token). IsDefined ts items) (sym (c.new-reader.ensures.only tokens a)) defined))

pub returns-in-Err-Fault-clause-only : goal.returns-in-Err-Fault-clause-only
returns-in-Err-Fault-clause-only c = λ tokens items a defined n.
    absurd (falls_or_defined c.new-reader.result c.in-Err-Fault.fault items (subst (λ (f : FileFault). IfFault {X = List Item} (Err f) (FallsFor c.new-reader.result)) c.in-Err-Fault.field-0-is c.in-Err-Fault.ensures.refused) (subst (λ (ts : List Token). IsDefined ts items) (sym (c.new-reader.ensures.only tokens a)) defined))

pub returns-in-Err-Fault-clause-least : goal.returns-in-Err-Fault-clause-least
returns-in-Err-Fault-clause-least c = λ tokens a.
    rw c.refusal.ensures (subst (λ (ts : List Token). IsLeastOfFile ts c.in-Err-Fault.fault) (c.new-reader.ensures.only tokens a) (first_of_file c.new-reader.result c.in-Err-Fault.fault (subst (λ (f : FileFault). IfFault {X = List Item} (Err f) (FallsFor c.new-reader.result)) c.in-Err-Fault.field-0-is c.in-Err-Fault.ensures.refused)))
