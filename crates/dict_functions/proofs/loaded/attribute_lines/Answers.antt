use Rattle.std.proofs.Common.{◌≡◌, ◌∙◌, Err, Bool, List, ap, subst, sym}
use Rattle.std.proofs.lemmas.Option.{slice_get_within}
use Rattle.dict_schema.specs.declared.definition.Definition.{Definition}
use Rattle.dict_value.specs.declared.value.Field.{Field}
use Rattle.wire_text.specs.declared.reply.Line.{Line}
use Rattle.wire_text.specs.declared.reply.ReplyFault.{ReplyFault}
use Rattle.wire_text.specs.declared.reply.ReplyFault.TheVariants as fault
use Rattle.dict_functions.specs.Answers.{IsLoadedLine}
use Rattle.dict_functions.specs.Keys.{IsFirstWithout}
use Rattle.dict_functions.specs.Refusals.{HasKey, IsRefusal, IsUnfitting}
use Rattle.dict_functions.specs.Values.{IsAttributeText}
use Rattle.dict_functions.specs.steps.Lines.{HasLine, IsAttributeOf}
use Rattle.dict_functions.proofs.Cells.{attribute-is}
use Rattle.dict_functions.proofs.SideBySide.{zip-weaker}
use Rattle.dict_functions.proofs.Unfitting.{attribute-fits, key-refused, no-hierarchy-asked}
use Rattle.dict_functions.proofs.loaded.attribute_lines.Goals as goal

pub returns-in-Err : goal.returns-in-Err
returns-in-Err c = λ other.
    IsRefusal.unfitting (subst (λ (d : Definition). IsUnfitting d c.args.q.now c.in-Err.fault) c.definition-d.ensures.is
    (c.in-Err.ensures (λ e. other (let memory : c.in-Err.fault ≡ fault.NoMemory = cc (e) in ap Err memory))))

pub attribute_place-requires-clause-within : goal.attribute_place-requires-clause-within
attribute_place-requires-clause-within c =
    let of = c.in-Ok.ensures (λ e. cc) in
    slice_get_within c.definition-d.result.now.columns c.in-Ok.attribute.place of.column of.named.here

pub returns-in-Ok-lines_by : goal.returns-in-Ok-lines_by
returns-in-Ok-lines_by c = λ other.
    let v = c.args.version.now in
    let q = c.args.q.now in
    let of = subst (λ (d : Definition). IsAttributeOf d q c.in-Ok.attribute) c.definition-d.ensures.is (c.in-Ok.ensures (λ e. cc)) in (
      attribute-fits v.definition q c.definition-d.ensures.sound c.requires.verb c.in-Ok.attribute.place of.column of.value of.named of.stands,
      zip-weaker (HasLine v q) (IsLoadedLine v q)
          (λ fields line made. record { moment = made.0; text = attribute-is v q fields line.text c.requires.verb made.1 })
          q.lines c.in-Ok-lines_by.lines c.in-Ok-lines_by.ensures.made,
    )

pub returns : goal.returns
returns c = λ other.
    let d = c.args.version.now.definition in
    let q = c.args.q.now in
    let of = subst (λ (d : Definition). IsAttributeOf d q c.in-Ok.attribute) c.definition-d.ensures.is (c.in-Ok.ensures (λ e. cc)) in
    subst (λ (f : ReplyFault). IsRefusal d q f) (sym c.key_fault.ensures)
    (key-refused d q c.in-Err-lines_by.fault
    (attribute-fits d q c.definition-d.ensures.sound c.requires.verb c.in-Ok.attribute.place of.column of.value of.named of.stands)
    (λ n e. subst (λ (b : Bool). IsFirstWithout (HasKey d b) q.lines n) (sym (no-hierarchy-asked q.verb c.requires.verb))
    (c.lines_by.ensures.unread n (c.in-Err-lines_by.is ∙ ap Err e)))
    (λ e. other (ap Err (c.key_fault.ensures ∙ e))))
