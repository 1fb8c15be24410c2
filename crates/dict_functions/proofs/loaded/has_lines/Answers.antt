use Rattle.std.proofs.Common.{◌≡◌, ◌∙◌, Err, Bool, List, ap, subst, sym}
use Rattle.dict_value.specs.declared.value.Field.{Field}
use Rattle.wire_text.specs.declared.reply.Line.{Line}
use Rattle.wire_text.specs.declared.reply.ReplyFault.{ReplyFault}
use Rattle.dict_functions.specs.Answers.{IsLoadedLine}
use Rattle.dict_functions.specs.Asking.{asks_hierarchy}
use Rattle.dict_functions.specs.Keys.{IsFirstWithout}
use Rattle.dict_functions.specs.Refusals.{HasKey, IsRefusal}
use Rattle.dict_functions.specs.Values.{IsHasText}
use Rattle.dict_functions.proofs.Cells.{has-is}
use Rattle.dict_functions.proofs.SideBySide.{zip-weaker}
use Rattle.dict_functions.proofs.Unfitting.{has-fits, key-refused}
use Rattle.dict_functions.proofs.loaded.has_lines.Goals as goal

pub returns-in-Ok-each_line : goal.returns-in-Ok-each_line
returns-in-Ok-each_line c = λ other.
    let v = c.args.version.now in
    let q = c.args.q.now in (
      has-fits v.definition q c.requires.verb,
      zip-weaker (λ (fields : List Field) (line : Line). (line.moment ≡ 0) × IsHasText v fields line.text) (IsLoadedLine v q)
          (λ fields line made. record { moment = made.0; text = has-is v q fields line.text c.requires.verb made.1 })
          q.lines c.in-Ok-each_line.lines c.in-Ok-each_line.ensures.made,
    )

pub returns : goal.returns
returns c = λ other.
    let d = c.args.version.now.definition in
    let q = c.args.q.now in
    subst (λ (f : ReplyFault). IsRefusal d q f) (sym c.key_fault.ensures)
    (key-refused d q c.in-Err.fault (has-fits d q c.requires.verb)
    (λ n e. subst (λ (b : Bool). IsFirstWithout (HasKey d b) q.lines n) (sym (ap asks_hierarchy c.requires.verb)) (c.each_line.ensures.unread n (c.in-Err.is ∙ ap Err e)))
    (λ e. other (ap Err (c.key_fault.ensures ∙ e))))
