use Rattle.std.proofs.Common.{◌∙◌, Err, Bool, ap, subst, sym}
use Rattle.wire_text.specs.declared.reply.ReplyFault.{ReplyFault}
use Rattle.dict_functions.specs.Keys.{IsFirstWithout}
use Rattle.dict_functions.specs.Refusals.{HasKey, IsRefusal, IsUnfitting}
use Rattle.dict_functions.proofs.Unfitting.{hierarchy-fits, key-refused}
use Rattle.dict_functions.proofs.hierarchies.hierarchy_lines.Goals as goal

pub returns-in_default : goal.returns-in_default
returns-in_default c = λ other. IsRefusal.unfitting (IsUnfitting.hierarchy (c.requires.verb, c.in_default.ensures))

pub returns-in-Ok : goal.returns-in-Ok
returns-in-Ok c = λ other.
    let of = c.in-Some.ensures in
    (hierarchy-fits c.args.version.now.definition c.args.q.now c.requires.verb of.0 of.1, c.in-Ok.ensures.made)

pub returns-in-Err : goal.returns-in-Err
returns-in-Err c = λ other.
    let d = c.args.version.now.definition in
    let q = c.args.q.now in
    let of = c.in-Some.ensures in
    subst (λ (f : ReplyFault). IsRefusal d q f) (sym c.key_fault.ensures)
    (key-refused d q c.in-Err.fault (hierarchy-fits d q c.requires.verb of.0 of.1)
    (λ n e. subst (λ (b : Bool). IsFirstWithout (HasKey d b) q.lines n) (sym c.requires.verb) (c.each_line.ensures.unread n (c.in-Err.is ∙ ap Err e)))
    (λ e. other (ap Err (c.key_fault.ensures ∙ e))))
