use Rattle.std.proofs.Common.{◌∙◌, List, Err, ap, subst, sym}
use Rattle.std.specs.Prelude.{All, Any}
use Rattle.std.specs.List.{AllZip}
use Rattle.cache_layout.specs.Fetching.{CanBeSent}
use Rattle.dict_value.specs.Values.{FitsColumn}
use Rattle.dict_value.specs.declared.value.Field.{Field}
use Rattle.dict_value.specs.declared.value.Value.{Value}
use Rattle.dict_functions.specs.Keys.{ReadsAs}
use Rattle.dict_functions.specs.Sending.{AreUnsent, IsTooLong}
use Rattle.dict_functions.specs.declared.sending.RowsFault.{RowsFault}
use Rattle.dict_functions.specs.steps.Lines.{rows_fault}
use Rattle.dict_functions.proofs.SentRows.{unread-refused, zip-second}
use Rattle.dict_functions.proofs.SideBySide.{zip-weaker}
use Rattle.dict_functions.proofs.sending.rows_from.Goals as goal

pub returns-in-Err-clause-err : goal.returns-in-Err-clause-err
returns-in-Err-clause-err c = λ other unread.
    let format = c.args.format in
    let types = c.args.types.now in
    let lines = c.args.lines.now in
    subst (λ (f : RowsFault). AreUnsent format types lines unread (rows_fault unread f)) (sym c.unread_rows.ensures)
    (unread-refused format types lines c.in-Err.fault (λ n e. c.each_line.ensures.unread n (c.in-Err.is ∙ ap Err e))
    (λ e. other (c.unread_rows.ensures ∙ e)) unread)

pub can_be_sent-requires-clause-fits : goal.can_be_sent-requires-clause-fits
can_be_sent-requires-clause-fits c =
    let types = c.args.types.now in
    subst (All (AllZip FitsColumn types)) (sym c.as_slice.ensures)
    (zip-second (λ (fields : List Field) (row : List Value). ReadsAs types fields row × AllZip FitsColumn types row) (AllZip FitsColumn types)
    (λ fields row made. made.1) c.args.lines.now c.in-Ok.rows c.in-Ok.ensures.made)

pub returns-in-Ok-true-clause-ok : goal.returns-in-Ok-true-clause-ok
returns-in-Ok-true-clause-ok c =
    let types = c.args.types.now in
    record {
      read = zip-weaker (λ (fields : List Field) (row : List Value). ReadsAs types fields row × AllZip FitsColumn types row) (ReadsAs types)
          (λ fields row made. made.0) c.args.lines.now c.in-Ok.rows c.in-Ok.ensures.made;
      sent = subst (All (CanBeSent c.args.format types)) c.as_slice.ensures (c.can_be_sent.ensures.yes (cc));
    }

pub returns-in-Ok-false-clause-err : goal.returns-in-Ok-false-clause-err
returns-in-Ok-false-clause-err c = λ other unread.
    let types = c.args.types.now in
    AreUnsent.large c.in-Ok.rows
    (zip-weaker (λ (fields : List Field) (row : List Value). ReadsAs types fields row × AllZip FitsColumn types row) (ReadsAs types)
    (λ fields row made. made.0) c.args.lines.now c.in-Ok.rows c.in-Ok.ensures.made)
    (subst (Any (IsTooLong c.args.format types)) c.as_slice.ensures (c.can_be_sent.ensures.no (cc)))
