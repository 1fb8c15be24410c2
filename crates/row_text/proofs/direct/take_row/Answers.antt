use Rattle.std.proofs.Common.{List, length, ◌∙◌, ap, sym}
use Rattle.dict_value.specs.declared.value.AttrType.{AttrType}
use Rattle.dict_value.specs.Values.{FitsColumn}
use Rattle.row_text.proofs.Fitted.{typed-fits, zip-length}
use Rattle.row_text.proofs.direct.take_row.Goals as goal

pub end_row-requires-clause-whole : goal.end_row-requires-clause-whole
end_row-requires-clause-whole g c =
    let fits = typed-fits c.args.format (g.C.Columns.columns c.args.columns.now) (g.C.Columns.types c.args.columns.now) c.in-Some.ensures.row.line c.push_line-taken.new.rows.open_row c.requires.fit c.in-Some.ensures.row.typed in
    sym (zip-length FitsColumn (g.C.Columns.types c.args.columns.now) c.push_line-taken.new.rows.open_row fits) ∙ ap (λ (ts : List AttrType). length ts) (sym (c.push_line-taken.ensures.types ∙ c.requires.types))
