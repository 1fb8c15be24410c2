use Rattle.std.proofs.Common.{◌++◌, ◌∷◌, ◌∙◌, [], List, ap, sym, arith}
use Rattle.std.proofs.lemmas.List.{take_all}
use Rattle.dict_value.specs.declared.value.AttrType.{AttrType}
use Rattle.row_text.specs.Fitting.{ReadsFitting}
use Rattle.row_text.proofs.Fitted.{take-next, zip-length}
use Rattle.row_text.proofs.decode.no_rows.Goals as goal

pub loop-place-preserved : goal.loop-place-preserved
loop-place-preserved g c =
    c.in-Ok.ensures.items
    ∙ (ap (λ (ts : List AttrType). ts ++ c.type_at.result ∷ []) c.loop-place.invariant ∙ sym (take-next (g.C.Columns.types c.args.columns.now) c.loop-place.place c.type_at.result c.type_at.ensures))

pub returns-in-Ok-with_room-clause-ok : goal.returns-in-Ok-with_room-clause-ok
returns-in-Ok-with_room-clause-ok g c =
    let size = zip-length ReadsFitting (g.C.Columns.columns c.args.columns.now) (g.C.Columns.types c.args.columns.now) c.requires in (
      c.in-Ok-with_room.ensures.0 ∙ (c.as_slice.ensures.value ∙ (c.loop-place.invariant
          ∙ take_all c.loop-place.place (g.C.Columns.types c.args.columns.now) (omega (arith, size, c.loop-place-test.false, c.count-place-end.ensures)))),
      c.in-Ok-with_room.ensures.1,
      c.in-Ok-with_room.ensures.2,
    )
