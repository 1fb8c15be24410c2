use Rattle.std.proofs.Common.{◌≡◌, ◌∙◌, ◌<◌, length, get_or, rules}
use Rattle.dict_functions.proofs.KeyTypes.{type-more, type-same}
use Rattle.dict_functions.proofs.keys.key_types.Goals as goal
use Rattle.dict_functions.proofs.keys.key_types.Goals.{in-Some+in_ok-push, in_default}

pub loop-key-preserved : goal.loop-key-preserved
loop-key-preserved c =
    let d = c.args.d.now in
    let i = c.loop-key.key-index in
    let low : i < length d.keys = search rules in
    let at : c.from.result ≡ get_or d.keys i 0 = search rules in
    elim c.match-column_at.branch [
      | in-Some+in_ok-push w ↦
          type-more d i c.from.result c.loop-key.types c.match-column_at.types low at c.loop-key.invariant w.in-Some.column.now w.in-Some.ensures
          (w.types-is ∙ w.in_ok-push.ensures.ok)
      | in_default w ↦
          type-same d i c.from.result c.loop-key.types c.match-column_at.types low at c.loop-key.invariant w.in_default.ensures w.types-is
    ]
