use Rattle.std.proofs.Common.{string_bytes, arith, codes, refl}
use Rattle.dictd.proofs.CommandWords.{three, demo-words, is-verb}
use Rattle.dictd.proofs.words.demo_words.Goals as goal

pub returns : goal.returns
returns c =
    let list = three c.args.words.now c.verb-item.result c.rows-item.result c.seed-item.result (omega (arith, c.in-len3.len_at_least)) (omega (arith, c.in-len3.len_below)) c.verb-item.is c.rows-item.is c.seed-item.is in
    demo-words string_bytes c.args.words.now c.verb-item.result c.rows-item.result c.seed-item.result c.as_str.result.now c.as_bytes.result.now c.as_bytes-2.result.now c.in_ok-rows.rows c.in_ok-seed.seed list
    c.as_str.ensures.value c.as_bytes.ensures.value c.as_bytes-2.ensures.value (is-verb c.as_str.result.now (codes "demo") _ refl c.if-ne.ensures)
    c.in_ok-rows.ensures c.in_ok-seed.ensures (omega (arith, c.if-rows-eq0.false)) (omega (arith, c.if-rows-gt-MOST_DEMO_ROWS.false))
