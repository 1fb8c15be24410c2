use Rattle.std.proofs.Common.{string_bytes, arith, codes, refl}
use Rattle.dictd.proofs.CommandWords.{three, once-words, is-verb}
use Rattle.dictd.proofs.words.once_words.Goals as goal

pub returns-in-Some : goal.returns-in-Some
returns-in-Some c =
    let list = three c.args.words.now c.verb-item.result c.name-item.result c.seed-item.result (omega (arith, c.in-len3.len_at_least)) (omega (arith, c.in-len3.len_below)) c.verb-item.is c.name-item.is c.seed-item.is in
    once-words string_bytes c.args.words.now c.verb-item.result c.name-item.result c.seed-item.result c.as_str.result.now _ c.as_bytes.result.now c.in-Some.number list c.as_str.ensures.value refl c.as_bytes.ensures.value (is-verb c.as_str.result.now (codes "once") _ refl c.if-ne.ensures) c.in-Some.ensures
