use Rattle.std.proofs.Common.{arith, inl, inr, subst, sym, ◌∙◌}
use Rattle.request_reader.proofs.Hearing.{block_goes_on, small_block}
use Rattle.wire_text.specs.RequestTexts.{HeardOf}
use Rattle.wire_text.specs.Requests.{IsRequest}
use Rattle.request_reader.proofs.reader.read_block.Goals.{then-count-gt-MOST_BLOCK_LINES-via-then-count-gt-MOST_BLOCK_LINES, then-count-gt-MOST_BLOCK_LINES-via-else-count-gt-MOST_BLOCK_LINES+then-further-from}
use Rattle.request_reader.proofs.reader.read_block.Goals as goal

pub returns-then-count-gt-MOST_BLOCK_LINES : goal.returns-then-count-gt-MOST_BLOCK_LINES
returns-then-count-gt-MOST_BLOCK_LINES c = λ lines behind keeps a b.
    c.read_large.ensures lines c.args.count behind c.requires.some
    (elim c.then-count-gt-MOST_BLOCK_LINES.branch [
      | then-count-gt-MOST_BLOCK_LINES-via-then-count-gt-MOST_BLOCK_LINES w ↦ inl (omega (arith, w.if-count-gt-MOST_BLOCK_LINES.true))
      | then-count-gt-MOST_BLOCK_LINES-via-else-count-gt-MOST_BLOCK_LINES+then-further-from w ↦ inr (omega (arith, w.if-further-from.true, w.from.ensures, keeps.bytes))
    ])

pub returns-then-not-all : goal.returns-then-not-all
returns-then-not-all c = λ lines behind keeps a b.
    HeardOf.cut
    (small_block c.args.count c.args.further.now.bytes behind (omega (arith, c.if-count-gt-MOST_BLOCK_LINES.false)) (omega (arith, c.if-further-from.false, c.from.ensures)) keeps.bytes)
    (b c.if-not-all.true)

pub returns-then-not-further : goal.returns-then-not-further
returns-then-not-further c = λ lines behind keeps a b. block_goes_on c.args.first.now lines c.args.count behind c.requires.some

pub returns-in-Ok : goal.returns-in-Ok
returns-in-Ok c = λ lines behind keeps a b.
    HeardOf.whole
    (small_block c.args.count c.args.further.now.bytes behind (omega (arith, c.if-count-gt-MOST_BLOCK_LINES.false)) (omega (arith, c.if-further-from.false, c.from.ensures)) keeps.bytes)
    (a c.if-not-all.false)
    (subst (λ z. IsRequest c.args.first.now z c.in-Ok.request) (c.as_slice.ensures ∙ keeps.kept c.if-not-further.false) c.in-Ok.ensures.exact)

pub returns-in-Err-Bad : goal.returns-in-Err-Bad
returns-in-Err-Bad c = λ lines behind keeps a b.
    HeardOf.unread
    (small_block c.args.count c.args.further.now.bytes behind (omega (arith, c.if-count-gt-MOST_BLOCK_LINES.false)) (omega (arith, c.if-further-from.false, c.from.ensures)) keeps.bytes)
    (a c.if-not-all.false)
    (λ r is. (rw c.in-Err-Bad.field-0-is at c.in-Err-Bad.ensures.exact) r (subst (λ z. IsRequest c.args.first.now z r) (sym (c.as_slice.ensures ∙ keeps.kept c.if-not-further.false)) is))
