use Rattle.std.proofs.Common.{◌≡◌, ◌++◌, ◌∷◌, ◌∙◌, [], ℕ, List, sym, ap, append_assoc}
use Rattle.std.specs.List.{flat_map}
use Rattle.row_text.specs.Cutting.{IsWhole, ended}
use Rattle.row_text.proofs.MarkLists.{all-append}
use Rattle.row_text.proofs.Pieces.{front-of, joined-more, rest-of}
use Rattle.row_text.proofs.cutter.cut_piece.Goals as goal

pub loop-count-preserved : goal.loop-count-preserved
loop-count-preserved c rule held =
    let before = c.loop-count.invariant rule held in
    let rows = before.1.0 in
    let feeds = c.in-Row.ensures.feeds rule c.loop-count.row before.0 in
    let fed = feeds.0 in
    let left = c.loop-count.left.now in
    let count = c.in-Row.count in
    let row = c.loop-count.row ++ fed.0 in
    let whole : c.in_ok-whole.whole ≡ row = c.in_ok-whole.ensures ∙ c.as_slice.ensures ∙ c.in_ok-extend.ensures.ok ∙ ap (λ (t : List ℕ). c.loop-count.row ++ t) (front-of left fed.0 fed.1 count fed.2 fed.3) in (
      rw c.clear.ensures feeds.1,
      (
        rows ++ row ∷ [],
        c.in_ok-push.ensures.ok ∙ ap (λ (t : List ℕ). c.loop-count.rows ++ t ∷ []) whole ∙ ap (λ (ts : List (List ℕ)). ts ++ row ∷ []) before.1.1 ∙ append_assoc c.args.rows.now rows (row ∷ []),
        all-append (IsWhole rule) rows (row ∷ []) before.1.2 (fed.4, tt),
        rw c.clear.ensures (joined-more _ c.loop-count.row left fed.0 fed.1 rows before.1.3 fed.2
            ∙ ap (λ (t : List ℕ). flat_map ended (rows ++ row ∷ []) ++ t) (sym (rest-of left fed.0 fed.1 count fed.2 fed.3))),
      ),
    )
