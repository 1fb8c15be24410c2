use Rattle.std.proofs.Common.{◌∙◌, List, ℕ, refl, sym, ap, arith}
use Rattle.std.specs.List.{flat_map}
use Rattle.std.proofs.lemmas.List.{take_all}
use Rattle.std.proofs.lemmas.List.Concat.{concat_is}
use Rattle.row_text.proofs.OneCutting.{same-cuts}
use Rattle.row_text.proofs.cutter.rows_of_pieces.Goals as goal

pub returns-clause-rows : goal.returns-clause-rows
returns-clause-rows c =
    let all = take_all c.loop-piece.piece-index c.args.pieces.now (omega arith) in
    record {
      joined = concat_is c.args.pieces.now ∙ ap (λ (ts : List (List ℕ)). flat_map (λ (p : List ℕ). p) ts) (sym all) ∙ c.loop-piece.invariant.joined;
      whole = c.loop-piece.invariant.whole;
      opened = c.loop-piece.invariant.held.opened;
    }

pub returns-clause-lines : goal.returns-clause-lines
returns-clause-lines c = (c.loop-piece.rows, c.loop-piece.rest, returns-clause-rows c, refl)

pub returns-clause-only : goal.returns-clause-only
returns-clause-only c others (rest, cuts) =
    (same-cuts c.args.rule _ c.loop-piece.rows others _ rest (returns-clause-rows c) cuts).0
