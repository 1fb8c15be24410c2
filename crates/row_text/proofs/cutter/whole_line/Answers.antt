use Rattle.std.proofs.Common.{◌≡◌, ◌++◌, ◌∷◌, ◌∙◌, [], ℕ, List, drop, sym, ap, append_assoc}
use Rattle.std.proofs.lemmas.List.{take_rest}
use Rattle.dict_value.specs.declared.letters.TheConstants.{LINE_FEED}
use Rattle.row_text.specs.Cutting.{ended}
use Rattle.row_text.proofs.Pieces.{front-of, rest-of}
use Rattle.row_text.proofs.cutter.whole_line.Goals as goal

pub returns-in-Row-clause-line : goal.returns-in-Row-clause-line
returns-in-Row-clause-line c =
    let text = c.args.text.now in
    let size = c.in-Row.size in
    let fed = (c.in-Row.ensures.feeds c.args.rule [] c.new.ensures).0 in
    let behind : drop size text ≡ fed.1 = sym (take_rest text size) ∙ rest-of text fed.0 fed.1 size fed.2 fed.3 in
    rw (front-of text fed.0 fed.1 size fed.2 fed.3)
    (fed.4, c.in-Row.ensures.within.1, fed.2 ∙ sym (append_assoc fed.0 (LINE_FEED ∷ []) fed.1) ∙ ap (λ (t : List ℕ). ended fed.0 ++ t) (sym behind))
