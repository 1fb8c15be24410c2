use Rattle.std.proofs.Common.{◌≡◌, ◌<◌, ◌+◌, ◌++◌, ◌∷◌, [], length, get_or, take, arith, rules, subst, sym}
use Rattle.std.specs.List.{AllZip}
use Rattle.std.proofs.lemmas.List.Elements.{All-more}
use Rattle.dict_functions.specs.Keys.{IsFirstWithout}
use Rattle.dict_functions.proofs.SideBySide.{first-without, item-same, zip-more}
use Rattle.dict_functions.proofs.lines.each_line.Goals as goal

pub returns-in-Err-Unread-clause-unread : goal.returns-in-Err-Unread-clause-unread
returns-in-Err-Unread-clause-unread g c = λ n e.
    let lines = c.args.lines.now in
    let i = c.loop-place.place in
    let line = c.index-as_slice-place.result in
    let P = g.L.OfLine.reads c.args.of.now in
    let same : i + 1 ≡ n = cc (e) in
    let low : i < length lines = omega (arith, c.loop-place-test.true, c.len-place-end.ensures) in
    let at : line ≡ get_or lines i line = item-same c.as_slice.result.now lines i line c.as_slice.ensures c.index-as_slice-place.is in
    subst (λ k. IsFirstWithout P lines k) same
    (first-without P lines i line low at c.loop-place.invariant.read (c.make.ensures.unread (cc)))

pub loop-place-preserved : goal.loop-place-preserved
loop-place-preserved g c =
    let lines = c.args.lines.now in
    let i = c.loop-place.place in
    let line = c.index-as_slice-place.result in
    let P = g.L.OfLine.reads c.args.of.now in
    let R = g.L.OfLine.makes c.args.of.now in
    let low : i < length lines = omega (arith, c.loop-place-test.true, c.len-place-end.ensures) in
    let at : line ≡ get_or lines i line = item-same c.as_slice.result.now lines i line c.as_slice.ensures c.index-as_slice-place.is in
    let grew : c.push.new.self ≡ c.loop-place.made ++ c.in-Ok-make.one ∷ [] = search rules in
    record {
      read = All-more P lines i line low c.loop-place.invariant.read (subst P at c.in-Ok-make.ensures.read);
      made = subst (AllZip R (take (i + 1) lines)) (sym grew)
          (zip-more R lines c.loop-place.made i line line c.in-Ok-make.one low at c.loop-place.invariant.made c.in-Ok-make.ensures.made);
    }
