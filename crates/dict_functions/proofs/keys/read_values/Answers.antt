use Rattle.std.proofs.Common.{◌≡◌, ◌<◌, ◌+◌, ◌++◌, ◌∷◌, [], length, take, arith, refl, rules, subst, sym}
use Rattle.std.specs.List.{AllZip}
use Rattle.dict_value.specs.Values.{FitsColumn}
use Rattle.dict_functions.specs.Keys.{ReadsAs}
use Rattle.dict_functions.specs.declared.lines.LineFault.TheVariants.{Unread}
use Rattle.dict_functions.specs.steps.Lines.{value_fault}
use Rattle.dict_functions.proofs.SideBySide.{fault-read, reads-long, reads-more, reads-not, zip-more}
use Rattle.dict_functions.proofs.keys.read_values.Goals as goal

pub returns-then-types-fields-clause-bad : goal.returns-then-types-fields-clause-bad
returns-then-types-fields-clause-bad c = λ e values reads.
    c.if-types-fields.true (reads-long c.args.types.now c.args.fields.now values reads)

pub returns-in-Err : goal.returns-in-Err
returns-in-Err c = record {
  ok = tt;
  fit = tt;
  bad = λ e values reads.
      let types = c.args.types.now in
      let fields = c.args.fields.now in
      let i = c.loop-place.place in
      let low : i < length types = c.loop-place-test.true in
      let also : i < length fields = omega (arith, c.if-types-fields.false) in
      let unread : value_fault c.in-Err.fault ≡ Unread = cc (e, c.value_fault.ensures) in
      reads-not types fields values i _ c.index-fields-place.result c.in-Err.fault low also c.index-fields-place.is
      (fault-read c.read_value.result _ c.in-Err.fault c.in-Err.is unread c.read_value.ensures.exact) reads;
}

pub loop-place-preserved : goal.loop-place-preserved
loop-place-preserved c =
    let types = c.args.types.now in
    let fields = c.args.fields.now in
    let i = c.loop-place.place in
    let v = c.in-Ok-read_value.value in
    let low : i < length types = c.loop-place-test.true in
    let also : i < length fields = omega (arith, c.if-types-fields.false) in
    let grew : c.push.new.self ≡ c.loop-place.values ++ v ∷ [] = search rules in
    record {
      read = subst (ReadsAs (take (i + 1) types) (take (i + 1) fields)) (sym grew)
          (reads-more types fields c.loop-place.values i _ c.index-fields-place.result v low also c.index-fields-place.is
          c.loop-place.invariant.read (sym (c.in-Ok-read_value.ensures.exact (λ none. cc))));
      fit = subst (AllZip FitsColumn (take (i + 1) types)) (sym grew)
          (zip-more FitsColumn types c.loop-place.values i _ _ v low refl c.loop-place.invariant.fit c.in-Ok-read_value.ensures.fits);
    }
