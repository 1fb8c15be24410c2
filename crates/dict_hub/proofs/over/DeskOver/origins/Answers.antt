use Rattle.std.proofs.Common.{arith}
use Rattle.dict_hub.proofs.Allowed.{allowed-all, allowed-next}
use Rattle.dict_hub.proofs.over.DeskOver.origins.Goals as goal

pub loop-d-preserved : goal.loop-d-preserved
loop-d-preserved g c =
    let all = c.args.self.now.dictionaries in record {
      seen = λ k lt. allowed-next g.C.DictAt.allows g.C.DictAt.view g.C.DictAt.state all.items c.loop-d.d k c.index.result.now c.index.ensures
          c.versions.ensures.fact (omega (arith, c.loop-d-test.true, c.len-d-end.ensures, all.ok.0)) (omega (arith, lt)) c.loop-d.invariant.seen;
    }

pub returns : goal.returns
returns g c = λ d.
    let all = c.args.self.now.dictionaries in
    allowed-all g.C.DictAt.allows g.C.DictAt.view g.C.DictAt.state all.items c.loop-d.d d
    (omega (arith, c.loop-d-test.false, c.len-d-end.ensures, all.ok.0)) c.loop-d.invariant.seen
