use Rattle.dict_version.proofs.RangeLookups.{ranges-find, ranges-step}
use Rattle.dict_version.proofs.index.Index.find.Goals as goal

pub returns-in-Ranges-Ranged-clause-found : goal.returns-in-Ranges-Ranged-clause-found
returns-in-Ranges-Ranged-clause-found g c = λ wanted d rows is.
    let here = rw c.in-Ranges-Ranged.is-0 at is in
    rw c.in-Ranges-Ranged.is-1
    (ranges-find d rows c.in-Ranges-Ranged.ranged c.in-Ranges-Ranged.values c.in-Ranges-Ranged.point wanted _ c.find_at.ensures.found here)

pub returns-in-Ranges-Ranged-clause-steps : goal.returns-in-Ranges-Ranged-clause-steps
returns-in-Ranges-Ranged-clause-steps g c = λ wanted d rows is.
    let here = rw c.in-Ranges-Ranged.is-0 at is in
    rw c.in-Ranges-Ranged.is-1
    (ranges-step d rows c.in-Ranges-Ranged.ranged c.in-Ranges-Ranged.values c.in-Ranges-Ranged.point wanted _ _ c.find_at.ensures.steps here)
