use Rattle.load_core.proofs.LawLemmas.{grows, numbers, loads_rise, counts, posted_is, one_load_each, current_is_newest, failing_keeps, published_clears, refused_keeps, at_enter, never_fall, never_older, never_below}
use Rattle.load_core.proofs.laws.core_law.Goals as goal

pub returns-clause-grows : goal.returns-clause-grows
returns-clause-grows g c = grows g.J.Judge.judges

pub returns-clause-numbers : goal.returns-clause-numbers
returns-clause-numbers g c = numbers g.J.Judge.judges

pub returns-clause-one_load_each : goal.returns-clause-one_load_each
returns-clause-one_load_each g c = one_load_each g.J.Judge.judges

pub returns-clause-current : goal.returns-clause-current
returns-clause-current g c = current_is_newest g.J.Judge.judges

pub returns-clause-loads_rise : goal.returns-clause-loads_rise
returns-clause-loads_rise g c = loads_rise g.J.Judge.judges

pub returns-clause-failing : goal.returns-clause-failing
returns-clause-failing g c = failing_keeps g.J.Judge.judges

pub returns-clause-published : goal.returns-clause-published
returns-clause-published g c = published_clears g.J.Judge.judges

pub returns-clause-refused : goal.returns-clause-refused
returns-clause-refused g c = refused_keeps g.J.Judge.judges

pub returns-clause-counts : goal.returns-clause-counts
returns-clause-counts g c = counts g.J.Judge.judges

pub returns-clause-posted : goal.returns-clause-posted
returns-clause-posted g c = posted_is g.J.Judge.judges

pub returns-clause-at_enter : goal.returns-clause-at_enter
returns-clause-at_enter g c = at_enter g.J.Judge.judges

pub returns-clause-never_fall : goal.returns-clause-never_fall
returns-clause-never_fall g c = never_fall g.J.Judge.judges

pub returns-clause-never_below : goal.returns-clause-never_below
returns-clause-never_below g c = never_below g.J.Judge.judges

pub returns-clause-never_older : goal.returns-clause-never_older
returns-clause-never_older g c = never_older g.J.Judge.judges
