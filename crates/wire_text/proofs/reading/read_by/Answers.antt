use Rattle.wire_text.proofs.reading.read_by.Goals as goal

pub returns-in-Hierarchy : goal.returns-in-Hierarchy
returns-in-Hierarchy c = rw c.in-Hierarchy.is c.read_above.ensures

pub returns-in-Children : goal.returns-in-Children
returns-in-Children c = rw c.in-Children.is c.read_above-in-Children.ensures

pub returns-in-IsIn : goal.returns-in-IsIn
returns-in-IsIn c = rw c.in-IsIn.is c.read_above-in-IsIn.ensures

pub returns-in-Descendants : goal.returns-in-Descendants
returns-in-Descendants c = rw c.in-Descendants.is c.read_below.ensures

pub returns-in-After : goal.returns-in-After
returns-in-After c = rw c.in-After.is c.read_after.ensures
