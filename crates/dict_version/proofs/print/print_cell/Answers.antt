use Rattle.dict_version.proofs.print.print_cell.Goals as goal

pub returns-in-Day-clause-ok : goal.returns-in-Day-clause-ok
returns-in-Day-clause-ok c = rw c.in-Day.is c.print_plain-in-Day.ensures.ok

pub returns-in-Second-clause-ok : goal.returns-in-Second-clause-ok
returns-in-Second-clause-ok c = rw c.in-Second.is c.print_plain-in-Second.ensures.ok
