use Rattle.sci_dump.proofs.checking.check.Goals as goal

pub returns-clause-exact : goal.returns-clause-exact
returns-clause-exact c = rw c.lines_of.ensures.lines at c.verdict_of.ensures.exact

pub returns-clause-first : goal.returns-clause-first
returns-clause-first c = rw c.lines_of.ensures.lines at c.verdict_of.ensures.first
