use Rattle.sci_serve.proofs.verdicts.verdict_text.Goals as goal

pub lawful_text-requires-clause-exact : goal.lawful_text-requires-clause-exact
lawful_text-requires-clause-exact c = rw c.lines_of.ensures.lines (rw c.in-Lawful.is at c.requires)

pub returns-in-Unlawful : goal.returns-in-Unlawful
returns-in-Unlawful c = rw c.in-Unlawful.is c.unlawful_text.ensures
