use Rattle.sci_histories.proofs.Places.{keeps_within}
use Rattle.sci_histories.proofs.ranges.keeps_within.Goals as goal

pub returns-then-first-last : goal.returns-then-first-last
returns-then-first-last c =
    keeps_within c.args.line.now c.lists_are_within.result (rw (c.opening_of-first.ensures, c.closing_of-last.ensures) at c.if-first-last.true) (rw (c.opening_of-first.ensures, c.closing_of-last.ensures, c.lists_of.ensures) at c.lists_are_within.ensures)
