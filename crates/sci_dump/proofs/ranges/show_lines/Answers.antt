use Rattle.std.proofs.Common.{arith, List, All, subst}
use Rattle.std.proofs.lemmas.List.{take_all}
use Rattle.std.proofs.lemmas.List.Elements.{All-more}
use Rattle.sci_core.specs.Closed.{ClosedLine}
use Rattle.sci_dump.proofs.Dumpable.{IsDumpable}
use Rattle.sci_dump.proofs.ranges.show_lines.Goals as goal

pub loop-closed-preserved : goal.loop-closed-preserved
loop-closed-preserved c =
    All-more IsDumpable c.args.lines.now c.loop-closed.closed-index c.closed-item.result (omega (arith, c.loop-closed-test.true)) c.loop-closed.invariant (subst IsDumpable c.closed-item.is c.show_closed.ensures)

pub returns : goal.returns
returns c =
    subst (λ (cs : List ClosedLine). All IsDumpable cs) (take_all c.loop-closed.closed-index c.args.lines.now (omega (arith, c.loop-closed-test.false))) c.loop-closed.invariant
