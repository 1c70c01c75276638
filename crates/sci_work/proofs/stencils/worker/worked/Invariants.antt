use Rattle.std.proofs.Common.{◌+◌}
use Rattle.sci_work.specs.Stencil.{phase_writes}
use Rattle.sci_work.specs.Workers.{HasWorked}
use Rattle.sci_work.proofs.stencils.worker.worked.Given as goal

abbrev pub invariant-loop-phase : goal.invariant-loop-phase
invariant-loop-phase g l = HasWorked l.fn.node.keeps (phase_writes l.fn.work.cells.now l.fn.work.nodes l.fn.work.tiles l.fn.number (l.phase + 1)) g.B.Bank.way g.B.Bank.keep g.B.Bank.at_step g.B.Bank.gives g.B.Bank.readies g.B.Bank.receipts l.fn.bank l.node l.bank
