use Rattle.std.proofs.Common.{◌≡◌, ◌+◌, ◌-◌, ◌%◌, ◌<◌}
use Rattle.sci_work.proofs.stencils.worker.advance_all.Given as goal
use Rattle.sci_work.specs.Stencil.{tile_writes}
use Rattle.sci_work.specs.Workers.{HasWorked}

abbrev pub invariant-loop-tile : goal.invariant-loop-tile
invariant-loop-tile g l = record {
  worked : HasWorked l.fn.node.keeps (tile_writes l.fn.work.cells.now l.fn.work.nodes l.fn.number (l.fn.phase + 1) l.tile) g.B.Bank.way g.B.Bank.keep g.B.Bank.at_step g.B.Bank.gives g.B.Bank.readies g.B.Bank.receipts l.fn.bank l.node l.bank;
  own : l.tile % l.fn.work.nodes ≡ l.fn.number;
  near : l.tile < l.fn.work.tiles + l.fn.work.nodes;
}

abbrev pub decreases-loop-tile : goal.decreases-loop-tile
decreases-loop-tile g l = l.fn.work.tiles - l.tile
