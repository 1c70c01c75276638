use Rattle.std.proofs.Common.{◌≡◌, [], ◌-◌, ◌*◌, ◌/◌, ◌%◌, vec_items, vec_len}
use Rattle.sci_work.specs.Shares.{IsShare}
use Rattle.sci_work.specs.Plain.{plain}
use Rattle.sci_work.proofs.stencils.worker.collect.Given as goal
use Rattle.sci_work.specs.Workers.{HasWorked}

abbrev pub invariant-loop-tile : goal.invariant-loop-tile
invariant-loop-tile g l = record {
  worked : HasWorked l.fn.node.keeps [] g.B.Bank.way g.B.Bank.keep g.B.Bank.at_step g.B.Bank.gives g.B.Bank.readies g.B.Bank.receipts l.fn.bank l.node l.bank;
  own : l.tile % l.fn.work.nodes ≡ l.fn.number;
  size : vec_len l.share ≡ 7 * (l.tile / l.fn.work.nodes);
  shared : IsShare (plain l.fn.work.cells.now l.fn.work.phases) l.fn.work.nodes l.fn.number l.tile (vec_items l.share);
}

abbrev pub decreases-loop-tile : goal.decreases-loop-tile
decreases-loop-tile g l = l.fn.work.tiles - l.tile
