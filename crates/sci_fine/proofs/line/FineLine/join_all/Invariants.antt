use Rattle.std.proofs.Common.{◌≡◌, ◌+◌, ◌≤◌, Some, ◌∷◌, ◌++◌, vec_len}
use Rattle.std.specs.Prelude.{vec_capacity}
use Rattle.sci_core.specs.declared.pending.Pending.TheVariants.{Idle}
use Rattle.sci_fine.specs.Kept.{lists_of}
use Rattle.sci_fine.specs.Seats.{AreIdleFrom, logs_of}
use Rattle.sci_fine.proofs.KeptAll.{moved_out}
use Rattle.sci_fine.proofs.line.FineLine.join_all.Given as goal

abbrev pub invariant-loop-seat : goal.invariant-loop-seat
invariant-loop-seat g l = record {
  of : l.root.table_id ≡ l.self.table.shared.table_id;
  live : l.root.me.0.of ≡ Some l.self.terms;
  first : l.root.me.0.node ≡ 0;
  joined : l.root.me.0.joined ≡ vec_len l.seats + 1;
  idle : l.root.me.0.pending ≡ Idle;
  seats : AreIdleFrom l.self 1 l.seats.items;
  logs : l.root.me.0.log ∷ (logs_of l.seats.items ++ l.root.me.0.logs) ≡ logs_of l.fn.seats.items;
  count : vec_len l.lists + (vec_len l.seats + 1) ≡ l.self.terms.nodes;
  room : l.self.terms.nodes ≤ vec_capacity l.lists;
  lists : l.first.list ∷ (lists_of l.seats.items ++ moved_out l.lists.items) ≡ lists_of l.fn.seats.items;
}

abbrev pub decreases-loop-seat : goal.decreases-loop-seat
decreases-loop-seat g l = goal.left-loop-seat g l
