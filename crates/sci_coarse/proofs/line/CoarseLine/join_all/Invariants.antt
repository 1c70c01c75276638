use Rattle.std.proofs.Common.{◌≡◌, ◌+◌, ◌≤◌, ◌∷◌, ◌++◌, Some, false, vec_len}
use Rattle.std.specs.Prelude.{vec_capacity}
use Rattle.sci_core.specs.declared.pending.Pending.TheVariants.{Idle}
use Rattle.sci_coarse.specs.Kept.{lists_of}
use Rattle.sci_coarse.specs.Seats.{AreIdleFrom}
use Rattle.sci_coarse.proofs.KeptAll.{moved_out}
use Rattle.sci_coarse.proofs.Ordered.{KeepsFrom, AreFirstOf}
use Rattle.sci_coarse.proofs.line.CoarseLine.join_all.Given as goal

abbrev pub invariant-loop-seat : goal.invariant-loop-seat
invariant-loop-seat g l = record {
  of : l.root.table_id ≡ l.self.table.shared.table_id;
  live : l.root.me.0.of ≡ Some l.self.terms;
  unheld : l.root.me.0.holds ≡ false;
  first : l.root.me.0.node ≡ 0;
  joined : l.root.me.0.joined ≡ vec_len l.seats + 1;
  idle : l.root.me.0.pending ≡ Idle;
  seats : AreIdleFrom l.self 1 l.seats.items;
  calls : KeepsFrom l.fn.seats.items (vec_len l.seats + 1) l.root.me.0;
  others : AreFirstOf l.fn.seats.items l.seats.items;
  count : vec_len l.lists + (vec_len l.seats + 1) ≡ l.self.terms.nodes;
  room : l.self.terms.nodes ≤ vec_capacity l.lists;
  lists : l.first.list ∷ (lists_of l.seats.items ++ moved_out l.lists.items) ≡ lists_of l.fn.seats.items;
}

abbrev pub decreases-loop-seat : goal.decreases-loop-seat
decreases-loop-seat g l = goal.left-loop-seat g l
