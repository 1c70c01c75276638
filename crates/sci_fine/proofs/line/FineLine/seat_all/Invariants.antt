use Rattle.std.proofs.Common.{◌≡◌, ◌+◌, ◌≤◌, Some, [], vec_len}
use Rattle.std.specs.Prelude.{vec_capacity}
use Rattle.sci_core.specs.declared.pending.Pending.TheVariants.{Idle}
use Rattle.sci_fine.specs.Seats.{AreIdleFrom, AreNew}
use Rattle.sci_fine.specs.Views.{HasMadeNone}
use Rattle.sci_fine.proofs.line.FineLine.seat_all.Given as goal

abbrev pub invariant-loop-number : goal.invariant-loop-number
invariant-loop-number g l = record {
  of : l.root.table_id ≡ l.self.table.shared.table_id;
  hand : l.root.me.1 ≡ [];
  live : l.root.me.0.of ≡ Some l.self.terms;
  first : l.root.me.0.node ≡ 0;
  joined : l.root.me.0.joined ≡ l.self.terms.nodes;
  idle : l.root.me.0.pending ≡ Idle;
  next : l.root.me.0.next ≡ l.number;
  len : vec_len l.seats + 1 ≡ l.number;
  room : l.self.terms.nodes ≤ vec_capacity l.seats;
  seats : AreIdleFrom l.self 1 l.seats.items;
  none : HasMadeNone l.root.me.0;
  logs : l.root.me.0.logs ≡ [];
  fresh : AreNew l.seats.items;
}
