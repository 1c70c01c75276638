use Rattle.std.proofs.Common.{◌≡◌, ◌++◌, ◌+◌, ◌≤◌, map, vec_items, vec_len, vec_capacity}
use Rattle.std.specs.Global.{Vec}
use Rattle.std.specs.Vec.Iter.{into_iter_items, into_iter_len}
use Rattle.sci_core.specs.declared.receipts.Receipt.{Receipt}
use Rattle.sci_work.specs.Ended.{lists_in}
use Rattle.sci_serve.proofs.histories.line_history.Given as goal

-- the lists so far, and what is left, are all
abbrev pub invariant-loop-list : goal.invariant-loop-list
invariant-loop-list l = record {
  rest : vec_len l.nodes + into_iter_len l.list-iterator ≡ vec_len l.fn.lists;
  room : vec_len l.fn.lists ≤ vec_capacity l.nodes;
  each : vec_items l.nodes ++ map (λ (v : Vec Receipt). v.items) (into_iter_items l.list-iterator) ≡ lists_in l.fn.lists;
}
