use Rattle.std.proofs.Common.{◌≡◌, ◌++◌, ◌+◌, ◌≤◌, drop, map, vec_items, vec_len, vec_capacity}
use Rattle.std.specs.Vec.Iter.{into_iter_items, into_iter_len}
use Rattle.sci_work.specs.Ended.{lists_in}
use Rattle.sci_serve.specs.Histories.{histories_from}
use Rattle.sci_serve.proofs.histories.line_histories.Given as goal

-- the histories so far, and those of what is left, are all
abbrev pub invariant-loop-lists : goal.invariant-loop-lists
invariant-loop-lists l = record {
  rest : vec_len l.histories + into_iter_len l.lists-iterator ≡ vec_len l.lines;
  room : vec_len l.lines ≤ vec_capacity l.histories;
  each : vec_items l.histories ++ histories_from (drop (vec_len l.histories) (vec_items l.lines)) (map lists_in (into_iter_items l.lists-iterator)) ≡ histories_from (vec_items l.lines) (map lists_in (vec_items l.fn.memory.receipts));
}
