use Rattle.std.proofs.Common.{◌≡◌, ◌-◌, length}
use Rattle.sci_histories.specs.Reading.{lists_at}
use Rattle.sci_histories.proofs.Looping.{with}
use Rattle.sci_histories.proofs.reader.read_lists.Given as goal

-- the lists so far and those of what is left are those of all
abbrev pub invariant-loop-node : goal.invariant-loop-node
invariant-loop-node l =
    record {
      left : with l.lists.items (lists_at l.node (l.nodes - l.node) l.at l.rest) ≡ lists_at 0 l.nodes l.number l.text;
      count : length l.lists.items ≡ l.node;
    }
