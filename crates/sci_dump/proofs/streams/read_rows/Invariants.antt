use Rattle.std.proofs.Common.{◌≡◌, ◌-◌, ◌+◌, ◌≤◌, ℕ, List, true, All, length}
use Rattle.sci_words.specs.Tag.{tag_well_formed}
use Rattle.sci_dump.specs.Reading.{entries_at}
use Rattle.sci_dump.specs.Streams.{from_line, IsHeadOf, HoldsRow}
use Rattle.sci_dump.proofs.Looping.{with_nodes}
use Rattle.sci_dump.proofs.streams.read_rows.Given as goal

-- the nodes so far and those of what is left are those of all
abbrev pub invariant-loop-node : goal.invariant-loop-node
invariant-loop-node g l =
    record {
      left : (text : List ℕ) → IsHeadOf l.head text → HoldsRow text l.fn.first (g.R.Read.remaining l.fn.reader)
          → HoldsRow text l.row (g.R.Read.remaining l.reader)
          × (with_nodes l.head.layout l.tags.items l.lines.items (entries_at l.head.layout l.closed l.node (l.head.nodes - l.node) l.row.number (from_line l.row.number text))
          ≡ entries_at l.head.layout l.closed 0 l.head.nodes l.fn.first.number (from_line l.fn.first.number text));
      well_formed : All (λ t. tag_well_formed t ≡ true) l.tags.items;
      tags : length l.tags.items ≡ l.node;
      lines : length l.lines.items ≡ l.node;
      near : l.row.number ≤ l.fn.first.number + l.node;
    }
