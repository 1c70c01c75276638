use Rattle.std.proofs.Common.{◌≡◌, ◌≤◌, replicate}
use Rattle.std.specs.Prelude.{vec_capacity}
use Rattle.sci_port.specs.Readying.{no_receipts}
use Rattle.sci_port.proofs.receipts.Receipts.of_lines.Given as goal

abbrev pub invariant-loop-line : goal.invariant-loop-line
invariant-loop-line l =
    record {
      made : l.all.items ≡ replicate l.line no_receipts;
      room : l.lines ≤ vec_capacity l.all;
    }
