use Rattle.sci_histories.specs.Table.{IsTable}
use Rattle.sci_histories.proofs.tables.table_of.Given as goal

abbrev pub invariant-loop-node : goal.invariant-loop-node
invariant-loop-node l = IsTable l.line l.node 0 l.words.items l.is_twice
