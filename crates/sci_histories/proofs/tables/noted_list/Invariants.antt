use Rattle.sci_histories.specs.Table.{IsTable}
use Rattle.sci_histories.proofs.tables.noted_list.Given as goal

abbrev pub invariant-loop-place : goal.invariant-loop-place
invariant-loop-place l = IsTable l.line l.node l.place l.words l.is_twice
