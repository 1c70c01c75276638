use Rattle.std.proofs.Common.{ℕ, List, Option, false, subst, sym}
use Rattle.sci_histories.specs.Table.{IsTable}
use Rattle.sci_histories.proofs.Noting.{table_none}
use Rattle.sci_histories.proofs.tables.table_of.Goals as goal

pub loop-node-init : goal.loop-node-init
loop-node-init c = subst (λ (ws : List (Option (List ℕ))). IsTable c.args.line.now 0 0 ws false) (sym c.in_ok-words.ensures) (table_none c.args.line.now c.stamps_of.result c.stamps_of.ensures)
