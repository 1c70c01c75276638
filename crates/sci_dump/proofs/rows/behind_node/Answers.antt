use Rattle.sci_dump.proofs.Labelled.{node_no_label, node_no_number, node_all}
use Rattle.sci_dump.proofs.rows.behind_node.Goals as goal

pub returns-in_err-text : goal.returns-in_err-text
returns-in_err-text c = rw c.from_residual.ensures (node_no_label c.args.number c.args.node c.args.text.now c.in_err-text.ensures)

pub returns-in_err-text-2 : goal.returns-in_err-text-2
returns-in_err-text-2 c = rw c.from_residual-in_err-text-2.ensures (node_no_number c.args.number c.args.node c.args.text.now c.in_ok-text.text.now c.in_ok-text.ensures c.in_err-text-2.ensures)

pub returns : goal.returns
returns c = rw (node_all c.args.number c.args.node c.args.text.now c.in_ok-text.text.now c.in_ok-text-2.text.now c.in_ok-text.ensures c.in_ok-text-2.ensures) c.behind.ensures.exact
