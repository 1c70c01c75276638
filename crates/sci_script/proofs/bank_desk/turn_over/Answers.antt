use Rattle.sci_script.proofs.Kept.{never_refused}
use Rattle.sci_script.proofs.bank_desk.turn_over.Goals as goal

pub turn-requires-clause-node : goal.turn-requires-clause-node
turn-requires-clause-node g c = c.requires.node

pub turn-requires-clause-lines : goal.turn-requires-clause-lines
turn-requires-clause-lines g c = c.requires.lines

pub unreachable-requires : goal.unreachable-requires
unreachable-requires g c =
    never_refused g.B.Bank.gives g.B.Bank.at_step c.args.node.now c.args.node.now.call c.args.bank.now c.in-Err.field-0 c.turn.new.bank c.turn.new.self c.requires.open c.in-Err.ensures.turns

pub returns-clause-turns : goal.returns-clause-turns
returns-clause-turns g c = c.in-Ok.ensures.turns

pub returns-clause-same_node : goal.returns-clause-same_node
returns-clause-same_node g c = c.in-Ok.ensures.same_node

pub returns-clause-same_way : goal.returns-clause-same_way
returns-clause-same_way g c = c.in-Ok.ensures.same_way

pub returns-clause-same_nodes : goal.returns-clause-same_nodes
returns-clause-same_nodes g c = c.in-Ok.ensures.same_nodes

pub returns-clause-same_fact : goal.returns-clause-same_fact
returns-clause-same_fact g c = c.in-Ok.ensures.same_fact
