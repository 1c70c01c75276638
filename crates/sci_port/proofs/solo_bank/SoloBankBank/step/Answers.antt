use Rattle.sci_port.proofs.solo_bank.SoloBankBank.step.Goals as goal

pub returns-clause-gives : goal.returns-clause-gives
returns-clause-gives g c = (c.make_in_room.ensures.gives, c.make_in_room.ensures.receives)

pub returns-clause-same_way : goal.returns-clause-same_way
returns-clause-same_way g c = c.make_in_room.ensures.gives.stays.way

pub returns-clause-same_nodes : goal.returns-clause-same_nodes
returns-clause-same_nodes g c = c.make_in_room.ensures.gives.stays.nodes

pub returns-clause-others : goal.returns-clause-others
returns-clause-others g c = c.make_in_room.ensures.gives.stays.steps

pub returns-clause-row : goal.returns-clause-row
returns-clause-row g c = c.make_in_room.ensures.gives.owes.1

pub returns-clause-same_fact : goal.returns-clause-same_fact
returns-clause-same_fact g c = c.make_in_room.ensures.gives.stays.fact

pub returns-clause-content : goal.returns-clause-content
returns-clause-content g c = c.make_in_room.ensures.gives.owes.2

pub returns-clause-receipts : goal.returns-clause-receipts
returns-clause-receipts g c = c.make_in_room.ensures.receives
