use Rattle.std.proofs.Common.{ap, sym}
use Rattle.sci_port.specs.Banks.{lent_lines}
use Rattle.sci_script.proofs.Kept.{never_refused}
use Rattle.sci_script.proofs.Lent.{lent_over}
use Rattle.sci_script.proofs.Seated.{turned}
use Rattle.sci_script.proofs.whole_desk.turn_on.Goals as goal

pub returns-clause-turns : goal.returns-clause-turns
returns-clause-turns c =
    turned (λ _ _ _. Unit {0}) (λ b. lent_lines b.keep b.node b.wholes.items) _ (λ u l call v h. h.0) c.args.node.now c.args.node.now.call c.args.bank.now c.in-Ok.turn c.turn.new.bank c.turn.new.self
    (sym c.requires.seat) c.in-Ok.ensures.turns

pub returns-clause-lent : goal.returns-clause-lent
returns-clause-lent c =
    lent_over (λ b. lent_lines b.keep b.node b.wholes.items) _ (λ u l call v h. h.0) c.args.node.now c.args.node.now.call c.args.bank.now c.in-Ok.turn c.turn.new.bank c.turn.new.self
    (sym c.requires.seat) c.in-Ok.ensures.turns

pub turn-requires-clause-node : goal.turn-requires-clause-node
turn-requires-clause-node c = c.requires.seat

pub turn-requires-clause-lines : goal.turn-requires-clause-lines
turn-requires-clause-lines c = c.requires.lines

pub unreachable-requires : goal.unreachable-requires
unreachable-requires c = never_refused _ _ c.args.node.now c.args.node.now.call _ c.in-Err.field-0 _ _ c.requires.open c.in-Err.ensures.turns

pub returns-clause-below : goal.returns-clause-below
returns-clause-below c = c.in-Ok.ensures.below

pub returns-clause-same_node : goal.returns-clause-same_node
returns-clause-same_node c = c.in-Ok.ensures.same_node

pub returns-clause-same_lines : goal.returns-clause-same_lines
returns-clause-same_lines c = ap (λ w. w.lines) c.in-Ok.ensures.same_way

pub returns-clause-same_widths : goal.returns-clause-same_widths
returns-clause-same_widths c = c.in-Ok.ensures.same_nodes
