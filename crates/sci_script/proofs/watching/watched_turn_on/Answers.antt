use Rattle.std.proofs.Common.{rules, sym, subst, ap, ◌≡◌, length, List}
use Rattle.sci_core.specs.declared.keeps.AnyWords.{AnyWords}
use Rattle.sci_core.specs.Whole.{WholeLine, nodes_of}
use Rattle.sci_port.specs.Banks.{lent_lines}
use Rattle.sci_port.specs.declared.watching.Passed.{Passed}
use Rattle.sci_script.specs.Nodes.{TurnsOverOf, whole_of}
use Rattle.sci_script.specs.Passed.{PassesOverOf}
use Rattle.sci_script.proofs.Seated.{turned, watched}
use Rattle.sci_script.proofs.Kept.{turn_keeps}
use Rattle.sci_script.proofs.watching.watched_turn_on.Goals as goal

pub returns-clause-turns : goal.returns-clause-turns
returns-clause-turns c =
    let named = turn_keeps _ _ (λ b. b.bank.ghost_name) (λ u l call v h. h.2) c.args.node.now c.args.node.now.call _ c.in-Ok.turn c.turn.new.bank c.turn.new.self c.in-Ok.ensures.turns in
    subst (λ (l : List (WholeLine AnyWords)). TurnsOverOf c.args.bank.now.wholes.items c.args.node.now c.args.node.now.call c.in-Ok.turn l c.turn.new.self) (search (rules, named))
    (turned (λ _ _ _. Unit {0}) (λ b. lent_lines b.bank.now.keep b.bank.now.node b.bank.now.wholes.items) _ (λ u l call v h. h.0.0) c.args.node.now c.args.node.now.call _ c.in-Ok.turn c.turn.new.bank c.turn.new.self
    (sym c.requires.seat) c.in-Ok.ensures.turns)

pub returns-clause-same_lines : goal.returns-clause-same_lines
returns-clause-same_lines c =
    let named = turn_keeps _ _ (λ b. b.bank.ghost_name) (λ u l call v h. h.2) c.args.node.now c.args.node.now.call _ c.in-Ok.turn c.turn.new.bank c.turn.new.self c.in-Ok.ensures.turns in
    subst (λ (l : List (WholeLine AnyWords)). length l ≡ length c.args.bank.now.wholes.items) (search (rules, named)) (ap (λ w. w.lines) c.turn.ensures.same_way)

pub returns-clause-same_widths : goal.returns-clause-same_widths
returns-clause-same_widths c = λ line.
    let named = turn_keeps _ _ (λ b. b.bank.ghost_name) (λ u l call v h. h.2) c.args.node.now c.args.node.now.call _ c.in-Ok.turn c.turn.new.bank c.turn.new.self c.in-Ok.ensures.turns in
    subst (λ (l : List (WholeLine AnyWords)). nodes_of (whole_of l line) ≡ nodes_of (whole_of c.args.bank.now.wholes.items line)) (search (rules, named)) (c.turn.ensures.same_nodes line)

pub returns-clause-passed : goal.returns-clause-passed
returns-clause-passed c =
    let named = turn_keeps _ _ (λ b. b.bank.ghost_name) (λ u l call v h. h.2) c.args.node.now c.args.node.now.call _ c.in-Ok.turn c.turn.new.bank c.turn.new.self c.in-Ok.ensures.turns in
    let called = turn_keeps _ _ (λ b. b.passed.ghost_name) (λ u l call v h. h.3) c.args.node.now c.args.node.now.call _ c.in-Ok.turn c.turn.new.bank c.turn.new.self c.in-Ok.ensures.turns in
    subst (λ (q : Passed). PassesOverOf c.args.bank.now.wholes.items c.args.node.now c.args.node.now.call c.bank-1.given.0.wholes.items c.args.passed.now q) (search (rules, called))
    (subst (λ (l : List (WholeLine AnyWords)). PassesOverOf c.args.bank.now.wholes.items c.args.node.now c.args.node.now.call l c.args.passed.now c.turn.new.bank.passed.now) (search (rules, named))
    (watched (λ _ _ _. Unit {0}) (λ b. lent_lines b.bank.now.keep b.bank.now.node b.bank.now.wholes.items) _ (λ u l call v h. h.0.0) (λ b. b.passed.now) (λ u l call v h. h.1) c.args.node.now c.args.node.now.call _ c.in-Ok.turn c.turn.new.bank c.turn.new.self
    (sym c.requires.seat) c.in-Ok.ensures.turns))
