use Rattle.std.proofs.Common.{rules, refl, sym, ap, subst, ◌≡◌, ◌≢◌, ℕ, Some, length, List}
use Rattle.sci_core.specs.declared.keeps.AnyWords.{AnyWords}
use Rattle.sci_core.specs.Whole.{WholeLine, nodes_of, state_of}
use Rattle.sci_port.specs.Banks.{lent_lines}
use Rattle.sci_ops.specs.declared.answers.Turn.{Turn}
use Rattle.sci_ops.specs.declared.goals.Goal.{Goal}
use Rattle.sci_ops.specs.Alone.{TakesTurn}
use Rattle.sci_ops.specs.Table.{begun}
use Rattle.sci_cache.specs.Nodes.{node_after}
use Rattle.sci_port.specs.declared.watching.Passed.{Passed}
use Rattle.sci_script.specs.Nodes.{load_on, loader, whole_of}
use Rattle.sci_script.specs.Passed.{PassesOverOf}
use Rattle.sci_script.specs.Resting.{LentOverOf, any}
use Rattle.sci_script.specs.Turns.{TurnsOn}
use Rattle.sci_script.proofs.Seated.{watched}
use Rattle.sci_script.proofs.Kept.{turn_keeps}
use Rattle.sci_script.proofs.Lent.{lent_over}
use Rattle.sci_script.proofs.watching.watched_load_on.Goals as goal

pub load_turn-requires : goal.load_turn-requires
load_turn-requires c = c.requires

pub returns-clause-made : goal.returns-clause-made
returns-clause-made c =
    let n = loader c.args.bank.now.node c.args.line in
    let m = node_after n (load_on c.args.line) c.load_turn.result in
    let named = turn_keeps _ _ (λ b. b.bank.ghost_name) (λ u l call v h. h.2) n (Some (load_on c.args.line)) _ c.load_turn.result c.load_turn.new.bank m c.load_turn.ensures.turns in
    let lent = subst (λ (l : List (WholeLine AnyWords)). LentOverOf c.args.bank.now.wholes.items n (Some (load_on c.args.line)) c.load_turn.result l m) (search (rules, named))
    (lent_over (λ b. lent_lines b.bank.now.keep b.bank.now.node b.bank.now.wholes.items) _ (λ u l call v h. h.0.0) n (Some (load_on c.args.line)) _ c.load_turn.result c.load_turn.new.bank m refl c.load_turn.ensures.turns) in
    subst (λ (r : Turn). TurnsOn (nodes_of (whole_of c.args.bank.now.wholes.items c.args.line)) c.args.bank.now.node (begun Goal.Load) (state_of (whole_of c.args.bank.now.wholes.items c.args.line)) r (state_of (whole_of c.bank-1.given.0.wholes.items c.args.line))) (sym lent.shows) lent.made

pub returns-clause-lent : goal.returns-clause-lent
returns-clause-lent c =
    let n = loader c.args.bank.now.node c.args.line in
    let m = node_after n (load_on c.args.line) c.load_turn.result in
    let named = turn_keeps _ _ (λ b. b.bank.ghost_name) (λ u l call v h. h.2) n (Some (load_on c.args.line)) _ c.load_turn.result c.load_turn.new.bank m c.load_turn.ensures.turns in
    let lent = subst (λ (l : List (WholeLine AnyWords)). LentOverOf c.args.bank.now.wholes.items n (Some (load_on c.args.line)) c.load_turn.result l m) (search (rules, named))
    (lent_over (λ b. lent_lines b.bank.now.keep b.bank.now.node b.bank.now.wholes.items) _ (λ u l call v h. h.0.0) n (Some (load_on c.args.line)) _ c.load_turn.result c.load_turn.new.bank m refl c.load_turn.ensures.turns) in
    subst (λ (r : Turn). TakesTurn (nodes_of (whole_of c.args.bank.now.wholes.items c.args.line)) any c.args.bank.now.node (begun Goal.Load) (state_of (whole_of c.args.bank.now.wholes.items c.args.line)) r (state_of (whole_of c.bank-1.given.0.wholes.items c.args.line))) (sym lent.shows) lent.lent

pub returns-clause-others : goal.returns-clause-others
returns-clause-others c =
    let n = loader c.args.bank.now.node c.args.line in
    let m = node_after n (load_on c.args.line) c.load_turn.result in
    let named = turn_keeps _ _ (λ b. b.bank.ghost_name) (λ u l call v h. h.2) n (Some (load_on c.args.line)) _ c.load_turn.result c.load_turn.new.bank m c.load_turn.ensures.turns in
    let lent = subst (λ (l : List (WholeLine AnyWords)). LentOverOf c.args.bank.now.wholes.items n (Some (load_on c.args.line)) c.load_turn.result l m) (search (rules, named))
    (lent_over (λ b. lent_lines b.bank.now.keep b.bank.now.node b.bank.now.wholes.items) _ (λ u l call v h. h.0.0) n (Some (load_on c.args.line)) _ c.load_turn.result c.load_turn.new.bank m refl c.load_turn.ensures.turns) in
    lent.others

pub returns-clause-same_lines : goal.returns-clause-same_lines
returns-clause-same_lines c =
    let n = loader c.args.bank.now.node c.args.line in
    let m = node_after n (load_on c.args.line) c.load_turn.result in
    let named = turn_keeps _ _ (λ b. b.bank.ghost_name) (λ u l call v h. h.2) n (Some (load_on c.args.line)) _ c.load_turn.result c.load_turn.new.bank m c.load_turn.ensures.turns in
    subst (λ (l : List (WholeLine AnyWords)). length l ≡ length c.args.bank.now.wholes.items) (search (rules, named)) (ap (λ w. w.lines) c.load_turn.ensures.same_way)

pub returns-clause-same_widths : goal.returns-clause-same_widths
returns-clause-same_widths c = λ line.
    let n = loader c.args.bank.now.node c.args.line in
    let m = node_after n (load_on c.args.line) c.load_turn.result in
    let named = turn_keeps _ _ (λ b. b.bank.ghost_name) (λ u l call v h. h.2) n (Some (load_on c.args.line)) _ c.load_turn.result c.load_turn.new.bank m c.load_turn.ensures.turns in
    subst (λ (l : List (WholeLine AnyWords)). nodes_of (whole_of l line) ≡ nodes_of (whole_of c.args.bank.now.wholes.items line)) (search (rules, named)) (c.load_turn.ensures.same_nodes line)

pub returns-clause-passed : goal.returns-clause-passed
returns-clause-passed c =
    let n = loader c.args.bank.now.node c.args.line in
    let m = node_after n (load_on c.args.line) c.load_turn.result in
    let named = turn_keeps _ _ (λ b. b.bank.ghost_name) (λ u l call v h. h.2) n (Some (load_on c.args.line)) _ c.load_turn.result c.load_turn.new.bank m c.load_turn.ensures.turns in
    let called = turn_keeps _ _ (λ b. b.passed.ghost_name) (λ u l call v h. h.3) n (Some (load_on c.args.line)) _ c.load_turn.result c.load_turn.new.bank m c.load_turn.ensures.turns in
    subst (λ (q : Passed). PassesOverOf c.args.bank.now.wholes.items n (Some (load_on c.args.line)) c.bank-1.given.0.wholes.items c.args.passed.now q) (search (rules, called))
    (subst (λ (l : List (WholeLine AnyWords)). PassesOverOf c.args.bank.now.wholes.items n (Some (load_on c.args.line)) l c.args.passed.now c.load_turn.new.bank.passed.now) (search (rules, named))
    (watched (λ _ _ _. Unit {0}) (λ b. lent_lines b.bank.now.keep b.bank.now.node b.bank.now.wholes.items) _ (λ u l call v h. h.0.0) (λ b. b.passed.now) (λ u l call v h. h.1) n (Some (load_on c.args.line)) _ c.load_turn.result c.load_turn.new.bank m refl c.load_turn.ensures.turns))
