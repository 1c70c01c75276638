use Rattle.std.proofs.Common.{rules, refl, sym, ap, subst, ◌≡◌, ◌<◌, ◌∙◌, ℕ, length, get_or, set, All, IfSome, List}
use Rattle.std.proofs.lemmas.List.{get_or_read}
use Rattle.sci_core.specs.declared.keeps.AnyWords.{AnyWords}
use Rattle.sci_core.specs.Whole.{WholeLine, nodes_of}
use Rattle.sci_cache.specs.Nodes.{NodeState, line_by}
use Rattle.sci_script.specs.Nodes.{TurnsOverOf}
use Rattle.sci_script.specs.Shared.{TakesTurnOf}
use Rattle.sci_script.specs.Unused.{no_node, shared}
use Rattle.sci_script.proofs.Desks.{takes_turn}
use Rattle.sci_script.proofs.BankDesks.{still_nodes}
use Rattle.sci_script.proofs.RestedLines.{stay_wide}
use Rattle.sci_script.proofs.Stirring.{turn_stirs}
use Rattle.sci_script.proofs.whole_desk.WholeDeskDesk.turn.Goals as goal

pub returns-clause-turned : goal.returns-clause-turned
returns-clause-turned c =
    let desk = c.args.self.now in
    let nodes = desk.nodes.items in
    let wholes = desk.bank.wholes.items in
    let after = c.turn_on.new.bank.wholes.items in
    let m = c.turn_on.new.node in
    let n = get_or nodes c.args.node no_node in
    let place : c.from-place.result ≡ c.args.node = search rules in
    let inside : c.args.node < length nodes = search rules in
    let found : c.index_mut.result.now ≡ get_or nodes c.args.node c.index_mut.result.now = subst (λ (i : ℕ). c.index_mut.result.now ≡ get_or nodes i c.index_mut.result.now) place c.index_mut.ensures.value in
    let here : c.index_mut.result.now ≡ n = get_or_read nodes c.args.node c.index_mut.result.now inside found no_node in
    let at = desk.of c.args.node no_node inside in
    let lines : c.seat.new.self.wholes.items ≡ wholes = ap (λ v. v.items) c.seat.ensures.same_lines in
    let turned = subst (λ (k : NodeState). TurnsOverOf wholes k k.call c.turn_on.result after m) here
    (subst (λ (l : List (WholeLine AnyWords)). TurnsOverOf l c.index_mut.result.now c.index_mut.result.now.call c.turn_on.result after m) lines c.turn_on.ensures.turns) in
    let below = subst (λ (k : NodeState). IfSome k.call (λ d. line_by d.victim d.line < k.lines)) here c.turn_on.ensures.below in
    subst (λ (i : ℕ). TakesTurnOf (shared desk.size.nodes wholes nodes) c.args.node n.call c.turn_on.result (shared desk.size.nodes after (set nodes i m))) (sym place)
    (takes_turn desk.size.nodes wholes after nodes c.args.node c.turn_on.result m inside desk.widths n n.call refl at.0 (at.1 ∙ sym desk.lines) below turned)

pub invariant_of-self-clause-widths : goal.invariant_of-self-clause-widths
invariant_of-self-clause-widths c =
    let desk = c.args.self.now in
    stay_wide desk.size.nodes c.seat.new.self.wholes.items c.turn_on.new.bank.wholes.items c.turn_on.ensures.same_lines c.turn_on.ensures.same_widths
    (subst (λ v. All (λ w. nodes_of w ≡ desk.size.nodes) v.items) (sym c.seat.ensures.same_lines) desk.widths)

pub invariant_of-self-clause-of : goal.invariant_of-self-clause-of
invariant_of-self-clause-of c =
    let desk = c.args.self.now in
    still_nodes desk.size.lines desk.nodes.items c.from-place.result c.index_mut.result.now c.turn_on.new.node desk.of (search rules) c.index_mut.ensures.value c.turn_on.ensures.same_node

pub invariant_of-self-clause-rests : goal.invariant_of-self-clause-rests
invariant_of-self-clause-rests c =
    let desk = c.args.self.now in
    turn_stirs desk.calm c.stir.new.calm desk.bank.wholes.items c.turn_on.new.bank.wholes.items desk.nodes.items c.from-place.result c.index_mut.result.now c.turn_on.new.node c.turn_on.result desk.rests
    c.index.result.now c.seat.new.self.wholes.items (search rules) c.index.ensures c.index_mut.ensures.value (ap (λ v. v.items) c.seat.ensures.same_lines) c.stir.ensures c.turn_on.ensures.turns
