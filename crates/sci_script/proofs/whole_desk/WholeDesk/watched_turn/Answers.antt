use Rattle.std.proofs.Common.{rules, refl, sym, ap, subst, ◌≡◌, ◌<◌, ◌∙◌, ℕ, length, get_or, set, All, IfSome, List}
use Rattle.std.proofs.lemmas.List.{get_or_read}
use Rattle.sci_core.specs.declared.keeps.AnyWords.{AnyWords}
use Rattle.sci_core.specs.Whole.{WholeLine, nodes_of}
use Rattle.sci_cache.specs.Nodes.{NodeState, line_by}
use Rattle.sci_script.specs.Nodes.{TurnsOverOf}
use Rattle.sci_script.specs.Shared.{TakesTurnOf}
use Rattle.sci_script.specs.Passed.{PassesOverOf, PassesTurnOf}
use Rattle.sci_script.specs.Unused.{no_node, shared}
use Rattle.sci_script.proofs.Desks.{takes_turn, passes_turn}
use Rattle.sci_script.proofs.PassedLines.{passed_line}
use Rattle.sci_script.proofs.BankDesks.{still_nodes}
use Rattle.sci_script.proofs.RestedLines.{stay_wide}
use Rattle.sci_script.proofs.Stirring.{turn_stirs}
use Rattle.sci_script.proofs.whole_desk.WholeDesk.watched_turn.Goals as goal

pub returns-clause-turned : goal.returns-clause-turned
returns-clause-turned c =
    let desk = c.args.self.now in
    let nodes = desk.nodes.items in
    let wholes = desk.bank.wholes.items in
    let after = c.watched_turn_on.new.bank.wholes.items in
    let m = c.watched_turn_on.new.node in
    let n = get_or nodes c.args.node no_node in
    let place : c.from-place.result ≡ c.args.node = search rules in
    let inside : c.args.node < length nodes = search rules in
    let found : c.index_mut.result.now ≡ get_or nodes c.args.node c.index_mut.result.now = subst (λ (i : ℕ). c.index_mut.result.now ≡ get_or nodes i c.index_mut.result.now) place c.index_mut.ensures.value in
    let here : c.index_mut.result.now ≡ n = get_or_read nodes c.args.node c.index_mut.result.now inside found no_node in
    let at = desk.of c.args.node no_node inside in
    let lines : c.seat.new.self.wholes.items ≡ wholes = ap (λ v. v.items) c.seat.ensures.same_lines in
    let turned = subst (λ (k : NodeState). TurnsOverOf wholes k k.call c.watched_turn_on.result after m) here
    (subst (λ (l : List (WholeLine AnyWords)). TurnsOverOf l c.index_mut.result.now c.index_mut.result.now.call c.watched_turn_on.result after m) lines c.watched_turn_on.ensures.turns) in
    let below = subst (λ (k : NodeState). IfSome k.call (λ d. line_by d.victim d.line < k.lines)) here c.watched_turn_on.ensures.below in
    subst (λ (i : ℕ). TakesTurnOf (shared desk.size.nodes wholes nodes) c.args.node n.call c.watched_turn_on.result (shared desk.size.nodes after (set nodes i m))) (sym place)
    (takes_turn desk.size.nodes wholes after nodes c.args.node c.watched_turn_on.result m inside desk.widths n n.call refl at.0 (at.1 ∙ sym desk.lines) below turned)

pub returns-clause-passed : goal.returns-clause-passed
returns-clause-passed c =
    let desk = c.args.self.now in
    let nodes = desk.nodes.items in
    let wholes = desk.bank.wholes.items in
    let after = c.watched_turn_on.new.bank.wholes.items in
    let m = c.watched_turn_on.new.node in
    let p = c.args.passed.now in
    let q = c.watched_turn_on.new.passed in
    let n = get_or nodes c.args.node no_node in
    let place : c.from-place.result ≡ c.args.node = search rules in
    let inside : c.args.node < length nodes = search rules in
    let found : c.index_mut.result.now ≡ get_or nodes c.args.node c.index_mut.result.now = subst (λ (i : ℕ). c.index_mut.result.now ≡ get_or nodes i c.index_mut.result.now) place c.index_mut.ensures.value in
    let here : c.index_mut.result.now ≡ n = get_or_read nodes c.args.node c.index_mut.result.now inside found no_node in
    let at = desk.of c.args.node no_node inside in
    let lines : c.seat.new.self.wholes.items ≡ wholes = ap (λ v. v.items) c.seat.ensures.same_lines in
    let passed = subst (λ (k : NodeState). PassesOverOf wholes k k.call after p q) here
    (subst (λ (l : List (WholeLine AnyWords)). PassesOverOf l c.index_mut.result.now c.index_mut.result.now.call after p q) lines c.watched_turn_on.ensures.passed) in
    let below = subst (λ (k : NodeState). IfSome k.call (λ d. line_by d.victim d.line < k.lines)) here c.watched_turn_on.ensures.below in
    subst (λ (i : ℕ). PassesTurnOf (shared desk.size.nodes wholes nodes) c.args.node n.call (shared desk.size.nodes after (set nodes i m)) p q) (sym place)
    (passes_turn desk.size.nodes wholes after nodes (set nodes c.args.node m) c.args.node p q desk.widths n n.call at.0 (at.1 ∙ sym desk.lines) below passed)

pub returns-clause-line : goal.returns-clause-line
returns-clause-line c = λ none.
    let desk = c.args.self.now in
    let nodes = desk.nodes.items in
    let q = c.watched_turn_on.new.passed in
    let k = c.index_mut.result.now in
    let place : c.from-place.result ≡ c.args.node = search rules in
    let inside : c.args.node < length nodes = search rules in
    let found : k ≡ get_or nodes c.args.node k = subst (λ (i : ℕ). k ≡ get_or nodes i k) place c.index_mut.ensures.value in
    let here : k ≡ get_or nodes c.args.node no_node = get_or_read nodes c.args.node k inside found no_node in
    let at = desk.of c.args.node no_node inside in
    let less = passed_line c.seat.new.self.wholes.items c.watched_turn_on.new.bank.wholes.items k k.call c.args.passed.now q k.lines c.watched_turn_on.ensures.below none c.watched_turn_on.ensures.passed in
    subst (λ (lines : ℕ). q.line < lines) (ap (λ (n : NodeState). n.lines) here ∙ at.1) less

pub invariant_of-self-clause-widths : goal.invariant_of-self-clause-widths
invariant_of-self-clause-widths c =
    let desk = c.args.self.now in
    stay_wide desk.size.nodes c.seat.new.self.wholes.items c.watched_turn_on.new.bank.wholes.items c.watched_turn_on.ensures.same_lines c.watched_turn_on.ensures.same_widths
    (subst (λ v. All (λ w. nodes_of w ≡ desk.size.nodes) v.items) (sym c.seat.ensures.same_lines) desk.widths)

pub invariant_of-self-clause-of : goal.invariant_of-self-clause-of
invariant_of-self-clause-of c =
    let desk = c.args.self.now in
    still_nodes desk.size.lines desk.nodes.items c.from-place.result c.index_mut.result.now c.watched_turn_on.new.node desk.of (search rules) c.index_mut.ensures.value c.watched_turn_on.ensures.same_node

pub invariant_of-self-clause-rests : goal.invariant_of-self-clause-rests
invariant_of-self-clause-rests c =
    let desk = c.args.self.now in
    turn_stirs desk.calm c.stir.new.calm desk.bank.wholes.items c.watched_turn_on.new.bank.wholes.items desk.nodes.items c.from-place.result c.index_mut.result.now c.watched_turn_on.new.node c.watched_turn_on.result desk.rests
    c.index.result.now c.seat.new.self.wholes.items (search rules) c.index.ensures c.index_mut.ensures.value (ap (λ v. v.items) c.seat.ensures.same_lines) c.stir.ensures c.watched_turn_on.ensures.turns
