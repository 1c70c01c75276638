use Rattle.std.proofs.Common.{false, get_or, ◌≡◌, ◌≢◌, ◌<◌, ◌∙◌, ℕ, Some, true, sym, ap, subst, set, length, List, All}
use Rattle.sci_core.specs.declared.keeps.AnyWords.{AnyWords}
use Rattle.sci_core.specs.Progress.{IsAtRest, IsMover}
use Rattle.sci_core.specs.Whole.{WholeLine, nodes_of, state_of}
use Rattle.sci_ops.specs.declared.goals.Goal.{Goal}
use Rattle.sci_ops.specs.Alone.{TakesTurn}
use Rattle.sci_ops.specs.Table.{begun}
use Rattle.sci_script.specs.Nodes.{load_on, loader, whole_of}
use Rattle.sci_script.specs.Passed.{PassesOn}
use Rattle.sci_script.specs.Resting.{AreCalm, any}
use Rattle.sci_script.specs.Turns.{TurnsOn}
use Rattle.sci_script.specs.Unused.{no_line}
use Rattle.sci_script.proofs.Calming.{takes_rest, rest_falls}
use Rattle.sci_script.proofs.PassedLines.{passed_line}
use Rattle.sci_script.proofs.RestedLines.{stay_wide}
use Rattle.sci_script.proofs.Stirring.{calms, rest_stirs}
use Rattle.sci_script.proofs.whole_desk.WholeDesk.watched_rest_turn.Goals as goal

pub seat-requires : goal.seat-requires
seat-requires c =
    let desk = c.args.self.now in
    let wholes = desk.bank.wholes.items in
    let line = c.args.line in
    let me = c.in-Some.node in
    let whole : c.whole.result.now ≡ whole_of wholes line = c.whole.ensures no_line in
    let inside : line < length wholes = subst (λ (n : ℕ). line < n) (sym desk.lines) c.requires.line in
    let below = subst (λ (n : ℕ). me < n) (desk.widths line no_line inside) (subst (λ (x : WholeLine AnyWords). me < nodes_of x) whole c.in-Some.ensures.mover.0) in
    record {
      some = desk.bank.of.some;
      few = desk.bank.of.few;
      each = λ l d lt. record { number = (desk.bank.of.each l d lt).number; fact = (desk.bank.of.each l d lt).fact; below = subst (λ (n : ℕ). me < n) (sym (desk.widths l d lt)) below };
    }

pub invariant_of-self-clause-rests : goal.invariant_of-self-clause-rests
invariant_of-self-clause-rests c =
    let desk = c.args.self.now in
    let wholes = desk.bank.wholes.items in
    let line = c.args.line in
    let whole : c.whole.result.now ≡ whole_of wholes line = c.whole.ensures no_line in
    let rest = subst (λ (x : WholeLine AnyWords). IsAtRest (state_of x)) whole c.in_default.ensures.mover in
    subst (λ (i : ℕ). AreCalm (set desk.calm i true) wholes) (sym c.from-place.ensures) (calms desk.calm wholes line rest desk.rests)

pub invariant_of-self-2 : goal.invariant_of-self-2
invariant_of-self-2 c =
    let desk = c.args.self.now in
    let wholes = c.seat.new.self.wholes.items in
    let after = c.watched_load_on.new.bank.wholes.items in
    let lines : wholes ≡ desk.bank.wholes.items = ap (λ v. v.items) c.seat.ensures.same_lines in
    let wide = subst (λ (l : List (WholeLine AnyWords)). All (λ w. nodes_of w ≡ desk.size.nodes) l) (sym lines) desk.widths in
    record {
      lines = c.watched_load_on.ensures.same_lines ∙ ap length lines ∙ desk.lines;
      widths = stay_wide desk.size.nodes wholes after c.watched_load_on.ensures.same_lines c.watched_load_on.ensures.same_widths wide;
      count = desk.count;
      of = desk.of;
      rests = rest_stirs desk.calm desk.bank.wholes.items after c.args.line (subst (λ (l : List (WholeLine AnyWords)). (m : ℕ) → m ≢ c.args.line → whole_of after m ≡ whole_of l m) lines c.watched_load_on.ensures.others) desk.rests
          (subst (λ (i : ℕ). get_or desk.calm i false ≡ false) c.from-place.ensures c.if-self-place.false);
    }

pub returns-clause-turned : goal.returns-clause-turned
returns-clause-turned c =
    let desk = c.args.self.now in
    let wholes = desk.bank.wholes.items in
    let after = c.watched_load_on.new.bank.wholes.items in
    let line = c.args.line in
    let me = c.in-Some.node in
    let lines : c.seat.new.self.wholes.items ≡ wholes = ap (λ v. v.items) c.seat.ensures.same_lines in
    let node : c.seat.new.self.node ≡ me = c.seat.ensures.node in
    let whole : c.whole.result.now ≡ whole_of wholes line = c.whole.ensures no_line in
    let inside : line < length wholes = subst (λ (n : ℕ). line < n) (sym desk.lines) c.requires.line in
    let wide : nodes_of (whole_of wholes line) ≡ desk.size.nodes = desk.widths line no_line inside in
    let below = subst (λ (x : WholeLine AnyWords). me < nodes_of x) whole c.in-Some.ensures.mover.0 in
    let mover = subst (λ (x : WholeLine AnyWords). IsMover (nodes_of x) (state_of x) me) whole c.in-Some.ensures.mover.1 in
    let lent = subst (λ (k : ℕ). TakesTurn (nodes_of (whole_of wholes line)) any k (begun Goal.Load) (state_of (whole_of wholes line)) c.watched_load_on.result (state_of (whole_of after line))) node
    (subst (λ (l : List (WholeLine AnyWords)). TakesTurn (nodes_of (whole_of l line)) any c.seat.new.self.node (begun Goal.Load) (state_of (whole_of l line)) c.watched_load_on.result (state_of (whole_of after line))) lines c.watched_load_on.ensures.lent) in
    let made = subst (λ (k : ℕ). TurnsOn (nodes_of (whole_of wholes line)) k (begun Goal.Load) (state_of (whole_of wholes line)) c.watched_load_on.result (state_of (whole_of after line))) node
    (subst (λ (l : List (WholeLine AnyWords)). TurnsOn (nodes_of (whole_of l line)) c.seat.new.self.node (begun Goal.Load) (state_of (whole_of l line)) c.watched_load_on.result (state_of (whole_of after line))) lines c.watched_load_on.ensures.made) in
    let others = subst (λ (l : List (WholeLine AnyWords)). (m : ℕ) → m ≢ line → whole_of after m ≡ whole_of l m) lines c.watched_load_on.ensures.others in
    takes_rest desk.size.nodes line me wholes after desk.nodes.items c.watched_load_on.result wide below mover lent made others

pub returns-clause-nearer : goal.returns-clause-nearer
returns-clause-nearer c = λ turned.
    let desk = c.args.self.now in
    let wholes = desk.bank.wholes.items in
    let after = c.watched_load_on.new.bank.wholes.items in
    let line = c.args.line in
    let me = c.in-Some.node in
    let lines : c.seat.new.self.wholes.items ≡ wholes = ap (λ v. v.items) c.seat.ensures.same_lines in
    let node : c.seat.new.self.node ≡ me = c.seat.ensures.node in
    let whole : c.whole.result.now ≡ whole_of wholes line = c.whole.ensures no_line in
    let inside : line < length wholes = subst (λ (n : ℕ). line < n) (sym desk.lines) c.requires.line in
    let wide : nodes_of (whole_of wholes line) ≡ desk.size.nodes = desk.widths line no_line inside in
    let below = subst (λ (x : WholeLine AnyWords). me < nodes_of x) whole c.in-Some.ensures.mover.0 in
    let mover = subst (λ (x : WholeLine AnyWords). IsMover (nodes_of x) (state_of x) me) whole c.in-Some.ensures.mover.1 in
    let lent = subst (λ (k : ℕ). TakesTurn (nodes_of (whole_of wholes line)) any k (begun Goal.Load) (state_of (whole_of wholes line)) c.watched_load_on.result (state_of (whole_of after line))) node
    (subst (λ (l : List (WholeLine AnyWords)). TakesTurn (nodes_of (whole_of l line)) any c.seat.new.self.node (begun Goal.Load) (state_of (whole_of l line)) c.watched_load_on.result (state_of (whole_of after line))) lines c.watched_load_on.ensures.lent) in
    rest_falls desk.size.nodes line me wholes after desk.nodes.items c.watched_load_on.result wide below mover lent

pub returns-clause-passed : goal.returns-clause-passed
returns-clause-passed c =
    let desk = c.args.self.now in
    let wholes = desk.bank.wholes.items in
    let after = c.watched_load_on.new.bank.wholes.items in
    let line = c.args.line in
    let me = c.in-Some.node in
    let lines : c.seat.new.self.wholes.items ≡ wholes = ap (λ v. v.items) c.seat.ensures.same_lines in
    let node : c.seat.new.self.node ≡ me = c.seat.ensures.node in
    let whole : c.whole.result.now ≡ whole_of wholes line = c.whole.ensures no_line in
    let inside : line < length wholes = subst (λ (n : ℕ). line < n) (sym desk.lines) c.requires.line in
    let wide : nodes_of (whole_of wholes line) ≡ desk.size.nodes = desk.widths line no_line inside in
    let below = subst (λ (x : WholeLine AnyWords). me < nodes_of x) whole c.in-Some.ensures.mover.0 in
    subst (λ (n : ℕ). PassesOn n me line (begun Goal.Load) (state_of (whole_of wholes line)) (state_of (whole_of after line)) c.args.passed.now c.watched_load_on.new.passed) wide
    (subst (λ (k : ℕ). PassesOn (nodes_of (whole_of wholes line)) k line (begun Goal.Load) (state_of (whole_of wholes line)) (state_of (whole_of after line)) c.args.passed.now c.watched_load_on.new.passed) node
    (subst (λ (l : List (WholeLine AnyWords)). PassesOn (nodes_of (whole_of l line)) c.seat.new.self.node line (begun Goal.Load) (state_of (whole_of l line)) (state_of (whole_of after line)) c.args.passed.now c.watched_load_on.new.passed) lines c.watched_load_on.ensures.passed))

pub returns-clause-line : goal.returns-clause-line
returns-clause-line c = λ none.
    passed_line c.seat.new.self.wholes.items c.watched_load_on.new.bank.wholes.items (loader c.seat.new.self.node c.args.line) (Some (load_on c.args.line)) c.args.passed.now c.watched_load_on.new.passed c.args.self.now.size.lines c.requires.line none c.watched_load_on.ensures.passed

pub returns-clause-node : goal.returns-clause-node
returns-clause-node c =
    let desk = c.args.self.now in
    let wholes = desk.bank.wholes.items in
    let after = c.watched_load_on.new.bank.wholes.items in
    let line = c.args.line in
    let me = c.in-Some.node in
    let lines : c.seat.new.self.wholes.items ≡ wholes = ap (λ v. v.items) c.seat.ensures.same_lines in
    let node : c.seat.new.self.node ≡ me = c.seat.ensures.node in
    let whole : c.whole.result.now ≡ whole_of wholes line = c.whole.ensures no_line in
    let inside : line < length wholes = subst (λ (n : ℕ). line < n) (sym desk.lines) c.requires.line in
    let wide : nodes_of (whole_of wholes line) ≡ desk.size.nodes = desk.widths line no_line inside in
    let below = subst (λ (x : WholeLine AnyWords). me < nodes_of x) whole c.in-Some.ensures.mover.0 in
    subst (λ (n : ℕ). me < n) wide below
