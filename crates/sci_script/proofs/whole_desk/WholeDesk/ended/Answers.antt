use Rattle.std.proofs.Common.{◌≡◌, ◌∙◌, ◌+◌, ◌*◌, ◌<◌, ◌≤◌, ℕ, is_some, refl, sym, ap, subst, arith}
use Rattle.sci_core.specs.Whole.{nodes_of}
use Rattle.sci_ops.specs.declared.answers.Turn.{Turn}
use Rattle.sci_script.specs.declared.commands.Size.{Size}
use Rattle.sci_script.specs.Event.{Turned}
use Rattle.sci_script.specs.Shared.{Shared, shared_does}
use Rattle.sci_script.specs.Wholes.{shared_of}
use Rattle.sci_script.proofs.AloneCalls.{left, all_on, comes, left_at_rest, open_stands, stands_open}
use Rattle.sci_script.proofs.Lent.{lent_does, lent_others}
use Rattle.sci_script.proofs.Runs.{repeats_none, repeats_more}
use Rattle.sci_script.proofs.whole_desk.WholeDesk.ended.Goals as goal

-- all lines
abbrev any_line : ℕ → Type 0
any_line line = Unit {0}

pub turns-init : goal.turns-init
turns-init g c =
    let s = shared_of c.args.self.now in
    record {
      size = refl;
      turns = (0, omega arith, repeats_none shared_does (Turned c.args.node Turn.Moved) s);
      stands = open_stands any_line c.args.node s (s.nodes c.args.node).call c.requires.open (all_on (s.nodes c.args.node).call) (λ line p. c.requires.rest line);
      cost = let most = left_at_rest any_line c.args.node s (s.nodes c.args.node).call (all_on (s.nodes c.args.node).call) (λ line p. c.requires.rest line) in omega (arith, most);
      others = λ i d. refl;
    }

pub lent_turn-requires : goal.lent_turn-requires
lent_turn-requires g c =
    let i = c.turns.invariant in
    let s = shared_of c.turns.self in
    record {
      node = subst (λ (z : Size). c.args.node < z.nodes) (sym i.size) c.requires.node;
      «open» = stands_open any_line c.args.node s (s.nodes c.args.node).call i.stands;
    }

pub turns-preserved : goal.turns-preserved
turns-preserved g c =
    let i = c.turns.invariant in
    let me : ℕ = c.args.node in
    let s = shared_of c.turns.self in
    let t = shared_of c.lent_turn.new.self in
    let lent = c.in-Moved.ensures.lent in
    let k = comes any_line me s t (s.nodes me).call Turn.Moved i.stands lent in
    let now : left me t (t.nodes me).call < left me s (s.nodes me).call = k.1 in
    record {
      size = c.in-Moved.ensures.size ∙ i.size;
      turns = (i.turns.0 + 1, omega (arith, i.turns.1, c.count.ensures), repeats_more shared_does (Turned me Turn.Moved) i.turns.0 (shared_of c.args.self.now) s t i.turns.2 (lent_does s me (s.nodes me).call Turn.Moved t lent));
      stands = k.0;
      cost = omega (arith, now, i.cost, c.count.ensures);
      others = λ j d. lent_others s me (s.nodes me).call Turn.Moved t lent j d ∙ i.others j d;
    }

pub turns-smaller : goal.turns-smaller
turns-smaller g c =
    let s = shared_of c.turns.self in
    let t = shared_of c.lent_turn.new.self in
    (comes any_line c.args.node s t (s.nodes c.args.node).call Turn.Moved c.turns.invariant.stands c.in-Moved.ensures.lent).1

pub unreachable-requires : goal.unreachable-requires
unreachable-requires g c =
    let s = shared_of c.turns.self in
    let t = shared_of c.lent_turn.new.self in
    comes any_line c.args.node s t (s.nodes c.args.node).call Turn.Waiting c.turns.invariant.stands c.in-Waiting.ensures.lent

pub returns-in-Done : goal.returns-in-Done
returns-in-Done g c =
    let i = c.turns.invariant in
    let me : ℕ = c.args.node in
    let s = shared_of c.turns.self in
    let t = shared_of c.lent_turn.new.self in
    let last = Turn.Done c.in-Done.answer in
    let lent = c.in-Done.ensures.lent in
    let k = comes any_line me s t (s.nodes me).call last i.stands lent in
    let some : 0 < left me s (s.nodes me).call = k.0 in
    record {
      ends = (
        i.turns.0 + 1,
        omega (arith, i.turns.1, c.count.ensures),
        record { before = i.turns.0; count = omega arith; few = omega (arith, i.turns.1, i.cost, some); mid = s; goes_on = i.turns.2; last = lent_does s me (s.nodes me).call last t lent },
      );
      bound = omega (arith, some, i.cost, c.count.ensures);
      rest = λ line. k.1 line tt;
      closed = ap is_some k.2;
      others = λ j d. lent_others s me (s.nodes me).call last t lent j d ∙ i.others j d;
      size = c.in-Done.ensures.size ∙ i.size;
    }
