use Rattle.std.proofs.Common.{◌≡◌, ◌+◌, ◌-◌, ℕ, refl, ◌∙◌, arith, subst}
use Rattle.std.proofs.lemmas.Bool.{MatchBool-at_false}
use Rattle.sci_script.specs.Event.{IsEnd, IsNoEnd}
use Rattle.sci_ops.specs.declared.answers.Turn.{Turn}
use Rattle.sci_script.specs.Event.{Turned}
use Rattle.sci_script.specs.Run.{Unended}
use Rattle.sci_script.proofs.Runs.{unended_none, unended_more}
use Rattle.sci_script.proofs.Stuck.{unended_on}
use Rattle.sci_script.proofs.running.turns_to_end.Goals as goal

pub loop-init : goal.loop-init
loop-init g c =
    record { so_far = unended_none g.D.Desk.does c.args.node c.args.desk.now; is_still_open = c.requires.open; size = refl }

pub loop-preserved : goal.loop-preserved
loop-preserved g c =
    let no-end : IsNoEnd c.turn-turn.result = MatchBool-at_false (IsEnd c.turn-turn.result) (IsNoEnd c.turn-turn.result) c.if-is_end.false c.is_end.ensures in
    record {
      so_far = unended_more g.D.Desk.does c.args.node c.loop.counter c.args.desk.now c.loop.desk c.turn-turn.new.self c.turn-turn.result c.loop.invariant.so_far no-end c.turn-turn.ensures.turned;
      is_still_open = c.turn-turn.ensures.open no-end;
      size = c.turn-turn.ensures.size ∙ c.loop.invariant.size;
    }

-- behind a turn that waits all that are left would
pub returns-then-is_stuck-clause-ended : goal.returns-then-is_stuck-clause-ended
returns-then-is_stuck-clause-ended g c =
    let does = g.D.Desk.does in
    let node = c.args.node in
    let n = c.loop.counter in
    let (waited, on) = c.is_stuck.ensures c.if-is_stuck.true in
    let turned = subst (λ (o : Turn). does c.loop.desk (Turned node o) c.turn-turn.new.self) waited c.turn-turn.ensures.turned in
    let now : Unended does node (n + 1) c.args.desk.now c.turn-turn.new.self = unended_more does node n c.args.desk.now c.loop.desk c.turn-turn.new.self Turn.Waiting c.loop.invariant.so_far tt turned in
    let all : n + 1 + (100000 - (n + 1)) ≡ 100000 = omega (arith, c.loop-test.true) in
    subst (λ (k : ℕ). Unended does node k c.args.desk.now c.turn-turn.new.self) all (unended_on does node (n + 1) (100000 - (n + 1)) c.args.desk.now c.turn-turn.new.self now (on c.loop.desk c.turn-turn.new.self node turned))
