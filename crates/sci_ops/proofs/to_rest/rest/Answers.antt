use Rattle.std.proofs.Common.{◌+◌, ◌*◌, ◌≤◌, ◌<◌, ℕ, suc, refl, arith}
use Rattle.sci_core.specs.Whole.{nodes_of, state_of}
use Rattle.sci_ops.specs.Ranking.{ranking}
use Rattle.sci_ops.specs.Rest.{at_first, one_more}
use Rattle.sci_ops.proofs.Resting.Ranking.{ranking_bound}
use Rattle.sci_ops.proofs.Resting.Turning.{turned, same_line}
use Rattle.sci_ops.proofs.to_rest.rest.Goals as goal

pub loop-node-init : goal.loop-node-init
loop-node-init g c =
    let line = c.nodes.ensures.lawful in
    let far : ranking (nodes_of c.args.whole.now) (state_of c.args.whole.now) ≤ nodes_of c.args.whole.now * nodes_of c.args.whole.now + 9 * nodes_of c.args.whole.now = ranking_bound (nodes_of c.args.whole.now) (g.K.Keeps.fits c.args.whole.now.keep c.args.whole.now.number) (state_of c.args.whole.now) line.0 line.1 in
    record {
      same = record { keep = refl; number = refl; nodes = refl };
      turns = (0, omega arith, at_first);
      value = λ v h. h;
      bound = omega (arith, far);
    }

pub loop-node-smaller : goal.loop-node-smaller
loop-node-smaller g c =
    (turned g.K.Keeps.fits c.args.whole.now c.loop-node.whole c.turn_on.new.whole c.in-Some.node c.load-load.result c.turn_on.result c.loop-node.invariant.same c.load-load.ensures c.in-Some.ensures.mover.0 c.in-Some.ensures.mover.1 c.turn_on.ensures.calls c.turn_on.ensures.mover).falls

pub loop-node-preserved : goal.loop-node-preserved
loop-node-preserved g c =
    let i = c.loop-node.invariant in
    let n : ℕ = nodes_of c.args.whole.now in
    let t = turned g.K.Keeps.fits c.args.whole.now c.loop-node.whole c.turn_on.new.whole c.in-Some.node c.load-load.result c.turn_on.result i.same c.load-load.ensures c.in-Some.ensures.mover.0 c.in-Some.ensures.mover.1 c.turn_on.ensures.calls c.turn_on.ensures.mover in
    let falls : ranking n (state_of c.turn_on.new.whole) < ranking n (state_of c.loop-node.whole) = t.falls in
    let before : c.loop-node.steps + ranking n (state_of c.loop-node.whole) ≤ c.args.steps.now + (n * n + 9 * n) = i.bound in
    record {
      same = same_line c.args.whole.now c.loop-node.whole c.turn_on.new.whole i.same c.turn_on.ensures.same;
      turns = (suc i.turns.0, omega (arith, i.turns.1, c.count.ensures), one_more i.turns.2 c.in-Some.node t.inside t.mover t.goes t.taken);
      value = λ v h. t.value v (i.value v h);
      bound = omega (arith, before, c.count.ensures, falls);
    }

pub returns-clause-bound : goal.returns-clause-bound
returns-clause-bound g c =
    let n : ℕ = nodes_of c.args.whole.now in
    let before : c.loop-node.steps + ranking n (state_of c.loop-node.whole) ≤ c.args.steps.now + (n * n + 9 * n) = c.loop-node.invariant.bound in
    omega (arith, before)

pub returns-clause-turns : goal.returns-clause-turns
returns-clause-turns g c = c.loop-node.invariant.turns

pub returns-clause-value : goal.returns-clause-value
returns-clause-value g c = c.loop-node.invariant.value

pub returns-clause-same : goal.returns-clause-same
returns-clause-same g c = c.loop-node.invariant.same
