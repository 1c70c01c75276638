use Rattle.std.proofs.Common.{rules, ◌≡◌, ◌+◌, ◌*◌, ◌<◌, ◌≤◌, ℕ, suc, List, length, set, refl, sym, subst, ◌∙◌, arith}
use Rattle.std.proofs.lemmas.List.{length-set, get_or-set_other}
use Rattle.sci_core.specs.State.{State}
use Rattle.sci_core.specs.Whole.{nodes_of, state_of}
use Rattle.sci_ops.specs.declared.goals.Goal.{Goal}
use Rattle.sci_ops.specs.Change.{StoresFitting}
use Rattle.sci_ops.specs.Operation.{Operation}
use Rattle.sci_ops.specs.Rest.{EndsOne, EndsEach, op_at}
use Rattle.sci_ops.specs.Table.{begun}
use Rattle.sci_ops.proofs.Resting.Ends.{ended_some, none_yet, one_further, taken_op, one_more_part, one_on, stores_there}
use Rattle.sci_ops.proofs.Resting.Turning.{same_line}
use Rattle.sci_ops.proofs.to_rest.end.Goals as goal

pub loop-number-init : goal.loop-number-init
loop-number-init g c = record {
  same = c.rest.ensures.same;
  rest = c.rest.ensures.rest;
  count = refl;
  left = λ i l. refl;
  ends = (0, omega arith, none_yet (nodes_of c.args.whole.now) (g.K.Keeps.fits c.args.whole.now.keep c.args.whole.now.number) c.args.ops.now (state_of c.rest.new.whole));
  bound = omega arith;
}

pub ended-requires-clause-node : goal.ended-requires-clause-node
ended-requires-clause-node g c =
    let node : c.unwrap-node.result ≡ c.loop-number.number = search rules in
    omega (arith, node, c.loop-number-test.true, c.nodes-number-end.ensures.nodes, c.rest.ensures.same.nodes, c.loop-number.invariant.same.nodes)

pub ended-requires-clause-fits : goal.ended-requires-clause-fits
ended-requires-clause-fits g c =
    let i = c.loop-number.invariant in
    let inside : c.loop-number.number < length c.loop-number.ops = omega (arith, c.loop-number-test.true, c.nodes-number-end.ensures.nodes, c.rest.ensures.same.nodes, i.count, c.requires.count) in
    let was : c.index-ops-place.result ≡ op_at c.args.ops.now c.loop-number.number = taken_op c.loop-number.ops c.args.ops.now c.loop-number.number c.from-place.result c.index-ops-place.result c.from-place.ensures inside c.index-ops-place.is (i.left c.loop-number.number (omega arith)) in
    stores_there g.K.Keeps.fits c.args.whole.now c.loop-number.whole i.same c.index-ops-place.result.goal (subst (λ (o : Operation). StoresFitting (g.K.Keeps.fits c.args.whole.now.keep c.args.whole.now.number) o.goal) (sym was) (c.requires.fit c.loop-number.number))

pub ended-requires-clause-rest : goal.ended-requires-clause-rest
ended-requires-clause-rest g c = c.loop-number.invariant.rest

pub loop-number-preserved : goal.loop-number-preserved
loop-number-preserved g c =
    let i = c.loop-number.invariant in
    let k : ℕ = c.loop-number.number in
    let n : ℕ = nodes_of c.args.whole.now in
    let fits : List ℕ → Type 0 = g.K.Keeps.fits c.args.whole.now.keep c.args.whole.now.number in
    let ops : List Operation = c.args.ops.now in
    let s : State = state_of c.loop-number.whole in
    let t : State = state_of c.ended.new.whole in
    let node : c.unwrap-node.result ≡ k = search rules in
    let place : c.from-place.result ≡ k = c.from-place.ensures in
    let inside : k < length c.loop-number.ops = omega (arith, c.loop-number-test.true, c.nodes-number-end.ensures.nodes, c.rest.ensures.same.nodes, i.count, c.requires.count) in
    let was : c.index-ops-place.result ≡ op_at ops k = taken_op c.loop-number.ops ops k c.from-place.result c.index-ops-place.result place inside c.index-ops-place.is (i.left k (omega arith)) in
    let took : ℕ = c.ended.ensures.ends.0 in
    let so_far : ℕ = i.ends.0 in
    let counted : c.ended.new.steps ≡ c.rest.new.steps + (so_far + took) = omega (arith, c.ended.ensures.ends.1, i.ends.1) in
    let here : EndsOne n fits c.unwrap-node.result c.index-ops-place.result c.index-ops-place.result.answer s took c.ended.result t = one_on g.K.Keeps.fits c.args.whole.now c.loop-number.whole i.same c.unwrap-node.result c.index-ops-place.result c.index-ops-place.result.answer s took c.ended.result t c.ended.ensures.ends.2 in
    let one : EndsOne n fits k (op_at ops k) (op_at ops k).answer s took c.ended.result t =
    subst (λ (j : ℕ). EndsOne n fits j (op_at ops k) (op_at ops k).answer s took c.ended.result t) node
    (subst (λ (o : Operation). EndsOne n fits c.unwrap-node.result o o.answer s took c.ended.result t) was here) in
    let each : EndsEach n fits (suc k) ops (set c.loop-number.ops k c.ended.result) (state_of c.rest.new.whole) (so_far + took) t = one_further n fits k ops c.loop-number.ops c.ended.result (state_of c.rest.new.whole) s t so_far took inside i.ends.2 one in
    let next : suc k ≡ k + 1 = omega arith in
    let part : c.ended.new.steps ≤ c.loop-number.steps + (3 * n + 16) = omega (arith, c.ended.ensures.bound, i.same.nodes) in
    record {
      same = same_line c.args.whole.now c.loop-number.whole c.ended.new.whole i.same c.ended.ensures.same;
      rest = c.ended.ensures.rest;
      count = length-set c.loop-number.ops c.from-place.result c.ended.result ∙ i.count;
      left = λ j l. get_or-set_other c.loop-number.ops c.from-place.result j c.ended.result (begun Goal.Load) (λ q. omega (arith, l, q, place)) ∙ i.left j (omega (arith, l));
      ends = (
        so_far + took,
        counted,
        subst (λ (p : ℕ). EndsEach n fits (k + 1) ops (set c.loop-number.ops p c.ended.result) (state_of c.rest.new.whole) (so_far + took) t) (sym place) (subst (λ (m : ℕ). EndsEach n fits m ops (set c.loop-number.ops k c.ended.result) (state_of c.rest.new.whole) (so_far + took) t) next each),
      );
      bound = one_more_part c.ended.new.steps c.loop-number.steps c.rest.new.steps k (3 * n + 16) i.bound part;
    }

pub returns-clause-ends : goal.returns-clause-ends
returns-clause-ends g c =
    let all : c.loop-number.number ≡ nodes_of c.args.whole.now = omega (arith, c.loop-number-test.false, c.loop-number.auto.number-end, c.nodes-number-end.ensures.nodes, c.rest.ensures.same.nodes) in
    let turns = c.rest.ensures.turns in
    let ends = c.loop-number.invariant.ends in (
      state_of c.rest.new.whole,
      turns.0,
      ends.0,
      omega (arith, turns.1, ends.1),
      turns.2,
      c.rest.ensures.rest,
      subst (λ (m : ℕ). EndsEach (nodes_of c.args.whole.now) (g.K.Keeps.fits c.args.whole.now.keep c.args.whole.now.number) m c.args.ops.now c.loop-number.ops (state_of c.rest.new.whole) ends.0 (state_of c.loop-number.whole)) all ends.2,
    )

pub returns-clause-rest : goal.returns-clause-rest
returns-clause-rest g c = c.loop-number.invariant.rest

pub returns-clause-bound : goal.returns-clause-bound
returns-clause-bound g c =
    let n : ℕ = nodes_of c.args.whole.now in
    let all : c.loop-number.number ≡ n = omega (arith, c.loop-number-test.false, c.loop-number.auto.number-end, c.nodes-number-end.ensures.nodes, c.rest.ensures.same.nodes) in
    let ends : c.loop-number.steps ≤ c.rest.new.steps + n * (3 * n + 16) = subst (λ (k : ℕ). c.loop-number.steps ≤ c.rest.new.steps + k * (3 * n + 16)) all c.loop-number.invariant.bound in
    let rested : c.rest.new.steps ≤ c.args.steps.now + (n * n + 9 * n) = c.rest.ensures.bound in
    omega (arith, ends, rested)

pub returns-clause-ended : goal.returns-clause-ended
returns-clause-ended g c = λ i lt.
    let all : c.loop-number.number ≡ nodes_of c.args.whole.now = omega (arith, c.loop-number-test.false, c.loop-number.auto.number-end, c.nodes-number-end.ensures.nodes, c.rest.ensures.same.nodes) in
    let one = c.loop-number.invariant.ends.2.each i (omega (arith, lt, all)) in
    ended_some (nodes_of c.args.whole.now) (g.K.Keeps.fits c.args.whole.now.keep c.args.whole.now.number) i (op_at c.args.ops.now i) (op_at c.args.ops.now i).answer (c.loop-number.invariant.ends.2.at i) one.0 (op_at c.loop-number.ops i) (c.loop-number.invariant.ends.2.at (suc i)) refl one.2

pub returns-clause-same : goal.returns-clause-same
returns-clause-same g c = c.loop-number.invariant.same
