use Rattle.std.proofs.Common.{◌≡◌, ◌∙◌, ◌+◌, ◌*◌, ◌<◌, ◌≤◌, ℕ, length, refl, sym, subst, arith}
use Rattle.std.proofs.lemmas.List.{length-set}
use Rattle.sci_core.specs.Whole.{nodes_of}
use Rattle.sci_ops.proofs.Resting.Ends.{one_more_part}
use Rattle.sci_script.specs.Nodes.{whole_of}
use Rattle.sci_script.specs.Resting.{ComeToRest}
use Rattle.sci_script.specs.Unused.{no_line}
use Rattle.sci_script.proofs.RestedLines.{here, same_after, left_after, rested_after}
use Rattle.sci_script.proofs.resting.rest_all.Goals as goal

pub loop-line-init : goal.loop-line-init
loop-line-init g c = record {
  count = refl;
  same = λ line. record { keep = refl; number = refl; nodes = refl };
  left = λ line le. refl;
  rested = (0, omega arith, record { taken = λ line. 0; none = refl; all = refl; lines = λ line lt. absurd (omega (arith, lt)) });
  bound = omega arith;
}

pub loop-line-preserved : goal.loop-line-preserved
loop-line-preserved g c =
    let i = c.loop-line.invariant in
    let k : ℕ = c.loop-line.line in
    let n : ℕ = c.args.size.nodes in
    let first = c.args.wholes.now.items in
    let items = c.loop-line.wholes.items in
    let w = c.index_mut.result.now in
    let v = c.rest.new.whole in
    let place : c.from.result ≡ k = c.from.ensures in
    let inside : k < length items = omega (arith, c.loop-line-test.true, i.count, c.requires.lines) in
    let was : w ≡ whole_of items k = here n first items k c.from.result w v place inside c.index_mut.ensures.value in
    let wide : nodes_of w ≡ n = subst (λ x. nodes_of x ≡ n) (sym was) ((i.same k).nodes ∙ c.requires.widths k no_line (omega (arith, c.loop-line-test.true, c.requires.lines))) in
    let took : ℕ = c.rest.ensures.turns.0 in
    let part : c.rest.new.steps ≤ c.loop-line.steps + (n * n + 9 * n) = subst (λ (m : ℕ). c.rest.new.steps ≤ c.loop-line.steps + (m * m + 9 * m)) wide c.rest.ensures.bound in
    record {
      count = length-set items c.from.result v ∙ i.count;
      same = same_after n first items k c.from.result w v place inside c.index_mut.ensures.value i.same c.rest.ensures.same;
      left = left_after n first items k c.from.result w v place inside c.index_mut.ensures.value i.left;
      rested = (
        i.rested.0 + took,
        omega (arith, i.rested.1, c.rest.ensures.turns.1),
        rested_after n first items k c.from.result w v place inside c.index_mut.ensures.value i.rested.0 took i.rested.2 i.left wide
            record { taken = c.rest.ensures.turns.2; few = omega (arith, c.rest.ensures.turns.1, c.rest.ensures.bound); rest = c.rest.ensures.rest; value = c.rest.ensures.value },
      );
      bound = one_more_part c.rest.new.steps c.loop-line.steps c.args.steps.now k (n * n + 9 * n) i.bound part;
    }

pub returns-clause-rested : goal.returns-clause-rested
returns-clause-rested g c =
    let all : c.loop-line.line ≡ c.args.size.lines = omega (arith, c.loop-line-test.false, c.loop-line.auto.line-end) in
    let rested = c.loop-line.invariant.rested in
    (rested.0, rested.1, subst (λ (m : ℕ). ComeToRest c.args.size.nodes m c.args.wholes.now.items rested.0 c.loop-line.wholes.items) all rested.2)

pub returns-clause-bound : goal.returns-clause-bound
returns-clause-bound g c =
    let n : ℕ = c.args.size.nodes in
    let all : c.loop-line.line ≡ c.args.size.lines = omega (arith, c.loop-line-test.false, c.loop-line.auto.line-end) in
    subst (λ (m : ℕ). c.loop-line.steps ≤ c.args.steps.now + m * (n * n + 9 * n)) all c.loop-line.invariant.bound

pub returns-clause-same : goal.returns-clause-same
returns-clause-same g c = c.loop-line.invariant.same

pub returns-clause-lines : goal.returns-clause-lines
returns-clause-lines g c = c.loop-line.invariant.count ∙ c.requires.lines
