use Rattle.std.proofs.Common.{◌≡◌, ℕ, ◌<◌, ◌+◌, true, false, None, rules, suc, sym, subst, arith}
use Rattle.sci_core.specs.Stage.{stage_of}
use Rattle.sci_core.specs.Waiting.{first_due, is_due}
use Rattle.sci_core.specs.Whole.{nodes_of, state_of}
use Rattle.sci_core.proofs.First.{none_more, first_at}
use Rattle.sci_core.proofs.whole.Whole.first_due.Goals as goal

pub loop-number-preserved : goal.loop-number-preserved
loop-number-preserved g c =
    let s = state_of c.args.self.now in
    let same : c.unwrap-node.result ≡ c.loop-number.number = search rules in
    let here : is_due c.args.obstacle.now c.unwrap-node.result (s.tags c.unwrap-node.result) (stage_of (s.steps c.unwrap-node.result)) ≡ false = search rules in
    let at : is_due c.args.obstacle.now c.loop-number.number (s.tags c.loop-number.number) (stage_of (s.steps c.loop-number.number)) ≡ false = subst (λ (i : ℕ). is_due c.args.obstacle.now i (s.tags i) (stage_of (s.steps i)) ≡ false) same here in
    let e : suc c.loop-number.number ≡ c.loop-number.number + 1 = omega arith in
    subst (λ (k : ℕ). first_due s k c.args.obstacle.now ≡ None) e (none_more (λ y. is_due c.args.obstacle.now y (s.tags y) (stage_of (s.steps y))) c.loop-number.number c.loop-number.invariant at)

pub returns : goal.returns
returns g c =
    let e : c.loop-number.number ≡ nodes_of c.args.self.now = omega (arith, c.loop-number-test.false, c.loop-number.auto.number-end, c.nodes-number-end.ensures.nodes) in
    sym (subst (λ (k : ℕ). first_due (state_of c.args.self.now) k c.args.obstacle.now ≡ None) e c.loop-number.invariant)

pub returns-then-is_due : goal.returns-then-is_due
returns-then-is_due g c =
    let s = state_of c.args.self.now in
    let same : c.unwrap-node.result ≡ c.loop-number.number = search rules in
    let here : is_due c.args.obstacle.now c.unwrap-node.result (s.tags c.unwrap-node.result) (stage_of (s.steps c.unwrap-node.result)) ≡ true = search rules in
    let before : first_due s c.unwrap-node.result c.args.obstacle.now ≡ None = subst (λ (k : ℕ). first_due s k c.args.obstacle.now ≡ None) (sym same) c.loop-number.invariant in
    let inside : c.unwrap-node.result < nodes_of c.args.self.now = omega (arith, same, c.loop-number-test.true, c.nodes-number-end.ensures.nodes) in
    sym (first_at (λ y. is_due c.args.obstacle.now y (s.tags y) (stage_of (s.steps y))) c.unwrap-node.result (nodes_of c.args.self.now) before here inside)
