use Rattle.std.proofs.Common.{◌≡◌, ℕ, ◌<◌, true, false, rules, subst, sym, ⊎_elim, arith}
use Rattle.std.proofs.lemmas.Bool.{cases_lt}
use Rattle.sci_core.specs.Stage.{stage_of}
use Rattle.sci_core.specs.Whole.{nodes_of, state_of}
use Rattle.sci_script.specs.Waiting.{keeps_waiting}
use Rattle.sci_script.proofs.waiting.keeper.Goals as goal

pub loop-number-init : goal.loop-number-init
loop-number-init c = λ y l. absurd (omega (arith, l))

pub loop-number-preserved : goal.loop-number-preserved
loop-number-preserved c =
    let s = state_of c.args.line.now in
    let same : c.unwrap-node.result ≡ c.loop-number.number = search rules in
    let here : keeps_waiting c.args.entry (stage_of (s.steps c.unwrap-node.result)) ≡ false = search rules in
    λ y l. ⊎_elim
    (λ m. c.loop-number.invariant y m)
    (λ m. let e : c.unwrap-node.result ≡ y = omega (arith, l, m, same) in subst (λ (i : ℕ). keeps_waiting c.args.entry (stage_of (s.steps i)) ≡ false) e here)
    (cases_lt y c.loop-number.number)

pub returns : goal.returns
returns c = λ y l. c.loop-number.invariant y (omega (arith, l, c.loop-number-test.false, c.loop-number.auto.number-end, c.requires))

pub returns-then-keeps_waiting : goal.returns-then-keeps_waiting
returns-then-keeps_waiting c =
    let same : c.unwrap-node.result ≡ c.loop-number.number = search rules in
    (omega (arith, same, c.loop-number-test.true, c.loop-number.auto.number-end, c.requires), search rules)
