use Rattle.std.proofs.Common.{ℕ, List, Option, true, is_some, None, arith, get_or, ◌≡◌}
use Rattle.sci_histories.proofs.Places.{elem_or, looked_or, looked_each}
use Rattle.sci_histories.proofs.tables.are_full.Goals as goal

pub returns-then-not-is_full : goal.returns-then-not-is_full
returns-then-not-is_full c = λ all. c.if-not-is_full.ensures (all c.loop-slot.slot (get_or c.args.words.now c.loop-slot.slot None) (elem_or c.args.words.now c.loop-slot.slot None c.loop-slot-test.true))

pub loop-slot-preserved : goal.loop-slot-preserved
loop-slot-preserved c = looked_or (λ (x : Option (List ℕ)). is_some x ≡ true) c.args.words.now c.loop-slot.slot None c.loop-slot-test.true c.if-not-is_full.ensures c.loop-slot.invariant

pub returns : goal.returns
returns c = looked_each (λ (x : Option (List ℕ)). is_some x ≡ true) c.args.words.now c.loop-slot.slot (omega (arith, c.loop-slot-test.false, c.loop-slot.auto.slot-end)) c.loop-slot.invariant
