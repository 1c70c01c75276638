use Rattle.std.proofs.Common.{rules, ◌≡◌, ◌∙◌, ℕ, Bool, false, Option, Some, ap, sym}
use Rattle.sci_port.specs.Way.{Way}
use Rattle.sci_ops.specs.Plan.{tag}
use Rattle.sci_ops.specs.Table.{roll, tell_successor}
use Rattle.sci_ops.proofs.Took.{took_own, no_own}
use Rattle.sci_ops.proofs.turns.leaving.rolling.Goals as goal

tells : (me : ℕ) (told : Bool) (f b : Option ℕ) (next : ℕ) → told ≡ false → f ≡ Some next → roll me told f b ≡ tag next (tell_successor me)
tells me told f b next e h = ap (λ (x : Bool). roll me x f b) e ∙ ap (λ (o : Option ℕ). roll me false o b) h

pub returns-in_default : goal.returns-in_default
returns-in_default g c = λ shown. no_own c.in_default.ensures.gives

pub returns-in-Some-forw : goal.returns-in-Some-forw
returns-in-Some-forw g c = λ shown. took_own _ c.in-Some.ensures.gives (tells _ _ _ _ _ c.if-not-told.true c.in-Some-forw.is ∙ ap (λ n. tag c.in-Some-forw.next (tell_successor n)) (ap (λ (w : Way). w.node) (sym (c.in-Some.ensures.same_way)))) (c.successor.ensures shown)

pub returns-in-Some-back : goal.returns-in-Some-back
returns-in-Some-back g c = λ shown. took_own _ c.in-Some.ensures.gives (search rules) (c.predecessor.ensures shown)
