use Rattle.std.proofs.Common.{◌<◌, ℕ, ap, subst, sym}
use Rattle.sci_port.specs.Way.{Way}
use Rattle.sci_port.proofs.solo.Solo.make.Goals as goal

pub invariant_of-self : goal.invariant_of-self
invariant_of-self g c =
    let s = c.args.self.now in
    record { below = subst (λ (n : ℕ). s.node < n) (sym (ap (λ (w : Way). w.nodes) (c.step_lent.ensures s.whole.ghost_name).0)) s.below }

pub returns-clause-gives : goal.returns-clause-gives
returns-clause-gives g c = c.step_lent.ensures c.args.self.now.whole.ghost_name
