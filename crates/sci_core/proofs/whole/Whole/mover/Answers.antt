use Rattle.std.proofs.Common.{◌≡◌, ◌∙◌, ℕ, true, false, rules, sym, subst, ⊎_elim, arith}
use Rattle.std.proofs.lemmas.Bool.{cases_lt}
use Rattle.sci_core.specs.Progress.{goes}
use Rattle.sci_core.specs.Whole.{WholeLine, IsSound, state_of}
use Rattle.sci_core.proofs.Moved.{at_rest, is_mover, not_below}
use Rattle.sci_core.proofs.whole.Whole.mover.Goals as goal

pub loop-number-preserved : goal.loop-number-preserved
loop-number-preserved g c k l =
    let same : c.unwrap-node.result ≡ c.loop-number.number = search rules in
    let here : goes (state_of c.args.self.now) c.unwrap-node.result ≡ false = search rules in
    ⊎_elim (c.loop-number.invariant k)
    (λ m. let e : k ≡ c.loop-number.number = omega (arith, l, m) in subst (λ (i : ℕ). goes (state_of c.args.self.now) i ≡ false) (same ∙ sym e) here)
    (cases_lt k c.loop-number.number)

pub returns : goal.returns
returns g c =
    let sound = subst (λ (w : WholeLine g.row.K.Denot). IsSound (g.K.Keeps.fits w.keep w.number) w) c.self.view_is c.self.invariant.sound in
    record { lowest = tt; mover = at_rest _ c.args.self.now sound (λ i l. c.loop-number.invariant i (omega (arith, l, c.loop-number-test.false, c.nodes-number-end.ensures.nodes))) }

pub returns-then-goes : goal.returns-then-goes
returns-then-goes g c =
    let sound = subst (λ (w : WholeLine g.row.K.Denot). IsSound (g.K.Keeps.fits w.keep w.number) w) c.self.view_is c.self.invariant.sound in
    let same : c.unwrap-node.result ≡ c.loop-number.number = search rules in
    let here : goes (state_of c.args.self.now) c.unwrap-node.result ≡ true = search rules in
    record {
      lowest = not_below _ c.args.self.now sound c.unwrap-node.result (λ k l. c.loop-number.invariant k (omega (arith, l, same)));
      mover = (omega (arith, same, c.loop-number-test.true, c.nodes-number-end.ensures.nodes), is_mover _ c.args.self.now sound c.unwrap-node.result here);
    }
