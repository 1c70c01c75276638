use Rattle.std.proofs.Common.{◌∙◌, sym, ap, subst}
use Rattle.sci_core.specs.declared.pending.Pending.{Pending}
use Rattle.sci_core.specs.Step.{look_of}
use Rattle.sci_fine.specs.Standings.{StandingOn, IsStanding}
use Rattle.sci_fine.proofs.standing.Standing.look.Goals as goal

pub invariant_of-self : goal.invariant_of-self
invariant_of-self g c =
    let t = c.self.inside.terms in
    let next = subst (λ (s : StandingOn g.row.K.Denot). IsStanding s.terms.nodes (g.K.Keeps.fits s.terms.keep s.terms.number) s.node (look_of s.pending c.args.own.now)) (sym c.self.view_is) c.requires in
    subst (λ (p : Pending). IsStanding t.nodes (g.K.Keeps.fits t.keep t.number) c.self.inside.node p) (sym (c.look.ensures c.self.inside.line)) next

pub returns-clause-pending : goal.returns-clause-pending
returns-clause-pending g c = c.look.ensures c.self.inside.line ∙ ap (λ (s : StandingOn g.row.K.Denot). look_of s.pending c.args.own.now) c.self.view_is
