use Rattle.std.proofs.Common.{◌∙◌, sym, ap, subst}
use Rattle.sci_core.specs.declared.pending.Pending.{Pending}
use Rattle.sci_core.specs.Step.{look_of}
use Rattle.sci_port.specs.Owes.{IsSoundStep}
use Rattle.sci_coarse.specs.Standings.{StandingOn}
use Rattle.sci_coarse.proofs.standing.Standing.look.Goals as goal

pub invariant_of-self : goal.invariant_of-self
invariant_of-self g c =
    let t = c.self.inside.terms in
    let next = subst (λ (s : StandingOn g.row.K.Denot). IsSoundStep s.terms.nodes (g.K.Keeps.fits s.terms.keep s.terms.number) (look_of s.pending c.args.own.now)) (sym c.self.view_is) c.requires in
    subst (λ (p : Pending). IsSoundStep t.nodes (g.K.Keeps.fits t.keep t.number) p) (sym (c.look.ensures c.self.inside.line)) next

pub returns-clause-pending : goal.returns-clause-pending
returns-clause-pending g c = c.look.ensures c.self.inside.line ∙ ap (λ (s : StandingOn g.row.K.Denot). look_of s.pending c.args.own.now) c.self.view_is
