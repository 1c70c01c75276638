use Rattle.std.proofs.Common.{◌≡◌, true, Some, None, cond, sym, ap, ◌∙◌, subst}
use Rattle.sci_core.specs.declared.pending.Pending.{Pending}
use Rattle.sci_core.specs.Stage.{outline_of, pending_of}
use Rattle.sci_core.specs.Table.{has_row, row_of}
use Rattle.sci_core.proofs.Filling.{counts_allowed}
use Rattle.sci_fine.specs.Standings.{StandingOn, IsStanding}
use Rattle.sci_fine.proofs.Owning.{counts_own, step_own, answer_own}
use Rattle.sci_fine.proofs.standing.Standing.go_on.Goals as goal
use Rattle.sci_fine.proofs.standing.Standing.go_on.Goals.{then-outline, else-outline}

pub write_own-requires : goal.write_own-requires
write_own-requires g c =
    let e = c.args.event.now in let i = c.self.inside in
    let turn = subst (λ (s : StandingOn g.row.K.Denot). has_row s.terms.nodes s.node s.pending e ≡ true) (sym c.self.view_is) c.requires.allowed in
    record { stamp = counts_own e c.args.outline.now.motion i.line (counts_allowed i.terms.nodes i.node i.stage i.line e turn) }

pub invariant_of-self : goal.invariant_of-self
invariant_of-self g c =
    let e = c.args.event.now in let i = c.self.inside in
    let is = subst (λ (s : StandingOn g.row.K.Denot). c.args.outline.now ≡ outline_of (row_of s.node s.pending e)) (sym c.self.view_is) c.requires.outline in
    let next = subst (λ (s : StandingOn g.row.K.Denot). IsStanding s.terms.nodes (g.K.Keeps.fits s.terms.keep s.terms.number) s.node ((row_of s.node s.pending e).after c.args.taken.now)) (sym c.self.view_is) c.requires.next in
    subst (λ (p : Pending). IsStanding i.terms.nodes (g.K.Keeps.fits i.terms.keep i.terms.number) i.node p)
    (sym (step_own i.node i.stage i.line e c.args.taken.now c.args.outline.now c.write_own.new.own is c.write_own.ensures)) next

pub returns : goal.returns
returns g c =
    let e = c.args.event.now in let i = c.self.inside in let y = c.args.taken.now in
    let is = subst (λ (s : StandingOn g.row.K.Denot). c.args.outline.now ≡ outline_of (row_of s.node s.pending e)) (sym c.self.view_is) c.requires.outline in
    let pending = step_own i.node i.stage i.line e y c.args.outline.now c.write_own.new.own is c.write_own.ensures in
    let answer = answer_own i.node i.stage i.line e y c.args.outline.now c.write_own.new.own is c.write_own.ensures c.if-outline.result
    (elim c.if-outline.branch [ then-outline w ↦ w.result-is ∙ ap (λ b. cond b (Some c.write_own.new.own) None) (sym w.if-outline.true) | else-outline w ↦ w.result-is ∙ ap (λ b. cond b (Some c.write_own.new.own) None) (sym w.if-outline.false) ]) in
    record {
      same = (ap (λ (s : StandingOn g.row.K.Denot). s.terms) c.self.view_is, ap (λ (s : StandingOn g.row.K.Denot). s.node) c.self.view_is);
      pending = subst (λ (s : StandingOn g.row.K.Denot). pending_of c.args.outline.now.after c.write_own.new.own ≡ (row_of s.node s.pending e).after y) c.self.view_is pending;
      answer = subst (λ (s : StandingOn g.row.K.Denot). c.if-outline.result ≡ (row_of s.node s.pending e).answer y) c.self.view_is answer;
    }
