use Rattle.std.proofs.Common.{◌∙◌, refl, sym, ap, subst}
use Rattle.sci_core.specs.declared.lines.Line.{Line}
use Rattle.sci_core.specs.declared.outlines.Outline.{Outline}
use Rattle.sci_core.specs.Row.{Row}
use Rattle.sci_core.specs.Table.{row_of}
use Rattle.sci_fine.specs.Standings.{IsStanding}
use Rattle.sci_fine.specs.Steps.{Took}
use Rattle.sci_fine.proofs.Carried.{takes_there, taken_is, takes_none}
use Rattle.sci_fine.proofs.line.FineLine.pick_up.Goals as goal

pub slot_mut-taken-requires : goal.slot_mut-taken-requires
slot_mut-taken-requires g c =
    let s = c.args.standing.now in let r : Row = row_of s.node s.pending c.args.event.now in let h = c.requires.hand in
    (c.requires.of, (h.0, takes_there r.carry _ _ h.0 c.args.token.now.me.1 (sym (ap (λ (o : Outline). o.motion) c.requires.outline) ∙ c.in-Takes.is) c.slot_of.ensures h.1))

pub go_on-requires-clause-next : goal.go_on-requires-clause-next
go_on-requires-clause-next g c =
    let s = c.args.standing.now in let t = s.terms in let r : Row = row_of s.node s.pending c.args.event.now in let h = c.requires.hand in
    let is = taken_is r.carry _ _ h.0 c.slot_mut-taken.result.now c.args.token.now.me.1 (sym (ap (λ (o : Outline). o.motion) c.requires.outline) ∙ c.in-Takes.is) c.slot_of.ensures h.1 c.slot_mut-taken.ensures.value in
    subst (λ (l : Line). IsStanding t.nodes (g.K.Keeps.fits t.keep t.number) s.node (r.after l)) (sym is) h.2

pub go_on-requires-in_default : goal.go_on-requires-in_default
go_on-requires-in_default g c =
    let s = c.args.standing.now in let t = s.terms in let r : Row = row_of s.node s.pending c.args.event.now in let h = c.requires.hand in
    let none = takes_none r.carry h.0 c.args.token.now.me.1 (λ x m. c.in_default.not-Takes x (ap (λ (o : Outline). o.motion) c.requires.outline ∙ m)) h.1 in
    record {
      allowed = c.requires.allowed;
      outline = c.requires.outline;
      next = subst (λ (l : Line). IsStanding t.nodes (g.K.Keeps.fits t.keep t.number) s.node (r.after l)) none h.2;
    }

pub returns-in-Takes-clause-line : goal.returns-in-Takes-clause-line
returns-in-Takes-clause-line g c =
    let s = c.args.standing.now in let r : Row = row_of s.node s.pending c.args.event.now in
    let is = λ (y : Line) (took : Took r.carry y c.args.token.now.me.1). taken_is r.carry _ _ y c.slot_mut-taken.result.now c.args.token.now.me.1 (sym (ap (λ (o : Outline). o.motion) c.requires.outline) ∙ c.in-Takes.is) c.slot_of.ensures took c.slot_mut-taken.ensures.value in
    λ y took. (c.go_on.ensures.pending ∙ ap (λ (l : Line). r.after l) (is y took), c.go_on.ensures.answer ∙ ap (λ (l : Line). r.answer l) (is y took))

pub returns-in_default : goal.returns-in_default
returns-in_default g c =
    let s = c.args.standing.now in let r : Row = row_of s.node s.pending c.args.event.now in
    let is = λ (y : Line) (took : Took r.carry y c.args.token.now.me.1). takes_none r.carry y c.args.token.now.me.1 (λ x m. c.in_default.not-Takes x (ap (λ (o : Outline). o.motion) c.requires.outline ∙ m)) took in
    record {
      same = (refl, refl, refl);
      hand = refl;
      standing = c.go_on-in_default.ensures.same;
      line = λ y took. (c.go_on-in_default.ensures.pending ∙ ap (λ (l : Line). r.after l) (sym (is y took)), c.go_on-in_default.ensures.answer ∙ ap (λ (l : Line). r.answer l) (sym (is y took)));
    }
