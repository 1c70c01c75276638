use Rattle.std.proofs.Common.{rules, ◌≡◌, sym, ap, ◌∙◌, subst}
use Rattle.sci_core.specs.declared.pending.Pending.{Pending}
use Rattle.sci_core.specs.declared.stages.Stage.{Stage}
use Rattle.sci_core.specs.Shape.{line_of}
use Rattle.sci_core.specs.Stage.{pending_of, stage_of}
use Rattle.sci_core.specs.Whole.{state_of}
use Rattle.sci_core.proofs.Laying.{whole_step}
use Rattle.sci_port.proofs.Lent.{is_sound}
use Rattle.sci_coarse.specs.Rule.{IsOn}
use Rattle.sci_coarse.specs.Standings.{StandingOn}
use Rattle.sci_coarse.proofs.Calling.{sound_on}
use Rattle.sci_coarse.proofs.standing.Standing.follow.Goals as goal

pub tag-requires : goal.tag-requires
tag-requires g c = c.requires.node

pub stage-requires : goal.stage-requires
stage-requires g c = c.requires.node

pub pending-requires : goal.pending-requires
pending-requires g c = c.requires.node

pub returns-in-Done-Some : goal.returns-in-Done-Some
returns-in-Done-Some g c =
    let line = c.in-Done-Some.line in
    record {
      terms = ap (λ (s : StandingOn g.row.K.Denot). s.terms) c.self.view_is;
      pending = ap (λ (s : Stage). pending_of s line) c.stage.ensures ∙ c.requires.answered line (search rules);
    }

pub returns-in_default : goal.returns-in_default
returns-in_default g c = record {
  terms = ap (λ (s : StandingOn g.row.K.Denot). s.terms) c.self.view_is;
  pending = ap (λ (s : Stage). pending_of s c.write_kept.new.line) (c.stage.ensures ∙ ap stage_of (sym c.pending.ensures)) ∙ (c.write_kept.ensures ∙ c.pending.ensures);
}

pub invariant_of-self : goal.invariant_of-self
invariant_of-self g c =
    let t = c.self.inside.terms in let w = c.args.whole.now in let line = c.in-Done-Some.line in
    let on = subst (λ (s : StandingOn g.row.K.Denot). IsOn s.terms w) (sym c.self.view_is) c.requires.on in
    let after : pending_of c.stage.result.now line ≡ (state_of w).steps c.args.node = ap (λ (s : Stage). pending_of s line) c.stage.ensures ∙ c.requires.answered line (search rules) in
    sound_on g.K.Keeps.fits t w _ on (is_sound _ _ _ _ _ _ after c.tag.ensures.value c.tag.ensures.well_formed c.tag.ensures.links c.nodes.ensures.lawful)

pub invariant_of-self-in_default : goal.invariant_of-self-in_default
invariant_of-self-in_default g c =
    let t = c.self.inside.terms in let w = c.args.whole.now in let line = c.write_kept.new.line in
    let on = subst (λ (s : StandingOn g.row.K.Denot). IsOn s.terms w) (sym c.self.view_is) c.requires.on in
    let after : pending_of c.stage.result.now line ≡ (state_of w).steps c.args.node = ap (λ (s : Stage). pending_of s line) (c.stage.ensures ∙ ap stage_of (sym c.pending.ensures)) ∙ (c.write_kept.ensures ∙ c.pending.ensures) in
    sound_on g.K.Keeps.fits t w _ on (is_sound _ _ _ _ _ _ after c.tag.ensures.value c.tag.ensures.well_formed c.tag.ensures.links c.nodes.ensures.lawful)

pub returns-else-keeps_line-clause-terms : goal.returns-else-keeps_line-clause-terms
returns-else-keeps_line-clause-terms g c = ap (λ (s : StandingOn g.row.K.Denot). s.terms) c.self.view_is

pub returns-else-keeps_line-clause-pending : goal.returns-else-keeps_line-clause-pending
returns-else-keeps_line-clause-pending g c =
    let p : Pending = (state_of c.args.whole.now).steps c.args.node in
    c.keeps_line.ensures c.if-keeps_line.false c.self.inside.line (line_of p) ∙ (ap (λ (s : Stage). pending_of s (line_of p)) c.stage.ensures ∙ whole_step p)

pub invariant_of-self-else-keeps_line : goal.invariant_of-self-else-keeps_line
invariant_of-self-else-keeps_line g c =
    let t = c.self.inside.terms in let w = c.args.whole.now in let p : Pending = (state_of w).steps c.args.node in
    let on = subst (λ (s : StandingOn g.row.K.Denot). IsOn s.terms w) (sym c.self.view_is) c.requires.on in
    let after : pending_of c.stage.result.now c.self.inside.line ≡ p = c.keeps_line.ensures c.if-keeps_line.false c.self.inside.line (line_of p) ∙ (ap (λ (s : Stage). pending_of s (line_of p)) c.stage.ensures ∙ whole_step p) in
    sound_on g.K.Keeps.fits t w _ on (is_sound _ _ _ _ _ _ after c.tag.ensures.value c.tag.ensures.well_formed c.tag.ensures.links c.nodes.ensures.lawful)
