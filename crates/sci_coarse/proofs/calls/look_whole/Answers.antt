use Rattle.std.proofs.Common.{sym, ap, ◌∙◌}
use Rattle.sci_core.specs.Step.{look_of}
use Rattle.sci_core.specs.declared.pending.Pending.{Pending}
use Rattle.sci_port.proofs.Lent.{own_gives, is_sound}
use Rattle.sci_coarse.proofs.Calling.{sound_on, still_on}
use Rattle.sci_coarse.proofs.calls.look_whole.Goals as goal

pub look-requires : goal.look-requires
look-requires g c =
    let e = c.step.ensures in let v = c.step.new.self in let t = c.args.standing.now.terms in
    let d = own_gives g.K.Keeps.fits c.args.whole.now v c.args.node e.same c.args.whole.ghost_name c.step.result c.tag-tag.result e.answers e.lawful c.tag-tag.ensures.value c.tag-tag.ensures.well_formed c.tag-tag.ensures.links in
    let after = ap (λ (p : Pending). look_of p c.tag-tag.result) c.requires.pending ∙ sym d.3.0 in
    sound_on g.K.Keeps.fits t v _ (still_on t c.args.whole.now v e.same c.requires.on) (is_sound _ _ _ _ _ _ after c.tag-tag.ensures.value c.tag-tag.ensures.well_formed c.tag-tag.ensures.links c.nodes.ensures.lawful)

pub returns-clause-calls : goal.returns-clause-calls
returns-clause-calls g c =
    let e = c.step.ensures in
    let d = own_gives g.K.Keeps.fits c.args.whole.now c.step.new.self c.args.node e.same c.args.whole.ghost_name c.step.result c.tag-tag.result e.answers e.lawful c.tag-tag.ensures.value c.tag-tag.ensures.well_formed c.tag-tag.ensures.links in
    record { same = e.same; gives = d.2; owes = d.3 }

pub returns-clause-pending : goal.returns-clause-pending
returns-clause-pending g c =
    let e = c.step.ensures in
    let d = own_gives g.K.Keeps.fits c.args.whole.now c.step.new.self c.args.node e.same c.args.whole.ghost_name c.step.result c.tag-tag.result e.answers e.lawful c.tag-tag.ensures.value c.tag-tag.ensures.well_formed c.tag-tag.ensures.links in
    c.look.ensures.pending ∙ ap (λ (p : Pending). look_of p c.tag-tag.result) c.requires.pending ∙ sym d.3.0
