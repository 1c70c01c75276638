use Rattle.std.proofs.Common.{◌≡◌, ◌∙◌, ℕ, ◌≤◌, Some, None, Option, ap, sym, subst}
use Rattle.sci_core.specs.declared.lines.Line.{Line}
use Rattle.sci_core.specs.declared.pending.Pending.{Pending}
use Rattle.sci_core.specs.Shape.{line_of}
use Rattle.sci_core.specs.Step.{look_of}
use Rattle.sci_port.specs.Way.{Way}
use Rattle.sci_ops.specs.declared.answers.Turn.{Turn}
use Rattle.sci_ops.specs.Answers.{HasStamp}
use Rattle.sci_ops.specs.TurnKinds.{turn_with}
use Rattle.sci_ops.specs.Plan.{Takes, tag}
use Rattle.sci_ops.specs.Table.{turn_in, purging_at, purge, write}
use Rattle.sci_ops.proofs.Staged.{looked_in, stores_on}
use Rattle.sci_ops.proofs.Carried.{first, link_at, node_below}
use Rattle.sci_ops.proofs.Took.{took_own, no_own, unended, wait_goes_on}
use Rattle.sci_ops.proofs.turns.writing.purging.Goals as goal

pub returns-in_default : goal.returns-in_default
returns-in_default g c = record { calls = subst (λ (p : Pending). Takes g.P.Port.gives (turn_in c.args.goal (g.P.Port.way c.args.port.now).node p) c.args.port.now Turn.Waiting c.own.new.self) (sym c.requires.step.2) (no_own c.in_default.ensures.gives); stamp = unended _ wait_goes_on }

pub purge-requires : goal.purge-requires
purge-requires g c = record { node = node_below _ _ _ c.in-Some-forw.is (link_at _ _ _ c.in-Some.ensures.same_way (first _ _ c.in-Some.ensures.form.1)); step = (_, looked_in _ _ _ _ c.in-Some.ensures.look c.requires.step.2 ∙ ap (λ (f : Option ℕ). Pending.Purging c.requires.step.0 (Some f)) c.in-Some-forw.is) }

pub write-requires : goal.write-requires
write-requires g c = record {
  step = looked_in _ _ _ _ c.in-Some.ensures.look c.requires.step.2 ∙ ap (λ (f : Option ℕ). Pending.Purging c.requires.step.0 (Some f)) c.in-None.is ∙ ap (λ (l : Line). Pending.Purging l (Some None)) (sym (ap line_of (c.in-Purging.ensures.value ∙ c.in-Some.ensures.look ∙ ap (λ (p : Pending). look_of p c.in-Some.tag) c.requires.step.2)));
  fits = stores_on g.P.Keep.Keeps.fits _ _ _ _ c.args.goal c.in-Some.ensures.same_fact c.in-Some.ensures.same_way c.requires.fits;
  line = c.in-Purging.ensures.sound.fit;
}

pub returns-in-Purging : goal.returns-in-Purging
returns-in-Purging g c =
    let same : c.in-Purging.line ≡ c.requires.step.0 = ap line_of (c.in-Purging.ensures.value ∙ c.in-Some.ensures.look ∙ ap (λ (p : Pending). look_of p c.in-Some.tag) c.requires.step.2) in
    let plan : purging_at c.args.goal (g.P.Port.way c.args.port.now).node c.requires.step.0 c.in-Some.tag.forw ≡ write c.args.goal c.in-Purging.line = rw c.in-None.is (ap (λ (l : Line). write c.args.goal l) (sym same)) in
    record { calls = subst (λ (p : Pending). Takes g.P.Port.gives (turn_in c.args.goal (g.P.Port.way c.args.port.now).node p) c.args.port.now (turn_with c.write.result c.write.new.shown) c.write.new.port) (sym c.requires.step.2) (took_own _ c.in-Some.ensures.gives plan c.write.ensures.calls); stamp = λ answer is. subst HasStamp (sym c.requires.step.2) (subst (λ (l : Line). l.stamp ≤ 18446744073709551615) same c.write.ensures.stamp) }

pub returns-in-Some-forw : goal.returns-in-Some-forw
returns-in-Some-forw g c = record { calls = subst (λ (p : Pending). Takes g.P.Port.gives (turn_in c.args.goal (g.P.Port.way c.args.port.now).node p) c.args.port.now (turn_with c.purge.result c.args.shown.now) c.purge.new.port) (sym c.requires.step.2) (took_own _ c.in-Some.ensures.gives (ap (purging_at c.args.goal (g.P.Port.way c.args.port.now).node c.requires.step.0) c.in-Some-forw.is ∙ ap (λ n. tag c.in-Some-forw.next (purge n)) (ap (λ (w : Way). w.node) (sym (c.in-Some.ensures.same_way)))) (c.purge.ensures.calls _)); stamp = unended _ (c.purge.ensures.goes_on _) }
