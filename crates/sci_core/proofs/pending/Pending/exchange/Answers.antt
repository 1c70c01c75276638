use Rattle.std.proofs.Common.{◌≡◌, ◌∙◌, ap, sym, subst}
use Rattle.sci_core.specs.declared.lines.Line.{Line}
use Rattle.sci_core.specs.declared.pending.Pending.{Pending}
use Rattle.sci_core.specs.declared.outlines.Outline.{Outline}
use Rattle.sci_core.specs.Laid.{CountsGiven}
use Rattle.sci_core.specs.Stage.{filled, outline_of, own_after}
use Rattle.sci_core.specs.Table.{row_of}
use Rattle.sci_core.proofs.Filling.{counts_given, exchange_filled}
use Rattle.sci_core.proofs.Laying.{step_of}
use Rattle.sci_core.proofs.pending.Pending.exchange.Goals as goal

pub filled-requires : goal.filled-requires
filled-requires c =
    let step = step_of c.stage.result c.line.result c.args.self.now c.stage.ensures c.line.ensures in
    let row : c.outline-outline.result ≡ outline_of (row_of c.args.me c.args.self.now c.args.event.now) = c.outline-outline.ensures c.line.result ∙ ap (λ (p : Pending). outline_of (row_of c.args.me p c.args.event.now)) step in
    let stamp =
    subst (λ (o : Outline). CountsGiven c.args.event.now o.motion c.line.result) (sym row)
    (subst (λ (l : Line). CountsGiven c.args.event.now (outline_of (row_of c.args.me c.args.self.now c.args.event.now)).motion l) (sym c.line.ensures) (counts_given c.args.me c.args.self.now c.args.event.now c.requires.stamp)) in
    record { stamp = stamp }

pub returns : goal.returns
returns c =
    let step = step_of c.stage.result c.line.result c.args.self.now c.stage.ensures c.line.ensures in
    let row : c.outline-outline.result ≡ outline_of (row_of c.args.me c.args.self.now c.args.event.now) = c.outline-outline.ensures c.line.result ∙ ap (λ (p : Pending). outline_of (row_of c.args.me p c.args.event.now)) step in
    let here : Outline = outline_of (row_of c.args.me c.args.self.now c.args.event.now) in
    c.filled.ensures ∙ ap (λ (o : Outline). filled o (own_after o.motion o.after c.args.event.now c.line.result c.args.taken.now)) row
    ∙ ap (λ (l : Line). filled here (own_after here.motion here.after c.args.event.now l c.args.taken.now)) c.line.ensures
    ∙ sym (exchange_filled c.args.me c.args.self.now c.args.event.now c.args.taken.now)
