use Rattle.std.proofs.Common.{◌∙◌, ap, sym}
use Rattle.sci_core.specs.declared.outlines.Motion.{Motion}
use Rattle.sci_core.specs.Laid.{bytes_after, lines_after}
use Rattle.sci_core.proofs.stepping.move_bytes.Goals as goal

pub returns-in-Takes-clause-lines : goal.returns-in-Takes-clause-lines
returns-in-Takes-clause-lines c = c.take_bytes.ensures c.args.event.now ∙ ap (λ (m : Motion). lines_after c.args.bytes.now c.args.lines.now c.args.me c.args.event.now m c.args.outline.now.after) (sym c.in-Takes.is)

pub returns-in-Gives-clause-lines : goal.returns-in-Gives-clause-lines
returns-in-Gives-clause-lines c = c.give_bytes.ensures.lines c.args.outline.now.after ∙ ap (λ (m : Motion). lines_after c.args.bytes.now c.args.lines.now c.args.me c.args.event.now m c.args.outline.now.after) (sym c.in-Gives.is)

pub returns-in-Gives-clause-memory : goal.returns-in-Gives-clause-memory
returns-in-Gives-clause-memory c = c.give_bytes.ensures.memory ∙ ap (λ (m : Motion). bytes_after c.args.bytes.now c.args.lines.now c.args.me c.args.event.now m) (sym c.in-Gives.is)
