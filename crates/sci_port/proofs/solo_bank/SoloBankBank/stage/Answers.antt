use Rattle.std.proofs.Common.{◌≡◌, ◌∙◌, ap, sym, refl}
use Rattle.sci_core.specs.Stage.{stage_of}
use Rattle.sci_core.specs.Whole.{state_of}
use Rattle.sci_port.specs.Banks.{LentLines, lent_lines, step_at}
use Rattle.sci_port.proofs.Banked.{holds_of_read, sound_at}
use Rattle.sci_port.proofs.solo_bank.SoloBankBank.stage.Goals as goal

pub returns-clause-value : goal.returns-clause-value
returns-clause-value g c =
    let s : LentLines _ = lent_lines c.args.self.now.keep c.args.self.now.node c.args.self.now.wholes.items in
    let step = holds_of_read g.K.Keeps.fits s c.args.line c.requires c.args.self.now.of (λ w. step_at s c.args.line ≡ (state_of w).steps s.node) c.from.result c.index-whole.result.now c.index-whole.result.now c.from.ensures c.index-whole.ensures refl in
    c.stage.ensures ∙ sym (ap stage_of step)

pub returns-clause-sound : goal.returns-clause-sound
returns-clause-sound g c =
    let s : LentLines _ = lent_lines c.args.self.now.keep c.args.self.now.node c.args.self.now.wholes.items in
    let step = holds_of_read g.K.Keeps.fits s c.args.line c.requires c.args.self.now.of (λ w. step_at s c.args.line ≡ (state_of w).steps s.node) c.from.result c.index-whole.result.now c.index-whole.result.now c.from.ensures c.index-whole.ensures refl in
    sound_at g.K.Keeps.fits s c.args.line c.requires c.args.self.now.of c.from.result c.index-whole.result.now (step_at s c.args.line) c.tag.result c.from.ensures c.index-whole.ensures step c.tag.ensures.value c.tag.ensures.well_formed c.tag.ensures.links c.nodes.ensures.lawful
