use Rattle.std.proofs.Common.{◌≡◌}
use Rattle.sci_core.specs.Whole.{state_of}
use Rattle.sci_port.specs.Banks.{LentLines, lent_lines, step_at}
use Rattle.sci_port.proofs.Banked.{holds_of_read, node_below}
use Rattle.sci_port.proofs.solo_bank.SoloBank.step_on.Goals as goal

pub returns : goal.returns
returns g c =
    let s : LentLines _ = lent_lines c.args.self.now.keep c.args.self.now.node c.args.self.now.wholes.items in
    holds_of_read g.K.Keeps.fits s c.args.line c.requires c.args.self.now.of (λ w. c.pending.result ≡ (state_of w).steps s.node → c.pending.result ≡ step_at s c.args.line) c.from.result c.index.result.now c.index.result.now c.from.ensures c.index.ensures (λ e. e) c.pending.ensures

pub pending-requires : goal.pending-requires
pending-requires g c = node_below g.K.Keeps.fits (lent_lines c.args.self.now.keep c.args.self.now.node c.args.self.now.wholes.items) c.args.line c.requires c.args.self.now.of c.from.result c.index.result.now c.index.result.now c.from.ensures c.index.ensures
