use Rattle.std.proofs.Common.{◌≡◌}
use Rattle.sci_core.specs.Whole.{nodes_of}
use Rattle.sci_port.specs.Banks.{LentLines, lent_lines, nodes_at}
use Rattle.sci_port.proofs.Banked.{holds_of_read}
use Rattle.sci_port.proofs.solo_bank.SoloBankBank.nodes.Goals as goal

pub returns : goal.returns
returns g c =
    let s : LentLines _ = lent_lines c.args.self.now.keep c.args.self.now.node c.args.self.now.wholes.items in
    holds_of_read g.K.Keeps.fits s c.args.line c.requires c.args.self.now.of (λ w. c.nodes.result ≡ nodes_of w → c.nodes.result ≡ nodes_at s c.args.line) c.from.result c.index.result.now c.index.result.now c.from.ensures c.index.ensures (λ e. e) c.nodes.ensures.nodes
