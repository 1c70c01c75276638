use Rattle.std.proofs.Common.{rules}
use Rattle.sci_port.proofs.solo_bank.SoloBankBank.lines.Goals as goal

pub returns : goal.returns
returns g c = search rules
