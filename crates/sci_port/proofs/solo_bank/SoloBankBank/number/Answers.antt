use Rattle.std.proofs.Common.{rules}
use Rattle.sci_port.proofs.solo_bank.SoloBankBank.number.Goals as goal

pub returns : goal.returns
returns g c = search rules
