use Rattle.std.proofs.Common.{sym}
use Rattle.std.proofs.lemmas.List.{length-map}
use Rattle.sci_port.proofs.seat_bank.SeatBankBank.lines.Goals as goal

pub returns : goal.returns
returns g c = sym (length-map _ _)
