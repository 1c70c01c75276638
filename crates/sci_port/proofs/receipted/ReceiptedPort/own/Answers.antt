use Rattle.std.proofs.Common.{refl}
use Rattle.sci_port.proofs.Before.{own_keeps}
use Rattle.sci_port.proofs.receipted.ReceiptedPort.own.Goals as goal

pub returns-clause-gives : goal.returns-clause-gives
returns-clause-gives g c = (c.own.ensures.gives, own_keeps _ c.own.result _ _ refl, refl, refl)
