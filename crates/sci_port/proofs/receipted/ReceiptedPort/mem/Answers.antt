use Rattle.std.proofs.Common.{refl}
use Rattle.sci_port.proofs.Before.{mem_keeps}
use Rattle.sci_port.proofs.receipted.ReceiptedPort.mem.Goals as goal

pub returns-clause-gives : goal.returns-clause-gives
returns-clause-gives g c = (c.mem.ensures.gives, mem_keeps _ c.mem.result _ _ refl, refl, refl)
