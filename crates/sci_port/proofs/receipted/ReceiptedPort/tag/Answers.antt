use Rattle.std.proofs.Common.{refl}
use Rattle.sci_port.proofs.Before.{tag_keeps}
use Rattle.sci_port.proofs.receipted.ReceiptedPort.tag.Goals as goal

pub returns-clause-gives : goal.returns-clause-gives
returns-clause-gives g c = (c.tag.ensures.gives, tag_keeps _ c.args.node c.tag.result _ _ refl, refl, refl)
