use Rattle.std.proofs.Common.{ap, ◌∙◌}
use Rattle.sci_port.specs.ReceiptList.{ReceiptList}
use Rattle.sci_port.proofs.Lasting.{last_given}
use Rattle.sci_port.proofs.receipts.Receipts.last_passed.Goals as goal

pub returns-in-Some : goal.returns-in-Some
returns-in-Some c = c.is_passed.ensures ∙ last_given c.last.result c.in-Some.last c.deref.result.now c.args.self.now.list c.in-Some.is c.last.ensures.value (c.deref.ensures.value ∙ ap (λ (t : ReceiptList). t.list) c.self.view_is)
