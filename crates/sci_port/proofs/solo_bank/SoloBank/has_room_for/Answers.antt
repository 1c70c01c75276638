use Rattle.std.proofs.Common.{◌<◌, ◌∙◌, ℕ, ap, length, subst, sym}
use Rattle.sci_port.specs.ReceiptList.{ReceiptList, has_room_for}
use Rattle.sci_port.proofs.SeatReceipts.{read_there}
use Rattle.sci_port.proofs.solo_bank.SoloBank.has_room_for.Goals as goal

pub returns : goal.returns
returns g c =
    let near : c.args.line < length c.args.self.now.receipts.items = subst (λ (n : ℕ). c.args.line < n) (sym c.args.self.now.count) c.requires in
    c.has_room_for.ensures ∙ ap (λ (r : ReceiptList). has_room_for c.args.event.now r) (read_there c.args.self.now.receipts.items c.from.result c.args.line c.index.result.now near c.from.ensures c.index.ensures)
