use Rattle.std.proofs.Common.{◌∙◌, refl, subst, sym}
use Rattle.sci_core.specs.declared.pending.Pending.{Pending}
use Rattle.sci_port.specs.declared.calls.Call.TheVariants.{Stepped}
use Rattle.sci_port.specs.ReceiptList.{ReceivesIfRoom}
use Rattle.sci_port.proofs.Before.{kept_so}
use Rattle.sci_port.proofs.receipted.ReceiptedPort.step.Goals as goal

pub returns-clause-gives : goal.returns-clause-gives
returns-clause-gives g c =
    let s = c.args.self.now in
    let o = c.step-outcome.result in
    let kept = kept_so c.pending-before.result c.args.event o s.receipts.now c.keep.new.self (sym c.has_room_for.ensures ∙ c.if-not-has_room_for.false) c.keep.ensures in
    (c.step-outcome.ensures.gives, subst (λ (p : Pending). ReceivesIfRoom p (Stepped c.args.event o) s.receipts.now c.keep.new.self) c.pending-before.ensures.value kept, refl, refl)

pub returns-clause-receipts : goal.returns-clause-receipts
returns-clause-receipts g c = (returns-clause-gives g c).1
