use borrow.Author.Rules.{scaled_Fits}
use Rattle.std.proofs.Common.{◌≡◌, ◌∙◌, ◌<◌, ℕ, List, true, sym, ap, subst, get_or, set, length, length-set, rules}
use Rattle.sci_core.specs.Answers.{is_allowed}
use Rattle.sci_core.specs.declared.pending.Pending.{Pending}
use Rattle.sci_port.specs.declared.calls.Call.TheVariants.{Stepped}
use Rattle.sci_port.specs.Banks.{lent_lines, nodes_at, step_at}
use Rattle.sci_port.specs.ReceiptList.{ReceiptList, ReceivesIfRoom, has_room_for}
use Rattle.sci_port.proofs.Banked.{written_back}
use Rattle.sci_port.proofs.SeatReceipts.{set_changes, there}
use Rattle.sci_port.proofs.solo_bank.SoloBank.make_in_room.Goals as goal

pub keep_if-requires-clause-allowed : goal.keep_if-requires-clause-allowed
keep_if-requires-clause-allowed g c = (_, _, subst (λ (p : Pending). is_allowed (nodes_at (lent_lines c.args.self.now.keep c.args.self.now.node c.args.self.now.wholes.items) c.args.line) c.args.self.now.node p c.args.event ≡ true) (sym c.step_on-before.ensures) c.requires.allowed)

pub keep_if-requires-clause-asked : goal.keep_if-requires-clause-asked
keep_if-requires-clause-asked g c =
    let near : c.args.line < length c.args.self.now.receipts.items = subst (λ (n : ℕ). c.args.line < n) (sym c.args.self.now.count) c.requires.line in
    c.has_room_for-is_kept.ensures ∙ ap (λ (r : ReceiptList). has_room_for c.args.event r) (sym (there c.args.self.now.receipts.items c.make-outcome.new.self.receipts.items c.as_mut_slice-receipts.result.now c.from.result c.args.line c.index-receipts-from.result near c.from.ensures (ap (λ v. v.items) c.make-outcome.ensures.same_receipts) c.as_mut_slice-receipts.ensures.value))

pub bounds-receipts-from : goal.bounds-receipts-from
bounds-receipts-from g c =
    let near : c.args.line < length c.args.self.now.receipts.items = subst (λ (n : ℕ). c.args.line < n) (sym c.args.self.now.count) c.requires.line in
    rw (c.as_mut_slice-receipts.ensures.value, (ap (λ v. v.items) c.make-outcome.ensures.same_receipts), c.from.ensures) near

pub offset_bounds-receipts-from : goal.offset_bounds-receipts-from
offset_bounds-receipts-from g c = scaled_Fits _ _ _ (bounds-receipts-from g c) (search rules)

pub invariant_of-self : goal.invariant_of-self
invariant_of-self g c =
    let t = c.make-outcome.new.self in
    record {
      count = ap (λ (l : List _). length l) (written_back c.make-outcome.new.self.receipts.items c.as_mut_slice-receipts.result.now c.make-outcome.new.self.receipts.len c.from.result c.keep_if.new.self c.as_mut_slice-receipts.ensures.value c.as_mut_slice-receipts.ensures.len) ∙ length-set c.make-outcome.new.self.receipts.items c.from.result c.keep_if.new.self ∙ t.count;
      of = t.of;
    }

pub returns-clause-gives : goal.returns-clause-gives
returns-clause-gives g c = c.make-outcome.ensures.gives

pub returns-clause-receives : goal.returns-clause-receives
returns-clause-receives g c =
    let near : c.args.line < length c.args.self.now.receipts.items = subst (λ (n : ℕ). c.args.line < n) (sym c.args.self.now.count) c.requires.line in
    let p = step_at (lent_lines c.args.self.now.keep c.args.self.now.node c.args.self.now.wholes.items) c.args.line in
    let call = Stepped c.args.event c.make-outcome.result in
    let back = (written_back c.make-outcome.new.self.receipts.items c.as_mut_slice-receipts.result.now c.make-outcome.new.self.receipts.len c.from.result c.keep_if.new.self c.as_mut_slice-receipts.ensures.value c.as_mut_slice-receipts.ensures.len) ∙ (λ i. set ((ap (λ v. v.items) c.make-outcome.ensures.same_receipts) i) (c.from.ensures i) c.keep_if.new.self) in
    set_changes (ReceivesIfRoom p call) c.args.self.now.receipts.items _ c.args.line c.keep_if.new.self near back
    (subst (λ (r : ReceiptList). ReceivesIfRoom p call r c.keep_if.new.self) (there c.args.self.now.receipts.items c.make-outcome.new.self.receipts.items c.as_mut_slice-receipts.result.now c.from.result c.args.line c.index-receipts-from.result near c.from.ensures (ap (λ v. v.items) c.make-outcome.ensures.same_receipts) c.as_mut_slice-receipts.ensures.value)
    (subst (λ (q : Pending). ReceivesIfRoom q call (get_or c.as_mut_slice-receipts.result.now c.from.result c.index-receipts-from.result) c.keep_if.new.self) c.step_on-before.ensures c.keep_if.ensures))
