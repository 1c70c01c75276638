use Rattle.std.proofs.Common.{◌∙◌, ap, sym, subst}
use Rattle.sci_port.specs.declared.calls.Call.TheVariants.{Stepped}
use Rattle.sci_port.specs.ReceiptList.{ReceiptList, ReceivesIfRoom, has_room_for}
use Rattle.sci_fine.proofs.Writing.{writes_kept}
use Rattle.sci_fine.proofs.seats.Seat.step.Goals as goal

pub receive_if-requires : goal.receive_if-requires
receive_if-requires g c =
    let s = c.args.self.now in
    record {
      asked = c.has_room_for-is_kept.ensures ∙ ap (λ (r : ReceiptList). has_room_for c.args.event.now r) (sym c.make-outcome.ensures.kept);
      counts = (writes_kept s.standing.terms.nodes s.standing.node s.standing.pending c.args.event.now c.line-before.result c.requires.allowed c.line-before.ensures).1;
    }

pub invariant_of-self : goal.invariant_of-self
invariant_of-self g c = let t = c.make-outcome.new.self in record { of = t.of; seen = t.seen; hand = t.hand; below = t.below }

pub returns : goal.returns
returns g c =
    let s = c.args.self.now in let h = c.make-outcome.ensures.made in let p = s.standing.pending in
    let over = (writes_kept s.standing.terms.nodes s.standing.node p c.args.event.now c.line-before.result c.requires.allowed c.line-before.ensures).0 in
    record {
      made = record { same = h.same; came = h.came; owes = h.owes };
      receives = subst (λ (r : ReceiptList). ReceivesIfRoom p (Stepped c.args.event.now c.make-outcome.result) r c.receive_if.new.self) c.make-outcome.ensures.kept (c.receive_if.ensures p over);
    }
