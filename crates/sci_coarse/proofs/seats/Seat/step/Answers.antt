use Rattle.std.proofs.Common.{◌∙◌, sym, subst}
use Rattle.sci_port.specs.declared.calls.Call.TheVariants.{Stepped}
use Rattle.sci_port.specs.ReceiptList.{ReceiptList, ReceivesIfRoom}
use Rattle.sci_port.proofs.Before.{kept_so, room_to_keep, unkept}
use Rattle.sci_coarse.proofs.seats.Seat.step.Goals as goal

pub make_kept-requires : goal.make_kept-requires
make_kept-requires g c =
    let s = c.args.self.now in
    record { of = c.requires.of; allowed = c.requires.allowed; fits = c.requires.fits; room = room_to_keep c.args.event s.receipts (sym c.has_room_for.ensures ∙ c.if-has_room_for.true) }

pub returns-then-has_room_for : goal.returns-then-has_room_for
returns-then-has_room_for g c =
    let s = c.args.self.now in
    record { made = c.make_kept.ensures.made; receives = kept_so s.standing.pending c.args.event c.make_kept.result s.receipts c.make_kept.new.self.receipts (sym c.has_room_for.ensures ∙ c.if-has_room_for.true) c.make_kept.ensures.received }

pub returns-else-has_room_for : goal.returns-else-has_room_for
returns-else-has_room_for g c =
    let s = c.args.self.now in let p = s.standing.pending in
    record {
      made = c.make.ensures.made;
      receives = subst (λ (r : ReceiptList). ReceivesIfRoom p (Stepped c.args.event c.make.result) s.receipts r) (sym c.make.ensures.kept) (unkept p c.args.event c.make.result s.receipts (sym c.has_room_for.ensures ∙ c.if-has_room_for.false));
    }
