use Rattle.std.proofs.Common.{IfOk, IfErr, ap, refl, sym, subst, ◌∙◌}
use Rattle.std.specs.Result.{OnOk}
use Rattle.sci_fine.proofs.KeptBank.{AllKept, bank_keeps}
use Rattle.sci_work.specs.Hands.{HasWrittenNothing}
use Rattle.sci_work.specs.Programs.{ComesInPart, IsShareOf}
use Rattle.sci_work.specs.Starts.{HasWrittenAll}
use Rattle.sci_work.proofs.Handed.{bank_node, ends_so, hand_after, idle_before, suits_bank}
use Rattle.sci_work.proofs.Making.{on_ok_then}
use Rattle.sci_work.proofs.Reached.{reached_field}
use Rattle.sci_work.proofs.Seated.{all_kept, one_per_line, seats_of}
use Rattle.sci_work.proofs.starting.run_node.Goals as goal

pub new-requires-clause-seats : goal.new-requires-clause-seats
new-requires-clause-seats g c = let p = c.requires in λ _. seats_of c.args.lines.now c.args.number p.lines_are c.args.hand.items p.hand

pub unreachable-requires : goal.unreachable-requires
unreachable-requires g c = let p = c.requires in c.in_default.ensures.err.0 (one_per_line c.args.lines.now c.args.number p.lines_are c.args.hand.items p.hand)

pub share_of-share-requires-clause-idle : goal.share_of-share-requires-clause-idle
share_of-share-requires-clause-idle g c κs within = let p = c.requires in let made = c.in-Ok.ensures.ok in
    λ line. idle_before c.args.lines.now c.args.number p.lines_are c.args.hand.items c.in-Ok.bank.seats.items (ap (λ v. v.items) made.2) p.hand line

pub share_of-share-requires-clause-suits : goal.share_of-share-requires-clause-suits
share_of-share-requires-clause-suits g c κs within = let p = c.requires in let made = c.in-Ok.ensures.ok in let b = c.in-Ok.bank in
    suits_bank c.args.lines.now c.args.number p.lines_are c.args.hand.items p.hand b.lines.now b.seats.items (ap (λ z. z.now) made.1) (ap (λ v. v.items) made.2) b.keep b.node b.of g.K.Keeps.fits c.args.program p.suits

pub returns : goal.returns
returns g c =
    let p = c.requires in let made = c.in-Ok.ensures.ok in let b = c.in-Ok.bank in let e = c.share_of-share.ensures in let w = c.share_of-share.new.bank in
    let lines = reached_field (λ u. u.lines) (λ u line call v h. h.0) (λ u line r v h. h.0) e.reached in
    let node = reached_field (λ u. u.node) (λ u line call v h. ap (λ y. y.node) h.2.way) (λ u line r v h. ap (λ y. y.node) h.2.way) e.reached in
    let begun = ap (λ v. v.items) made.2 in let back = ap (λ v. v.items) c.into_seats-hand.ensures in
    let all = subst AllKept (sym begun) (all_kept c.args.lines.now c.args.number p.lines_are c.args.hand.items p.hand) in
    record {
      hand = hand_after c.args.lines.now w.lines.now c.args.number w.node w.keep w.seats.items c.into_seats-hand.result.items (ap (λ z. z.now) (lines ∙ made.1))
          (node ∙ bank_node c.args.lines.now c.args.number p.lines_are c.args.hand.items p.hand b.lines.now b.seats.items (ap (λ z. z.now) made.1) begun b.keep b.node b.of)
          back w.of e.idle
          (λ yes. bank_keeps _ _ _ g.K.Keeps.fits (λ u. u.seats.items) (λ u line call v h. h.1) (λ u line r v h. h.1) (λ u line. refl) (e.kept yes) all);
      share_is = subst (λ r. IfOk r (λ s. IsShareOf c.args.program c.args.number s.items)) (sym c.told-share.ensures) e.share;
      ends = λ yes. subst (λ r. OnOk r (HasWrittenAll c.args.program c.args.number c.into_seats-hand.result.items)) (sym c.told-share.ensures)
          (on_ok_then c.share_of-share.result (λ written. subst (λ z. HasWrittenAll c.args.program c.args.number z) (sym back)
          (ends_so c.args.program c.args.number b.seats.items w.seats.items (subst HasWrittenNothing (sym begun) (p.begins yes)) written)) (e.written yes));
      refused = subst (λ r. IfErr r (ComesInPart c.args.program)) (sym c.told-share.ensures) e.err;
    }
