use Rattle.std.proofs.Common.{ap}
use Rattle.sci_work.proofs.Locked.{bank_suits, idle_bank, of_lines}
use Rattle.sci_work_tests.proofs.locked.ran.Goals as goal

pub new-requires-clause-seats : goal.new-requires-clause-seats
new-requires-clause-seats g c = let p = c.requires in λ _. of_lines c.args.lines.now c.args.seats.items p.seats_are

pub share_of-share-requires-clause-idle : goal.share_of-share-requires-clause-idle
share_of-share-requires-clause-idle g c κs within = let p = c.requires in let made = c.in-Ok.ensures.ok in let b = c.in-Ok.bank in
    λ line. idle_bank c.args.lines.now c.args.seats.items p.lines_are p.seats_are b.lines.now b.seats.items (ap (λ z. z.now) made.1) (ap (λ v. v.items) made.2) b.keep b.node b.of line

pub share_of-share-requires-clause-suits : goal.share_of-share-requires-clause-suits
share_of-share-requires-clause-suits g c κs within = let p = c.requires in let made = c.in-Ok.ensures.ok in let b = c.in-Ok.bank in
    bank_suits c.args.lines.now c.args.seats.items p.lines_are p.seats_are b.lines.now b.seats.items (ap (λ z. z.now) made.1) (ap (λ v. v.items) made.2) b.keep b.node b.of g.K.Keeps.fits c.args.program c.args.number p.suits
