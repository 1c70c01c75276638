use Rattle.std.proofs.Common.{rules}
use Rattle.sci_work.proofs.Seated.{only_one}
use Rattle.sci_work.proofs.seating.seat_of.Goals as goal

pub returns : goal.returns
returns g c = only_one c.args.hand.items c.pop.new.self.items c.in-Some.seat (search rules) c.in-Some.ensures.items
