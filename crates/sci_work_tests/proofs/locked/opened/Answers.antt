use Rattle.std.proofs.Common.{◌≡◌, ℕ, ◌+◌, List, [], ◌∷◌, ◌++◌, ◌∙◌, ap, arith, length, length-append, sym, subst, vec_items}
use Rattle.sci_coarse.specs.Banks.{IsLine}
use Rattle.sci_work.specs.Locked.{AreIdleSeats}
use Rattle.sci_work.proofs.Locked.{last_seat, other_seats, seat_more}
use Rattle.sci_work.proofs.Seated.{at_more}
use Rattle.sci_work_tests.proofs.locked.opened.Goals as goal

pub loop-number-preserved : goal.loop-number-preserved
loop-number-preserved g c =
    let was = c.loop-number.invariant in let line = c.in-Ok.line in let t = c.in-Ok.ensures.terms in let all = c.in-Ok.ensures.seats.1 in
    let lines = vec_items c.loop-number.lines in
    let fewer = vec_items c.pop.new.self in
    let more = c.in-Ok-push.ensures.items in
    let one = last_seat line (vec_items c.in-Ok.seats) fewer c.in_ok-one.one c.in_ok-one.ensures.items all in
    let zero = last_seat line fewer (vec_items c.pop-in-loop-number.new.self) c.in_ok-zero.zero c.in_ok-zero.ensures.items (other_seats line (vec_items c.in-Ok.seats) fewer c.in_ok-one.one c.in_ok-one.ensures.items all) in
    record {
      count = let n = was.count in let a = length-append lines (line ∷ []) in let e = ap (λ (z : List _). length z) more in omega (arith, n, a, e);
      lines = at_more (IsLine 2 c.args.keep) lines (vec_items c.push.new.self) line more was.lines record { number = t.number ∙ sym was.count; nodes_are = t.nodes; fact = t.keep };
      first = rw more (rw c.in-Ok-push-2.ensures.items (seat_more lines (vec_items c.loop-number.first) line c.in_ok-zero.zero was.first zero));
      second = rw more (rw c.in-Ok-push-3.ensures.items (seat_more lines (vec_items c.loop-number.second) line c.in_ok-one.one was.second one));
    }
