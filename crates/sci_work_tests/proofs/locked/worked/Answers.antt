use Rattle.std.proofs.Common.{◌<◌, ℕ, List, sym, subst, arith}
use Rattle.sci_coarse.specs.declared.line.CoarseLine.{CoarseLine}
use Rattle.sci_coarse.specs.declared.seats.Seat.{Seat}
use Rattle.sci_work.specs.Locked.{AreIdleSeats, IsLockedPart}
use Rattle.sci_work.specs.Programs.{Suits}
use Rattle.sci_work.proofs.Locked.{part_of}
use Rattle.sci_work_tests.proofs.locked.worked.Goals as goal

pub join-zero-requires-after_bounds : goal.join-zero-requires-after_bounds
join-zero-requires-after_bounds g c κs within =
    let made = c.in_ok-lines.ensures in let lines = c.in_ok-lines.lines.items in let size = c.requires.count in
    let part = λ (number : ℕ) (low : number < 2) (seats : List (Seat g.row.K.Denot g.K.Keeps)) (all : AreIdleSeats {K = g.row.K.Denot} {g = g.K.Keeps} lines seats).
    subst (λ (z : List (CoarseLine g.row.K.Denot)). IsLockedPart {K = g.row.K.Denot} {g = g.K.Keeps} g.K.Keeps.fits z c.args.program number seats) (sym c.as_slice-lines.ensures.value)
    (part_of {K = g.row.K.Denot} {g = g.K.Keeps} g.K.Keeps.fits 2 c.args.keep c.args.program number lines seats (omega (arith, made.count, size.0)) (omega (arith, made.count, size.1)) made.lines all
    (subst (λ (n : ℕ). Suits c.args.program (g.K.Keeps.fits c.args.keep) n number) (sym made.count) (c.requires.suits number low))) in
    (part 0 (omega arith) c.in_ok-lines.zero.items made.first, part 1 (omega arith) c.in_ok-lines.one.items made.second)
