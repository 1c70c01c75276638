use Rattle.std.proofs.Common.{arith}
use Rattle.sci_work.specs.Made.{none}
use Rattle.sci_work.proofs.Worked.{still_not}
use Rattle.sci_work.proofs.rings.producing.free.Goals as goal

pub returns-then-consumed-least-clause-made : goal.returns-then-consumed-least-clause-made
returns-then-consumed-least-clause-made g c = none

pub returns-in-Ok : goal.returns-in-Ok
returns-in-Ok g c = let e = c.load_until.ensures in record { free = omega (arith, c.in-Ok.ensures.number, c.saturating_sub-least.ensures); err = tt; made = e.made; still = e.still }

pub returns-in-Err : goal.returns-in-Err
returns-in-Err g c = let e = c.load_until.ensures in record { free = tt; err = c.in-Err.ensures.err; made = e.made; still = e.still }

pub returns-then-consumed-least-clause-still : goal.returns-then-consumed-least-clause-still
returns-then-consumed-least-clause-still g c = still_not c.requires.ready
