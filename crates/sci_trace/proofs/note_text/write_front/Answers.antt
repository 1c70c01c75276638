use Rattle.std.proofs.Common.{arith, rules}
use Rattle.sci_trace.proofs.Pieces.{front_stays}
use Rattle.sci_trace.proofs.note_text.write_front.Goals as goal

pub returns-in-Some-clause-written : goal.returns-in-Some-clause-written
returns-in-Some-clause-written g c is =
    let wrote = c.write_pieces.ensures.written is in (
      search (rules, wrote.0),
      front_stays _ c.write_pieces.new.place _ _ (omega (arith, wrote.0, c.write_pieces.ensures.same)) wrote.1,
    )
