use Rattle.std.proofs.Common.{take, arith, length-take-le}
use Rattle.sci_trace.proofs.Pieces.{front_piece}
use Rattle.sci_trace.proofs.note_text.write_part.Goals as goal

pub returns-clause-written : goal.returns-clause-written
returns-clause-written g c is =
    let at = c.args.at in
    let room = c.args.room.now in
    let wrote = c.write_at.ensures.written is in (
      omega (arith, wrote.0),
      front_piece at _ c.args.count (take at room) c.write_at.new.room c.args.piece.now (length-take-le at room c.requires.at) c.requires.count wrote.1,
    )
