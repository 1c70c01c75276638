use Rattle.std.proofs.Common.{◌+◌, arith}
use Rattle.sci_trace.proofs.Pieces.{put_behind}
use Rattle.sci_trace.proofs.note_text.write_behind.Goals as goal

pub returns-clause-written : goal.returns-clause-written
returns-clause-written g c is =
    let wrote = c.write_front.ensures.written is in
    let count = g.row.A + c.args.count + c.args.size in (
      omega (arith, wrote.0),
      put_behind c.args.at _ count _ c.args.room.now c.write_front.new.room _ (omega arith) (omega arith) (omega (arith, wrote.0)) wrote.1,
    )
