use Rattle.sci_histories.proofs.Counts.{written_count}
use Rattle.sci_histories.proofs.Legality.{first_of}
use Rattle.sci_histories.proofs.tables.first_broken.Goals as goal

pub returns-then-not-has_room : goal.returns-then-not-has_room
returns-then-not-has_room c = (c.if-not-keeps_within.ensures, c.if-not-keeps_ordered.ensures, λ k. c.if-not-has_room.ensures (written_count c.args.line.now k))

pub returns : goal.returns
returns c = first_of c.args.line.now c.broken_in.result c.if-not-keeps_within.ensures c.if-not-keeps_ordered.ensures c.broken_in.ensures
