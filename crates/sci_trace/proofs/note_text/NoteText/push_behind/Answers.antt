use Rattle.std.proofs.Common.{take}
use Rattle.sci_trace.specs.NoteText.{note_bytes}
use Rattle.sci_trace.proofs.Pushing.{joined_behind}
use Rattle.sci_trace.proofs.note_text.NoteText.push_behind.Goals as goal

pub returns : goal.returns
returns c =
    let joined = c.join.new.self in
    joined_behind c.extend_from_slice.result (note_bytes c.args.self.now) joined.front.items (take joined.waiting joined.room) c.args.piece.now c.extend_from_slice.new.self.items
    c.in_ok-join.ensures.kept c.in_ok-join.ensures.joined c.extend_from_slice.ensures.items
