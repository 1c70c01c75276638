use Rattle.std.proofs.Common.{◌≡◌, ◌++◌}
use Rattle.sci_logs.specs.TurnText.{look_line, repeated}
use Rattle.sci_trace.specs.NoteText.{note_bytes}
use Rattle.sci_logs.proofs.turn_text.push_looks.Given as goal

-- the looks so far are written
abbrev pub invariant-loop : goal.invariant-loop
invariant-loop l = note_bytes l.text ≡ note_bytes l.fn.text ++ repeated (look_line l.node l.line) l.counter
