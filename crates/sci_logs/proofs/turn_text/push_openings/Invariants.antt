use Rattle.std.proofs.Common.{◌≡◌, ◌++◌, drop}
use Rattle.std.specs.List.{flat_map}
use Rattle.sci_logs.specs.TurnText.{opening_line}
use Rattle.sci_trace.specs.NoteText.{note_bytes}
use Rattle.sci_logs.proofs.turn_text.push_openings.Given as goal

-- what is written, and the text of what is left, is all of the text
abbrev pub invariant-loop-opening : goal.invariant-loop-opening
invariant-loop-opening l = note_bytes l.text ++ flat_map opening_line (drop l.opening-index l.openings) ≡ note_bytes l.fn.text ++ flat_map opening_line l.fn.openings
