-- The text of notes. This project's profile.
use Rattle.std.specs.Prelude.{ℕ, List, ◌++◌, take}
use Rattle.sci_trace.specs.declared.note_text.NoteText.{NoteText}

-- the front, and what waits behind it
abbrev pub note_bytes : NoteText → List ℕ
note_bytes text = text.front.items ++ take text.waiting text.room
