use Rattle.std.proofs.Common.{◌≡◌, ◌++◌, drop, codes}
use Rattle.std.specs.Fmt.{decimal}
use Rattle.std.specs.List.{flat_map}
use Rattle.sci_trace.specs.NoteText.{note_bytes}
use Rattle.sci_trace.proofs.events.push_words.Given as goal

-- what is written, and the text of what is left, is all of the text
abbrev pub invariant-loop-word : goal.invariant-loop-word
invariant-loop-word l =
    note_bytes l.text ++ flat_map (λ word. codes " " ++ decimal word) (drop l.word-index l.words) ≡ note_bytes l.fn.text ++ flat_map (λ word. codes " " ++ decimal word) l.fn.words
