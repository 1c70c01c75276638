use Rattle.std.proofs.Common.{◌≡◌, ◌<◌, ◌-◌, ◌++◌, Some, IfSome, codes}
use Rattle.std.specs.List.{flat_map}
use Rattle.sci_script.specs.Wholes.{shared_of}
use Rattle.sci_trace.specs.NoteText.{note_bytes}
use Rattle.sci_trace.specs.Lists.{entry_text, entries_text, walked}
use Rattle.sci_trace.proofs.lists.push_entries.Given as goal

-- what is written, and the text of what is left, is all of the text
abbrev pub invariant-loop : goal.invariant-loop
invariant-loop l =
    record {
      text : note_bytes l.text ++ flat_map (λ e. codes ", " ++ entry_text e) (walked ((shared_of l.fn.desk).lines l.line).tags (l.nodes - l.counter) l.next)
          ≡ note_bytes l.fn.text ++ entries_text (walked ((shared_of l.fn.desk).lines l.line).tags l.nodes (Some l.fn.head));
      same : shared_of l.desk ≡ shared_of l.fn.desk;
      size : l.desk.size ≡ l.fn.desk.size;
      link : IfSome l.next (λ n. n < l.fn.desk.size.nodes);
    }
