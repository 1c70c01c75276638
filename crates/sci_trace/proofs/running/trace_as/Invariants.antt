use Rattle.std.proofs.Common.{◌≡◌, ◌<◌, ℕ, List, [], false, All, take}
use Rattle.std.specs.Io.KnownBytes.{Appends}
use Rattle.sci_script.specs.Request.{no_words}
use Rattle.sci_script.specs.Wholes.{shared_of}
use Rattle.sci_script.proofs.Runs.{words_behind}
use Rattle.sci_trace.specs.NoteText.{note_bytes}
use Rattle.sci_trace.specs.Coding.{coded}
use Rattle.sci_trace.specs.Telling.{TellsAll}
use Rattle.sci_trace.proofs.running.trace_as.Given as goal

-- what is written is the traced text of the commands so far, and no line waits
abbrev pub invariant-loop-step : goal.invariant-loop-step
invariant-loop-step g l =
    record {
      size : l.desk.size ≡ l.script.size;
      noted : l.words ≡ words_behind no_words (take l.step-index l.script.steps.items);
      range : All (λ w. w < 8) l.words;
      empty : note_bytes l.desk.notes.text ≡ [];
      whole : l.desk.notes.is_cut ≡ false;
      written : (traced : List ℕ) × TellsAll no_words (shared_of l.fn.desk.desk) (take l.step-index l.script.steps.items) traced (shared_of l.desk.desk) × Appends (g.W.Write.contents l.fn.out) (g.W.Write.contents l.out) (coded l.coding traced);
    }
