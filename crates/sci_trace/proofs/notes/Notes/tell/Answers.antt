use Rattle.std.proofs.Common.{◌≡◌, ◌++◌, sym, subst, List, ℕ}
use Rattle.sci_script.specs.Wholes.{shared_of}
use Rattle.sci_trace.specs.NoteText.{note_bytes}
use Rattle.sci_trace.specs.Lists.{walked}
use Rattle.sci_trace.specs.Notes.{AreNotes}
use Rattle.sci_trace.proofs.NoteLines.{notes_more}
use Rattle.sci_trace.proofs.notes.Notes.tell.Goals as goal

pub invariant_of-self : goal.invariant_of-self
invariant_of-self c =
    let entries = walked ((shared_of c.args.desk.now).lines c.args.passed.now.line).tags c.args.nodes c.args.mem.forw in
    record {
      lines = subst (λ (x : List ℕ). AreNotes x) (sym c.in-Ok.ensures.pushed)
          (notes_more (note_bytes c.args.self.now.text)
          (record {
            node = c.args.node;
            goal = c.args.goal.now;
            passed = c.args.passed.now;
            wait = c.args.wait.now;
            stage = c.args.stage.now;
            mem = c.args.mem;
            entries = entries;
          })
          c.args.self.now.lines);
    }
