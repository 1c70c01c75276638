use Rattle.std.proofs.Common.{[], ◌++◌, ◌∙◌, List, ℕ, string_bytes, subst, sym}
use Rattle.std.proofs.KnownBytes.{Appends-trans}
use Rattle.std.proofs.lemmas.Bool.{ltb-true}
use Rattle.std.proofs.lemmas.Result.{err_from_is_err_and}
use Rattle.std.specs.Io.KnownBytes.{Appends}
use Rattle.sci_script.specs.declared.commands.Command.TheVariants.{Done}
use Rattle.sci_script.specs.declared.commands.Step.{Step}
use Rattle.sci_script.specs.declared.refusals.ScriptRefusal.{ScriptRefusal}
use Rattle.sci_script.specs.declared.whole_desk.WholeDesk.{WholeDesk}
use Rattle.sci_script.specs.Run.{Prints, StopsAt}
use Rattle.sci_script.specs.Wholes.{shared_of}
use Rattle.sci_script.proofs.Through.{prints, stops_at}
use Rattle.sci_trace.specs.declared.desk.TraceDesk.{TraceDesk}
use Rattle.sci_trace.specs.Coding.{coded}
use Rattle.sci_trace.specs.NoteText.{note_bytes}
use Rattle.sci_trace.specs.Telling.{telling, telling_of, telling_is_open, tells}
use Rattle.sci_trace.specs.Traces.{StepLeaves}
use Rattle.sci_trace.proofs.Coded.{coded_nil, err_then, ok_then}
use Rattle.sci_trace.proofs.Tellings.{told_so, told_stops}
use Rattle.sci_trace.proofs.Tracing.{other_than, step_left, notes_left, of_command}
use Rattle.sci_trace.proofs.NoteLines.{notes_none}
use Rattle.sci_trace.proofs.running.trace_step.Goals as goal

pub trace_done-requires : goal.trace_done-requires
trace_done-requires g c =
    record {
      empty = c.requires.empty;
      none = c.requires.none;
      whole = c.requires.whole;
      node = ltb-true _ _ (rw c.in-Done.is at c.requires.command);
      few = c.requires.few;
      words = c.requires.words;
    }

pub returns-in-Done : goal.returns-in-Done
returns-in-Done g c =
    let s = shared_of c.args.desk.now.desk in
    let t = shared_of c.trace_done.new.desk.desk in
    record {
      ok = rw c.in-Done.is c.trace_done.ensures.ok;
      err = of_command c.trace_done.result
          (λ (step : Step) (e : ScriptRefusal). (written : List ℕ) × StepLeaves c.args.coding c.args.desk.now.size.nodes s step e written t × Appends (g.W.Write.contents c.args.out.now) (g.W.Write.contents c.trace_done.new.out) written)
          c.args.step (Done c.in-Done.node) c.in-Done.is c.trace_done.ensures.err;
      dropped = c.trace_done.ensures.dropped;
      size = c.trace_done.ensures.size;
    }

pub returns-in_err-put_notes-in_default : goal.returns-in_err-put_notes-in_default
returns-in_err-put_notes-in_default g c =
    let p = err_from_is_err_and c.from_residual.result c.from_residual.ensures.1 in
    let notes = c.perform-performed.new.desk.notes in
    let (written, left, front) = c.in_err-put_notes-in_default.ensures.err in
    record {
      ok = rw p.1 tt;
      err = rw (p.1, p.2) (
        coded c.args.coding [] ++ written,
        notes_left c.args.coding c.args.desk.now.size.nodes (shared_of c.args.desk.now.desk) c.args.step [] (note_bytes notes.text) written c.in_err-put_notes-in_default.field-0.0 (shared_of c.put_notes.new.desk.desk) notes_none notes.lines left,
        Appends-trans _ _ _ _ _ (coded_nil c.args.coding _) front,
      );
      dropped = rw p.1 tt;
      size = c.in_err-put_notes-in_default.ensures.size ∙ c.perform-performed.ensures.size;
    }

pub returns-in_ok-put_notes-in_default : goal.returns-in_ok-put_notes-in_default
returns-in_ok-put_notes-in_default g c =
    let words = c.args.words.now in
    let before = c.args.desk.now in
    let s = shared_of before.desk in
    let desk = c.perform-performed.new.desk in
    let notes = note_bytes desk.notes.text in
    let t = shared_of c.put_notes.new.desk.desk in
    let text = string_bytes c.perform-performed.new.text in
    let whole = c.in_ok-put_notes-in_default.ensures.whole in
    record {
      ok = ok_then c.perform-performed.result _ _ c.perform-performed.ensures.ok
          (λ printed.
          let seen = prints telling_of telling_is_open (λ (d : TraceDesk) event e. tells (telling_of d) event (telling_of e)) tells (λ d event e h. h) words before c.args.step.command text desk printed in
          let now = told_so words c.args.step.command text s (shared_of desk.desk) (note_bytes before.notes.text) notes before.notes.is_cut desk.notes.is_cut c.requires.none c.requires.whole whole seen in
          let put = subst (λ (d : WholeDesk). Prints telling_is_open tells words (telling s []) c.args.step.command text (telling (shared_of d) notes)) (sym c.in_ok-put_notes-in_default.ensures.desk) now in
          (notes, desk.notes.lines, put, c.in_ok-put_notes-in_default.ensures.ok));
      err = err_then c.perform-performed.result _ _ c.perform-performed.ensures.err
          (λ e stop.
          let seen = stops_at telling_of telling_is_open (λ (d : TraceDesk) event e. tells (telling_of d) event (telling_of e)) tells (λ d event e h. h) before.size.nodes before c.args.step e desk stop in
          let now = told_stops before.size.nodes c.args.step e s (shared_of desk.desk) (note_bytes before.notes.text) notes before.notes.is_cut desk.notes.is_cut c.requires.none c.requires.whole whole seen in
          let stops = subst (λ (d : WholeDesk). StopsAt telling_is_open tells before.size.nodes (telling s []) c.args.step e (telling (shared_of d) notes)) (sym c.in_ok-put_notes-in_default.ensures.desk) now in
          (coded c.args.coding notes, step_left c.args.coding before.size.nodes s c.args.step notes e t (other_than c.args.step.command c.in_default.not-Done) desk.notes.lines stops, c.in_ok-put_notes-in_default.ensures.ok));
      dropped = ok_then c.perform-performed.result _ _ c.perform-performed.ensures.ok (λ printed. c.in_ok-put_notes-in_default.ensures.dropped);
      size = c.in_ok-put_notes-in_default.ensures.size ∙ c.perform-performed.ensures.size;
    }
