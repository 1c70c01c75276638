use Rattle.std.proofs.Common.{◌≡◌, ℕ, List, [], string_bytes, true}
use Rattle.std.specs.Io.KnownBytes.{Appends}
use Rattle.sci_ops.specs.declared.answers.Turn.{Turn}
use Rattle.sci_script.specs.Event.{Turned}
use Rattle.sci_script.specs.Run.{Repeats}
use Rattle.sci_script.specs.Shared.{shared_is_open}
use Rattle.sci_script.specs.Wholes.{shared_of}
use Rattle.sci_trace.specs.Coding.{coded}
use Rattle.sci_trace.specs.Notes.{AreNotes}
use Rattle.sci_trace.specs.Telling.{telling, telling_of, tells}
use Rattle.sci_trace.proofs.Tellings.{with_front}
use Rattle.sci_trace.proofs.running.trace_done.Given as goal

-- lines of the turns so far are written, and the others wait behind them
abbrev pub invariant-loop-taken : goal.invariant-loop-taken
invariant-loop-taken g l =
    record {
      empty : string_bytes l.text ≡ [];
      size : l.desk.size ≡ l.fn.desk.size;
      is_still_open : shared_is_open (shared_of l.desk.desk) l.node ≡ true;
      written : (put : List ℕ) × AreNotes put × Repeats tells (Turned l.node Turn.Moved) l.taken (telling (shared_of l.fn.desk.desk) []) (with_front put (telling_of l.desk))
          × Appends (g.W.Write.contents l.fn.out) (g.W.Write.contents l.out) (coded l.coding put);
    }
