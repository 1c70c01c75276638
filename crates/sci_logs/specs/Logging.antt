-- A run that logs its events, and what is written of it. This project's profile.
use Rattle.std.specs.Prelude.{◌≡◌, ◌⊎◌, ℕ, Bool, true, false, List, [], ◌++◌, Result, Err}
use Rattle.sci_ops.specs.declared.answers.Turn.{Turn}
use Rattle.sci_script.specs.declared.commands.Opening.{Opening}
use Rattle.sci_script.specs.declared.commands.Size.{Size}
use Rattle.sci_script.specs.declared.commands.Step.{Step}
use Rattle.sci_script.specs.declared.refusals.ScriptRefusal.{ScriptRefusal}
use Rattle.sci_script.specs.declared.refusals.ScriptRefusal.TheVariants.{OutOfMemory, BadCommand, BadNumber, NotDone, WriteFailed}
use Rattle.sci_port.specs.declared.watching.Passed.{Passed}
use Rattle.sci_script.specs.Event.{Event, Turned, Rested}
use Rattle.sci_script.specs.declared.desk.Toward.{Toward}
use Rattle.sci_script.specs.Passed.{passes_to_rest, shared_passes}
use Rattle.sci_script.specs.Request.{no_words}
use Rattle.sci_script.specs.Run.{PrintsAll, Leaves}
use Rattle.sci_script.specs.Shared.{Shared, shared_does}
use Rattle.sci_script.specs.Wholes.{shared_of}
use Rattle.sci_logs.specs.declared.log_desk.LogDesk.{LogDesk}
use Rattle.sci_trace.specs.Coding.{IsFront}
use Rattle.sci_logs.specs.TurnText.{entries_of, log_head}
use Rattle.sci_trace.specs.NoteText.{note_bytes}
use Rattle.sci_trace.specs.Telling.{Telling, AddsNone, nothing, telling, telling_is_open}

abbrev pub logging_of : LogDesk → Telling
logging_of desk = record { shared = shared_of desk.desk; notes = note_bytes desk.log.text; is_cut = desk.log.is_cut }

-- what passed in the turn that the node took from s to t is added, unless memory is refused for it
abbrev pub AddsEntries : Telling → ℕ → Telling → Type 0
AddsEntries s node t = (t.is_cut ≡ true) ⊎ ((t.is_cut ≡ s.is_cut) × (passed : Passed) × shared_passes s.shared node t.shared nothing passed × (t.notes ≡ s.notes ++ entries_of node passed))

-- so is what passed in a turn towards rest
abbrev pub AddsRestEntries : Telling → ℕ → Toward → Telling → Type 0
AddsRestEntries s line (Toward.Turned node) t = (t.is_cut ≡ true) ⊎ ((t.is_cut ≡ s.is_cut) × (passed : Passed) × passes_to_rest s.shared line node t.shared nothing passed × (t.notes ≡ s.notes ++ entries_of node passed))
AddsRestEntries s line toward t = AddsNone s t

-- each turn adds what passed in it, and nothing else adds anything
abbrev pub adds_passed : Telling → Event → Telling → Type 0
adds_passed s (Turned node turn) t = AddsEntries s node t
adds_passed s (Rested line toward) t = AddsRestEntries s line toward t
adds_passed s event t = AddsNone s t

-- what lines and nodes do, with what passed
abbrev pub logs : Telling → Event → Telling → Type 0
logs s event t = shared_does s.shared event t.shared × adds_passed s event t

-- the commands are run one after the other, and this is logged of it: the memory with what its lines open with, and behind that what
-- passed in each turn, in order
abbrev pub Logs : Size → List Opening → List Step → Shared → List ℕ → Shared → Type 0
Logs size openings steps s log t = (text : List ℕ) × PrintsAll telling_is_open logs no_words (telling s (log_head size openings)) steps text (telling t log)

-- a command fails behind others, and this is logged to there
abbrev pub LogStops : Size → List Opening → List Step → Shared → ScriptRefusal → List ℕ → Shared → Type 0
LogStops size openings steps s e log t = (text : List ℕ) × Leaves telling_is_open logs size.nodes (telling s (log_head size openings)) steps e text (telling t log)

-- what is written where a logged run fails: the log to there; where memory was refused, nothing; where the writer failed, a front of
-- such a log, and not all of it
abbrev pub LogLeaves : Size → List Opening → List Step → Shared → ScriptRefusal → List ℕ → Shared → Type 0
LogLeaves size openings steps s OutOfMemory written t = written ≡ []
LogLeaves size openings steps s (BadCommand n) written t = LogStops size openings steps s (BadCommand n) written t
LogLeaves size openings steps s (BadNumber n) written t = LogStops size openings steps s (BadNumber n) written t
LogLeaves size openings steps s (NotDone n) written t = LogStops size openings steps s (NotDone n) written t
LogLeaves size openings steps s WriteFailed written t = (log : List ℕ) × IsFront log written
    × (Logs size openings steps s log t ⊎ ((e : ScriptRefusal) × LogStops size openings steps s e log t))

-- what is written of a log where a run came to this, and memory was refused for a line of it or not
abbrev pub PutLeaves : Result (Unit {0}) ScriptRefusal → Bool → List ℕ → ScriptRefusal → List ℕ → Type 0
PutLeaves ran cut log OutOfMemory written = written ≡ []
PutLeaves ran cut log (BadCommand n) written = (cut ≡ false) × (ran ≡ Err (BadCommand n)) × (written ≡ log)
PutLeaves ran cut log (BadNumber n) written = (cut ≡ false) × (ran ≡ Err (BadNumber n)) × (written ≡ log)
PutLeaves ran cut log (NotDone n) written = (cut ≡ false) × (ran ≡ Err (NotDone n)) × (written ≡ log)
PutLeaves ran cut log WriteFailed written = (cut ≡ false) × IsFront log written
