-- What the commands `script` and `trace` write. This project's profile.
use Rattle.std.specs.Prelude.{◌≡◌, ℕ, ◌<◌, ◌≤◌, List, [], length, Option, None, Some, Ok, Err, ◌⊎◌}
use Rattle.std.specs.Io.KnownBytes.{Appends}
use Rattle.sci_script.specs.declared.commands.Size.{Size}
use Rattle.sci_script.specs.declared.commands.Opening.{Opening}
use Rattle.sci_script.specs.declared.commands.Step.{Step}
use Rattle.sci_script.specs.declared.refusals.ScriptRefusal.{ScriptRefusal}
use Rattle.sci_script.specs.declared.refusals.ScriptRefusal.TheVariants.{OutOfMemory, BadCommand, BadNumber, NotDone, WriteFailed}
use Rattle.sci_serve.specs.declared.faults.SimFault.{SimFault}
use Rattle.sci_serve.specs.declared.faults.SimFault.TheVariants.{CannotRead, CannotWrite, InputTooLong, Refused, NoDump, Unlawful, NoRun}
use Rattle.sci_serve.specs.declared.scripts.Form.{Form}
use Rattle.sci_script.specs.Format.{script_of}
use Rattle.sci_script.specs.ScriptText.{Opens, IsTextOf, IsLeftOf}
use Rattle.sci_script.specs.Request.{no_words}
use Rattle.sci_script.specs.Shared.{Shared}
use Rattle.sci_logs.specs.Logging.{Logs, LogLeaves}
use Rattle.sci_trace.specs.Pages.{page_of}
use Rattle.sci_trace.specs.Telling.{TellsAll}
use Rattle.sci_trace.specs.Traces.{FormLeaves}

-- what is written of the run of an input: the script's text; that text with the lines of its turns between, one by one; the page of the
-- input and that; or the log of its events
abbrev pub IsWritten : Form → List ℕ → Size → ℕ → List Opening → List Step → List ℕ → Type 0
IsWritten Form.Script input size capacity openings steps text = IsTextOf size capacity openings steps text
IsWritten Form.Trace input size capacity openings steps text = (s t : Shared) × Opens size capacity openings s × TellsAll no_words s steps text t
IsWritten Form.Draw input size capacity openings steps text =
    (s t : Shared) × (traced : List ℕ) × Opens size capacity openings s × TellsAll no_words s steps traced t × (text ≡ page_of input traced)
IsWritten Form.Log input size capacity openings steps text = (s t : Shared) × Opens size capacity openings s × Logs size openings steps s text t

-- what is written of a run that fails
abbrev pub IsLeft : Form → List ℕ → Size → ℕ → List Opening → List Step → ScriptRefusal → List ℕ → Type 0
IsLeft Form.Script input size capacity openings steps e written = IsLeftOf size capacity openings steps e written
IsLeft Form.Trace input size capacity openings steps e written = (s t : Shared) × Opens size capacity openings s × FormLeaves (λ text. text) size.nodes steps s e written t
IsLeft Form.Draw input size capacity openings steps e written = (s t : Shared) × Opens size capacity openings s × FormLeaves (page_of input) size.nodes steps s e written t
IsLeft Form.Log input size capacity openings steps e written = (s t : Shared) × Opens size capacity openings s × LogLeaves size openings steps s e written t

-- where memory runs out before the run, nothing is written
abbrev pub FailsWith : Form → List ℕ → Size → ℕ → List Opening → List Step → ScriptRefusal → List ℕ → Type 0
FailsWith form input size capacity openings steps e written = ((e ≡ OutOfMemory) × (written ≡ [])) ⊎ IsLeft form input size capacity openings steps e written

-- the input is a script of at most so many bytes, and this is written of its run
abbrev pub Serves : ℕ → Form → List ℕ → List ℕ → Type 0
Serves limit form input text =
    (length input ≤ limit) × (size : Size) × (capacity : ℕ) × (openings : List Opening) × (steps : List Step) × (script_of input ≡ Ok (size, capacity, openings, steps))
    × IsWritten form input size capacity openings steps text

-- the input is a script, whose run fails and leaves this
abbrev pub StopsRunning : ℕ → Form → ScriptRefusal → List ℕ → List ℕ → Type 0
StopsRunning limit form e input written =
    (length input ≤ limit) × (size : Size) × (capacity : ℕ) × (openings : List Opening) × (steps : List Step) × (script_of input ≡ Ok (size, capacity, openings, steps))
    × IsLeft form input size capacity openings steps e written

-- the reader of scripts refuses the input, or memory ran out before the run
abbrev pub IsRefused : ℕ → ScriptRefusal → List ℕ → Type 0
IsRefused limit OutOfMemory input = Unit {0}
IsRefused limit (BadCommand n) input = (length input ≤ limit) × (script_of input ≡ Err (BadCommand n))
IsRefused limit (BadNumber n) input = (length input ≤ limit) × (script_of input ≡ Err (BadNumber n))
IsRefused limit (NotDone n) input = ⊥
IsRefused limit WriteFailed input = ⊥

-- what is written where the command fails; a fault of reading comes before any other
abbrev pub Stops : ℕ → Form → SimFault → List ℕ → List ℕ → Type 0
Stops limit form CannotRead input written = written ≡ []
Stops limit form CannotWrite input written = StopsRunning limit form WriteFailed input written
Stops limit form InputTooLong input written = (limit < length input) × (written ≡ [])
Stops limit form (Refused e) input written = (IsRefused limit e input × (written ≡ [])) ⊎ StopsRunning limit form e input written
Stops limit form (NoDump n) input written = ⊥
Stops limit form Unlawful input written = ⊥
Stops limit form (NoRun e) input written = ⊥

-- a writer that is known to hold no fewer bytes than at first
abbrev pub LosesNothing : Option (List ℕ) → Option (List ℕ) → Type 0
LosesNothing None new = ⊥
LosesNothing (Some xs) None = ⊥
LosesNothing (Some xs) (Some ys) = length xs ≤ length ys

-- what the writer holds where the command fails through a buffer; nothing is said of a failed writer that loses what it held
abbrev pub LeavesBehind : ℕ → Form → SimFault → List ℕ → Option (List ℕ) → Option (List ℕ) → Type 0
LeavesBehind limit form CannotRead input old new = (written : List ℕ) × Stops limit form CannotRead input written × Appends old new written
LeavesBehind limit form CannotWrite input old new = LosesNothing old new → (written : List ℕ) × Stops limit form CannotWrite input written × Appends old new written
LeavesBehind limit form InputTooLong input old new = (written : List ℕ) × Stops limit form InputTooLong input written × Appends old new written
LeavesBehind limit form (Refused e) input old new = (written : List ℕ) × Stops limit form (Refused e) input written × Appends old new written
LeavesBehind limit form (NoDump n) input old new = ⊥
LeavesBehind limit form Unlawful input old new = ⊥
LeavesBehind limit form (NoRun e) input old new = ⊥
