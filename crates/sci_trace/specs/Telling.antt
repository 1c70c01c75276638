-- A run that tells of its turns, one after the other. This project's profile.
use Rattle.std.specs.Prelude.{◌≡◌, ◌⊎◌, ℕ, ◌<◌, ◌+◌, Bool, true, false, List, [], ◌∷◌, ◌++◌, Option, Some, None}
use Rattle.sci_core.specs.Stage.{stage_of}
use Rattle.sci_ops.specs.declared.answers.Turn.{Turn}
use Rattle.sci_script.specs.declared.commands.Command.{Command}
use Rattle.sci_script.specs.declared.commands.Step.{Step}
use Rattle.sci_script.specs.declared.desk.Toward.{Toward}
use Rattle.sci_port.specs.declared.watching.Passed.{Passed}
use Rattle.sci_script.specs.Event.{Event, Turned, Rested}
use Rattle.sci_script.specs.Passed.{passes_to_rest, shared_passes}
use Rattle.sci_script.specs.Request.{words_after}
use Rattle.sci_script.specs.Run.{Prints, Repeats, IsUnended}
use Rattle.sci_script.specs.Shared.{Shared, shared_is_open, shared_does}
use Rattle.sci_script.specs.Waiting.{goal_at_work, IsAwaited}
use Rattle.sci_script.specs.Wholes.{shared_of}
use Rattle.sci_trace.specs.Lists.{walked}
use Rattle.sci_trace.specs.NoteText.{note_bytes}
use Rattle.sci_trace.specs.declared.desk.TraceDesk.{TraceDesk}
use Rattle.sci_trace.specs.declared.texts.Wait.{Wait}
use Rattle.sci_trace.specs.Notes.{Told, line_of_turn}

-- the lines and nodes, the lines of the turns so far, and whether memory was refused for one of those
pub record Telling : Type 0 where
  pub shared : Shared
  pub notes : List ℕ
  pub is_cut : Bool

abbrev pub telling_of : TraceDesk → Telling
telling_of desk = record { shared = shared_of desk.desk; notes = note_bytes desk.notes.text; is_cut = desk.notes.is_cut }

-- with these lines, and none refused
abbrev pub telling : Shared → List ℕ → Telling
telling s notes = record { shared = s; notes = notes; is_cut = false }

abbrev pub nothing : Passed
nothing = record { line = 0; looks = 0; load = None; step = None }

-- a turn that waits is told with whom its node waits for, by the words behind the turn, and how many turns the line stands for
abbrev pub IsWait : Turn → Shared → ℕ → ℕ → ℕ → Option Wait → Type 0
IsWait Turn.Waiting t line node times wait = (whom : Option ℕ) × IsAwaited t line node whom × (wait ≡ Some (record { times = times; whom = whom }))
IsWait _ t line node times wait = wait ≡ None

abbrev pub is_wait : Turn → Bool
is_wait Turn.Waiting = true
is_wait _ = false

-- this is told of a turn of the node from s to t: whose it was, the operation that was at work, what passed, its wait, and the node's
-- pending step, memory's word and the list's entries after it
abbrev pub IsTold : (Passed → Type 0) → Shared → ℕ → Turn → ℕ → Shared → Told → Type 0
IsTold passes s node turn times t told = (told.node ≡ node) × (told.goal ≡ goal_at_work (s.nodes node).call) × passes told.passed × IsWait turn t told.passed.line node times told.wait
    × (told.stage ≡ stage_of ((t.lines told.passed.line).steps node)) × (told.mem ≡ (t.lines told.passed.line).memory)
    × (told.entries ≡ walked (t.lines told.passed.line).tags t.width told.mem.forw)

-- the turn's line is added, unless memory is refused for it
abbrev pub AddsTold : (Passed → Type 0) → Telling → ℕ → Turn → ℕ → Telling → Type 0
AddsTold passes s node turn times t = (t.is_cut ≡ true) ⊎ ((t.is_cut ≡ s.is_cut) × (told : Told) × IsTold passes s.shared node turn times t.shared told × (t.notes ≡ s.notes ++ line_of_turn told))

-- that of a turn of the node's call
abbrev pub AddsLine : Telling → ℕ → Turn → ℕ → Telling → Type 0
AddsLine s node turn times t = AddsTold (shared_passes s.shared node t.shared nothing) s node turn times t

abbrev pub AddsNone : Telling → Telling → Type 0
AddsNone s t = (t.is_cut ≡ s.is_cut) × (t.notes ≡ s.notes)

-- that of a turn towards rest, which doesn't wait
abbrev pub AddsRestLine : Telling → ℕ → Toward → Telling → Type 0
AddsRestLine s line (Toward.Turned node) t = AddsTold (passes_to_rest s.shared line node t.shared nothing) s node Turn.Moved 1 t
AddsRestLine s line toward t = AddsNone s t

-- each turn adds its line, and nothing else adds one
abbrev pub adds_line : Telling → Event → Telling → Type 0
adds_line s (Turned node turn) t = AddsLine s node turn 1 t
adds_line s (Rested line toward) t = AddsRestLine s line toward t
adds_line s event t = AddsNone s t

-- what lines and nodes do, with their lines
abbrev pub tells : Telling → Event → Telling → Type 0
tells s event t = shared_does s.shared event t.shared × adds_line s event t

abbrev pub telling_is_open : Telling → ℕ → Bool
telling_is_open s node = shared_is_open s.shared node

-- the commands print, one after the other, each behind the lines of its turns
abbrev pub TellsAll : List ℕ → Shared → List Step → List ℕ → Shared → Type 0
TellsAll words s [] traced t = (traced ≡ []) × (t ≡ s)
TellsAll words s (step ∷ steps) traced t = (notes text rest : List ℕ) × (mid : Shared) × Prints telling_is_open tells words (telling s []) step.command text (telling mid notes)
    × TellsAll (words_after words step.command) mid steps rest t × (traced ≡ (notes ++ text) ++ rest)

-- the lines of a call that doesn't end, from s to t: one for each of its 100,000 turns, where all move; or one for each of n turns that
-- move, and one that stands for the turn behind them, which waits, and for all that follow it, each of which waits and changes nothing
abbrev pub TellsUnended : ℕ → Shared → List ℕ → Shared → Type 0
TellsUnended node s notes t = Repeats tells (Turned node Turn.Moved) 100000 (telling s []) (telling t notes)
    ⊎ ((n times : ℕ) × (mid : Telling) × (0 < times) × (n + times ≡ 100000) × Repeats tells (Turned node Turn.Moved) n (telling s []) mid
    × shared_does mid.shared (Turned node Turn.Waiting) t × AddsLine mid node Turn.Waiting times (telling t notes) × shared_does t (Turned node Turn.Waiting) t)

-- the lines of a command that doesn't end
abbrev pub TellsNoEnd : ℕ → Command → Shared → List ℕ → Shared → Type 0
TellsNoEnd nodes (Command.Done node) s notes t = TellsUnended node s notes t
TellsNoEnd nodes command s notes t = IsUnended telling_is_open tells nodes (telling s []) command (telling t notes)
