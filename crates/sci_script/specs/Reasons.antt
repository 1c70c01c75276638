-- Why a command of a script is refused over its desk, as that stands behind the refusal. This project's profile.
use Rattle.std.specs.Prelude.{◌≡◌, ◌⊎◌, ℕ, List, Option, Some, None, Result, Ok, Err, slice_get, if◌then◌else◌}
use Rattle.sci_ops.specs.declared.answers.Turn.TheVariants.{Moved}
use Rattle.sci_cache.specs.Nodes.{line_by}
use Rattle.sci_cache.specs.declared.calls.OpenCall.{OpenCall}
use Rattle.sci_script.specs.declared.commands.Size.{Size}
use Rattle.sci_script.specs.declared.commands.Opening.{Opening}
use Rattle.sci_script.specs.declared.commands.Step.{Step}
use Rattle.sci_script.specs.declared.commands.Command.{Command}
use Rattle.sci_script.specs.declared.commands.Command.TheVariants.{Begin, Turn, Done}
use Rattle.sci_script.specs.declared.reasons.Reason.{Reason}
use Rattle.sci_script.specs.declared.reasons.Reason.TheVariants.{CallOpen, NoCall, WaitsFor, Unended}
use Rattle.sci_script.specs.declared.refusals.ScriptRefusal.{ScriptRefusal}
use Rattle.sci_script.specs.declared.refusals.ScriptRefusal.TheVariants as refusals
use Rattle.sci_script.specs.declared.said.Read.{Read}
use Rattle.sci_script.specs.declared.said.Read.TheVariants as reads
use Rattle.sci_script.specs.Event.{Turned}
use Rattle.sci_script.specs.Run.{Leaves, Repeats}
use Rattle.sci_script.specs.ScriptText.{Opens, IsTextOf}
use Rattle.sci_script.specs.Shared.{Shared, shared_is_open, shared_does}
use Rattle.sci_script.specs.Talks.{Standing, Gathering, Going, heard}
use Rattle.sci_script.specs.Waiting.{IsAwaited}

-- a node that waits for nobody could go on
abbrev pub wait_reason : ℕ → Option ℕ → Reason
wait_reason node None = Unended node
wait_reason node (Some whom) = WaitsFor node whom

-- why the node's call doesn't end: whom it waits for on the line at work
abbrev pub IsUnendedBy : Shared → ℕ → Option OpenCall → Option Reason → Type 0
IsUnendedBy s node None why = why ≡ Some (NoCall node)
IsUnendedBy s node (Some call) why = (whom : Option ℕ) × IsAwaited s (line_by call.victim call.line) node whom
    × (why ≡ Some (wait_reason node whom))

-- a call that wasn't taken from s to its end, at t, waits for somebody; or each of its 100,000 turns made an exchange
abbrev pub IsUndone : ℕ → Shared → Shared → Option Reason → Type 0
IsUndone node s t why = ((whom : ℕ) × (why ≡ Some (WaitsFor node whom))) ⊎ Repeats shared_does (Turned node Moved) 100000 s t

abbrev pub IsUndoneOf : Command → Shared → Shared → Option Reason → Type 0
IsUndoneOf (Done node) s t why = IsUndone node s t why
IsUndoneOf command s t why = Unit {0}

-- why a command that was refused is
abbrev pub IsWhy : Shared → Command → Option Reason → Type 0
IsWhy s (Begin node line request) why = why ≡ (if shared_is_open s node then Some (CallOpen node) else None)
IsWhy s (Turn node) why = why ≡ (if shared_is_open s node then None else Some (NoCall node))
IsWhy s (Done node) why = IsUnendedBy s node (s.nodes node).call why
IsWhy s command why = why ≡ None

-- over a desk just opened, where no call is open
abbrev pub unbegun_reason : Command → Option Reason
unbegun_reason (Turn node) = Some (NoCall node)
unbegun_reason (Done node) = Some (NoCall node)
unbegun_reason command = None

-- a command of these stands on this line of text, and this is why it was refused over the desk
abbrev pub IsWhyAt : List Step → Shared → ℕ → Option Reason → Type 0
IsWhyAt steps s number why = (k : ℕ) × (step : Step) × (slice_get steps k ≡ Some step) × (step.number ≡ number) × IsWhy s step.command why

-- the line of text that is refused
abbrev pub refused_line : ScriptRefusal → Option ℕ
refused_line (refusals.BadCommand line) = Some line
refused_line (refusals.NotDone line) = Some line
refused_line e = None

abbrev pub IsWhyOn : List Step → Shared → Option ℕ → Option Reason → Type 0
IsWhyOn steps s None why = ⊥
IsWhyOn steps s (Some line) why = IsWhyAt steps s line why

-- why a run is refused: it isn't, or the desk that it leaves says so
pub data IsWhyStopped (size : Size) (capacity : ℕ) (openings : List Opening) (steps : List Step) (why : Option Reason) : Type 0 where
  ends : (text : List ℕ) → IsTextOf size capacity openings steps text → why ≡ None → IsWhyStopped size capacity openings steps why
  stops : (s t : Shared) → (e : ScriptRefusal) → (written : List ℕ) → Opens size capacity openings s
      → Leaves shared_is_open shared_does size.nodes s steps e written t → IsWhyOn steps t (refused_line e) why → IsWhyStopped size capacity openings steps why

-- why a script is refused: as it is read, or as it is run
abbrev pub IsWhyScript : Result (Size × ℕ × List Opening × List Step) (ℕ × Reason) → Option Reason → Type 0
IsWhyScript (Ok script) why = IsWhyStopped script.0 script.1 script.2 script.3 why
IsWhyScript (Err fault) why = why ≡ Some fault.1

-- why what a line says is refused: a command, over the desk
abbrev pub IsWhyTaken : Standing → Result Read Reason → Option Reason → Type 0
IsWhyTaken s (Err reason) why = why ≡ Some reason
IsWhyTaken (Gathering said) (Ok (reads.Command command)) why = why ≡ unbegun_reason command
IsWhyTaken (Going size shown s) (Ok (reads.Command command)) why = IsWhy s command why
IsWhyTaken s (Ok read) why = why ≡ None

-- why a line of a talk was refused, by the talk as it stands behind the refusal
abbrev pub IsWhySaid : Standing → List ℕ → Option Reason → Type 0
IsWhySaid s line why = IsWhyTaken s (heard s line) why
