-- A log's text, line by line, as a run of the table. This project's profile.
use Rattle.std.specs.Prelude.{◌≡◌, ◌≤◌, ◌<◌, ℕ, Bool, true, false, List, Result, Ok, Err}
use Rattle.sci_core.specs.declared.lines.Line.{Line}
use Rattle.sci_core.specs.State.{State}
use Rattle.sci_script.specs.declared.commands.Size.{Size}
use Rattle.sci_script.specs.Size.{IsSize}
use Rattle.sci_script.specs.Words.{is_skipped}
use Rattle.sci_logs.specs.declared.lines.Follower.{Follower}
use Rattle.sci_logs.specs.declared.parts.Lack.{Lack}
use Rattle.sci_logs.specs.declared.told.Noted.{Noted}
use Rattle.sci_logs.specs.declared.logs.Log.{Log}
use Rattle.sci_logs.specs.declared.logs.LogFault.{LogFault}
use Rattle.sci_logs.specs.Steps.{AreUnused, Reopens, lines_of}
use Rattle.sci_logs.specs.Told.{IsNotedIn, TakesTold}
use Rattle.sci_logs.specs.LineText.{memory_at, noted_at, opening_at}

-- a first line, as it was read: lines of zeros that nobody has used
abbrev pub Begins : ℕ → Result Size Lack → Result Log LogFault → Type 0
Begins n (Ok size) (Ok (Log.Opening f)) = IsSize size × (f.size ≡ size) × AreUnused size.nodes size.lines f.lines.items
Begins n (Ok size) (Err LogFault.OutOfMemory) = Unit {0}
Begins n (Ok size) (Err (LogFault.BadNumber k)) = (k ≡ n) × (IsSize size → ⊥)
Begins n (Err lack) (Err (LogFault.BadLine k)) = k ≡ n
Begins n read r = ⊥

-- an opening: the line, if it is there, opens anew
abbrev pub Opens : ℕ → Follower → ℕ × Line → Result Log LogFault → Type 0
Opens n f o (Ok (Log.Opening g)) = (o.0 < f.size.lines) × (g.size ≡ f.size) × Reopens {E = Unit {0}} f.size.nodes (lines_of f) o.0 o.1 (Ok tt) (lines_of g)
Opens n f o (Err LogFault.OutOfMemory) = Unit {0}
Opens n f o (Err (LogFault.BadNumber k)) = (k ≡ n) × (f.size.lines ≤ o.0)
Opens n f o r = ⊥

-- an event, as it was read: it happens, and the line answers so; or no lawful line does
abbrev pub Notes : ℕ → Follower → Result Noted Lack → Result Log LogFault → Type 0
Notes n f (Ok noted) (Ok (Log.Running g)) = IsNotedIn f.size noted × (g.size ≡ f.size) × TakesTold f.size.nodes (lines_of f) noted (Ok tt) (lines_of g)
Notes n f (Ok noted) (Err (LogFault.Departs k why)) = (k ≡ n) × IsNotedIn f.size noted × (t : ℕ → State) × TakesTold f.size.nodes (lines_of f) noted (Err why) t
Notes n f (Ok noted) (Err (LogFault.BadNumber k)) = (k ≡ n) × (IsNotedIn f.size noted → ⊥)
Notes n f (Err lack) (Err (LogFault.BadLine k)) = k ≡ n
Notes n f read r = ⊥

-- a line behind the first: openings come before events
abbrev pub Continues : ℕ → Follower → Result (ℕ × Line) Lack → Result Noted Lack → Result Log LogFault → Type 0
Continues n f (Ok o) noted r = Opens n f o r
Continues n f (Err lack) noted r = Notes n f noted r

-- line n that says something
abbrev pub Reads : ℕ → List ℕ → Log → Result Log LogFault → Type 0
Reads n line Log.New r = Begins n (memory_at line) r
Reads n line (Log.Opening f) r = Continues n f (opening_at line) (noted_at line) r
Reads n line (Log.Running f) r = Notes n f (noted_at line) r

-- line n, which may be one that says nothing
abbrev pub FeedsBy : Bool → ℕ → List ℕ → Log → Result Log LogFault → Type 0
FeedsBy true n line log r = r ≡ Ok log
FeedsBy false n line log r = Reads n line log r

abbrev pub Feeds : ℕ → List ℕ → Log → Result Log LogFault → Type 0
Feeds n line log r = FeedsBy (is_skipped line) n line log r

-- the end, in front of which n - 1 lines stood: a log has a memory
abbrev pub Ends : ℕ → Log → Result (Unit {0}) LogFault → Type 0
Ends n Log.New r = r ≡ Err (LogFault.BadLine n)
Ends n log r = r ≡ Ok tt
