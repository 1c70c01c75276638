-- Why a line of a log is refused, and where: the first part that isn't there, or the first number that isn't in its range. This project's profile.
use Rattle.std.specs.Prelude.{◌≡◌, ℕ, ◌+◌, ◌-◌, ◌&&◌, nat_le, nat_lt, List, [], length, drop, Option, Some, None, codes, is_some, true, Result, Ok, Err, if◌then◌else◌}
use Rattle.std.specs.Result.{result_err, result_ok}
use Rattle.std.specs.Io.BufRead.{take_through}
use Rattle.sci_script.specs.declared.commands.Size.{Size}
use Rattle.sci_dump.specs.Reading.{behind}
use Rattle.sci_logs.specs.declared.logs.Log.{Log}
use Rattle.sci_logs.specs.declared.logs.LogFault.{LogFault}
use Rattle.sci_logs.specs.declared.parts.Lack.{Lack}
use Rattle.sci_logs.specs.declared.parts.LineReason.{LineReason}
use Rattle.sci_logs.specs.declared.parts.Part.{Part}
use Rattle.sci_logs.specs.declared.why.Due.{Due}
use Rattle.sci_logs.specs.LineText.{◌>>=◌, count_at, label_at, lack, last_line, line_at, memory_at, node_at, noted_at, opening_at, size_part, space_at, wants, word_and_space_at}
use Rattle.sci_logs.specs.Logs.{Ends}
use Rattle.sci_logs.specs.Names.{other_asks_at}
use Rattle.sci_logs.specs.Seen.{seen_at}
use Rattle.sci_logs.specs.Streams.{FaultsAt, without_end}

-- which lines are due
abbrev pub due_of : Log → Due
due_of Log.New = Due.Memory
due_of (Log.Opening f) = Due.Opening f.size
due_of (Log.Running f) = Due.Event f.size

-- an opening, where the line begins as one, or else an event
abbrev pub opens_or : {A : Type 0} → Option (List ℕ) → A → A → A
opens_or (Some rest) opening event = opening
opens_or None opening event = event

-- the first part that isn't there, of a line where these are due
abbrev pub line_lack : Due → List ℕ → Option Lack
line_lack Due.Memory text = result_err (memory_at text)
line_lack (Due.Opening size) text = opens_or (behind (codes "open") text) (result_err (opening_at text)) (result_err (noted_at text))
line_lack (Due.Event size) text = result_err (noted_at text)

-- of a line that is whole, the place of the first number that isn't in its range: of a memory
unfoldable pub memory_misfit : List ℕ → Result Lack Lack
memory_misfit text = do
  place ← word_and_space_at Part.Memory (codes "memory") text
  nodes ← count_at size_part last_line place
  lines ← space_at nodes.1
  Ok (lack size_part (if nat_le 1 nodes.0 && nat_le nodes.0 1024 then lines else place))

-- of an opening
unfoldable pub opening_misfit : List ℕ → Result Lack Lack
opening_misfit text = do
  place ← word_and_space_at Part.Open (codes "open") text
  Ok (lack Part.LineNumber place)

-- of an event: its node, its line, or else the node whose tag it asks for
unfoldable pub whose_misfit : List ℕ → Result Lack Lack
whose_misfit text = do
  asks ← wants Part.Event text (other_asks_at text)
  place ← label_at Part.Opened (codes "(") asks.1
  Ok (lack Part.NodeNumber place)

unfoldable pub line_misfit : ℕ → List ℕ → Result Lack Lack
line_misfit lines text = do
  text ← space_at text
  place ← word_and_space_at Part.OnLine (codes "line") text
  line ← line_at place
  if nat_lt line.0 lines then space_at line.1 >>= whose_misfit else Ok (lack Part.LineNumber place)

unfoldable pub event_misfit : Size → List ℕ → Result Lack Lack
event_misfit size text = do
  place ← word_and_space_at Part.Node (codes "node") text
  node ← node_at place
  if nat_lt node.0 size.nodes then line_misfit size.lines node.1 else Ok (lack Part.NodeNumber place)

abbrev pub misfit : Due → List ℕ → Result Lack Lack
misfit Due.Memory text = memory_misfit text
misfit (Due.Opening size) text = opens_or (behind (codes "open") text) (opening_misfit text) (event_misfit size text)
misfit (Due.Event size) text = event_misfit size text

-- the numbers that a memory has
abbrev pub in_size : Size → Part → Part
in_size size Part.NodeNumber = Part.Number 0 (size.nodes - 1)
in_size size Part.LineNumber = Part.Number 0 (size.lines - 1)
in_size size part = part

-- what may stand there
abbrev pub part_in : Due → Part → Part
part_in Due.Memory part = part
part_in (Due.Opening size) Part.Node = Part.OpenOrNode
part_in (Due.Opening size) part = in_size size part
part_in (Due.Event size) part = in_size size part

-- in words: which byte of the line it is, counted from 1, and what stands there
abbrev pub reason_at : Due → List ℕ → Lack → LineReason
reason_at due text lack = record { column = length text - lack.left + 1; wanted = part_in due lack.wanted; found = seen_at (drop (length text - lack.left) text) }

-- what is told of a line that is refused so
abbrev pub reason_of : Due → List ℕ → Option Lack → Option LineReason
reason_of due text (Some lack) = Some (reason_at due text lack)
reason_of due text None = None

abbrev pub would_tell : LogFault → Due → List ℕ → Option LineReason
would_tell (LogFault.BadLine n) due text = reason_of due text (line_lack due text)
would_tell (LogFault.BadNumber n) due text = reason_of due text (result_ok (misfit due text))
would_tell fault due text = None

-- a reason is told exactly of a line that is refused 16 or 17: of 16 the first part that isn't there, whatever its numbers are
abbrev pub IsWhy : LogFault → Due → List ℕ → Option LineReason → Type 0
IsWhy (LogFault.BadLine n) due text why = (why ≡ would_tell (LogFault.BadLine n) due text) × (is_some why ≡ true)
IsWhy (LogFault.BadNumber n) due text why = (why ≡ would_tell (LogFault.BadNumber n) due text) × (is_some why ≡ true)
IsWhy fault due text why = why ≡ None

-- the end, as of an empty line
abbrev pub EndsWhy : ℕ → Log → Result (Unit {0}) (LogFault × Option LineReason) → Type 0
EndsWhy n log (Ok u) = Ends n log (Ok u)
EndsWhy n log (Err x) = Ends n log (Err x.0) × IsWhy x.0 (due_of log) [] x.1

-- the lines before the first fault are without one, and it is this, for this reason
abbrev pub FaultsWhy : LogFault → Option LineReason → List ℕ → Type 0
FaultsWhy e why input = (log : Log) × (rest : List ℕ) × FaultsAt e input log rest × IsWhy e (due_of log) (without_end (take_through 10 rest)) why

-- why the text isn't followed to its end
abbrev pub StopsWhy : LogFault → Option LineReason → List ℕ → Type 0
StopsWhy LogFault.CannotRead why input = why ≡ None
StopsWhy LogFault.OutOfMemory why input = why ≡ None
StopsWhy e why input = FaultsWhy e why input
