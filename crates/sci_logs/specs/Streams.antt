-- A log's text, up to its first fault. This project's profile.
use Rattle.std.specs.Prelude.{◌≡◌, ◌⊎◌, ℕ, ◌+◌, ◌-◌, ◌<◌, List, [], ◌∷◌, length, take, Ok, Err, if◌then◌else◌}
use Rattle.std.specs.Io.BufRead.{take_through, drop_through, ends_with_byte}
use Rattle.std.specs.Str.Lines.{strip_carriage_return}
use Rattle.sci_logs.specs.declared.logs.Log.{Log}
use Rattle.sci_logs.specs.declared.logs.LogFault.{LogFault}
use Rattle.sci_logs.specs.Logs.{Feeds, Ends}

-- a line without its line feed, and without a carriage return in front of that
abbrev pub without_end : List ℕ → List ℕ
without_end line = if ends_with_byte 10 line then strip_carriage_return (take (length line - 1) line) else line

-- these are the first lines of a text, each through its line feed, and the rest is left
abbrev pub Cuts : List (List ℕ) → List ℕ → List ℕ → Type 0
Cuts [] text rest = rest ≡ text
Cuts (line ∷ lines) text rest = (0 < length text) × (line ≡ take_through 10 text) × Cuts lines (drop_through 10 text) rest

-- the lines from line n on lead from one log to the next, with no fault
abbrev pub FeedsTo : ℕ → List (List ℕ) → Log → Log → Type 0
FeedsTo n [] log next = next ≡ log
FeedsTo n (line ∷ lines) log next = (mid : Log) × Feeds n (without_end line) log (Ok mid) × FeedsTo (n + 1) lines mid next

-- the text up to here is without fault, and this is left of it
pub record Reaches (input : List ℕ) (lines : List (List ℕ)) (log : Log) (rest : List ℕ) : Type 0 where
  pub cuts : Cuts lines input rest
  pub feeds : FeedsTo 1 lines Log.New log

-- the text is a run of the table from its opening
abbrev pub FollowsAll : List ℕ → Type 0
FollowsAll input = (lines : List (List ℕ)) × (log : Log) × Reaches input lines log [] × Ends (length lines + 1) log (Ok tt)

-- the lines before what is left are without fault, and this is that of the next one, or of the end
abbrev pub FaultsAt : LogFault → List ℕ → Log → List ℕ → Type 0
FaultsAt e input log rest = (lines : List (List ℕ)) × Reaches input lines log rest
    × (((0 < length rest) × Feeds (length lines + 1) (without_end (take_through 10 rest)) log (Err e)) ⊎ ((rest ≡ []) × Ends (length lines + 1) log (Err e)))

-- the first fault of a text
abbrev pub FaultsWith : LogFault → List ℕ → Type 0
FaultsWith e input = (log : Log) × (rest : List ℕ) × FaultsAt e input log rest

-- why the text isn't followed to its end
abbrev pub StopsWith : LogFault → List ℕ → Type 0
StopsWith LogFault.CannotRead input = Unit {0}
StopsWith LogFault.OutOfMemory input = Unit {0}
StopsWith e input = FaultsWith e input
