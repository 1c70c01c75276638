-- A call of a desk, with its answer; and which turns end a node's call. This project's profile.
use Rattle.std.specs.Prelude.{ℕ, Option}
use Rattle.sci_words.specs.declared.memory.Mem.{Mem}
use Rattle.sci_words.specs.declared.tags.Tag.{Tag}
use Rattle.sci_ops.specs.declared.answers.Turn.{Turn}
use Rattle.sci_ops.specs.declared.answers.Turn.TheVariants.{Moved, Waiting, Done}
use Rattle.sci_cache.specs.declared.requests.Request.{Request}
use Rattle.sci_script.specs.declared.commands.Ask.{Ask}
use Rattle.sci_script.specs.declared.desk.Look.{Look}
use Rattle.sci_script.specs.declared.desk.Toward.{Toward}

pub data Event : Type 0 where
  Began : (node : ℕ) → (request : Request) → Event
  Turned : (node : ℕ) → (turn : Turn) → Event
  Rested : (line : ℕ) → (toward : Toward) → Event
  SawMem : (line : ℕ) → (mem : Option Mem) → Event
  SawTag : (line node : ℕ) → (tag : Option Tag) → Event
  Saw : (ask : Ask) → (look : Look) → Event

-- the turn ended the call
abbrev pub IsEnd : Turn → Type 0
IsEnd Moved = ⊥
IsEnd Waiting = ⊥
IsEnd (Done answer) = Unit {0}

-- the turn left the call open
abbrev pub IsNoEnd : Turn → Type 0
IsNoEnd Moved = Unit {0}
IsNoEnd Waiting = Unit {0}
IsNoEnd (Done answer) = ⊥

-- a node took a turn towards rest
abbrev pub IsTurned : Toward → Type 0
IsTurned (Toward.Turned node) = Unit {0}
IsTurned _ = ⊥

-- behind a turn that waits the next one waits, and changes nothing
abbrev pub WaitsOn : {S : Type 0} → (S → Event → S → Type 0) → Type 0
WaitsOn {S} does = (s t : S) (node : ℕ) → does s (Turned node Waiting) t → does t (Turned node Waiting) t
