-- The memory that a script is about: a state of each line, and each node with its residents and its open call. This project's
-- profile.
use Rattle.std.specs.Prelude.{◌≡◌, ◌≢◌, ℕ, ◌<◌, Bool, Option, Some, None, is_some}
use Rattle.sci_core.specs.Progress.{IsAtRest, IsMover}
use Rattle.sci_core.specs.State.{State, update}
use Rattle.sci_ops.specs.declared.answers.Turn.{Turn}
use Rattle.sci_ops.specs.declared.goals.Goal.{Goal}
use Rattle.sci_ops.specs.Ranking.{ranking}
use Rattle.sci_ops.specs.Table.{begun}
use Rattle.sci_cache.specs.declared.calls.OpenCall.{OpenCall}
use Rattle.sci_cache.specs.Nodes.{NodeState, node_with, node_after, line_by, op_by, shown_by}
use Rattle.sci_script.specs.declared.commands.Ask.{Ask}
use Rattle.sci_script.specs.declared.desk.Look.{Look}
use Rattle.sci_script.specs.declared.desk.Toward.{Toward}
use Rattle.sci_script.specs.Event.{Event, Began, Turned, Rested, SawMem, SawTag, Saw}
use Rattle.sci_script.specs.Turns.{TurnsOn}

-- how many nodes each line has; the state of each line, by its number; each node, by its number
pub record Shared : Type 0 where
  pub width : ℕ
  pub lines : ℕ → State
  pub nodes : ℕ → NodeState

-- the node's call is open
abbrev pub shared_is_open : Shared → ℕ → Bool
shared_is_open s node = is_some (s.nodes node).call

-- the node is this now, and the other nodes are as they were
abbrev pub HasNode : Shared → ℕ → NodeState → Shared → Type 0
HasNode s node n t = (i : ℕ) → t.nodes i ≡ update s.nodes node n i

-- a turn of the node's call: of the operation at work, which is the victim's eviction first, on the line at work; all else stays
pub record TakesTurn (s : Shared) (node : ℕ) (call : OpenCall) (shown : Turn) (t : Shared) : Type 0 where
  pub turn : Turn
  pub width : t.width ≡ s.width
  pub made : TurnsOn s.width node (op_by call.victim call.goal) (s.lines (line_by call.victim call.line)) turn (t.lines (line_by call.victim call.line))
  pub others : (line : ℕ) → line ≢ line_by call.victim call.line → t.lines line ≡ s.lines line
  pub shows : shown ≡ shown_by call.victim turn
  pub after : HasNode s node (node_after (s.nodes node) call turn) t

abbrev pub TakesTurnOf : Shared → ℕ → Option OpenCall → Turn → Shared → Type 0
TakesTurnOf s node None turn t = ⊥
TakesTurnOf s node (Some call) turn t = TakesTurn s node call turn t

-- a turn towards rest of a node under way that moves, as a load takes it; all else stays, the nodes' calls too
pub record TakesRestTurn (s : Shared) (line node : ℕ) (t : Shared) : Type 0 where
  pub turn : Turn
  pub width : t.width ≡ s.width
  pub inside : node < s.width
  pub mover : IsMover s.width (s.lines line) node
  pub goes : turn ≢ Turn.Waiting
  pub made : TurnsOn s.width node (begun Goal.Load) (s.lines line) turn (t.lines line)
  pub others : (other : ℕ) → other ≢ line → t.lines other ≡ s.lines other
  pub nodes : (i : ℕ) → t.nodes i ≡ s.nodes i

-- how many turns a line is from rest at most
abbrev pub shared_far : Shared → ℕ → ℕ
shared_far s line = ranking s.width (s.lines line)

abbrev pub GoesToRest : Shared → ℕ → Toward → Shared → Type 0
GoesToRest s line (Toward.Turned node) t = TakesRestTurn s line node t
GoesToRest s line Toward.Reached t = IsAtRest (s.lines line) × (t ≡ s)
GoesToRest s line Toward.Unknown t = ⊥

-- residents are the node's
abbrev pub shared_has : Shared → Ask → Look → Type 0
shared_has s (Ask.Residents node) (Look.Residents who lines) = (who ≡ node) × (lines.items ≡ (s.nodes node).residents)

-- a call begun touches no line; a turn is that of the node's call; loads give the words that stand
abbrev pub shared_does : Shared → Event → Shared → Type 0
shared_does s (Began node request) t = (t.width ≡ s.width) × ((i : ℕ) → t.lines i ≡ s.lines i) × HasNode s node (node_with (s.nodes node) request) t
shared_does s (Turned node turn) t = TakesTurnOf s node (s.nodes node).call turn t
shared_does s (Rested line toward) t = GoesToRest s line toward t
shared_does s (SawMem line mem) t = (mem ≡ Some (s.lines line).memory) × (t ≡ s)
shared_does s (SawTag line node tag) t = (tag ≡ Some ((s.lines line).tags node)) × (t ≡ s)
shared_does s (Saw ask look) t = shared_has s ask look × (t ≡ s)
