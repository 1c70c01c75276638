-- A desk that is brought to rest, and calls that end there. This project's profile.
use Rattle.std.specs.Prelude.{◌≡◌, ◌≢◌, ℕ, zero, suc, ◌+◌, ◌*◌, ◌<◌, ◌≤◌, Bool, true, false, List, Option, Some, None, slice_index_or}
use Rattle.sci_core.specs.declared.keeps.AnyWords.{AnyWords}
use Rattle.sci_core.specs.declared.lines.Line.{Line}
use Rattle.sci_core.specs.Progress.{IsAtRest}
use Rattle.sci_core.specs.Run.{HasValue}
use Rattle.sci_core.specs.State.{State}
use Rattle.sci_core.specs.Whole.{WholeLine, nodes_of, state_of}
use Rattle.sci_ops.specs.declared.answers.Answer.{Answer}
use Rattle.sci_ops.specs.declared.answers.Turn.{Turn}
use Rattle.sci_ops.specs.Alone.{TakesTurn}
use Rattle.sci_ops.specs.Rest.{Rests}
use Rattle.sci_cache.specs.declared.calls.OpenCall.{OpenCall}
use Rattle.sci_cache.specs.Nodes.{NodeState, node_after, line_by, op_by, shown_by}
use Rattle.sci_script.specs.Event.{Turned}
use Rattle.sci_script.specs.Nodes.{whole_of}
use Rattle.sci_script.specs.Run.{Repeats}
use Rattle.sci_script.specs.Shared.{Shared, HasNode, shared_is_open, shared_does}
use Rattle.sci_script.specs.Turns.{TurnsOn}

-- a line takes any words
abbrev pub any : List ℕ → Type 0
any words = Unit {0}

-- a line of n nodes comes to rest: by so many turns, each of a node under way that moves, as a load takes it; its value stays
pub record ComesToRest (n : ℕ) (s : State) (turns : ℕ) (t : State) : Type 0 where
  pub taken : Rests n any s turns t
  pub few : turns ≤ n * n + 9 * n
  pub rest : IsAtRest t
  pub value : (v : Line) → HasValue n any s v → HasValue n any t v

-- so do the first m of these lines, one after another: so many turns were taken before each line
pub record ComeToRest (n m : ℕ) (wholes : List (WholeLine AnyWords)) (turns : ℕ) (after : List (WholeLine AnyWords)) : Type 0 where
  pub taken : ℕ → ℕ
  pub none : taken 0 ≡ 0
  pub all : taken m ≡ turns
  pub lines : (line : ℕ) → line < m → (k : ℕ) × (taken (suc line) ≡ taken line + k) × ComesToRest n (state_of (whole_of wholes line)) k (state_of (whole_of after line))

-- the first m lines come to rest, one after another, in so many turns together, and the nodes are as they were: calls that are open
-- stay open, and what they name stays named
pub record SharedRests (m : ℕ) (s : Shared) (turns : ℕ) (t : Shared) : Type 0 where
  pub width : t.width ≡ s.width
  -- how many turns were taken before each line
  pub taken : ℕ → ℕ
  pub none : taken 0 ≡ 0
  pub all : taken m ≡ turns
  pub lines : (line : ℕ) → line < m → (k : ℕ) × (taken (suc line) ≡ taken line + k) × ComesToRest s.width (s.lines line) k (t.lines line)
  pub nodes : (node : ℕ) → t.nodes node ≡ s.nodes node

-- every line is at rest
abbrev pub AreAtRest : Shared → Type 0
AreAtRest s = (line : ℕ) → IsAtRest (s.lines line)

-- each line that is said to be calm is at rest
pub record AreCalm (calm : List Bool) (wholes : List (WholeLine AnyWords)) : Type 0 where
  pub each : (line : ℕ) → slice_index_or calm line false ≡ true → IsAtRest (state_of (whole_of wholes line))

-- a turn of the node's call, as one of the operation at work on the line at work, which is lent to the node for the turn
pub record TakesLent (s : Shared) (node : ℕ) (call : OpenCall) (shown : Turn) (t : Shared) : Type 0 where
  pub turn : Turn
  pub width : t.width ≡ s.width
  pub made : TurnsOn s.width node (op_by call.victim call.goal) (s.lines (line_by call.victim call.line)) turn (t.lines (line_by call.victim call.line))
  pub lent : TakesTurn s.width any node (op_by call.victim call.goal) (s.lines (line_by call.victim call.line)) turn (t.lines (line_by call.victim call.line))
  pub others : (line : ℕ) → line ≢ line_by call.victim call.line → t.lines line ≡ s.lines line
  pub shows : shown ≡ shown_by call.victim turn
  pub after : HasNode s node (node_after (s.nodes node) call turn) t

abbrev pub TakesLentOf : Shared → ℕ → Option OpenCall → Turn → Shared → Type 0
TakesLentOf s node None shown t = ⊥
TakesLentOf s node (Some call) shown t = TakesLent s node call shown t

-- the same over whole lines and the node
pub record LentOver (wholes : List (WholeLine AnyWords)) (n : NodeState) (c : OpenCall) (shown : Turn) (after : List (WholeLine AnyWords)) (m : NodeState) : Type 0 where
  pub turn : Turn
  pub made : TurnsOn (nodes_of (whole_of wholes (line_by c.victim c.line))) n.id (op_by c.victim c.goal) (state_of (whole_of wholes (line_by c.victim c.line))) turn (state_of (whole_of after (line_by c.victim c.line)))
  pub lent : TakesTurn (nodes_of (whole_of wholes (line_by c.victim c.line))) any n.id (op_by c.victim c.goal) (state_of (whole_of wholes (line_by c.victim c.line))) turn (state_of (whole_of after (line_by c.victim c.line)))
  pub others : (line : ℕ) → line ≢ line_by c.victim c.line → whole_of after line ≡ whole_of wholes line
  pub shows : shown ≡ shown_by c.victim turn
  pub node : m ≡ node_after n c turn

abbrev pub LentOverOf : List (WholeLine AnyWords) → NodeState → Option OpenCall → Turn → List (WholeLine AnyWords) → NodeState → Type 0
LentOverOf wholes n None shown after m = ⊥
LentOverOf wholes n (Some c) shown after m = LentOver wholes n c shown after m

-- the node's open call is taken to its end by so many of its own turns, as `done` takes it: of n nodes at most 2 * (3 * n + 16), and
-- none waits
pub record EndsCall (node : ℕ) (s : Shared) (turns : ℕ) (answer : Answer) (t : Shared) : Type 0 where
  pub before : ℕ
  pub count : turns ≡ suc before
  pub few : turns ≤ 2 * (3 * s.width + 16)
  pub mid : Shared
  pub goes_on : Repeats shared_does (Turned node Turn.Moved) before s mid
  pub last : shared_does mid (Turned node (Turn.Done answer)) t

-- where the node has a call open it is taken to its end in so many turns, and this is its answer; else all stays
abbrev pub EndsIfOpen : Bool → ℕ → Shared → ℕ → Option Answer → Shared → Type 0
EndsIfOpen true node s turns (Some answer) t = EndsCall node s turns answer t
EndsIfOpen true node s turns None t = ⊥
EndsIfOpen false node s turns answer t = (turns ≡ 0) × (answer ≡ None) × (t ≡ s)

-- so it is for the first m nodes, one after another, in so many turns together, and these are the answers, each at its node's place
abbrev pub EndsCalls : ℕ → Shared → ℕ → List (Option Answer) → Shared → Type 0
EndsCalls zero s turns answers t = (turns ≡ 0) × (t ≡ s)
EndsCalls (suc m) s turns answers t = (mid : Shared) × (before k : ℕ) × (turns ≡ before + k) × EndsCalls m s before answers mid × EndsIfOpen (shared_is_open mid m) m mid k (slice_index_or answers m None) t
