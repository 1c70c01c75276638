-- Nodes over whole lines. This project's profile.
use Rattle.std.specs.Prelude.{◌≡◌, ◌≢◌, ℕ, ◌<◌, false, List, [], length, Option, Some, None, slice_index_or}
use Rattle.sci_core.specs.declared.keeps.AnyWords.{AnyWords}
use Rattle.sci_core.specs.Whole.{WholeLine, nodes_of, state_of}
use Rattle.sci_ops.specs.declared.answers.Turn.{Turn}
use Rattle.sci_ops.specs.declared.goals.Goal.{Goal}
use Rattle.sci_ops.specs.Table.{begun}
use Rattle.sci_cache.specs.declared.calls.OpenCall.{OpenCall}
use Rattle.sci_cache.specs.Nodes.{NodeState, node_state, node_after, line_by, op_by, shown_by}
use Rattle.sci_script.specs.Turns.{TurnsOn}
use Rattle.sci_script.specs.Unused.{no_line}

-- the node of this number, which has so many lines and keeps no receipts
abbrev pub IsNodeOf : ℕ → ℕ → NodeState → Type 0
IsNodeOf lines k node = (node.id ≡ k) × (node.lines ≡ lines) × (node.keeps ≡ false)

-- each node stands at its number
abbrev pub AreNodesOf : ℕ → List NodeState → Type 0
AreNodesOf lines nodes = (k : ℕ) (d : NodeState) → k < length nodes → IsNodeOf lines k (slice_index_or nodes k d)

abbrev pub whole_of : List (WholeLine AnyWords) → ℕ → WholeLine AnyWords
whole_of wholes line = slice_index_or wholes line no_line

-- a turn of the node's call over these lines: of the operation at work on the line at work; the other lines stay
pub record TurnsOver (wholes : List (WholeLine AnyWords)) (n : NodeState) (c : OpenCall) (shown : Turn) (after : List (WholeLine AnyWords)) (m : NodeState) : Type 0 where
  pub turn : Turn
  pub made : TurnsOn (nodes_of (whole_of wholes (line_by c.victim c.line))) n.id (op_by c.victim c.goal) (state_of (whole_of wholes (line_by c.victim c.line))) turn (state_of (whole_of after (line_by c.victim c.line)))
  pub others : (line : ℕ) → line ≢ line_by c.victim c.line → whole_of after line ≡ whole_of wholes line
  pub shows : shown ≡ shown_by c.victim turn
  pub node : m ≡ node_after n c turn

abbrev pub TurnsOverOf : List (WholeLine AnyWords) → NodeState → Option OpenCall → Turn → List (WholeLine AnyWords) → NodeState → Type 0
TurnsOverOf wholes n None shown after m = ⊥
TurnsOverOf wholes n (Some c) shown after m = TurnsOver wholes n c shown after m

-- a load on the line, as the call of a node that names no line
abbrev pub load_on : ℕ → OpenCall
load_on line = record { line = line; goal = Goal.Load; victim = None }

abbrev pub loader : ℕ → ℕ → NodeState
loader node line = node_state node 0 0 false [] (Some (load_on line))
