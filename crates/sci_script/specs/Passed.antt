-- What is kept of the calls that pass in a turn. This project's profile.
use Rattle.std.specs.Prelude.{◌≡◌, ℕ, Option, Some, None, List, Ok}
use Rattle.sci_core.specs.declared.keeps.AnyWords.{AnyWords}
use Rattle.sci_core.specs.declared.outcomes.Outcome.{Outcome}
use Rattle.sci_core.specs.Answers.{Answers}
use Rattle.sci_core.specs.State.{State}
use Rattle.sci_core.specs.Step.{looked}
use Rattle.sci_core.specs.Whole.{WholeLine, nodes_of, state_of}
use Rattle.sci_ops.specs.Operation.{Operation}
use Rattle.sci_ops.specs.Plan.{Plan, own, mem, tag, exchange, ends}
use Rattle.sci_ops.specs.declared.goals.Goal.{Goal}
use Rattle.sci_ops.specs.Table.{turn_of, begun}
use Rattle.sci_cache.specs.declared.calls.OpenCall.{OpenCall}
use Rattle.sci_cache.specs.Nodes.{NodeState, line_by, op_by}
use Rattle.sci_port.specs.Watching.{passed_by}
use Rattle.sci_port.specs.declared.calls.Call.TheVariants.{Own, MemWas, TagWas, Stepped}
use Rattle.sci_script.specs.declared.desk.Toward.{Toward}
use Rattle.sci_port.specs.declared.watching.Passed.{Passed}
use Rattle.sci_script.specs.Nodes.{whole_of}
use Rattle.sci_script.specs.Shared.{Shared}

-- the node me of n follows the plan on this line, from s to t: its calls are kept one after another, p before them and q behind
-- them; loads give the words that stand, and an exchange has the line's answer
abbrev pub Passes : ℕ → ℕ → ℕ → State → Plan → State → Passed → Passed → Type 0
Passes n me line s (own next) t p q = Passes n me line (looked s me) (next (s.tags me)) t (passed_by p line (Own (Some (s.tags me)))) q
Passes n me line s (mem next) t p q = Passes n me line s (next s.memory) t (passed_by p line (MemWas (Some s.memory))) q
Passes n me line s (tag node next) t p q = Passes n me line s (next (s.tags node)) t (passed_by p line (TagWas node (Some (s.tags node)))) q
Passes n me line s (exchange event end) t p q = (outcome : Outcome) × Answers n s me event (Ok outcome) t × (q ≡ passed_by p line (Stepped event outcome))
Passes n me line s (ends last) t p q = q ≡ p

-- in one turn of the node's operation
abbrev pub PassesOn : ℕ → ℕ → ℕ → Operation → State → State → Passed → Passed → Type 0
PassesOn n me line op s t p q = Passes n me line s (turn_of op me (s.steps me)) t p q

-- in a turn of the node's call over these lines
abbrev pub PassesOverOf : List (WholeLine AnyWords) → NodeState → Option OpenCall → List (WholeLine AnyWords) → Passed → Passed → Type 0
PassesOverOf wholes n None after p q = ⊥
PassesOverOf wholes n (Some c) after p q =
    PassesOn (nodes_of (whole_of wholes (line_by c.victim c.line))) n.id (line_by c.victim c.line) (op_by c.victim c.goal) (state_of (whole_of wholes (line_by c.victim c.line)))
    (state_of (whole_of after (line_by c.victim c.line))) p q

-- in a turn of the node's call, which is that of the operation at work on the line at work
abbrev pub PassesTurnOf : Shared → ℕ → Option OpenCall → Shared → Passed → Passed → Type 0
PassesTurnOf s node None t p q = ⊥
PassesTurnOf s node (Some c) t p q = PassesOn s.width node (line_by c.victim c.line) (op_by c.victim c.goal) (s.lines (line_by c.victim c.line)) (t.lines (line_by c.victim c.line)) p q

abbrev pub shared_passes : Shared → ℕ → Shared → Passed → Passed → Type 0
shared_passes s node t p q = PassesTurnOf s node (s.nodes node).call t p q

-- in a turn of the node towards rest, as a load takes it
abbrev pub passes_to_rest : Shared → ℕ → ℕ → Shared → Passed → Passed → Type 0
passes_to_rest s line node t p q = PassesOn s.width node line (begun Goal.Load) (s.lines line) (t.lines line) p q

abbrev pub toward_passes : Shared → ℕ → Toward → Shared → Passed → Passed → Type 0
toward_passes s line (Toward.Turned node) t p q = passes_to_rest s line node t p q
toward_passes s line toward t p q = q ≡ p
