-- Turns that nobody comes between, and how a line is brought to rest. This project's profile.
use Rattle.std.specs.Prelude.{◌≡◌, ◌≢◌, ℕ, ◌+◌, ◌<◌, suc, Bool, true, false, Option, Some, None, List, [], ◌∷◌, slice_index_or}
use Rattle.sci_words.specs.declared.tags.Tag.{Tag}
use Rattle.sci_words.specs.declared.memory.Mem.{Mem}
use Rattle.sci_core.specs.declared.lines.Line.{Line}
use Rattle.sci_core.specs.Progress.{IsMover}
use Rattle.sci_core.specs.State.{State}
use Rattle.sci_core.specs.Waiting.{Waits}
use Rattle.sci_ops.specs.declared.goals.Goal.{Goal}
use Rattle.sci_ops.specs.declared.answers.Answer.{Answer}
use Rattle.sci_ops.specs.declared.answers.Turn.{Turn}
use Rattle.sci_ops.specs.Alone.{TakesTurn, Ends}
use Rattle.sci_ops.specs.Plan.{Plan, own, mem, tag, exchange, ends, ended}
use Rattle.sci_ops.specs.Operation.{Operation}
use Rattle.sci_ops.specs.Table.{turn_of, begun, after_turn}

-- what is left of a plan of node me once its loads are made, of these words: an exchange, or an end without one
abbrev pub read : Mem → (ℕ → Tag) → ℕ → Plan → Plan
read m tags me (own next) = read m tags me (next (tags me))
read m tags me (mem next) = read m tags me (next m)
read m tags me (tag x next) = read m tags me (next (tags x))
read m tags me (exchange event end) = exchange event end
read m tags me (ends turn) = ends turn

-- what a turn comes to by the table of turns, on the line as it stands
abbrev pub due_turn : Operation → ℕ → State → Plan
due_turn op me s = read s.memory s.tags me (turn_of op me (s.steps me))

abbrev pub is_exchange : Plan → Bool
is_exchange (exchange event end) = true
is_exchange _ = false

-- the turn made its exchange, or is what the table says where there is none
abbrev pub ComesTo : Plan → Turn → Type 0
ComesTo (exchange event end) turn = (line : Option Line) × (turn ≡ ended end line)
ComesTo (ends last) turn = turn ≡ last
ComesTo _ turn = ⊥

-- so many turns, one after another, each of a node that isn't Idle and moves, as a load takes it; none waited
pub data Rests (n : ℕ) (fits : List ℕ → Type 0) (s : State) : ℕ → State → Type 0 where
  at_first : Rests n fits s 0 s
  one_more : {k : ℕ} {mid t : State} {turn : Turn} → Rests n fits s k mid → (me : ℕ) → me < n → IsMover n mid me → (turn ≢ Turn.Waiting) → TakesTurn n fits me (begun Goal.Load) mid turn t → Rests n fits s (suc k) t

-- the operation of node i is taken to its end in so many turns, from this state to that one; one that has ended stays as it is
abbrev pub EndsOne : ℕ → (List ℕ → Type 0) → ℕ → Operation → Option Answer → State → ℕ → Operation → State → Type 0
EndsOne n fits i op (Some answer) s turns new t = (turns ≡ 0) × (new ≡ op) × (t ≡ s)
EndsOne n fits i op None s turns new t = (answer : Answer) × Ends n fits i op s turns answer t × (new ≡ after_turn op (Turn.Done answer))

-- the operation of a node in a list
abbrev pub op_at : List Operation → ℕ → Operation
op_at ops i = slice_index_or ops i (begun Goal.Load)

-- the operations of the first m nodes are taken to their ends, one after another, in so many turns together
pub record EndsEach (n : ℕ) (fits : List ℕ → Type 0) (m : ℕ) (ops new : List Operation) (s : State) (turns : ℕ) (t : State) : Type 0 where
  -- the line before the operation of each node, and how many turns were taken before it
  pub at : ℕ → State
  pub taken : ℕ → ℕ
  pub first : at 0 ≡ s
  pub none : taken 0 ≡ 0
  pub last : at m ≡ t
  pub all : taken m ≡ turns
  pub each : (i : ℕ) → i < m → (k : ℕ) × (taken (suc i) ≡ taken i + k) × EndsOne n fits i (op_at ops i) (op_at ops i).answer (at i) k (op_at new i) (at (suc i))

-- nobody waits in a circle: along such waits a height falls
abbrev pub HasNoCircle : ℕ → State → Type 0
HasNoCircle n s = (height : ℕ → ℕ) × ((i y z : ℕ) → Waits n s i y → Waits n s y z → height y < height i)

-- the node i waits for the first of these, where there is one
abbrev pub WaitsForFirst : ℕ → State → ℕ → List ℕ → Type 0
WaitsForFirst n s i [] = Unit {0}
WaitsForFirst n s i (y ∷ more) = Waits n s i y

-- each of these is one of n nodes, and waits for the next
abbrev pub EachWaits : ℕ → State → List ℕ → Type 0
EachWaits n s [] = Unit {0}
EachWaits n s (i ∷ more) = (i < n) × WaitsForFirst n s i more × EachWaits n s more
