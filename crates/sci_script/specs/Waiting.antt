-- Whom a node waits for. This project's profile.
use Rattle.std.specs.Prelude.{◌≡◌, ◌≢◌, ◌⊎◌, ℕ, ◌<◌, ◌==◌, Bool, true, false, not, if◌then◌else◌, Option, None, Some, MatchOption}
use Rattle.sci_words.specs.declared.tags.Kind.{Kind}
use Rattle.sci_core.specs.declared.pending.Pending.{Pending}
use Rattle.sci_core.specs.declared.stages.Stage.{Stage}
use Rattle.sci_core.specs.Found.{names}
use Rattle.sci_core.specs.Progress.{IsMover}
use Rattle.sci_core.specs.Stage.{stage_of}
use Rattle.sci_core.specs.State.{State}
use Rattle.sci_core.specs.Waiting.{Waits}
use Rattle.sci_ops.specs.declared.answers.Turn.{Turn}
use Rattle.sci_ops.specs.declared.goals.Goal.{Goal}
use Rattle.sci_ops.specs.Plan.{Plan, ends}
use Rattle.sci_ops.specs.Rest.{due_turn}
use Rattle.sci_ops.specs.Table.{begun}
use Rattle.sci_cache.specs.declared.calls.OpenCall.{OpenCall}
use Rattle.sci_cache.specs.Nodes.{line_by, goal_by, op_by}
use Rattle.sci_script.specs.Shared.{Shared}

abbrev pub is_wait : Plan → Bool
is_wait (ends Turn.Waiting) = true
is_wait _ = false

-- a node in this stage keeps the Idle entry i waiting: it copies from it, purges it, or has come in front of it and hasn't attached it
-- yet; or it leaves, and hasn't told memory yet that i is the head
abbrev pub keeps_waiting : ℕ → Stage → Bool
keeps_waiting i (Stage.Copying forw word) = forw == i
keeps_waiting i (Stage.Advancing victim word) = victim == i
keeps_waiting i (Stage.Clearing victim word) = victim == i
keeps_waiting i (Stage.Fetching forw dirty) = names i forw
keeps_waiting i (Stage.InQueue forw dirty copied) = names i forw
keeps_waiting i (Stage.Promoted dirty succ) = succ == i
keeps_waiting i _ = false

-- a turn towards this goal, from Idle with a tag of this kind that nobody holds, waits, where memory names the node as the head or not: for
-- a purged tag to be free, and, to write or to go as a head, for newcomers in front
abbrev pub is_kept_out : Goal → Bool → Kind → Bool
is_kept_out (Goal.Write write) is_head Kind.Fresh = not is_head
is_kept_out Goal.Evict is_head Kind.Fresh = not is_head
is_kept_out Goal.Evict is_head Kind.Dirty = not is_head
is_kept_out goal is_head Kind.Fresh = false
is_kept_out goal is_head Kind.Dirty = false
is_kept_out goal is_head Kind.Invalid = false
is_kept_out goal is_head Kind.Valid = false
is_kept_out goal is_head _ = true

-- node i is Idle, and its next turn towards this goal, in one go, waits or not
abbrev pub StartsOr : Bool → State → Goal → ℕ → Type 0
StartsOr waits s goal i = (s.steps i ≡ Pending.Idle) × (is_wait (due_turn (begun goal) i s) ≡ waits)

-- node i of n, whose operation has this goal, waits for y: under way, as the line has it; Idle, y keeps it waiting
abbrev pub WaitsTowards : ℕ → State → Goal → ℕ → ℕ → Type 0
WaitsTowards n s goal i y = Waits n s i y ⊎ (StartsOr true s goal i × (keeps_waiting i (stage_of (s.steps y)) ≡ true))

-- whom node i of n, whose operation has this goal, waits for, by the words of the line: none where its next turn, in one go, makes its
-- exchange or ends the operation; else a node that isn't Idle
abbrev pub IsAwaitedOn : ℕ → State → Goal → ℕ → Option ℕ → Type 0
IsAwaitedOn n s goal i whom = MatchOption whom (IsMover n s i ⊎ StartsOr false s goal i) (λ y. (y < n) × (s.steps y ≢ Pending.Idle) × WaitsTowards n s goal i y)

-- the goal of the operation at work of a node's call: its victim's eviction first
abbrev pub goal_at_work : Option OpenCall → Option Goal
goal_at_work None = None
goal_at_work (Some call) = Some (goal_by call.victim call.goal)

-- the goal of a node on this line, where its call is at work there
abbrev pub goal_on : ℕ → Option OpenCall → Option Goal
goal_on line None = None
goal_on line (Some call) = if line_by call.victim call.line == line then Some (goal_by call.victim call.goal) else None

-- nobody without a goal
abbrev pub IsAwaitedTowards : ℕ → State → Option Goal → ℕ → Option ℕ → Type 0
IsAwaitedTowards n s None i whom = whom ≡ None
IsAwaitedTowards n s (Some goal) i whom = IsAwaitedOn n s goal i whom

-- on a line of a memory, by the call that the node has open
abbrev pub IsAwaited : Shared → ℕ → ℕ → Option ℕ → Type 0
IsAwaited s line i whom = IsAwaitedTowards s.width (s.lines line) (goal_on line (s.nodes i).call) i whom
