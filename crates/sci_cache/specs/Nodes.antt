-- What contracts see of a node, and what requests and turns make of it. This project's profile.
use Rattle.std.specs.Prelude.{◌≡◌, ◌≢◌, ◌⊎◌, ℕ, ◌<◌, Bool, nat_lt, not, is_some, if◌then◌else◌, Option, Some, None, Result, Ok, Err, List}
use Rattle.sci_core.specs.declared.pending.Pending.{Pending}
use Rattle.sci_port.specs.declared.calls.Call.{Call}
use Rattle.sci_ops.specs.declared.goals.Goal.{Goal}
use Rattle.sci_ops.specs.declared.answers.Answer.{Answer}
use Rattle.sci_ops.specs.declared.answers.Turn.{Turn}
use Rattle.sci_ops.specs.Answers.{AnswersAt}
use Rattle.sci_ops.specs.Operation.{Operation}
use Rattle.sci_ops.specs.Plan.{Takes, LoadsAtMost}
use Rattle.sci_ops.specs.Table.{turn_of, begun}
use Rattle.sci_cache.specs.declared.calls.OpenCall.{OpenCall}
use Rattle.sci_cache.specs.declared.refusals.NodeRefusal.{NodeRefusal}
use Rattle.sci_cache.specs.declared.requests.Request.{Request}
use Rattle.sci_cache.specs.Requests.{line_of, goal_of, is_evict, has_bad_word}
use Rattle.sci_cache.specs.Residents.{without, used, displaced_by, AreBelow}

-- whose node of how many lines it is, how many lines it may name, whether its calls keep receipts, the lines that it names, most recent
-- first, and its open call
pub record NodeState : Type 0 where
  pub id : ℕ
  pub lines : ℕ
  pub capacity : ℕ
  pub keeps : Bool
  pub residents : List ℕ
  pub call : Option OpenCall

abbrev pub node_state : ℕ → ℕ → ℕ → Bool → List ℕ → Option OpenCall → NodeState
node_state id lines capacity keeps residents call = record { id = id; lines = lines; capacity = capacity; keeps = keeps; residents = residents; call = call }

-- the same node of the same lines, with the same capacity, and one that keeps receipts or doesn't, as before
pub record IsSameNode (n m : NodeState) : Type 0 where
  pub id : m.id ≡ n.id
  pub lines : m.lines ≡ n.lines
  pub capacity : m.capacity ≡ n.capacity
  pub keeps : m.keeps ≡ n.keeps

abbrev pub IsLine : ℕ → Option ℕ → Type 0
IsLine lines None = Unit {0}
IsLine lines (Some line) = line < lines

-- the call is on lines that there are, and goes on
abbrev pub IsSoundCall : ℕ → Option OpenCall → Type 0
IsSoundCall lines None = Unit {0}
IsSoundCall lines (Some c) = (c.line < lines) × IsLine lines c.victim

-- what is true of each node
pub record IsSoundNode (n : NodeState) : Type 0 where
  pub residents : AreBelow n.lines n.residents
  pub call : IsSoundCall n.lines n.call

-- why a request is refused, but for want of memory
abbrev pub refusal_of : NodeState → Request → Option NodeRefusal
refusal_of n r =
    if is_some n.call then Some NodeRefusal.CallOpen else
    (if not (nat_lt (line_of r) n.lines) then Some NodeRefusal.BadLine else
    (if has_bad_word r then Some NodeRefusal.BadWord else None))

-- the residents with a request
abbrev pub residents_with : NodeState → Request → List ℕ
residents_with n r = if is_evict r then n.residents else used n.capacity (line_of r) n.residents

-- the line that a request puts out
abbrev pub victim_with : NodeState → Request → Option ℕ
victim_with n r = if is_evict r then None else displaced_by n.capacity (line_of r) n.residents

-- the call that a request makes
abbrev pub call_with : NodeState → Request → OpenCall
call_with n r = record { line = line_of r; goal = goal_of r; victim = victim_with n r }

-- the node that has used the request's line
abbrev pub node_used : NodeState → Request → NodeState
node_used n r = record n { residents = residents_with n r }

-- the node with the request as its open call
abbrev pub node_with : NodeState → Request → NodeState
node_with n r = record n { residents = residents_with n r; call = Some (call_with n r) }

-- the line at work, and what is done there: first the victim is evicted
abbrev pub line_by : Option ℕ → ℕ → ℕ
line_by None line = line
line_by (Some victim) line = victim

abbrev pub goal_by : Option ℕ → Goal → Goal
goal_by None goal = goal
goal_by (Some victim) goal = Goal.Evict

abbrev pub op_by : Option ℕ → Goal → Operation
op_by victim goal = begun (goal_by victim goal)

-- the end of a victim's eviction is no end of the call
abbrev pub shown_by : Option ℕ → Turn → Turn
shown_by (Some victim) (Turn.Done answer) = Turn.Moved
shown_by victim turn = turn

-- a victim's eviction ends with Out
abbrev pub LeavesBy : Option ℕ → Turn → Type 0
LeavesBy (Some victim) (Turn.Done answer) = answer ≡ Answer.Out
LeavesBy victim turn = Unit {0}

abbrev pub call_after : OpenCall → Option ℕ → Turn → Option OpenCall
call_after c None (Turn.Done answer) = None
call_after c (Some victim) (Turn.Done answer) = Some record { line = c.line; goal = c.goal; victim = None }
call_after c victim turn = Some c

-- an eviction that has ended takes its line out
abbrev pub taken_by : Goal → ℕ → List ℕ → List ℕ
taken_by Goal.Evict line xs = without line xs
taken_by goal line xs = xs

abbrev pub residents_after : OpenCall → Option ℕ → Turn → List ℕ → List ℕ
residents_after c None (Turn.Done answer) xs = taken_by c.goal c.line xs
residents_after c victim turn xs = xs

abbrev pub node_after : NodeState → OpenCall → Turn → NodeState
node_after n c turn = record n { residents = residents_after c c.victim turn n.residents; call = call_after c c.victim turn }

-- the request is refused with this, for want of memory where nothing else stands against it
abbrev pub IsRefused : NodeState → Request → NodeRefusal → Type 0
IsRefused n r e = (refusal_of n r ≡ Some e) ⊎ ((refusal_of n r ≡ None) × (e ≡ NodeRefusal.OutOfMemory))

-- the node where an eviction's line was taken out
abbrev pub node_closed : NodeState → Request → NodeState
node_closed n r = record n { residents = (if is_evict r then without (line_of r) n.residents else n.residents) }

-- the node where the request has ended
abbrev pub node_ended : NodeState → Request → NodeState
node_ended n r = record n { residents = (if is_evict r then without (line_of r) n.residents else used n.capacity (line_of r) n.residents); call = None }

abbrev pub GoesOn : Turn → Type 0
GoesOn (Turn.Done answer) = ⊥
GoesOn turn = Unit {0}

-- the answers that there are to a goal; the words that a load has seen fit
abbrev pub IsAnswerTo : (List ℕ → Type 0) → Goal → Answer → Type 0
IsAnswerTo fits Goal.Load (Answer.Seen words stamp) = fits words
IsAnswerTo fits (Goal.Write write) (Answer.Wrote before stamp) = Unit {0}
IsAnswerTo fits (Goal.Write write) Answer.Spent = Unit {0}
IsAnswerTo fits Goal.Evict Answer.Out = Unit {0}
IsAnswerTo fits _ _ = ⊥

-- a turn that ends an operation shows an answer to its goal
abbrev pub ShowsAnswerTo : (List ℕ → Type 0) → Goal → Turn → Type 0
ShowsAnswerTo fits goal (Turn.Done answer) = IsAnswerTo fits goal answer
ShowsAnswerTo fits goal turn = Unit {0}

-- a turn that ends an operation leaves the pending step Idle
abbrev pub EndsIdle : Turn → Pending → Type 0
EndsIdle (Turn.Done answer) p = p ≡ Pending.Idle
EndsIdle turn p = Unit {0}

-- the node's pending step is Idle on every line but the one at work
abbrev pub IsIdleBut : Option OpenCall → (ℕ → Pending) → Type 0
IsIdleBut None step = (m : ℕ) → step m ≡ Pending.Idle
IsIdleBut (Some c) step = (m : ℕ) → m ≢ line_by c.victim c.line → step m ≡ Pending.Idle

-- a call that waited and has ended, with an answer or as Spent, leaves the pending step Idle
abbrev pub LeavesIdle : Result Answer NodeRefusal → Pending → Type 0
LeavesIdle (Ok answer) p = p ≡ Pending.Idle
LeavesIdle (Err NodeRefusal.StampsSpent) p = p ≡ Pending.Idle
LeavesIdle (Err refusal) p = Unit {0}

module _ {U : Type 0} (gives : U → ℕ → Call → U → Type 0) (step : U → ℕ → Pending) where
  -- a turn of the call: of the operation at work, over the bank's port to the line at work
  pub record TurnsAt (n : NodeState) (c : OpenCall) (u : U) (shown : Turn) (v : U) (m : NodeState) : Type 0 where
    pub turn : Turn
    pub calls : Takes (λ a call b. gives a (line_by c.victim c.line) call b) (turn_of (op_by c.victim c.goal) n.id (step u (line_by c.victim c.line))) u turn v
    pub answers : AnswersAt (λ a call b. gives a (line_by c.victim c.line) call b) (λ a. step a (line_by c.victim c.line)) (op_by c.victim c.goal) n.id u turn v
    pub loads : LoadsAtMost 3 (turn_of (op_by c.victim c.goal) n.id (step u (line_by c.victim c.line)))
    pub leaves : LeavesBy c.victim turn
    pub shows : shown ≡ shown_by c.victim turn
    pub node : m ≡ node_after n c turn

  abbrev pub TurnsBy : NodeState → Option OpenCall → U → Result Turn NodeRefusal → U → NodeState → Type 0
  TurnsBy n None u result v m = (result ≡ Err NodeRefusal.NoCall) × (v ≡ u) × (m ≡ n)
  TurnsBy n (Some c) u (Ok shown) v m = TurnsAt n c u shown v m
  TurnsBy n (Some c) u (Err refusal) v m = ⊥

  -- turns that go on, one after another
  pub data Runs : NodeState → U → NodeState → U → Type 0 where
    none : {n : NodeState} {u : U} → Runs n u n u
    more : {n k m : NodeState} {u w v : U} → (turn : Turn) → Runs n u k w → GoesOn turn → TurnsBy k k.call w (Ok turn) v m → Runs n u m v

  -- the request was accepted, and turns were taken up to this answer
  pub record EndsWith (n : NodeState) (r : Request) (u : U) (answer : Answer) (v : U) (m : NodeState) : Type 0 where
    pub accepted : refusal_of n r ≡ None
    pub before : NodeState
    pub at : U
    pub runs : Runs (node_with n r) u before at
    pub last : TurnsBy before before.call at (Ok (Turn.Done answer)) v m
    pub node : m ≡ node_ended n r

  -- a call that waits for its end: Spent is a refusal, and so are those of `begin`, which change nothing
  abbrev pub Waits : NodeState → Request → U → Result Answer NodeRefusal → U → NodeState → Type 0
  Waits n r u (Ok answer) v m = EndsWith n r u answer v m × (answer ≢ Answer.Spent)
  Waits n r u (Err NodeRefusal.StampsSpent) v m = EndsWith n r u Answer.Spent v m
  Waits n r u (Err refusal) v m = IsRefused n r refusal × (v ≡ u) × (m ≡ n)
