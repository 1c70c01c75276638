-- What a call of a node that waits for its end has come to. This project's profile.
use Rattle.std.specs.Prelude.{◌≡◌, ◌≢◌, ℕ, suc, ◌≤◌, Bool, true, false, nat_eq, if◌then◌else◌, List, [], ◌++◌, Option, Some, None, Result, Ok, Err, IfOk, IfSome}
use Rattle.sci_core.specs.declared.pending.Pending.{Pending}
use Rattle.sci_core.specs.declared.receipts.Receipt.{Receipt}
use Rattle.sci_port.specs.declared.calls.Call.{Call}
use Rattle.sci_port.specs.Banks.{BankWay}
use Rattle.sci_port.specs.KeepsAll.{Extends, IsReadied, KeepsAll, writes_in}
use Rattle.sci_port.specs.Readying.{Readying}
use Rattle.sci_port.specs.ReceiptList.{ReceiptList}
use Rattle.sci_ops.specs.declared.answers.Answer.{Answer}
use Rattle.sci_ops.specs.declared.answers.Turn.{Turn}
use Rattle.sci_ops.specs.declared.goals.Goal.{Goal}
use Rattle.sci_ops.specs.Kept.{EndsWithAnswer, KeepsAnswer}
use Rattle.sci_ops.specs.Room.{HasNeed, IsProvided, KeepsTurn, adds_towards, is_passing, need_in, need_towards}
use Rattle.sci_ops.specs.Table.{begun}
use Rattle.sci_cache.specs.declared.calls.OpenCall.{OpenCall}
use Rattle.sci_cache.specs.declared.refusals.NodeRefusal.{NodeRefusal}
use Rattle.sci_cache.specs.declared.requests.Request.{Request}
use Rattle.sci_cache.specs.Requests.{line_of, goal_of}
use Rattle.sci_cache.specs.Nodes.{NodeState, IsAnswerTo, IsIdleBut, IsSameNode, LeavesIdle, Runs, Waits, line_by, node_after, goal_by, op_by, shown_by, victim_with}

-- the line is that of the victim
abbrev pub is_victim : Option ℕ → ℕ → Bool
is_victim None line = false
is_victim (Some victim) line = nat_eq victim line

-- a turn of an open call, from the node n to m: where what is at work has what it needs of its line's receipts, the turn keeps them; and where
-- there is room, what ends it is its line's last receipt
pub record KeepsTurnOf {U : Type 0} (gives : U → ℕ → Call → U → Type 0) (step : U → ℕ → Pending) (receipts : U → ℕ → ReceiptList) (n : NodeState) (c : OpenCall) (u : U) (shown : Turn) (v : U) (m : NodeState) : Type 0 where
  pub turn : Turn
  pub shows : shown ≡ shown_by c.victim turn
  pub node : m ≡ node_after n c turn
  pub kept : IsProvided (goal_by c.victim c.goal) None (step u (line_by c.victim c.line)) (receipts u (line_by c.victim c.line))
      → KeepsTurn (λ s call t. gives s (line_by c.victim c.line) call t) (λ s. receipts s (line_by c.victim c.line)) (op_by c.victim c.goal) u turn v (step v (line_by c.victim c.line))
  pub last : KeepsAnswer (op_by c.victim c.goal) turn (receipts u (line_by c.victim c.line)) (receipts v (line_by c.victim c.line))

-- an open call has what it needs of its lines' receipts: its operation on its own line, and an exit on its victim's, which is another
pub record HasNeeds (c : OpenCall) (step : ℕ → Pending) (receipts : ℕ → ReceiptList) : Type 0 where
  pub line : IsProvided c.goal None (step c.line) (receipts c.line)
  pub exit : IfSome c.victim (λ w. HasNeed Goal.Evict (step w) (receipts w))
  pub apart : IfSome c.victim (λ w. c.line ≢ w)

abbrev pub IsProvidedFor : Option OpenCall → (ℕ → Pending) → (ℕ → ReceiptList) → Type 0
IsProvidedFor None step receipts = Unit {0}
IsProvidedFor (Some c) step receipts = HasNeeds c step receipts

-- what a request that has ended so adds to the node's writes on a line: on its own line its answer, if it wrote
abbrev pub adds_on : Request → Result Answer NodeRefusal → ℕ → List Receipt
adds_on r (Ok answer) line = if nat_eq (line_of r) line then adds_towards (goal_of r) (Turn.Done answer) else []
adds_on r (Err e) line = []

-- the same receipts and the same mark, with another room
pub record IsSameButRoom (s t : ReceiptList) : Type 0 where
  pub list : t.list ≡ s.list
  pub passing : t.passing ≡ s.passing

-- want of memory changes nothing but room, and another refusal of `begin` nothing
abbrev pub LeavesReceipts : {U : Type 0} → (U → ℕ → ReceiptList) → Result Answer NodeRefusal → U → U → Type 0
LeavesReceipts receipts (Ok answer) u v = Unit {0}
LeavesReceipts receipts (Err NodeRefusal.StampsSpent) u v = Unit {0}
LeavesReceipts receipts (Err NodeRefusal.OutOfMemory) u v = (line : ℕ) → IsSameButRoom (receipts u line) (receipts v line)
LeavesReceipts receipts (Err refusal) u v = v ≡ u

-- of a refusal of `begin`: want of memory changes nothing but room, and another nothing
abbrev pub LeavesBut : {U : Type 0} → (U → ℕ → ReceiptList) → NodeRefusal → U → U → Type 0
LeavesBut receipts NodeRefusal.OutOfMemory u v = (line : ℕ) → IsSameButRoom (receipts u line) (receipts v line)
LeavesBut receipts refusal u v = v ≡ u

-- for how many receipts there has to be room until the end at most, in whichever pending step an operation finds its node
abbrev pub most_needed : Goal → ℕ
most_needed Goal.Load = need_towards Goal.Load false
most_needed goal = suc (need_towards goal false)

-- the mark is set for the goal, and there is room for as many receipts as it needs at most
pub record IsReadyFor (goal : Goal) (s : ReceiptList) : Type 0 where
  pub mark : s.passing ≡ is_passing goal
  pub room : most_needed goal ≤ s.room

-- the receipts are ready for a request, and for the exit of the line that it puts out, if there is one
pub record AreReadyFor (request : Request) (victim : Option ℕ) (receipts : ℕ → ReceiptList) : Type 0 where
  pub line : IsReadyFor (goal_of request) (receipts (line_of request))
  pub exit : IfSome victim (λ w. IsReadyFor Goal.Evict (receipts w))

-- there is room for the receipts of a request already, or its node keeps none
abbrev pub HasNoNeed : Bool → Request → ReceiptList → Type 0
HasNoNeed keeps request s = keeps ≡ true → most_needed (goal_of request) ≤ s.room

-- for how many receipts an open call needs room on a line: what its operation needs on its own, and an exit on its victim's
abbrev pub need_on : Option OpenCall → (ℕ → Pending) → (ℕ → ReceiptList) → ℕ → ℕ
need_on None step receipts line = 0
need_on (Some c) step receipts line =
    if nat_eq c.line line then need_in c.goal (step line) (receipts line) else
    (if is_victim c.victim line then need_in Goal.Evict (step line) (receipts line) else 0)

-- a node's work that went on: each call found room for its receipt, none was a write, and what stood in a list stands there
pub record KeepsOn {U : Type 0} (gives : U → ℕ → Call → U → Type 0) (readies : U → ℕ → Readying → U → Type 0) (receipts : U → ℕ → ReceiptList) (u v : U) : Type 0 where
  pub all : KeepsAll gives readies receipts u v
  pub writes : (line : ℕ) → writes_in (receipts v line).list ≡ writes_in (receipts u line).list
  pub extends : (line : ℕ) → Extends (receipts u line).list (receipts v line).list

-- a request that has ended so found room for the receipt of each of its calls. Of writes it added its own answer alone, an answer is the
-- last receipt of its line, behind what stood there, and what stood in a list stands there
pub record KeepsRequest {U : Type 0} (gives : U → ℕ → Call → U → Type 0) (readies : U → ℕ → Readying → U → Type 0) (receipts : U → ℕ → ReceiptList) (request : Request) (u : U) (result : Result Answer NodeRefusal) (v : U) : Type 0 where
  pub all : KeepsAll gives readies receipts u v
  pub writes : (line : ℕ) → writes_in (receipts v line).list ≡ writes_in (receipts u line).list ++ adds_on request result line
  pub last : IfOk result (λ answer. EndsWithAnswer (goal_of request) answer (receipts u (line_of request)).list (receipts v (line_of request)).list)
  pub extends : (line : ℕ) → Extends (receipts u line).list (receipts v line).list

-- from bank u to v the receipts on the lines of neither a request of node n nor the exit of the line that it puts out stay
abbrev pub LeavesOthers : {U : Type 0} → (U → ℕ → ReceiptList) → NodeState → Request → U → U → Type 0
LeavesOthers receipts n request u v = (m : ℕ) → m ≢ line_of request → IfSome (victim_with n request) (λ w. m ≢ w) → receipts v m ≡ receipts u m

-- a request of node n over the bank u has ended so, with the bank v and the node m. Once room for its receipts was reserved, unless
-- the node keeps none, it was accepted and took turns, or was refused. The answer is one to it. The request's line is left Idle, and
-- so are the others, where they were; their receipts stay. The node and the bank are the same: of the same lines of as many nodes, under
-- the same fact
pub record HasCalled {U K : Type 0} (way : U → BankWay) (nodes_on : U → ℕ → ℕ) (keep : U → K) (fits : K → ℕ → List ℕ → Type 0) (gives : U → ℕ → Call → U → Type 0) (readies : U → ℕ → Readying → U → Type 0) (step : U → ℕ → Pending) (receipts : U → ℕ → ReceiptList) (n : NodeState) (request : Request) (u : U) (result : Result Answer NodeRefusal) (v : U) (m : NodeState) : Type 0 where
  pub ready : U
  pub readied : IsReadied readies u ready
  pub waits : Waits gives step n request ready result v m
  pub refused : LeavesReceipts receipts result u v
  pub kept : n.keeps ≡ true → KeepsRequest gives readies receipts request u result v
  pub others : LeavesOthers receipts n request u v
  pub unready : n.keeps ≡ false → ready ≡ u
  pub content : IfOk result (λ answer. IsAnswerTo (fits (keep u) (line_of request)) (goal_of request) answer)
  pub idle : LeavesIdle result (step v (line_of request))
  pub rest : IsIdleBut n.call (step u) → IsIdleBut m.call (step v)
  pub same_node : IsSameNode n m
  pub same_way : way v ≡ way u
  pub same_nodes : (line : ℕ) → nodes_on v line ≡ nodes_on u line
  pub same_fact : keep v ≡ keep u

-- from bank u to v the node has left the list of the line that a request put out, if there is one: in turns of each call of it
-- that waits for that. The receipts on the other lines stay
pub record HasMadeWay {U K : Type 0} (way : U → BankWay) (nodes_on : U → ℕ → ℕ) (keep : U → K) (gives : U → ℕ → Call → U → Type 0) (readies : U → ℕ → Readying → U → Type 0) (step : U → ℕ → Pending) (receipts : U → ℕ → ReceiptList) (victim : Option ℕ) (u v : U) : Type 0 where
  pub runs : (n : NodeState) (c : OpenCall) → n.id ≡ (way u).node → n.call ≡ Some c → c.victim ≡ victim → Runs gives step n u (record n { call = Some record c { victim = None } }) v
  pub rest : ((line : ℕ) → step u line ≡ Pending.Idle) → (line : ℕ) → step v line ≡ Pending.Idle
  pub kept : IfSome victim (λ line. IsReadyFor Goal.Evict (receipts u line)) → KeepsOn gives readies receipts u v
  pub others : (m : ℕ) → IfSome victim (λ line. m ≢ line) → receipts v m ≡ receipts u m
  pub same_way : way v ≡ way u
  pub same_nodes : (line : ℕ) → nodes_on v line ≡ nodes_on u line
  pub same_fact : keep v ≡ keep u
