-- What definitions of receipts come to in plain cases, so that a definition that says less is seen. This project's profile.
use Rattle.std.specs.Prelude.{◌≡◌, ◌≢◌, ℕ, ◌≤◌, true, None, Ok, IfSome, Some, List, [], ◌∷◌, ◌++◌}
use Rattle.sci_core.specs.declared.pending.Pending.{Pending}
use Rattle.sci_core.specs.declared.receipts.Receipt.{Receipt}
use Rattle.sci_core.specs.declared.receipts.Receipt.TheVariants.{Read}
use Rattle.sci_port.specs.declared.calls.Call.{Call}
use Rattle.sci_port.specs.KeepsAll.{Extends, IsNewLast}
use Rattle.sci_port.specs.KeepsTo.{apart, is_passed}
use Rattle.sci_port.specs.Readying.{Readying}
use Rattle.sci_port.specs.ReceiptList.{ReceiptList}
use Rattle.sci_ops.specs.declared.answers.Answer.{Answer}
use Rattle.sci_ops.specs.Room.{is_passing}
use Rattle.sci_cache.specs.declared.calls.OpenCall.{OpenCall}
use Rattle.sci_cache.specs.declared.refusals.NodeRefusal.{NodeRefusal}
use Rattle.sci_cache.specs.declared.requests.Request.{Request}
use Rattle.sci_cache.specs.Called.{HasNeeds, KeepsRequest, LeavesBut, LeavesOthers, need_on}
use Rattle.sci_cache.specs.Nodes.{NodeState, victim_with}
use Rattle.sci_cache.specs.Requests.{line_of}

-- a list in which two Passed stand together is none of a node's
abbrev pub NoTwoPassed : Type 0
NoTwoPassed = (front more : List Receipt) (one other : Receipt) → is_passed one ≡ true → is_passed other ≡ true → apart (front ++ one ∷ other ∷ more) ≡ true → ⊥

-- a receipt that stood there is no new one
abbrev pub LastIsNew : Type 0
LastIsNew = (before : List Receipt) (receipt : Receipt) → IsNewLast before receipt before → ⊥

-- an open call whose lines, two if there is a victim, have their marks
pub record IsMarked (c : OpenCall) (receipts : ℕ → ReceiptList) : Type 0 where
  pub line : (receipts c.line).passing ≡ is_passing c.goal
  pub exit : IfSome c.victim (λ w. (receipts w).passing ≡ true)
  pub apart : IfSome c.victim (λ w. c.line ≢ w)

-- with them, and with the room on each line that `Node::need` tells, it has what it needs
abbrev pub NeedIsEnough : Type 0
NeedIsEnough = (c : OpenCall) (step : ℕ → Pending) (receipts : ℕ → ReceiptList) → IsMarked c receipts → ((m : ℕ) → need_on (Some c) step receipts m ≤ (receipts m).room) → HasNeeds c step receipts

-- a load's answer is one Read more, at the end
abbrev pub LoadAddsRead : {U : Type 0} → (U → ℕ → Call → U → Type 0) → (U → ℕ → Readying → U → Type 0) → (U → ℕ → ReceiptList) → Type 0
LoadAddsRead {U} gives readies receipts = (line : ℕ) (u v : U) (words : List ℕ) (stamp : ℕ)
    → KeepsRequest gives readies receipts (Request.Load line) u (Ok (Answer.Seen words stamp)) v → (front : List Receipt) × Extends (receipts u line).list front × ((receipts v line).list ≡ front ++ Read words stamp ∷ [])

-- where no line is put out, the receipts of every line but the request's stay
abbrev pub OthersStay : {U : Type 0} → (U → ℕ → ReceiptList) → Type 0
OthersStay {U} receipts = (n : NodeState) (request : Request) (u v : U) → LeavesOthers receipts n request u v → victim_with n request ≡ None → (m : ℕ) → m ≢ line_of request → receipts v m ≡ receipts u m

-- want of memory leaves each list and mark
abbrev pub RefusalLeavesLists : {U : Type 0} → (U → ℕ → ReceiptList) → Type 0
RefusalLeavesLists {U} receipts = (u v : U) → LeavesBut receipts NodeRefusal.OutOfMemory u v → (m : ℕ) → ((receipts v m).list ≡ (receipts u m).list) × ((receipts v m).passing ≡ (receipts u m).passing)
