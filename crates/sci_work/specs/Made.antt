-- What a worker has done through its node and its bank: calls that waited for their end, and looks, one after another.
use Rattle.std.specs.Prelude.{◌≡◌, ℕ, ◌≤◌, Bool, true, Option, Result, Ok, Err, None, List, [], ◌∷◌}
use Rattle.sci_words.specs.declared.tags.Tag.{Tag}
use Rattle.sci_core.specs.declared.pending.Pending.{Pending}
use Rattle.sci_port.specs.declared.calls.Call.{Call}
use Rattle.sci_port.specs.declared.calls.Call.TheVariants.{Own}
use Rattle.sci_port.specs.Banks.{BankWay}
use Rattle.sci_port.specs.KeepsAll.{IsReadied, KeepsAll}
use Rattle.sci_port.specs.Readying.{Readying}
use Rattle.sci_port.specs.ReceiptList.{ReceiptList}
use Rattle.sci_ops.specs.declared.answers.Answer.{Answer}
use Rattle.sci_cache.specs.declared.refusals.NodeRefusal.{NodeRefusal}
use Rattle.sci_cache.specs.declared.requests.Request.{Request}
use Rattle.sci_cache.specs.Nodes.{NodeState, Waits}
use Rattle.sci_work.specs.declared.refusals.WorkRefusal.{WorkRefusal}
use Rattle.sci_work.specs.Written.{HasWrote}

-- the bank is the node's, and the node has no call open
pub record IsBankOf (way : BankWay) (n : NodeState) : Type 0 where
  pub node : way.node ≡ n.id
  pub lines : way.lines ≡ n.lines
  pub closed : n.call ≡ None

-- from one bank to another by calls on lines, and by such as ready receipts
pub data IsReached {U : Type 0} (gives : U → ℕ → Call → U → Type 0) (readies : U → ℕ → Readying → U → Type 0) : U → U → Type 0 where
  stays : {u : U} → IsReached gives readies u u
  by_call : {u w v : U} → (line : ℕ) → (call : Call) → gives u line call w → IsReached gives readies w v → IsReached gives readies u v
  by_readying : {u w v : U} → (line : ℕ) → (r : Readying) → readies u line r w → IsReached gives readies w v → IsReached gives readies u v

-- from the bank u to v, a node that was Idle on every line is so again, and its receipts keep all that it did, if it keeps any
pub record RestsAgain {U : Type 0} (keeps : Bool) (step : U → ℕ → Pending) (gives : U → ℕ → Call → U → Type 0) (readies : U → ℕ → Readying → U → Type 0) (receipts : U → ℕ → ReceiptList) (u v : U) : Type 0 where
  pub idle : ((line : ℕ) → step u line ≡ Pending.Idle) → (line : ℕ) → step v line ≡ Pending.Idle
  pub kept : keeps ≡ true → KeepsAll gives readies receipts u v

-- from the bank u to v it is the node's with no call open still, of as many lines, under the same fact, and at rest if it was; the node
-- keeps receipts as before, or none, and has written this
pub record IsStillBankOf {U K : Type 0} (keeps : Bool) (ws : List (ℕ × List ℕ)) (way : U → BankWay) (keep : U → K) (step : U → ℕ → Pending) (gives : U → ℕ → Call → U → Type 0) (readies : U → ℕ → Readying → U → Type 0) (receipts : U → ℕ → ReceiptList) (u : U) (n : NodeState) (v : U) : Type 0 where
  pub ready : IsBankOf (way v) n
  pub same_keeps : n.keeps ≡ keeps
  pub reached : IsReached gives readies u v
  pub same_way : way v ≡ way u
  pub same_fact : keep v ≡ keep u
  pub rests : RestsAgain keeps step gives readies receipts u v
  pub wrote : keeps ≡ true → HasWrote ws (receipts u) (receipts v)

-- a call on a line that there is, begun where none is open, is refused with 7 or 11
abbrev pub IsLineRefusal : NodeRefusal → Type 0
IsLineRefusal NodeRefusal.OutOfMemory = Unit {0}
IsLineRefusal NodeRefusal.StampsSpent = Unit {0}
IsLineRefusal refusal = ⊥

-- a worker's call refuses with 7, 11, 20 or 25
abbrev pub ComesInCall : WorkRefusal → Type 0
ComesInCall WorkRefusal.BadSettings = ⊥
ComesInCall WorkRefusal.NoThread = ⊥
ComesInCall WorkRefusal.Overrun = ⊥
ComesInCall refusal = Unit {0}

-- a worker that has begun refuses with one of these, or with 19
abbrev pub ComesInWork : WorkRefusal → Type 0
ComesInWork WorkRefusal.BadSettings = ⊥
ComesInWork WorkRefusal.NoThread = ⊥
ComesInWork refusal = Unit {0}

module _ {U : Type 0} (gives : U → ℕ → Call → U → Type 0) (readies : U → ℕ → Readying → U → Type 0) (step : U → ℕ → Pending) where
  -- calls that waited, of which these were writes that ended, the last in front: the line, and its words; room that was made for receipts;
  -- and looks at own tags
  pub data Made : List (ℕ × List ℕ) → NodeState → U → NodeState → U → Type 0 where
    none : {n : NodeState} {u : U} → Made [] n u n u
    ready : {ws : List (ℕ × List ℕ)} {n k : NodeState} {u w v : U} → Made ws n u k w → IsReadied readies w v → Made ws n u k v
    look : {ws : List (ℕ × List ℕ)} {n k : NodeState} {u w v : U} → (line : ℕ) → (tag : Option Tag) → Made ws n u k w → gives w line (Own tag) v → Made ws n u k v
    load : {ws : List (ℕ × List ℕ)} {n k m : NodeState} {u w v : U} → (line : ℕ) → (result : Result Answer NodeRefusal) → Made ws n u k w → Waits gives step k (Request.Load line) w result v m → Made ws n u m v
    write : {ws : List (ℕ × List ℕ)} {n k m : NodeState} {u w v : U} → (line : ℕ) → (words : List ℕ) → (answer : Answer) → Made ws n u k w → Waits gives step k (Request.WriteLine line words) w (Ok answer) v m → Made ((line, words) ∷ ws) n u m v
    refused : {ws : List (ℕ × List ℕ)} {n k m : NodeState} {u w v : U} → (line : ℕ) → (words : List ℕ) → (refusal : NodeRefusal) → Made ws n u k w → Waits gives step k (Request.WriteLine line words) w (Err refusal) v m → Made ws n u m v

  -- calls that waited, of which the writes that ended are the first of these, up to so many
  pub record MadeSome (writes : ℕ → List (ℕ × List ℕ)) (most : ℕ) (n : NodeState) (u : U) (m : NodeState) (v : U) : Type 0 where
    pub count : ℕ
    pub within : count ≤ most
    pub made : Made (writes count) n u m v

-- from the bank u to v any node has only looked at own tags
pub record HasWatched {U K : Type 0} (way : U → BankWay) (keep : U → K) (step : U → ℕ → Pending) (gives : U → ℕ → Call → U → Type 0) (readies : U → ℕ → Readying → U → Type 0) (receipts : U → ℕ → ReceiptList) (u v : U) : Type 0 where
  pub made : (n : NodeState) → Made gives readies step [] n u n v
  pub reached : IsReached gives readies u v
  pub same_way : way v ≡ way u
  pub same_fact : keep v ≡ keep u
  pub rests : RestsAgain true step gives readies receipts u v
  pub same_receipts : (line : ℕ) → receipts v line ≡ receipts u line
