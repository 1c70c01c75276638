-- A node's work of which its receipts keep all. This project's profile.
use Rattle.std.specs.Prelude.{◌≡◌, ◌⊎◌, ℕ, true, cond, List, [], ◌∷◌, ◌++◌}
use Rattle.sci_core.specs.declared.receipts.Receipt.{Receipt}
use Rattle.sci_core.specs.Legal.{is_write}
use Rattle.sci_port.specs.declared.calls.Call.{Call}
use Rattle.sci_port.specs.KeepsTo.{is_passed}
use Rattle.sci_port.specs.Readying.{Readying}
use Rattle.sci_port.specs.ReceiptList.{ReceiptList, HasRoomFor}

-- the writes among receipts
abbrev pub writes_in : List Receipt → List Receipt
writes_in [] = []
writes_in (r ∷ rs) = cond (is_write r) (r ∷ writes_in rs) (writes_in rs)

-- what stood in a list stands in front in a later one
pub record HasBehind (before after : List Receipt) : Type 0 where
  pub more : List Receipt
  pub is : after ≡ before ++ more

-- the same, but another Passed stands in the place of one at its end
pub record HasInPlace (before after : List Receipt) : Type 0 where
  pub front : List Receipt
  pub last : Receipt
  pub by : Receipt
  pub more : List Receipt
  pub was : before ≡ front ++ last ∷ []
  pub was_passed : is_passed last ≡ true
  pub is_passed_by : is_passed by ≡ true
  pub is : after ≡ front ++ by ∷ more

-- one of these
abbrev pub Extends : List Receipt → List Receipt → Type 0
Extends before after = HasBehind before after ⊎ HasInPlace before after

-- the receipt is the last, behind what stood there
pub record IsNewLast (before : List Receipt) (receipt : Receipt) (after : List Receipt) : Type 0 where
  pub front : List Receipt
  pub extends : Extends before front
  pub is : after ≡ front ++ receipt ∷ []

-- calls of a port, one after another, each of which finds room for its receipt
abbrev pub RoomyChain : {S : Type 0} → (S → Call → S → Type 0) → (S → ReceiptList) → S → List Call → S → Type 0
RoomyChain gives receipts s [] t = t ≡ s
RoomyChain {S} gives receipts s (c ∷ cs) t = (mid : S) × gives s c mid × HasRoomFor c (receipts s) × RoomyChain gives receipts mid cs t

-- from one bank to another by calls that ready the receipts of lines, and no others
pub data IsReadied {U : Type 0} (readies : U → ℕ → Readying → U → Type 0) : U → U → Type 0 where
  as_it_was : {u : U} → IsReadied readies u u
  readied_on : {u w v : U} → (line : ℕ) → (r : Readying) → readies u line r w → IsReadied readies w v → IsReadied readies u v

-- from one bank to another by calls on lines, each of which finds room for its receipt, and by such as ready the receipts
pub data KeepsAll {U : Type 0} (gives : U → ℕ → Call → U → Type 0) (readies : U → ℕ → Readying → U → Type 0) (receipts : U → ℕ → ReceiptList) : U → U → Type 0 where
  keeps_none : {u : U} → KeepsAll gives readies receipts u u
  keeps_call : {u w v : U} → (line : ℕ) → (call : Call) → gives u line call w → HasRoomFor call (receipts u line) → KeepsAll gives readies receipts w v → KeepsAll gives readies receipts u v
  keeps_ready : {u w v : U} → (line : ℕ) → (r : Readying) → readies u line r w → KeepsAll gives readies receipts w v → KeepsAll gives readies receipts u v
