-- How much room an operation needs for its receipts, and what a turn keeps where it has that. This project's profile.
use Rattle.std.specs.Prelude.{◌≡◌, ℕ, suc, ◌≤◌, Bool, true, false, Option, Some, None, List, [], ◌∷◌, ◌++◌}
use Rattle.sci_core.specs.declared.pending.Pending.{Pending}
use Rattle.sci_core.specs.declared.receipts.Receipt.{Receipt}
use Rattle.sci_core.specs.declared.receipts.Receipt.TheVariants.{Wrote}
use Rattle.sci_port.specs.declared.calls.Call.{Call}
use Rattle.sci_port.specs.KeepsAll.{Extends, RoomyChain, writes_in}
use Rattle.sci_port.specs.ReceiptList.{ReceiptList, last_passed}
use Rattle.sci_ops.specs.declared.goals.Goal.{Goal}
use Rattle.sci_ops.specs.declared.answers.Answer.{Answer}
use Rattle.sci_ops.specs.declared.answers.Turn.{Turn}
use Rattle.sci_ops.specs.Change.{change}
use Rattle.sci_ops.specs.Operation.{Operation}
use Rattle.sci_ops.specs.Table.{after_turn}

-- the mark for a goal: what a load settles with is read, what others settle with on their way is only passed
abbrev pub is_passing : Goal → Bool
is_passing Goal.Load = false
is_passing goal = true

-- for how many receipts there has to be room until the end: the next settle takes the place of a last receipt that is a Passed, or needs
-- one more
abbrev pub need_towards : Goal → Bool → ℕ
need_towards Goal.Load passed = 1
need_towards (Goal.Write write) true = 1
need_towards (Goal.Write write) false = 2
need_towards Goal.Evict true = 0
need_towards Goal.Evict false = 1

-- a line that is still held is read first, which a load ends with
abbrev pub need_in : Goal → Pending → ReceiptList → ℕ
need_in Goal.Load p s = need_towards Goal.Load false
need_in goal (Pending.Holding word line) s = suc (need_towards goal false)
need_in goal p s = need_towards goal (last_passed s.list)

-- none after the end
abbrev pub need_until : Goal → Option Answer → Pending → ReceiptList → ℕ
need_until goal (Some answer) p s = 0
need_until goal None p s = need_in goal p s

abbrev pub need_of : Operation → Pending → ReceiptList → ℕ
need_of op p s = need_until op.goal op.answer p s

-- an operation that goes on has the mark set for its goal, and the room that it needs
pub record HasNeed (goal : Goal) (p : Pending) (s : ReceiptList) : Type 0 where
  pub mark : s.passing ≡ is_passing goal
  pub room : need_in goal p s ≤ s.room

abbrev pub IsProvided : Goal → Option Answer → Pending → ReceiptList → Type 0
IsProvided goal (Some answer) p s = Unit {0}
IsProvided goal None p s = HasNeed goal p s

-- what a turn of an operation that goes on adds to the node's writes
abbrev pub adds_towards : Goal → Turn → List Receipt
adds_towards (Goal.Write write) (Turn.Done (Answer.Wrote old stamp)) = Wrote old (change write old) stamp ∷ []
adds_towards goal turn = []

-- an operation that has ended adds none
abbrev pub adds : Goal → Option Answer → Turn → List Receipt
adds goal (Some answer) turn = []
adds goal None turn = adds_towards goal turn

-- from the port s to t, in the pending step p, a turn of the operation made calls that each found room for its receipt. There is room for
-- what it needs from here on. Of writes it added its own answer alone, and what stood in the list stands there
pub record KeepsTurn {S : Type 0} (gives : S → Call → S → Type 0) (receipts : S → ReceiptList) (op : Operation) (s : S) (turn : Turn) (t : S) (p : Pending) : Type 0 where
  pub calls : List Call
  pub chain : RoomyChain gives receipts s calls t
  pub provided : IsProvided op.goal (after_turn op turn).answer p (receipts t)
  pub writes : writes_in (receipts t).list ≡ writes_in (receipts s).list ++ adds op.goal op.answer turn
  pub extends : Extends (receipts s).list (receipts t).list

-- so far, or to its end, an operation that had the room added its own answer alone to the writes, and what stood in the list stands there
pub record KeepsSoFar (op : Operation) (s : ReceiptList) (turn : Turn) (t : ReceiptList) : Type 0 where
  pub writes : writes_in t.list ≡ writes_in s.list ++ adds op.goal op.answer turn
  pub extends : Extends s.list t.list
