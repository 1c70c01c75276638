-- A node's ways to lines at each of which it has a seat, and what stays of them where a call is made on one.
use Rattle.std.specs.Prelude.{◌≡◌, ◌≢◌, ℕ, List, length, slice_index_or}
use Rattle.sci_core.specs.declared.pending.Pending.{Pending}
use Rattle.sci_port.specs.declared.calls.Call.{Call}
use Rattle.sci_port.specs.Banks.{BankWay}
use Rattle.sci_port.specs.Owes.{Owes}

-- the fact of the lines, whose seats they are, how many nodes each line has, and the node's pending step on each
pub record Seated (K : Type 0) : Type 0 where
  pub keep : K
  pub node : ℕ
  pub nodes : List ℕ
  pub steps : List Pending

module _ {K : Type 0} where
  abbrev pub seated_way : Seated K → BankWay
  seated_way s = record { node = s.node; lines = length s.nodes }

  abbrev pub nodes_on : Seated K → ℕ → ℕ
  nodes_on s line = slice_index_or s.nodes line 0

  abbrev pub step_on : Seated K → ℕ → Pending
  step_on s line = slice_index_or s.steps line Pending.Idle

  -- a call on one of the lines: it is as a port to that line owes, and all stays but the node's pending step there
  pub record CallsOn (fits : K → ℕ → List ℕ → Type 0) (s : Seated K) (line : ℕ) (call : Call) (t : Seated K) : Type 0 where
    pub way : seated_way t ≡ seated_way s
    pub fact : t.keep ≡ s.keep
    pub nodes : (m : ℕ) → nodes_on t m ≡ nodes_on s m
    pub others : (m : ℕ) → m ≢ line → step_on t m ≡ step_on s m
    pub owes : Owes (nodes_on s line) (fits s.keep line) s.node (step_on s line) call (step_on t line)

  -- a call that readies receipts: all of this stays
  pub record ReadiesOn (s t : Seated K) : Type 0 where
    pub way : seated_way t ≡ seated_way s
    pub fact : t.keep ≡ s.keep
    pub nodes : (m : ℕ) → nodes_on t m ≡ nodes_on s m
    pub steps : (m : ℕ) → step_on t m ≡ step_on s m
