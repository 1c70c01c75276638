-- What the receipts of any run of calls on a line tell. Coherence as in Culler and Singh; the rows are this project's profile of IEEE
-- Std 1596-1992.
use Rattle.std.specs.Prelude.{◌≡◌, ℕ, ◌<◌, List, [], ◌∷◌, ◌++◌, All}
use Rattle.sci_core.specs.declared.lines.Line.{Line}
use Rattle.sci_core.specs.declared.pending.Pending.{Pending}
use Rattle.sci_core.specs.declared.receipts.Receipt.{Receipt}
use Rattle.sci_core.specs.Run.{HasValue}
use Rattle.sci_core.specs.State.{State, opened, blank}
use Rattle.sci_port.specs.declared.calls.Call.{Call}
use Rattle.sci_port.specs.History.{value_of}
use Rattle.sci_port.specs.Owes.{Owes}
use Rattle.sci_port.specs.ReceiptList.{ReceiptList, Receives, AreReceiptsOf}
use Rattle.sci_port.specs.Receipts.{IsWhole, AllWriteBy, sum_below, times, writes_of}
use Rattle.sci_port.specs.Runs.{Leads, done_by}
use Rattle.sci_port.specs.Shown.{shown_in}
use Rattle.sci_port.specs.Solo.{Gives}

-- calls of the nodes below n, one after another, from a line that was opened with fitting words
pub record IsRun (n : ℕ) (fits : List ℕ → Type 0) (opening : Line) (run : List (ℕ × Call)) (s : State) : Type 0 where
  pub fit : fits opening.words
  pub below : All (λ c. c.0 < n) run
  pub leads : Leads (Gives n fits) (opened n opening) run s

-- what the calls of a run show is one history, whole, from the opening line to the value at the end
abbrev pub ShowsOneHistory : {K : Type 0} → (K → ℕ → List ℕ → Type 0) → Type 0
ShowsOneHistory {K} fits = (keep : K) (number n : ℕ) (opening : Line) (run : List (ℕ × Call)) (s : State) → IsRun n (fits keep number) opening run s
    → HasValue n (fits keep number) s (value_of opening run) × IsWhole n opening (value_of opening run) (λ j. shown_in blank (done_by j run))

-- so are the receipts of all nodes, where each node's are those of its calls
abbrev pub KeepsOneHistory : {K : Type 0} → (K → ℕ → List ℕ → Type 0) → Type 0
KeepsOneHistory {K} fits = (keep : K) (number n : ℕ) (opening : Line) (run : List (ℕ × Call)) (s : State) (receipts : ℕ → ReceiptList) → IsRun n (fits keep number) opening run s
    → ((j : ℕ) → AreReceiptsOf (done_by j run) (s.steps j) (receipts j)) → IsWhole n opening (value_of opening run) (λ j. (receipts j).list)

-- no receipts are those of no calls
abbrev pub BeginsReceipts : Type 0
BeginsReceipts = (s : ReceiptList) → s.list ≡ [] → AreReceiptsOf [] Pending.Idle s

-- and a call of any port that leaves in them what it is to leave makes them those of one call more, wherever it stands in the run
abbrev pub ReceivesTruly : {K : Type 0} → (K → ℕ → List ℕ → Type 0) → Type 0
ReceivesTruly {K} fits = (keep : K) (number n me : ℕ) (p q : Pending) (log : List (ℕ × Call)) (place : ℕ) (call : Call) (s t : ReceiptList) → Owes n (fits keep number) me p call q → Receives p call s t
    → AreReceiptsOf log p s → AreReceiptsOf (log ++ (place, call) ∷ []) q t

-- where every write makes f of the words before it, the words at the end are f of the opening words, as often as there are writes
abbrev pub CountsWrites : Type 0
CountsWrites = (n : ℕ) (opening value : Line) (lists : ℕ → List Receipt) (f : List ℕ → List ℕ) → IsWhole n opening value lists → AllWriteBy f lists
    → value.words ≡ times f (sum_below n (λ j. writes_of (lists j))) opening.words
