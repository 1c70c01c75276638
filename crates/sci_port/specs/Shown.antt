-- What the calls of a node show of the line's value, as receipts. This project's profile of IEEE Std 1596-1992.
use Rattle.std.specs.Prelude.{◌≡◌, ℕ, ◌+◌, Option, Some, None, List, [], ◌∷◌, ◌++◌}
use Rattle.sci_core.specs.declared.lines.Line.{Line}
use Rattle.sci_core.specs.declared.pending.Pending.{Pending}
use Rattle.sci_core.specs.declared.events.Event.{Event}
use Rattle.sci_core.specs.declared.outcomes.Outcome.{Outcome}
use Rattle.sci_core.specs.declared.receipts.Receipt.{Receipt}
use Rattle.sci_core.specs.declared.receipts.Receipt.TheVariants.{Read, Passed, Wrote}
use Rattle.sci_port.specs.declared.calls.Call.{Call}
use Rattle.sci_port.specs.declared.calls.Call.TheVariants.{Stepped}

-- the line that the node was answered last, k before the call
abbrev pub kept_after : Line → Call → Line
kept_after k (Stepped e (Outcome.Done (Some line))) = line
kept_after k call = k

-- what a call shows: the line that Settle or Unhold answers; and of a write the words that it replaces, which are those of the
-- line that the node was answered last, and the words written, with the next stamp
abbrev pub shown_by : Line → Call → List Receipt
shown_by k (Stepped Event.Unhold (Outcome.Done (Some line))) = Read line.words line.stamp ∷ []
shown_by k (Stepped Event.Settle (Outcome.Done (Some line))) = Read line.words line.stamp ∷ []
shown_by k (Stepped (Event.Written (Some words)) (Outcome.Done answer)) = Wrote k.words words (k.stamp + 1) ∷ []
shown_by k call = []

-- what a log of one node's calls shows, call by call, where the node was answered k last
abbrev pub shown_in : Line → List (ℕ × Call) → List Receipt
shown_in k [] = []
shown_in k (c ∷ cs) = shown_by k c.1 ++ shown_in (kept_after k c.1) cs

-- the same, but that what a settle answers is only passed: as that it may be kept
abbrev pub told_by : Line → Call → List Receipt
told_by k (Stepped Event.Settle (Outcome.Done (Some line))) = Passed line.words line.stamp ∷ []
told_by k call = shown_by k call

abbrev pub told_in : Line → List (ℕ × Call) → List Receipt
told_in k [] = []
told_in k (c ∷ cs) = told_by k c.1 ++ told_in (kept_after k c.1) cs

-- the line that was answered last in it
abbrev pub kept_in : Line → List (ℕ × Call) → Line
kept_in k [] = k
kept_in k (c ∷ cs) = kept_in (kept_after k c.1) cs

-- the line that a step is to write over, if it is to write, else k
abbrev pub to_write_over : Pending → Line → Line
to_write_over (Pending.Purging line seen) k = line
to_write_over (Pending.Advancing line victim word) k = line
to_write_over (Pending.Clearing line victim word) k = line
to_write_over p k = k

-- a node that is to write was answered the line that it is to write over, and no other since
abbrev pub HasKept : Pending → Line → Type 0
HasKept p k = to_write_over p k ≡ k

-- the calls among steps of another kind, such as those of a lock word
abbrev pub with_call : Option Call → ℕ → List (ℕ × Call) → List (ℕ × Call)
with_call None n cs = cs
with_call (Some c) n cs = (n, c) ∷ cs

abbrev pub calls_by : {E : Type 0} → (E → Option Call) → List (ℕ × E) → List (ℕ × Call)
calls_by f [] = []
calls_by f (e ∷ es) = with_call (f e.1) e.0 (calls_by f es)
