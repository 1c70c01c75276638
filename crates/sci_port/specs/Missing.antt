-- What a miss tells of the row's own word. This project's profile of IEEE Std 1596-1992.
use Rattle.std.specs.Prelude.{◌≢◌, ◌≤◌, ℕ}
use Rattle.sci_words.specs.Codes.{tag_code, mem_code}
use Rattle.sci_core.specs.declared.pending.Pending.{Pending}
use Rattle.sci_core.specs.declared.events.Event.{Event}
use Rattle.sci_core.specs.declared.outcomes.Outcome.{Outcome}
use Rattle.sci_core.specs.declared.rows.Change.{Change}
use Rattle.sci_core.specs.declared.whole.TheConstants.{MOST_NODES}
use Rattle.sci_core.specs.Table.{row_of}
use Rattle.sci_core.specs.WellFormed.{IsMem, IsTag}

-- this is not the code of the change's word before, where that is a word of a line of n nodes
abbrev pub IsNotBefore : ℕ → ℕ → Change → Type 0
IsNotBefore n code (Change.OfMemory before after) = IsMem n before → code ≢ mem_code before
IsNotBefore n code (Change.OfTag x before after) = IsTag n before → code ≢ tag_code before

-- a word that was missed is not the one that the event's row was to find, on a line of n nodes, up to so many as a line may have
abbrev pub MissesOther : ℕ → ℕ → Pending → Event → Outcome → Type 0
MissesOther n me p e (Outcome.Missed word) = n ≤ MOST_NODES → IsNotBefore n word (row_of me p e).change
MissesOther n me p e o = Unit {0}
