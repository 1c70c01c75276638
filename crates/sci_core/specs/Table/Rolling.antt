-- The rows of a body entry on its way out.
use Rattle.std.specs.Prelude.{ℕ, Bool, true, false, ◌&&◌, ◌||◌, not, Option, Some, is_some, is_none}
use Rattle.sci_words.specs.declared.tags.Kind.{Kind}
use Rattle.sci_core.specs.declared.pending.Pending.{Pending}
use Rattle.sci_core.specs.declared.events.Event.{Event}
use Rattle.sci_core.specs.declared.rows.Change.TheVariants.{OfTag}
use Rattle.sci_core.specs.State.{invalid, word}
use Rattle.sci_core.specs.Found.{names, is_settled_body, can_be_told, is_found}
use Rattle.sci_core.specs.Row.{Row, stays, no_row}

abbrev pub rolling_allows : ℕ → Bool → Event → Option (Option ℕ × ℕ) → Bool
rolling_allows me told (Event.TellSuccessor t) (Some seen) = (not told && is_some seen.0) && (is_found is_settled_body t && names me t.back)
rolling_allows me told (Event.TellPredecessor t) (Some seen) = (told || is_none seen.0) && (is_found can_be_told t && names me t.forw)
rolling_allows me told _ seen = false

abbrev pub rolling_row : Event → Option (Option ℕ × ℕ) → Row
rolling_row (Event.TellSuccessor t) (Some (Some x, b)) = stays (OfTag x t (word Kind.Valid t.forw (Some b))) (Pending.Rolling true (Some (Some x, b)))
rolling_row (Event.TellPredecessor t) (Some (f, b)) = stays (OfTag b t (word t.kind f t.back)) (Pending.Unlinked f b)
rolling_row _ seen = no_row

abbrev pub unlinked_allows : Event → Bool
unlinked_allows Event.Rolled = true
unlinked_allows _ = false

abbrev pub unlinked_row : ℕ → Option ℕ → ℕ → Event → Row
unlinked_row me f b Event.Rolled = stays (OfTag me (word Kind.Roll f (Some b)) invalid) Pending.Idle
unlinked_row me f b _ = no_row
