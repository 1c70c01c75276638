-- The rows of a fresh head on its way to write.
use Rattle.std.specs.Prelude.{ℕ, Bool, true, false, not, Option, None}
use Rattle.sci_words.specs.declared.tags.Kind.{Kind}
use Rattle.sci_core.specs.declared.pending.Pending.{Pending}
use Rattle.sci_core.specs.declared.events.Event.{Event}
use Rattle.sci_core.specs.declared.rows.Change.TheVariants.{OfMemory, OfTag}
use Rattle.sci_core.specs.declared.rows.Place.TheVariants.{Node}
use Rattle.sci_core.specs.State.{word}
use Rattle.sci_core.specs.Row.{Row, stays, takes_and_answers, purging_word, settled_word, listed, no_row}

abbrev pub converting_allows : Bool → Event → Bool
converting_allows turned Event.FreshToGone = not turned
converting_allows turned Event.Converted = turned
converting_allows turned Event.Unconverted = not turned
converting_allows turned _ = false

abbrev pub converting_row : ℕ → Option ℕ → Event → Row
converting_row me f Event.FreshToGone = stays (OfMemory (listed false me) (listed true me)) (Pending.Converting f true)
converting_row me f Event.Converted = takes_and_answers (OfTag me (word Kind.Convert f None) (purging_word f)) (Node me) (λ y. Pending.Purging y None)
converting_row me f Event.Unconverted = stays (OfTag me (word Kind.Convert f None) (settled_word false f)) Pending.Idle
converting_row me f _ = no_row
