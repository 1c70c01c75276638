-- The rows of a node that prepends itself and copies memory's bytes.
use Rattle.std.specs.Prelude.{ℕ, Bool, true, false, Option, Some, None, is_some}
use Rattle.std.specs.Option.{is_none}
use Rattle.sci_core.specs.declared.lines.Line.{Line}
use Rattle.sci_core.specs.declared.pending.Pending.{Pending}
use Rattle.sci_core.specs.declared.events.Event.{Event}
use Rattle.sci_core.specs.declared.rows.Change.TheVariants.{OfMemory, OfTag}
use Rattle.sci_core.specs.declared.rows.Place.TheVariants.{Memory}
use Rattle.sci_core.specs.State.{lent_word}
use Rattle.sci_words.specs.Tag.{link_below}
use Rattle.sci_core.specs.Row.{Row, stays, takes, gives, queued_word, listed, home, home_or_listed, no_row}

abbrev pub queueing_allows : ℕ → Option ℕ → Event → Bool
queueing_allows n f (Event.Requeue g) = link_below n g
queueing_allows n f Event.PrependValid = true
queueing_allows n f Event.PrependGone = is_some f
queueing_allows n f Event.HomeWrite = is_none f
queueing_allows n f _ = false

abbrev pub queueing_row : ℕ → Event → Option ℕ → Row
queueing_row me (Event.Requeue g) f = stays (OfTag me (queued_word f) (queued_word g)) (Pending.Queueing g)
queueing_row me Event.PrependValid f = takes (OfMemory (home_or_listed f) (lent_word (listed false me))) Memory (λ y. Pending.Fetching f false y)
queueing_row me Event.PrependGone (Some x) = stays (OfMemory (listed true x) (listed true me)) (Pending.InQueue (Some x) true None)
queueing_row me Event.HomeWrite None = takes (OfMemory home (lent_word (listed true me))) Memory (λ y. Pending.Fetching None true y)
queueing_row me _ f = no_row

abbrev pub fetching_allows : Event → Bool
fetching_allows Event.ReturnMemory = true
fetching_allows _ = false

abbrev pub fetching_row : ℕ → Option ℕ → Bool → Line → Event → Row
fetching_row me f d l Event.ReturnMemory = gives (OfMemory (lent_word (listed d me)) (listed d me)) Memory l (Pending.InQueue f d (Some l))
fetching_row me f d l _ = no_row
