-- The rows of a node that is Idle or Holding.
use Rattle.std.specs.Prelude.{ℕ, Bool, true, false, None}
use Rattle.sci_words.specs.declared.tags.Kind.{Kind}
use Rattle.sci_words.specs.declared.tags.Tag.{Tag}
use Rattle.sci_core.specs.declared.lines.Line.{Line}
use Rattle.sci_core.specs.declared.pending.Pending.{Pending}
use Rattle.sci_core.specs.declared.events.Event.{Event}
use Rattle.sci_core.specs.declared.rows.Change.TheVariants.{OfTag}
use Rattle.sci_core.specs.declared.rows.Place.TheVariants.{Node}
use Rattle.sci_core.specs.State.{invalid, word, held_word, unheld_word}
use Rattle.sci_words.specs.Tag.{link_below}
use Rattle.sci_core.specs.Found.{is_fresh, is_dirty, is_settled_front, is_settled_body, is_settled, is_found}
use Rattle.sci_core.specs.Row.{Row, stays, takes, takes_and_answers, gives_and_answers, queued_word, purging_word, leaving_word, no_row}

abbrev pub idle_allows : ℕ → Event → Bool
idle_allows n (Event.Queue f) = link_below n f
idle_allows n (Event.Hold t) = is_found is_settled t
idle_allows n (Event.Convert t) = is_found is_fresh t
idle_allows n (Event.BeginPurge t) = is_found is_dirty t
idle_allows n (Event.Roll t) = is_found is_settled_body t
idle_allows n (Event.Leave t) = is_found is_settled_front t
idle_allows n _ = false

abbrev pub idle_row : ℕ → Event → Row
idle_row me (Event.Queue f) = takes (OfTag me invalid (queued_word f)) (Node me) (λ _. Pending.Queueing f)
idle_row me (Event.Hold t) = takes (OfTag me t (held_word t)) (Node me) (λ y. Pending.Holding t y)
idle_row me (Event.Convert t) = stays (OfTag me t (word Kind.Convert t.forw None)) (Pending.Converting t.forw false)
idle_row me (Event.BeginPurge t) = takes_and_answers (OfTag me t (purging_word t.forw)) (Node me) (λ y. Pending.Purging y None)
idle_row me (Event.Roll t) = stays (OfTag me t (word Kind.Roll t.forw t.back)) (Pending.Rolling false None)
idle_row me (Event.Leave t) = takes (OfTag me t (leaving_word t.forw)) (Node me) (λ y. Pending.Leaving (is_dirty t.kind) y None)
idle_row me _ = no_row

abbrev pub holding_allows : Event → Bool
holding_allows Event.Unhold = true
holding_allows _ = false

abbrev pub holding_row : ℕ → Tag → Line → Event → Row
holding_row me w l Event.Unhold = gives_and_answers (OfTag me (held_word w) (unheld_word w)) (Node me) l Pending.Idle
holding_row me w l _ = no_row
