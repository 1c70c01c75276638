-- The rows of a node in the list that attaches the entry behind it and settles.
use Rattle.std.specs.Prelude.{ℕ, Bool, true, false, ◌&&◌, not, Option, Some, None, is_some, is_none}
use Rattle.sci_words.specs.declared.tags.Tag.{Tag}
use Rattle.sci_core.specs.declared.lines.Line.{Line}
use Rattle.sci_core.specs.declared.pending.Pending.{Pending}
use Rattle.sci_core.specs.declared.events.Event.{Event}
use Rattle.sci_core.specs.declared.rows.Change.TheVariants.{OfTag}
use Rattle.sci_core.specs.declared.rows.Place.TheVariants.{Node}
use Rattle.sci_core.specs.State.{held_word, unheld_word}
use Rattle.sci_core.specs.Found.{is_fresh, is_dirty, is_found}
use Rattle.sci_core.specs.Row.{Row, stays, takes, gives, gives_and_answers, queued_word, attached, settled_word, no_row}

abbrev pub in_queue_allows : Event → Option ℕ → Bool → Option Line → Bool
in_queue_allows (Event.AttachFresh t) f d c = (is_some f && (not d && is_some c)) && is_found is_fresh t
in_queue_allows (Event.AttachDirty t) f d c = (is_some f && (d && is_none c)) && is_found is_dirty t
in_queue_allows Event.Settle f d c = is_none f && is_some c
in_queue_allows _ f d c = false

abbrev pub in_queue_row : ℕ → Event → Option ℕ → Bool → Option Line → Row
in_queue_row me (Event.AttachFresh t) (Some x) d (Some l) = stays (OfTag x t (attached me t)) (Pending.Ready (Some x) false l)
in_queue_row me (Event.AttachDirty t) (Some x) d None = takes (OfTag x t (held_word (attached me t))) (Node x) (λ y. Pending.Copying x (held_word (attached me t)) y)
in_queue_row me Event.Settle None d (Some l) = gives_and_answers (OfTag me (queued_word None) (settled_word d None)) (Node me) l Pending.Idle
in_queue_row me _ f d c = no_row

abbrev pub copying_allows : Event → Bool
copying_allows Event.ReturnCopy = true
copying_allows _ = false

abbrev pub copying_row : ℕ → Tag → Line → Event → Row
copying_row x w l Event.ReturnCopy = gives (OfTag x w (unheld_word w)) (Node x) l (Pending.Ready (Some x) true l)
copying_row x w l _ = no_row

abbrev pub ready_allows : Event → Bool
ready_allows Event.Settle = true
ready_allows _ = false

abbrev pub ready_row : ℕ → Option ℕ → Bool → Line → Event → Row
ready_row me f d l Event.Settle = gives_and_answers (OfTag me (queued_word f) (settled_word d f)) (Node me) l Pending.Idle
ready_row me f d l _ = no_row
