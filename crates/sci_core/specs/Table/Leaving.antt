-- The rows of a head on its way out.
use Rattle.std.specs.Prelude.{ℕ, Bool, true, false, ◌&&◌, not, cond, Option, Some, None}
use Rattle.sci_core.specs.declared.lines.Line.{Line}
use Rattle.sci_core.specs.declared.pending.Pending.{Pending}
use Rattle.sci_core.specs.declared.events.Event.{Event}
use Rattle.sci_core.specs.declared.rows.Change.TheVariants.{OfMemory, OfTag}
use Rattle.sci_core.specs.declared.rows.Place.TheVariants.{Memory, Node}
use Rattle.sci_core.specs.State.{invalid, lent_word, blank}
use Rattle.sci_core.specs.Found.{names, is_settled_body, is_found}
use Rattle.sci_core.specs.Row.{Row, stays, takes, gives, queued_word, leaving_word, settled_word, listed, home, no_row}

-- the node has seen its forward link
abbrev pub leaving_allows : ℕ → Bool → Event → Option (Option ℕ) → Bool
leaving_allows me d (Event.Promote t) (Some (Some x)) = is_found is_settled_body t && names me t.back
leaving_allows me d Event.Stay (Some f) = true
leaving_allows me d Event.ReturnHomeFresh (Some None) = not d
leaving_allows me d Event.ReturnHomeDirty (Some None) = d
leaving_allows me d _ seen = false

abbrev pub leaving_row : ℕ → Bool → Line → Event → Option (Option ℕ) → Row
leaving_row me d l (Event.Promote t) (Some (Some x)) = stays (OfTag x t (settled_word d t.forw)) (Pending.Promoted d l x)
leaving_row me d l Event.Stay (Some f) = gives (OfTag me (leaving_word f) (settled_word d f)) (Node me) l Pending.Idle
leaving_row me d l Event.ReturnHomeFresh (Some None) = stays (OfMemory (listed false me) home) (Pending.Parted None)
leaving_row me d l Event.ReturnHomeDirty (Some None) = takes (OfMemory (listed true me) (lent_word home)) Memory (λ _. Pending.WritingBack l)
leaving_row me d l _ seen = no_row

abbrev pub promoted_allows : Event → Bool
promoted_allows Event.PassOn = true
promoted_allows Event.ReEnter = true
promoted_allows _ = false

abbrev pub promoted_row : ℕ → Bool → Line → ℕ → Event → Row
promoted_row me d l x Event.PassOn = stays (OfMemory (listed d me) (listed d x)) (Pending.Parted (Some x))
promoted_row me d l x Event.ReEnter = stays (OfTag me (leaving_word (Some x)) (queued_word (Some x))) (Pending.InQueue (Some x) d (cond d None (Some l)))
promoted_row me d l x _ = no_row

abbrev pub writing_back_allows : Event → Bool
writing_back_allows Event.ReturnMemory = true
writing_back_allows _ = false

abbrev pub writing_back_row : Line → Event → Row
writing_back_row l Event.ReturnMemory = gives (OfMemory (lent_word home) home) Memory l (Pending.Parted None)
writing_back_row l _ = no_row

abbrev pub parted_allows : Event → Bool
parted_allows Event.Left = true
parted_allows _ = false

abbrev pub parted_row : ℕ → Option ℕ → Event → Row
parted_row me f Event.Left = gives (OfTag me (leaving_word f) invalid) (Node me) blank Pending.Idle
parted_row me f _ = no_row
