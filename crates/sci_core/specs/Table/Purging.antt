-- The rows of a head that purges the entries behind it, one after another, and writes.
use Rattle.std.specs.Prelude.{ℕ, ◌+◌, Bool, true, false, ◌&&◌, ◌||◌, not, ltb, List, Option, Some, None, is_none}
use Rattle.sci_words.specs.declared.tags.Kind.{Kind}
use Rattle.sci_words.specs.declared.tags.Tag.{Tag}
use Rattle.sci_core.specs.declared.lines.Line.{Line}
use Rattle.sci_core.specs.declared.pending.Pending.{Pending}
use Rattle.sci_core.specs.declared.events.Event.{Event}
use Rattle.sci_core.specs.declared.rows.Change.TheVariants.{OfTag}
use Rattle.sci_core.specs.declared.rows.Place.TheVariants.{Node}
use Rattle.sci_core.specs.State.{invalid, word}
use Rattle.sci_core.specs.Found.{names, is_settled_body, is_rolling, is_found}
use Rattle.sci_core.specs.Row.{Row, stays, gives, purging_word, purged_word, settled_word, no_row}

-- the stamp can count one more write
abbrev pub can_count : Line → Bool
can_count l = ltb l.stamp 18446744073709551615

-- the line after a write of these words
abbrev pub written : Line → Option (List ℕ) → Line
written l (Some words) = record { words = words; stamp = l.stamp + 1 }
written l None = l

-- the node has seen its forward link, and there was an entry, or there was none
abbrev pub saw_entry : Option (Option ℕ) → Bool
saw_entry (Some (Some x)) = true
saw_entry _ = false

abbrev pub saw_none : Option (Option ℕ) → Bool
saw_none (Some None) = true
saw_none _ = false

abbrev pub purging_allows : ℕ → Line → Event → Option (Option ℕ) → Bool
purging_allows me l (Event.Written words) seen = saw_none seen && (is_none words || can_count l)
purging_allows me l (Event.PurgeOne t) seen = saw_entry seen && is_found is_settled_body t
purging_allows me l (Event.Adopt t) seen = (saw_entry seen && is_found is_rolling t) && not (names me t.back)
purging_allows me l _ seen = false

abbrev pub purging_row : ℕ → Line → Event → Option (Option ℕ) → Row
purging_row me l (Event.Written words) seen = gives (OfTag me (purging_word None) (settled_word true None)) (Node me) (written l words) Pending.Idle
purging_row me l (Event.PurgeOne t) (Some (Some x)) = stays (OfTag x t (purged_word t)) (Pending.Advancing l x (purged_word t))
purging_row me l (Event.Adopt t) (Some (Some x)) = stays (OfTag x t (word Kind.Roll t.forw (Some me))) (Pending.Purging l (Some (Some x)))
purging_row me l _ seen = no_row

abbrev pub advancing_allows : Event → Bool
advancing_allows Event.Advance = true
advancing_allows _ = false

abbrev pub advancing_row : ℕ → Line → ℕ → Tag → Event → Row
advancing_row me l x w Event.Advance = stays (OfTag me (purging_word (Some x)) (purging_word w.forw)) (Pending.Clearing l x w)
advancing_row me l x w _ = no_row

abbrev pub clearing_allows : Event → Bool
clearing_allows Event.Clear = true
clearing_allows _ = false

abbrev pub clearing_row : Line → ℕ → Tag → Event → Row
clearing_row l x w Event.Clear = stays (OfTag x (purged_word w) invalid) (Pending.Purging l None)
clearing_row l x w _ = no_row
