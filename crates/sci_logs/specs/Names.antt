-- The names of events and tags in a log: each reading gives what is named and the text behind it, or nothing. This project's profile.
use Rattle.std.specs.Prelude.{ℕ, Bool, true, false, List, Option, Some, None, codes, if◌then◌else◌}
use Rattle.sci_words.specs.declared.tags.Kind.{Kind}
use Rattle.sci_words.specs.declared.tags.Tag.{Tag}
use Rattle.sci_words.specs.declared.refusals.WordRefusal.{WordRefusal}
use Rattle.sci_words.specs.declared.layouts.Layout.TheVariants.{Two}
use Rattle.sci_words.specs.Codes.{tag_in}
use Rattle.sci_words.specs.Refused.{tag_refusal_in}
use Rattle.sci_core.specs.declared.events.Event.{Event}
use Rattle.sci_dump.specs.Reading.{◌>>=◌, behind, word_at}
use Rattle.sci_logs.specs.declared.told.Asks.{Asks}
use Rattle.sci_logs.specs.declared.told.Found.{Found}

-- this where the text goes on so, or else what else it may be
abbrev pub either : {A : Type 0} → A → Option (List ℕ) → Option (A × List ℕ) → Option (A × List ℕ)
either x (Some rest) other = Some (x, rest)
either x None other = other

abbrev pub first_of : {A : Type 0} → Option A → Option A → Option A
first_of (Some x) other = Some x
first_of None other = other

-- an event on memory's word
unfoldable pub memory_event_at : List ℕ → Option (Event × List ℕ)
memory_event_at text = either Event.PrependValid (behind (codes "PrependValid") text)
    (either Event.ReturnMemory (behind (codes "ReturnMemory") text)
    (either Event.PrependGone (behind (codes "PrependGone") text)
    (either Event.HomeWrite (behind (codes "HomeWrite") text)
    (either Event.FreshToGone (behind (codes "FreshToGone") text) None))))

-- an event on memory's word, of a head that leaves
unfoldable pub leaving_event_at : List ℕ → Option (Event × List ℕ)
leaving_event_at text = either Event.PassOn (behind (codes "PassOn") text)
    (either Event.ReturnHomeFresh (behind (codes "ReturnHomeFresh") text)
    (either Event.ReturnHomeDirty (behind (codes "ReturnHomeDirty") text) None))

-- an event on the own tag, or on one that a step keeps
unfoldable pub own_event_at : List ℕ → Option (Event × List ℕ)
own_event_at text = either Event.Look (behind (codes "Look") text)
    (either Event.Settle (behind (codes "Settle") text)
    (either Event.Unhold (behind (codes "Unhold") text)
    (either Event.Advance (behind (codes "Advance") text)
    (either Event.Clear (behind (codes "Clear") text)
    (either Event.Rolled (behind (codes "Rolled") text) None)))))

unfoldable pub step_event_at : List ℕ → Option (Event × List ℕ)
step_event_at text = either Event.Converted (behind (codes "Converted") text)
    (either Event.Unconverted (behind (codes "Unconverted") text)
    (either Event.ReturnCopy (behind (codes "ReturnCopy") text)
    (either Event.Stay (behind (codes "Stay") text)
    (either Event.ReEnter (behind (codes "ReEnter") text)
    (either Event.Left (behind (codes "Left") text) None)))))

-- an event without an argument
unfoldable pub bare_event_at : List ℕ → Option (Event × List ℕ)
bare_event_at text = first_of (own_event_at text) (first_of (memory_event_at text) (first_of (step_event_at text) (leaving_event_at text)))

-- which event on the own tag, which on another's
unfoldable pub own_asks_at : List ℕ → Option (Asks × List ℕ)
own_asks_at text = either Asks.Hold (behind (codes "Hold") text)
    (either Asks.Convert (behind (codes "Convert") text)
    (either Asks.BeginPurge (behind (codes "BeginPurge") text)
    (either Asks.Roll (behind (codes "Roll") text)
    (either Asks.Leave (behind (codes "Leave") text) None))))

unfoldable pub other_asks_at : List ℕ → Option (Asks × List ℕ)
other_asks_at text = either Asks.AttachFresh (behind (codes "AttachFresh") text)
    (either Asks.AttachDirty (behind (codes "AttachDirty") text)
    (either Asks.PurgeOne (behind (codes "PurgeOne") text)
    (either Asks.TellSuccessor (behind (codes "TellSuccessor") text)
    (either Asks.TellPredecessor (behind (codes "TellPredecessor") text)
    (either Asks.Adopt (behind (codes "Adopt") text)
    (either Asks.Promote (behind (codes "Promote") text) None))))))

-- a tag with the name of a kind that tells whether an entry follows, or of one that doesn't
abbrev pub sample : Kind → Bool → Tag
sample kind is_followed = record { kind = kind; held = false; forw = if is_followed then Some 0 else None; back = None }

unfoldable pub settled_name_at : List ℕ → Option (Tag × List ℕ)
settled_name_at text = either (sample Kind.Fresh true) (behind (codes "HEAD_FRESH") text)
    (either (sample Kind.Fresh false) (behind (codes "ONLY_FRESH") text)
    (either (sample Kind.Dirty true) (behind (codes "HEAD_DIRTY") text)
    (either (sample Kind.Dirty false) (behind (codes "ONLY_DIRTY") text)
    (either (sample Kind.Valid true) (behind (codes "MID_VALID") text)
    (either (sample Kind.Valid false) (behind (codes "TAIL_VALID") text) None)))))

unfoldable pub other_name_at : List ℕ → Option (Tag × List ℕ)
other_name_at text = either (sample Kind.Roll false) (behind (codes "ROLL") text)
    (either (sample Kind.Purged false) (behind (codes "PURGED") text)
    (either (sample Kind.Purging false) (behind (codes "PURGING") text)
    (either (sample Kind.Convert false) (behind (codes "CONVERT") text)
    (either (sample Kind.Leaving false) (behind (codes "LEAVING") text)
    (either (sample Kind.Queued false) (behind (codes "QUEUED") text)
    (either (sample Kind.Invalid false) (behind (codes "INVALID") text) None))))))

-- a tag's name
unfoldable pub name_at : List ℕ → Option (Found × List ℕ)
name_at text = do
  found ← first_of (settled_name_at text) (other_name_at text)
  Some (Found.Named found.0, found.1)

-- the tag with this code in layout 2
abbrev pub coded : Option WordRefusal → Tag → Option Tag
coded None tag = Some tag
coded (Some e) tag = None

abbrev pub tag_of : ℕ → Option Tag
tag_of word = coded (tag_refusal_in Two word) (tag_in Two word)

-- a tag's code in 16 digits
unfoldable pub exact_at : List ℕ → Option (Found × List ℕ)
exact_at text = do
  word ← word_at text
  tag ← tag_of word.0
  Some (Found.Exactly tag, word.1)

-- the tag that is asked for
unfoldable pub found_at : List ℕ → Option (Found × List ℕ)
found_at text = first_of (name_at text) (exact_at text)
