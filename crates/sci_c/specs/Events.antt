-- The numbers of events. This project's profile.
use Rattle.std.specs.Prelude.{◌≡◌, ℕ, ◌==◌, Bool, true, cond, List, replicate, Option, Some, None}
use Rattle.sci_words.specs.declared.tags.Tag.{Tag}
use Rattle.sci_words.specs.Codes.{tag_code}
use Rattle.sci_words.specs.Tag.{link_below}
use Rattle.sci_core.specs.declared.events.Event.{Event}
use Rattle.sci_core.specs.EventNumber.{event_number}
use Rattle.sci_c.specs.declared.events.EventNumbers.{EventNumbers}
use Rattle.sci_c.specs.Links.{fits_tag, link_meant, link_number, no_node}

-- an event that carries nothing
abbrev pub bare : ℕ → EventNumbers
bare event = record { event = event; has = 0; link = 0; found = 0; words = replicate 8 0 }

-- an event that carries a link
abbrev pub linking : ℕ → Option ℕ → EventNumbers
linking event f = record { event = event; has = 0; link = link_number f; found = 0; words = replicate 8 0 }

-- an event that carries the tag that was found
abbrev pub finding : ℕ → Tag → EventNumbers
finding event t = record { event = event; has = 0; link = 0; found = tag_code t; words = replicate 8 0 }

-- Written
abbrev pub writing : ℕ → Option (List ℕ) → EventNumbers
writing event None = bare event
writing event (Some words) = record { event = event; has = 1; link = 0; found = 0; words = words }

-- the numbers of an event of this number: what it doesn't have is 0
abbrev pub numbers_with : ℕ → Event → EventNumbers
numbers_with event (Event.Queue f) = linking event f
numbers_with event (Event.Requeue f) = linking event f
numbers_with event (Event.AttachFresh t) = finding event t
numbers_with event (Event.Hold t) = finding event t
numbers_with event (Event.Convert t) = finding event t
numbers_with event (Event.BeginPurge t) = finding event t
numbers_with event (Event.Written words) = writing event words
numbers_with event (Event.AttachDirty t) = finding event t
numbers_with event (Event.PurgeOne t) = finding event t
numbers_with event (Event.Roll t) = finding event t
numbers_with event (Event.TellSuccessor t) = finding event t
numbers_with event (Event.TellPredecessor t) = finding event t
numbers_with event (Event.Adopt t) = finding event t
numbers_with event (Event.Leave t) = finding event t
numbers_with event (Event.Promote t) = finding event t
numbers_with event _ = bare event

abbrev pub event_numbers : Event → EventNumbers
event_numbers e = numbers_with (event_number e) e

-- an event has numbers: its link names a node, and its tag has a code
abbrev pub fits_event : Event → Bool
fits_event (Event.Queue f) = link_below no_node f
fits_event (Event.Requeue f) = link_below no_node f
fits_event (Event.AttachFresh t) = fits_tag t
fits_event (Event.Hold t) = fits_tag t
fits_event (Event.Convert t) = fits_tag t
fits_event (Event.BeginPurge t) = fits_tag t
fits_event (Event.AttachDirty t) = fits_tag t
fits_event (Event.PurgeOne t) = fits_tag t
fits_event (Event.Roll t) = fits_tag t
fits_event (Event.TellSuccessor t) = fits_tag t
fits_event (Event.TellPredecessor t) = fits_tag t
fits_event (Event.Adopt t) = fits_tag t
fits_event (Event.Leave t) = fits_tag t
fits_event (Event.Promote t) = fits_tag t
fits_event _ = true

-- these are the numbers of this event
abbrev pub IsEvent : EventNumbers → Event → Type 0
IsEvent n e = (event_numbers e ≡ n) × (fits_event e ≡ true)

abbrev pub words_meant : EventNumbers → Option (List ℕ)
words_meant n = cond (n.has == 1) (Some n.words) None

-- the only event that can have these numbers, from the tag that it would carry
abbrev pub event_meant : EventNumbers → Tag → Event
event_meant n t =
    cond (n.event == 0) Event.Look
    (cond (n.event == 1) (Event.Queue (link_meant n.link))
    (cond (n.event == 2) (Event.Requeue (link_meant n.link))
    (cond (n.event == 3) Event.PrependValid
    (cond (n.event == 4) Event.ReturnMemory
    (cond (n.event == 5) (Event.AttachFresh t)
    (cond (n.event == 6) Event.Settle
    (cond (n.event == 7) (Event.Hold t)
    (cond (n.event == 8) Event.Unhold
    (cond (n.event == 9) (Event.Convert t)
    (cond (n.event == 10) Event.FreshToGone
    (cond (n.event == 11) Event.Converted
    (cond (n.event == 12) Event.Unconverted
    (cond (n.event == 13) (Event.BeginPurge t)
    (cond (n.event == 14) (Event.Written (words_meant n))
    (cond (n.event == 15) Event.PrependGone
    (cond (n.event == 16) (Event.AttachDirty t)
    (cond (n.event == 17) Event.ReturnCopy
    (cond (n.event == 18) (Event.PurgeOne t)
    (cond (n.event == 19) Event.Advance
    (cond (n.event == 20) Event.Clear
    (cond (n.event == 21) (Event.Roll t)
    (cond (n.event == 22) (Event.TellSuccessor t)
    (cond (n.event == 23) (Event.TellPredecessor t)
    (cond (n.event == 24) (Event.Adopt t)
    (cond (n.event == 25) Event.Rolled
    (cond (n.event == 26) (Event.Leave t)
    (cond (n.event == 27) (Event.Promote t)
    (cond (n.event == 28) Event.PassOn
    (cond (n.event == 29) Event.Stay
    (cond (n.event == 30) Event.ReEnter
    (cond (n.event == 31) Event.ReturnHomeFresh
    (cond (n.event == 32) Event.ReturnHomeDirty
    (cond (n.event == 33) Event.Left
    Event.HomeWrite)))))))))))))))))))))))))))))))))
