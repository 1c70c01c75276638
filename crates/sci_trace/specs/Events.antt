-- Events in words. This project's profile.
use Rattle.std.specs.Prelude.{ℕ, List, ◌++◌, Option, Some, None, codes}
use Rattle.std.specs.Fmt.{decimal}
use Rattle.std.specs.List.{flat_map}
use Rattle.sci_core.specs.declared.events.Event.{Event}
use Rattle.sci_port.specs.declared.watching.Ending.{Ending}
use Rattle.sci_port.specs.declared.watching.Load.{Load}
use Rattle.sci_trace.specs.Words.{link_word, found_text}

-- an event's name, and the bracket in front of its argument, where it has one
abbrev pub event_name : Event → List ℕ
event_name Event.Look = codes "Look"
event_name (Event.Queue forw) = codes "Queue("
event_name (Event.Requeue forw) = codes "Requeue("
event_name Event.PrependValid = codes "PrependValid"
event_name Event.ReturnMemory = codes "ReturnMemory"
event_name (Event.AttachFresh found) = codes "AttachFresh("
event_name Event.Settle = codes "Settle"
event_name (Event.Hold found) = codes "Hold("
event_name Event.Unhold = codes "Unhold"
event_name (Event.Convert found) = codes "Convert("
event_name Event.FreshToGone = codes "FreshToGone"
event_name Event.Converted = codes "Converted"
event_name Event.Unconverted = codes "Unconverted"
event_name (Event.BeginPurge found) = codes "BeginPurge("
event_name (Event.Written words) = codes "Written("
event_name Event.PrependGone = codes "PrependGone"
event_name (Event.AttachDirty found) = codes "AttachDirty("
event_name Event.ReturnCopy = codes "ReturnCopy"
event_name (Event.PurgeOne found) = codes "PurgeOne("
event_name Event.Advance = codes "Advance"
event_name Event.Clear = codes "Clear"
event_name (Event.Roll found) = codes "Roll("
event_name (Event.TellSuccessor found) = codes "TellSuccessor("
event_name (Event.TellPredecessor found) = codes "TellPredecessor("
event_name (Event.Adopt found) = codes "Adopt("
event_name Event.Rolled = codes "Rolled"
event_name (Event.Leave found) = codes "Leave("
event_name (Event.Promote found) = codes "Promote("
event_name Event.PassOn = codes "PassOn"
event_name Event.Stay = codes "Stay"
event_name Event.ReEnter = codes "ReEnter"
event_name Event.ReturnHomeFresh = codes "ReturnHomeFresh"
event_name Event.ReturnHomeDirty = codes "ReturnHomeDirty"
event_name Event.Left = codes "Left"
event_name Event.HomeWrite = codes "HomeWrite"

-- the words that a write stores, or that there are none
abbrev pub written_text : Option (List ℕ) → List ℕ
written_text None = codes "none"
written_text (Some words) = codes "words" ++ flat_map (λ word. codes " " ++ decimal word) words

-- how the exchange ended, behind an event without an argument, and behind an argument
abbrev pub ending_text : Ending → List ℕ
ending_text Ending.Done = codes " Done; "
ending_text (Ending.Missed word) = codes " Missed; "
ending_text Ending.Busy = codes " Busy; "

abbrev pub closed_ending : Ending → List ℕ
closed_ending ending = codes ")" ++ ending_text ending

-- what stands behind the name: a link, the words, or the tag that was found, and what closes it; or what stands there without
abbrev pub argument_text : Option Load → Event → List ℕ → List ℕ → List ℕ
argument_text load (Event.Queue forw) bare closed = link_word forw ++ closed
argument_text load (Event.Requeue forw) bare closed = link_word forw ++ closed
argument_text load (Event.AttachFresh found) bare closed = found_text load found ++ closed
argument_text load (Event.Hold found) bare closed = found_text load found ++ closed
argument_text load (Event.Convert found) bare closed = found_text load found ++ closed
argument_text load (Event.BeginPurge found) bare closed = found_text load found ++ closed
argument_text load (Event.Written words) bare closed = written_text words ++ closed
argument_text load (Event.AttachDirty found) bare closed = found_text load found ++ closed
argument_text load (Event.PurgeOne found) bare closed = found_text load found ++ closed
argument_text load (Event.Roll found) bare closed = found_text load found ++ closed
argument_text load (Event.TellSuccessor found) bare closed = found_text load found ++ closed
argument_text load (Event.TellPredecessor found) bare closed = found_text load found ++ closed
argument_text load (Event.Adopt found) bare closed = found_text load found ++ closed
argument_text load (Event.Leave found) bare closed = found_text load found ++ closed
argument_text load (Event.Promote found) bare closed = found_text load found ++ closed
argument_text load _ bare closed = bare

abbrev pub event_text : Option Load → Event → Ending → List ℕ
event_text load event ending = event_name event ++ argument_text load event (ending_text ending) (closed_ending ending)
