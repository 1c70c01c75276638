-- Events by number. This project's profile.
use Rattle.std.specs.Prelude.{ℕ}
use Rattle.sci_core.specs.declared.events.Event.{Event}

abbrev pub event_number : Event → ℕ
event_number Event.Look = 0
event_number (Event.Queue forw) = 1
event_number (Event.Requeue forw) = 2
event_number Event.PrependValid = 3
event_number Event.ReturnMemory = 4
event_number (Event.AttachFresh found) = 5
event_number Event.Settle = 6
event_number (Event.Hold found) = 7
event_number Event.Unhold = 8
event_number (Event.Convert found) = 9
event_number Event.FreshToGone = 10
event_number Event.Converted = 11
event_number Event.Unconverted = 12
event_number (Event.BeginPurge found) = 13
event_number (Event.Written words) = 14
event_number Event.PrependGone = 15
event_number (Event.AttachDirty found) = 16
event_number Event.ReturnCopy = 17
event_number (Event.PurgeOne found) = 18
event_number Event.Advance = 19
event_number Event.Clear = 20
event_number (Event.Roll found) = 21
event_number (Event.TellSuccessor found) = 22
event_number (Event.TellPredecessor found) = 23
event_number (Event.Adopt found) = 24
event_number Event.Rolled = 25
event_number (Event.Leave found) = 26
event_number (Event.Promote found) = 27
event_number Event.PassOn = 28
event_number Event.Stay = 29
event_number Event.ReEnter = 30
event_number Event.ReturnHomeFresh = 31
event_number Event.ReturnHomeDirty = 32
event_number Event.Left = 33
event_number Event.HomeWrite = 34
