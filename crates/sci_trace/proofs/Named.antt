-- Each event's name stands in the table at its number.
use Rattle.std.proofs.Common.{◌≡◌, ◌<◌, ◌≤◌, [], take, get_or, arith, refl}
use Rattle.sci_core.specs.declared.events.Event.{Event}
use Rattle.sci_core.specs.EventNumber.{event_number}
use Rattle.sci_trace.specs.Events.{event_name}
use Rattle.sci_trace.specs.declared.event_names.TheConstants.{NAMES, LENGTHS}

pub record IsNamed (e : Event) : Type 0 where
  pub within : event_number e < 35
  pub short : get_or LENGTHS (event_number e) 0 ≤ 16
  pub named : take (get_or LENGTHS (event_number e) 0) (get_or NAMES (event_number e) []) ≡ event_name e

pub is_named : (e : Event) → IsNamed e
is_named Event.Look = record { within = omega arith; short = omega arith; named = refl }
is_named (Event.Queue forw) = record { within = omega arith; short = omega arith; named = refl }
is_named (Event.Requeue forw) = record { within = omega arith; short = omega arith; named = refl }
is_named Event.PrependValid = record { within = omega arith; short = omega arith; named = refl }
is_named Event.ReturnMemory = record { within = omega arith; short = omega arith; named = refl }
is_named (Event.AttachFresh found) = record { within = omega arith; short = omega arith; named = refl }
is_named Event.Settle = record { within = omega arith; short = omega arith; named = refl }
is_named (Event.Hold found) = record { within = omega arith; short = omega arith; named = refl }
is_named Event.Unhold = record { within = omega arith; short = omega arith; named = refl }
is_named (Event.Convert found) = record { within = omega arith; short = omega arith; named = refl }
is_named Event.FreshToGone = record { within = omega arith; short = omega arith; named = refl }
is_named Event.Converted = record { within = omega arith; short = omega arith; named = refl }
is_named Event.Unconverted = record { within = omega arith; short = omega arith; named = refl }
is_named (Event.BeginPurge found) = record { within = omega arith; short = omega arith; named = refl }
is_named (Event.Written words) = record { within = omega arith; short = omega arith; named = refl }
is_named Event.PrependGone = record { within = omega arith; short = omega arith; named = refl }
is_named (Event.AttachDirty found) = record { within = omega arith; short = omega arith; named = refl }
is_named Event.ReturnCopy = record { within = omega arith; short = omega arith; named = refl }
is_named (Event.PurgeOne found) = record { within = omega arith; short = omega arith; named = refl }
is_named Event.Advance = record { within = omega arith; short = omega arith; named = refl }
is_named Event.Clear = record { within = omega arith; short = omega arith; named = refl }
is_named (Event.Roll found) = record { within = omega arith; short = omega arith; named = refl }
is_named (Event.TellSuccessor found) = record { within = omega arith; short = omega arith; named = refl }
is_named (Event.TellPredecessor found) = record { within = omega arith; short = omega arith; named = refl }
is_named (Event.Adopt found) = record { within = omega arith; short = omega arith; named = refl }
is_named Event.Rolled = record { within = omega arith; short = omega arith; named = refl }
is_named (Event.Leave found) = record { within = omega arith; short = omega arith; named = refl }
is_named (Event.Promote found) = record { within = omega arith; short = omega arith; named = refl }
is_named Event.PassOn = record { within = omega arith; short = omega arith; named = refl }
is_named Event.Stay = record { within = omega arith; short = omega arith; named = refl }
is_named Event.ReEnter = record { within = omega arith; short = omega arith; named = refl }
is_named Event.ReturnHomeFresh = record { within = omega arith; short = omega arith; named = refl }
is_named Event.ReturnHomeDirty = record { within = omega arith; short = omega arith; named = refl }
is_named Event.Left = record { within = omega arith; short = omega arith; named = refl }
is_named Event.HomeWrite = record { within = omega arith; short = omega arith; named = refl }
