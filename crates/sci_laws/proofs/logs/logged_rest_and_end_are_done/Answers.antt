use Rattle.std.proofs.Common.{take}
use Rattle.sci_script.specs.declared.refusals.ScriptRefusal.TheVariants.{NotDone}
use Rattle.sci_script.specs.Event.{Event}
use Rattle.sci_script.specs.Request.{no_words}
use Rattle.sci_script.specs.Shared.{Shared, shared_is_open, shared_does}
use Rattle.sci_script.proofs.Through.{prints_all, stops_at}
use Rattle.sci_script.proofs.Unrefused.{never_behind}
use Rattle.sci_logs.specs.Logging.{logs}
use Rattle.sci_trace.specs.Telling.{Telling, telling}
use Rattle.sci_laws.proofs.logs.logged_rest_and_end_are_done.Goals as goal

-- what is logged, the lines and nodes do
logged_does : (s : Telling) (event : Event) (t : Telling) → logs s event t → shared_does s.shared event t.shared
logged_does s event t h = h.0

abbrev seen : Telling → Shared
seen s = s.shared

pub returns : goal.returns
returns c = λ size capacity openings steps step k n text log s mid t few within opened printed at stopped.
    never_behind size capacity openings steps step k n text s mid.shared t.shared few within opened
    (prints_all seen shared_is_open logs shared_does logged_does no_words (telling s log) (take k steps) text mid printed) at
    (stops_at seen shared_is_open logs shared_does logged_does size.nodes mid step (NotDone n) t stopped)
