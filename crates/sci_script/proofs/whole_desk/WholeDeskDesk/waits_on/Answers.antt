use Rattle.sci_script.specs.Wholes.{shared_of}
use Rattle.sci_script.proofs.Stuck.{waits_again}
use Rattle.sci_script.proofs.whole_desk.WholeDeskDesk.waits_on.Goals as goal

pub returns : goal.returns
returns c = λ e s t node h. waits_again (shared_of s) (shared_of t) node h
