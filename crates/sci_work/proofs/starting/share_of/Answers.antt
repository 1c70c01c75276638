use Rattle.sci_port.specs.KeepsAll.{keeps_none}
use Rattle.sci_work.specs.Made.{stays}
use Rattle.sci_work.proofs.starting.share_of.Goals as goal

pub returns-in-Err-OutOfMemory-clause-kept : goal.returns-in-Err-OutOfMemory-clause-kept
returns-in-Err-OutOfMemory-clause-kept g c = λ all. keeps_none

pub returns-in-Err-OutOfMemory-clause-reached : goal.returns-in-Err-OutOfMemory-clause-reached
returns-in-Err-OutOfMemory-clause-reached g c = stays
