use Rattle.sci_script.proofs.Fitting.{reads_script}
use Rattle.sci_script.proofs.Spoken.{never_said}
use Rattle.sci_script.proofs.Unrefused.{never_behind}
use Rattle.sci_script.proofs.laws.rest_and_end_are_done.Goals as goal

pub returns-clause-run : goal.returns-clause-run
returns-clause-run c = λ size capacity openings steps step k n text s mid t few within opened printed at stopped. never_behind size capacity openings steps step k n text s mid t few within opened printed at stopped

pub returns-clause-read : goal.returns-clause-read
returns-clause-read c = λ input script e. reads_script input script e

pub returns-clause-talk : goal.returns-clause-talk
returns-clause-talk c = λ before line command n s t heard is stopped. never_said before line command n s t heard is stopped
