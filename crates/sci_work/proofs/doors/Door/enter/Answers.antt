use Rattle.sci_work.proofs.doors.Door.enter.Goals as goal

pub returns : goal.returns
returns g c = tt
