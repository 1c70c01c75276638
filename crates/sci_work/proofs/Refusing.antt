-- What a call refuses with, a worker may refuse with; and what a worker refuses with, a workload.
use Rattle.std.proofs.Common.{◌≡◌, ◌≢◌, ℕ, Result, Ok, Err, IfErr, refl}
use Rattle.sci_work.specs.declared.programs.Program.{Program}
use Rattle.sci_work.specs.declared.refusals.WorkRefusal.{WorkRefusal}
use Rattle.sci_work.specs.Made.{ComesInCall, ComesInWork}
use Rattle.sci_work.specs.Programs.{Awaits, ComesInPart}
use Rattle.sci_work.specs.Starts.{ComesInCount, ComesInRun, ComesInStart}

pub of_call : (e : WorkRefusal) → ComesInCall e → ComesInWork e
of_call WorkRefusal.OutOfMemory h = tt
of_call WorkRefusal.StampsSpent h = tt
of_call WorkRefusal.Overrun h = tt
of_call WorkRefusal.Stalled h = tt
of_call WorkRefusal.BadSettings h = absurd h
of_call WorkRefusal.Stopped h = tt
of_call WorkRefusal.NoThread h = absurd h

pub part_of_call : (program : Program) (e : WorkRefusal) → ComesInCall e → ComesInPart program e
part_of_call program WorkRefusal.OutOfMemory h = tt
part_of_call program WorkRefusal.StampsSpent h = tt
part_of_call program WorkRefusal.Overrun h = absurd h
part_of_call program WorkRefusal.Stalled h = tt
part_of_call program WorkRefusal.BadSettings h = absurd h
part_of_call program WorkRefusal.Stopped h = tt
part_of_call program WorkRefusal.NoThread h = absurd h

pub part_of_work : (program : Program) (e : WorkRefusal) → Awaits program → ComesInWork e → ComesInPart program e
part_of_work program WorkRefusal.OutOfMemory awaits h = tt
part_of_work program WorkRefusal.StampsSpent awaits h = tt
part_of_work program WorkRefusal.Overrun awaits h = awaits
part_of_work program WorkRefusal.Stalled awaits h = tt
part_of_work program WorkRefusal.BadSettings awaits h = absurd h
part_of_work program WorkRefusal.Stopped awaits h = tt
part_of_work program WorkRefusal.NoThread awaits h = absurd h

-- a worker's result, of a program whose nodes await others
pub part_of_worked : {T : Type 0} (r : Result T WorkRefusal) (program : Program) → Awaits program → IfErr r ComesInWork → IfErr r (ComesInPart program)
part_of_worked (Ok x) program awaits h = tt
part_of_worked (Err e) program awaits h = part_of_work program e awaits h

-- a node's own refusal
pub of_part : (program : Program) (e : WorkRefusal) → ComesInPart program e → e ≢ WorkRefusal.Stopped → ComesInStart program e
of_part program WorkRefusal.OutOfMemory h own = tt
of_part program WorkRefusal.StampsSpent h own = tt
of_part program WorkRefusal.Overrun h own = h
of_part program WorkRefusal.Stalled h own = tt
of_part program WorkRefusal.BadSettings h own = absurd h
of_part program WorkRefusal.Stopped h own = absurd (own refl)
of_part program WorkRefusal.NoThread h own = absurd h

pub of_memory : (program : Program) (e : WorkRefusal) → e ≡ WorkRefusal.OutOfMemory → ComesInStart program e
of_memory program e is = rw is tt

pub of_no_thread : (program : Program) (e : WorkRefusal) → e ≡ WorkRefusal.NoThread → ComesInStart program e
of_no_thread program e is = rw is tt

pub in_run : (program : Program) (e : WorkRefusal) → ComesInStart program e → ComesInRun e
in_run program WorkRefusal.OutOfMemory h = tt
in_run program WorkRefusal.StampsSpent h = tt
in_run program WorkRefusal.Overrun h = tt
in_run program WorkRefusal.Stalled h = tt
in_run program WorkRefusal.BadSettings h = absurd h
in_run program WorkRefusal.Stopped h = absurd h
in_run program WorkRefusal.NoThread h = tt

pub in_count : (adds : ℕ) (e : WorkRefusal) → ComesInStart (Program.Count adds) e → ComesInCount e
in_count adds WorkRefusal.OutOfMemory h = tt
in_count adds WorkRefusal.StampsSpent h = tt
in_count adds WorkRefusal.Overrun h = absurd h
in_count adds WorkRefusal.Stalled h = tt
in_count adds WorkRefusal.BadSettings h = absurd h
in_count adds WorkRefusal.Stopped h = absurd h
in_count adds WorkRefusal.NoThread h = tt
