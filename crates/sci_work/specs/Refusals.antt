-- The numbers of a workload's refusals. This project's profile.
use Rattle.std.specs.Prelude.{ℕ}
use Rattle.sci_work.specs.declared.refusals.WorkRefusal.{WorkRefusal}

abbrev pub refusal_number : WorkRefusal → ℕ
refusal_number WorkRefusal.OutOfMemory = 7
refusal_number WorkRefusal.StampsSpent = 11
refusal_number WorkRefusal.Overrun = 19
refusal_number WorkRefusal.Stalled = 20
refusal_number WorkRefusal.BadSettings = 22
refusal_number WorkRefusal.Stopped = 25
refusal_number WorkRefusal.NoThread = 26
