-- The numbers of refusals. This project's profile.
use Rattle.std.specs.Prelude.{ℕ}
use Rattle.sci_dump.specs.declared.refusals.DumpRefusal.{DumpRefusal}
use Rattle.sci_dump.specs.declared.refusals.DumpRefusal.TheVariants.{OutOfMemory, DumpFault}

abbrev pub dump_refusal_number : DumpRefusal → ℕ
dump_refusal_number OutOfMemory = 7
dump_refusal_number (DumpFault line) = 21
