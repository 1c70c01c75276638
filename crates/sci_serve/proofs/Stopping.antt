-- The faults of the command `check` of a dump.
use Rattle.std.proofs.Common.{◌≤◌, ℕ, List, [], length, refl}
use Rattle.sci_dump.specs.declared.refusals.DumpRefusal.{DumpRefusal}
use Rattle.sci_dump.specs.declared.refusals.DumpRefusal.TheVariants.{OutOfMemory as NoMemory, DumpFault}
use Rattle.sci_dump.specs.Reading.{Fails, dump_of}
use Rattle.sci_serve.specs.declared.faults.SimFault.{SimFault}
use Rattle.sci_serve.specs.Fault.{dump_fault_of}
use Rattle.sci_serve.specs.Input.{IsReadFault}
use Rattle.sci_serve.specs.Verdicts.{StopsChecking}
use Rattle.sci_serve.proofs.ReadFaults.{of_read_fault}

pub stops_reading_dump : (e : DumpRefusal) (input : List ℕ) → length input ≤ 1048576 → Fails e (dump_of input) → StopsChecking (dump_fault_of e) input []
stops_reading_dump NoMemory input short h = refl
stops_reading_dump (DumpFault n) input short h = (short, h, refl)

pub stops_checking_input : (e : SimFault) (input : List ℕ) → IsReadFault 1048576 e input → StopsChecking e input []
stops_checking_input e input h = of_read_fault 1048576 (λ f. StopsChecking f input []) input refl (λ long. (long, refl)) refl e h
