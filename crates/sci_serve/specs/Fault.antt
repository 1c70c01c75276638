-- A refusal as a fault of the program, and the status of a fault. This project's profile.
use Rattle.std.specs.Prelude.{ℕ}
use Rattle.sci_script.specs.declared.refusals.ScriptRefusal.{ScriptRefusal}
use Rattle.sci_script.specs.declared.refusals.ScriptRefusal.TheVariants.{OutOfMemory, BadCommand, BadNumber, NotDone, WriteFailed}
use Rattle.sci_dump.specs.declared.refusals.DumpRefusal.{DumpRefusal}
use Rattle.sci_dump.specs.declared.refusals.DumpRefusal.TheVariants.{OutOfMemory as NoMemory, DumpFault}
use Rattle.sci_work.specs.declared.refusals.WorkRefusal.{WorkRefusal}
use Rattle.sci_settings.specs.declared.refusals.SettingsRefusal.{SettingsRefusal}
use Rattle.sci_settings.specs.declared.refusals.SettingsRefusal.TheVariants as settings
use Rattle.sci_serve.specs.declared.faults.SimFault.{SimFault}
use Rattle.sci_serve.specs.declared.faults.SimFault.TheVariants.{CannotRead, CannotWrite, InputTooLong, Refused, NoDump, Unlawful, NoRun}

abbrev pub fault_of : ScriptRefusal → SimFault
fault_of OutOfMemory = Refused OutOfMemory
fault_of (BadCommand n) = Refused (BadCommand n)
fault_of (BadNumber n) = Refused (BadNumber n)
fault_of (NotDone n) = Refused (NotDone n)
fault_of WriteFailed = CannotWrite

abbrev pub dump_fault_of : DumpRefusal → SimFault
dump_fault_of NoMemory = Refused OutOfMemory
dump_fault_of (DumpFault n) = NoDump n

abbrev pub settings_fault_of : SettingsRefusal → SimFault
settings_fault_of settings.OutOfMemory = Refused OutOfMemory
settings_fault_of settings.BadSettings = NoRun WorkRefusal.BadSettings

abbrev pub work_fault_of : WorkRefusal → SimFault
work_fault_of WorkRefusal.OutOfMemory = Refused OutOfMemory
work_fault_of refusal = NoRun refusal

-- status 3 where the check says no, 1 for any other fault
abbrev pub status_of : SimFault → ℕ
status_of CannotRead = 1
status_of CannotWrite = 1
status_of InputTooLong = 1
status_of (Refused e) = 1
status_of (NoDump n) = 1
status_of Unlawful = 3
status_of (NoRun e) = 1
