-- The faults of the command `check` of a history.
use Rattle.std.proofs.Common.{◌≡◌, ℕ, Option, Some, None, List, [], refl}
use Rattle.std.specs.Option.{IfSome}
use Rattle.sci_script.specs.declared.refusals.ScriptRefusal.TheVariants.{OutOfMemory, BadCommand, BadNumber, NotDone, WriteFailed}
use Rattle.sci_dump.specs.declared.refusals.DumpRefusal.{DumpRefusal}
use Rattle.sci_dump.specs.declared.refusals.DumpRefusal.TheVariants.{OutOfMemory as NoMemory, DumpFault}
use Rattle.sci_dump.specs.Reading.{Fails}
use Rattle.sci_histories.specs.Reading.{history_of}
use Rattle.sci_serve.specs.declared.faults.SimFault.{SimFault}
use Rattle.sci_serve.specs.declared.faults.SimFault.TheVariants.{CannotRead, CannotWrite, InputTooLong, Refused, NoDump, Unlawful, NoRun}
use Rattle.sci_serve.specs.Fault.{dump_fault_of}
use Rattle.sci_serve.specs.Legality.{StopsJudging, IsUnread}

pub stops_reading_history : (e : DumpRefusal) (input : List ℕ) → Fails e (history_of input) → StopsJudging (dump_fault_of e) input []
stops_reading_history NoMemory input h = refl
stops_reading_history (DumpFault n) input h = (h, refl)

pub stops_judging_input : (e : SimFault) (input : List ℕ) → IsUnread e → StopsJudging e input []
stops_judging_input CannotRead input h = refl
stops_judging_input CannotWrite input h = absurd h
stops_judging_input InputTooLong input h = absurd h
stops_judging_input (Refused OutOfMemory) input h = refl
stops_judging_input (Refused (BadCommand n)) input h = absurd h
stops_judging_input (Refused (BadNumber n)) input h = absurd h
stops_judging_input (Refused (NotDone n)) input h = absurd h
stops_judging_input (Refused WriteFailed) input h = absurd h
stops_judging_input (NoDump n) input h = absurd h
stops_judging_input Unlawful input h = absurd h
stops_judging_input (NoRun f) input h = absurd h

pub if_some : {P : List ℕ → Type 0} (o : Option (List ℕ)) → ((x : List ℕ) → P x) → IfSome o P
if_some None all = tt
if_some (Some x) all = all x
