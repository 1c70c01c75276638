-- The numbers of faults.
use Rattle.std.specs.Prelude.{ℕ}
use Rattle.sci_words.specs.Refused.{refusal_number}
use Rattle.sci_c.specs.declared.faults.Fault.{Fault}
use Rattle.sci_c.specs.declared.faults.Fault.TheVariants.{Word, BadNodes, NotInTurn, NoSuchNode, NoSuchStep, NoSuchEvent, NoSuchRow}

-- the number of a fault; 1 to 8 are this repository's refusals
abbrev pub fault_number : Fault → ℕ
fault_number (Word r) = refusal_number r
fault_number BadNodes = 6
fault_number NotInTurn = 8
fault_number NoSuchNode = 27
fault_number NoSuchStep = 28
fault_number NoSuchEvent = 29
fault_number NoSuchRow = 30
