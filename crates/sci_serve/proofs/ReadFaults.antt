-- The faults of reading an input.
use Rattle.std.proofs.Common.{◌<◌, ℕ, List, length}
use Rattle.sci_script.specs.declared.refusals.ScriptRefusal.TheVariants.{OutOfMemory, BadCommand, BadNumber, NotDone, WriteFailed}
use Rattle.sci_serve.specs.declared.faults.SimFault.{SimFault}
use Rattle.sci_serve.specs.declared.faults.SimFault.TheVariants.{CannotRead, CannotWrite, InputTooLong, Refused, NoDump, Unlawful, NoRun}
use Rattle.sci_serve.specs.Input.{IsReadFault}

-- there are three: what is so of each is so of any
pub of_read_fault : (limit : ℕ) (Stops : SimFault → Type 0) (input : List ℕ) → Stops CannotRead → (limit < length input → Stops InputTooLong) → Stops (Refused OutOfMemory)
    → (e : SimFault) → IsReadFault limit e input → Stops e
of_read_fault limit Stops input unread long memory CannotRead h = unread
of_read_fault limit Stops input unread long memory CannotWrite h = absurd h
of_read_fault limit Stops input unread long memory InputTooLong h = long h
of_read_fault limit Stops input unread long memory (Refused OutOfMemory) h = memory
of_read_fault limit Stops input unread long memory (Refused (BadCommand n)) h = absurd h
of_read_fault limit Stops input unread long memory (Refused (BadNumber n)) h = absurd h
of_read_fault limit Stops input unread long memory (Refused (NotDone n)) h = absurd h
of_read_fault limit Stops input unread long memory (Refused WriteFailed) h = absurd h
of_read_fault limit Stops input unread long memory (NoDump n) h = absurd h
of_read_fault limit Stops input unread long memory Unlawful h = absurd h
of_read_fault limit Stops input unread long memory (NoRun e) h = absurd h
