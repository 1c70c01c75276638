-- What is kept of an input that is read to its end. This project's profile.
use Rattle.std.specs.Prelude.{◌≡◌, ℕ, ◌<◌, ◌≤◌, List, length, Option, MatchOption}
use Rattle.std.specs.Global.{Vec}
use Rattle.std.specs.Io.KnownBytes.{IsAtEnd}
use Rattle.sci_script.specs.declared.refusals.ScriptRefusal.TheVariants.{OutOfMemory, BadCommand, BadNumber, NotDone, WriteFailed}
use Rattle.sci_serve.specs.declared.faults.SimFault.{SimFault}
use Rattle.sci_serve.specs.declared.faults.SimFault.TheVariants.{CannotRead, CannotWrite, InputTooLong, Refused, NoDump, Unlawful, NoRun}

-- all of the bytes that were read, up to a limit, and nothing past it
abbrev pub IsKept : ℕ → Option (Vec ℕ) → List ℕ → Type 0
IsKept limit kept seen = MatchOption kept (limit < length seen) (λ v. (v.items ≡ seen) × (length seen ≤ limit))

-- the faults of reading an input
abbrev pub IsReadFault : ℕ → SimFault → List ℕ → Type 0
IsReadFault limit CannotRead input = Unit {0}
IsReadFault limit CannotWrite input = ⊥
IsReadFault limit InputTooLong input = limit < length input
IsReadFault limit (Refused OutOfMemory) input = Unit {0}
IsReadFault limit (Refused (BadCommand n)) input = ⊥
IsReadFault limit (Refused (BadNumber n)) input = ⊥
IsReadFault limit (Refused (NotDone n)) input = ⊥
IsReadFault limit (Refused WriteFailed) input = ⊥
IsReadFault limit (NoDump n) input = ⊥
IsReadFault limit Unlawful input = ⊥
IsReadFault limit (NoRun e) input = ⊥

-- that an input is too long is told at its end, with no byte left
abbrev pub IsToldInTime : SimFault → Option (List ℕ) → Type 0
IsToldInTime InputTooLong left = IsAtEnd left
IsToldInTime _ left = Unit {0}
