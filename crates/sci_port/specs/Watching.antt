-- What is kept of the calls that pass through a port. This project's profile.
use Rattle.std.specs.Prelude.{ℕ, ◌+◌, min, Option, Some, None}
use Rattle.sci_words.specs.declared.tags.Tag.{Tag}
use Rattle.sci_core.specs.declared.outcomes.Outcome.{Outcome}
use Rattle.sci_port.specs.declared.calls.Call.{Call}
use Rattle.sci_port.specs.declared.calls.Call.TheVariants.{Own, MemWas, TagWas, Stepped}
use Rattle.sci_port.specs.declared.watching.Ending.{Ending}
use Rattle.sci_port.specs.declared.watching.Load.{Load}
use Rattle.sci_port.specs.declared.watching.Passed.{Passed}

-- how an exchange ended that had this outcome
abbrev pub ending_of : Outcome → Ending
ending_of (Outcome.Done answer) = Ending.Done
ending_of (Outcome.Missed word) = Ending.Missed word
ending_of Outcome.Busy = Ending.Busy

-- with one more look at the own tag, where it was to be had; from 255 on they aren't told apart
abbrev pub looks_by : ℕ → Option Tag → ℕ
looks_by n None = n
looks_by n (Some seen) = min (n + 1) 255

-- with one more call: the looks, the last load, and the exchange
abbrev pub passed_by : Passed → ℕ → Call → Passed
passed_by p line (Own word) = record { line = line; looks = looks_by p.looks word; load = Some (Load.Own word); step = p.step }
passed_by p line (MemWas word) = record { line = line; looks = p.looks; load = Some (Load.Mem word); step = p.step }
passed_by p line (TagWas node word) = record { line = line; looks = p.looks; load = Some (Load.Tag node word); step = p.step }
passed_by p line (Stepped event outcome) = record { line = line; looks = p.looks; load = p.load; step = Some (event, ending_of outcome) }
