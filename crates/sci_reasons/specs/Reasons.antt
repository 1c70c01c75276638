-- Where and why a text is refused, and where it isn't. This project's profile.
use Rattle.std.specs.Prelude.{◌≡◌, ℕ, List, Option, Some, None, Ok, Err}
use Rattle.sci_dump.specs.Dumps.{DumpLines}
use Rattle.sci_dump.specs.Reading.{dump_of}
use Rattle.sci_dump.specs.Streams.{IsFaultOf, first_row, from_line}
use Rattle.sci_dump.specs.declared.places.DumpRow.{DumpRow}
use Rattle.sci_dump.specs.declared.refusals.DumpRefusal.TheVariants.{DumpFault}
use Rattle.sci_histories.specs.Histories.{HistoryLines}
use Rattle.sci_histories.specs.Reading.{history_of}
use Rattle.sci_reasons.specs.declared.places.Due.TheVariants.{Dump}
use Rattle.sci_reasons.specs.declared.reasons.RowFault.{RowFault}

-- a row of a dump that is refused
abbrev pub fault_of : DumpRow → RowFault
fault_of row = record { line = row.number; text = row.text; due = Dump row.place }

abbrev pub IsDump : List ℕ → Type 0
IsDump text = (dump : DumpLines) × (dump_of text ≡ Ok dump)

-- why a text is no dump: that is told of its row at fault; of a dump nothing
abbrev pub IsWhyDump : List ℕ → Option RowFault → Type 0
IsWhyDump text None = IsDump text
IsWhyDump text (Some fault) = (row : DumpRow) × IsFaultOf text row × (fault ≡ fault_of row)

-- the same of a history: that is told of the line that reading names, by its first bytes
abbrev pub IsWhyHistory : List ℕ → Option RowFault → Type 0
IsWhyHistory text None = (history : HistoryLines) × (history_of text ≡ Ok history)
IsWhyHistory text (Some fault) = (history_of text ≡ Err (DumpFault fault.line)) × (fault.text.items ≡ first_row (from_line fault.line text))
