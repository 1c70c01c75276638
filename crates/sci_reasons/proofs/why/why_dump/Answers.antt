use Rattle.sci_reasons.proofs.why.why_dump.Goals as goal

pub returns-in-Err-DumpFault : goal.returns-in-Err-DumpFault
returns-in-Err-DumpFault c =
    let (_, stops) = rw c.in-Err-DumpFault.field-0-is at c.in-Err-DumpFault.ensures.err in
    (c.in-Err-DumpFault.row, stops.0, c.why_row.ensures)
