-- What a workload ends with. This project's profile.
use Rattle.std.specs.Prelude.{ℕ, List, codes}
use Rattle.sci_serve.specs.declared.workloads.Worked.{Worked}
use Rattle.sci_serve.specs.declared.workloads.Worked.TheVariants.{Cells, Items, Word}
use Rattle.sci_serve.specs.Works.{list_line, count_line}

-- the line of what it ended with
abbrev pub worked_line : Worked → List ℕ
worked_line (Cells cells) = list_line (codes "cells") cells.items
worked_line (Items items) = list_line (codes "items") items.items
worked_line (Word word) = count_line word
