-- What contracts see of a dump. This project's profile.
use Rattle.std.specs.Prelude.{◌≡◌, ◌≤◌, ℕ, List, length, All}
use Rattle.sci_core.specs.declared.whole.TheConstants.{MOST_NODES}
use Rattle.sci_core.specs.Closed.{ClosedLine}

-- the number of nodes, and the closed lines from line 0 on
pub record DumpLines : Type 0 where
  pub nodes : ℕ
  pub lines : List ClosedLine

-- 1 to 1,024 nodes, 1 to 1,024 lines, and each line has that many nodes
pub record IsDump (d : DumpLines) : Type 0 where
  pub nodes : (1 ≤ d.nodes) × (d.nodes ≤ MOST_NODES)
  pub lines : (1 ≤ length d.lines) × (length d.lines ≤ 1024)
  pub each : All (λ c. length c.tags ≡ d.nodes) d.lines
