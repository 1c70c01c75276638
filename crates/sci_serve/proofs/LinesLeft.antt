-- The lines that a workload of settings leaves.
use Rattle.std.proofs.Common.{◌≤◌, List, length, ap, arith}
use Rattle.std.proofs.Math.Nat.{div-add-mod}
use Rattle.sci_core.specs.Closed.{ClosedLine}
use Rattle.sci_work.specs.Ended.{HaveNodes}
use Rattle.sci_settings.specs.declared.settings.Settings.{Settings}
use Rattle.sci_settings.specs.declared.settings.Settings.TheVariants.{Stencil, Ring, Count}
use Rattle.sci_settings.specs.Settings.{nodes_of}
use Rattle.sci_serve.specs.Runs.{AreLeftBy, AreWithin}

-- there are as many nodes and lines as a dump or a history may have
pub are_few : (s : Settings) (closed : List ClosedLine) → AreWithin s → AreLeftBy s closed
    → (1 ≤ nodes_of s) × (nodes_of s ≤ 64) × (1 ≤ length closed) × (length closed ≤ 1024)
are_few (Stencil nodes capacity phases cells dump) closed (whole, some, most, rounds, one, few, room, names) (are, have) =
    let d = div-add-mod (length cells) 7 in let n = are.count_is in
    (one, few, omega (arith, d, whole, some, n), omega (arith, d, whole, most, n))
are_few (Ring lines capacity items dump) closed ((short, some, most), room, names) (are, have) =
    let n = are.count_is in (omega arith, omega arith, omega (arith, n), omega (arith, n, most))
are_few (Count nodes adds capacity dump) closed (one, few, adds_few, room, names) ((c, is, exact, word), have) =
    let n = ap (length {A = ClosedLine}) is in (one, few, omega (arith, n), omega (arith, n))

-- each has the nodes of the settings
pub have_nodes : (s : Settings) (closed : List ClosedLine) → AreLeftBy s closed → HaveNodes (nodes_of s) closed
have_nodes (Stencil nodes capacity phases cells dump) closed (are, have) = have
have_nodes (Ring lines capacity items dump) closed (are, have) = have
have_nodes (Count nodes adds capacity dump) closed (are, have) = have
