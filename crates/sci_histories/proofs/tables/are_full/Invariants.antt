use Rattle.std.proofs.Common.{◌≡◌, ◌<◌, ℕ, List, Option, is_some, true}
use mathlib.Core.Option.{some}
use lib.ListN.{get_elem?}
use Rattle.sci_histories.proofs.tables.are_full.Given as goal

abbrev pub invariant-loop-slot : goal.invariant-loop-slot
invariant-loop-slot l = (k : ℕ) (w : Option (List ℕ)) → k < l.slot → get_elem? l.words k ≡ some w → is_some w ≡ true
