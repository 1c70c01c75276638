-- A turn over a port to a line that is lent, where its node works alone.
use Rattle.std.proofs.Common.{◌≡◌, ℕ, None, List}
use Rattle.std.specs.Borrow.{GName}
use Rattle.sci_core.specs.Whole.{WholeLine, nodes_of, state_of}
use Rattle.sci_ops.specs.declared.answers.Turn.{Turn}
use Rattle.sci_ops.specs.Alone.{TakesTurn}
use Rattle.sci_ops.specs.Operation.{Operation}
use Rattle.sci_ops.specs.Plan.{Takes}
use Rattle.sci_ops.specs.Table.{turn_of}
use Rattle.sci_ops.proofs.Ending.Along.{lent, turn_lent, way_of}
use Rattle.sci_ops.proofs.Ending.Falls.{turn_falls}
use Rattle.sci_ops.proofs.Ending.Premise.{Alone, Falls}

-- it is one over the line, and it leaves fewer
pub turns : (S : Type 0) {K : Type 0} (fits : K → ℕ → List ℕ → Type 0) (name : S → GName) (whole : S → WholeLine K) (node : S → ℕ) (init s t : S) (op o : Operation) (r : Turn) → op.answer ≡ None → o ≡ op → way_of S fits name whole node s ≡ way_of S fits name whole node init → (whole s).keep ≡ (whole init).keep → Alone (nodes_of (whole init)) op.goal (node init) (state_of (whole s)) → Takes (lent S fits name whole node) (turn_of o (node s) ((state_of (whole s)).steps (node s))) s r t
    → TakesTurn (nodes_of (whole init)) (fits (whole init).keep (whole init).number) (node init) op (state_of (whole s)) r (state_of (whole t)) × Falls (nodes_of (whole init)) op.goal (node init) (state_of (whole s)) r (state_of (whole t))
turns S fits name whole node init s t op o r begun same way keep alone h =
    let taken : TakesTurn (nodes_of (whole init)) (fits (whole init).keep (whole init).number) (node init) op (state_of (whole s)) r (state_of (whole t)) = turn_lent S fits name whole node init s t op o r same way keep h in
    (taken, turn_falls (nodes_of (whole init)) (fits (whole init).keep (whole init).number) (node init) op (state_of (whole s)) (state_of (whole t)) r begun alone taken)
