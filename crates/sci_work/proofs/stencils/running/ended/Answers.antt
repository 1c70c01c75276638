use Rattle.std.proofs.Common.{◌≡◌, List, subst}
use Rattle.std.proofs.lemmas.Result.{IfOk-from_err}
use mathlib.Core.Option.{some}
use lib.ListN.{get_elem?}
use Rattle.sci_work.proofs.Residual.{passed_on}
use Rattle.sci_work.proofs.stencils.running.ended.Goals as goal

pub gathered-requires-clause-shares : goal.gathered-requires-clause-shares
gathered-requires-clause-shares g c k x at tile j low mine small =
    c.requires.shares k x (subst (λ (xs : List _). get_elem? xs k ≡ some x) c.deref.ensures.value at) tile j low mine small

pub returns : goal.returns
returns g c = record { cells = c.in_ok-cells.ensures.ok; closed = c.in_ok-memory.ensures.ok; kept = c.in_ok-memory.ensures.kept; own = c.in_ok-memory.ensures.own; err = tt }

pub returns-in_err-cells : goal.returns-in_err-cells
returns-in_err-cells g c =
    let r = c.from_residual in
    record { cells = IfOk-from_err r.result _ r.ensures.0; closed = IfOk-from_err r.result _ r.ensures.0; kept = IfOk-from_err r.result _ r.ensures.0; own = IfOk-from_err r.result _ r.ensures.0; err = passed_on r.result _ _ r.ensures.1 c.in_err-cells.ensures.err }

pub returns-in_err-memory : goal.returns-in_err-memory
returns-in_err-memory g c =
    let r = c.from_residual-in_err-memory in
    record { cells = IfOk-from_err r.result _ r.ensures.0; closed = IfOk-from_err r.result _ r.ensures.0; kept = IfOk-from_err r.result _ r.ensures.0; own = IfOk-from_err r.result _ r.ensures.0; err = passed_on r.result _ _ r.ensures.1 c.in_err-memory.ensures.err }
