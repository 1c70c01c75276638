use Rattle.std.proofs.Common.{◌≡◌, ◌≢◌, ℕ, zero, suc, List, arith, length, refl, sym, ap, ◌∙◌}
use Rattle.std.proofs.lemmas.List.{take_all}
use Rattle.std.proofs.lemmas.Result.{IfOk-from_err, IfOk-weaker}
use Rattle.sci_work.specs.Ring.{count_writes, ring_writes}
use Rattle.sci_work.proofs.Making.{on_ok_then}
use Rattle.sci_work.proofs.Refusing.{of_call}
use Rattle.sci_work.proofs.Residual.{passed_on}
use Rattle.sci_work.proofs.Worked.{worked_still}
use Rattle.sci_work.proofs.rings.working.worked.Goals as goal

-- the other node counts
counts : (source : List ℕ) (lines node : ℕ) → node ≢ 0 → count_writes lines (length source) ≡ ring_writes source lines node
counts source lines zero other = absurd (other refl)
counts source lines (suc node) other = refl

pub returns-in_err-produced : goal.returns-in_err-produced
returns-in_err-produced g c =
    let r = c.from_residual in
    let still = c.produced.ensures.still in
    record {
      share = IfOk-from_err r.result _ r.ensures.0;
      err = passed_on r.result _ _ r.ensures.1 (of_call _ c.in_err-produced.ensures.err);
      worked = (still.0, worked_still c.requires.ready still.1, IfOk-from_err r.result _ r.ensures.0);
    }

pub returns-then-number-eq0 : goal.returns-then-number-eq0
returns-then-number-eq0 g c =
    let still = c.in_ok-produced.ensures.still in
    record {
      share = λ one. absurd (omega (arith, one, c.if-number-eq0.true));
      err = tt;
      worked = (still.0, worked_still c.requires.ready still.1, still.2 ∙ ap (ring_writes c.args.source.now c.args.lines) (sym c.if-number-eq0.true));
    }

pub returns : goal.returns
returns g c =
    let e = c.consumed.ensures in
    let source = c.args.source.now in
    record {
      share = IfOk-weaker c.consumed.result _ _ (λ v read _. read source c.requires.ring (omega arith) ∙ take_all (length source) source (omega arith)) e.items;
      err = e.err;
      worked = (e.still.0, worked_still c.requires.ready e.still.1, on_ok_then c.consumed.result (λ is. is ∙ counts source c.args.lines c.args.number c.if-number-eq0.false) e.still.2);
    }

pub consumed-requires-clause-ring : goal.consumed-requires-clause-ring
consumed-requires-clause-ring g c κs within = record { source = c.args.source.now; ring = c.requires.ring; enough = omega arith }
