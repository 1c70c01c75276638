-- A desk is the one whose parts it has.
use Rattle.std.proofs.Common.{◌≡◌, ap, subst, sym}
use Rattle.std.proofs.Props.{props}
use Rattle.sci_script.specs.declared.whole_desk.WholeDesk.{WholeDesk}
use Rattle.sci_trace.specs.declared.desk.TraceDesk.{TraceDesk}

abbrev with_desk : (w : TraceDesk) (d : WholeDesk) → d.size ≡ w.size → TraceDesk
with_desk w d same = record { size = w.size; desk = d; notes = w.notes; same = same }

pub same_desk : (w : TraceDesk) (d : WholeDesk) → d ≡ w.desk → (same : d.size ≡ w.size) → with_desk w d same ≡ w
same_desk w d e =
    let same_prop : IsProp (w.desk.size ≡ w.size) = hlevel props in
    subst (λ (x : WholeDesk). (same : x.size ≡ w.size) → with_desk w x same ≡ w) (sym e)
    (λ same. ap (λ s. with_desk w w.desk s) (same_prop same w.same))
