use Rattle.std.proofs.Common.{◌∙◌, [], sym, refl, length, IfErr, arith, subst}
use Rattle.std.proofs.lemmas.Bool.{false≢true}
use Rattle.sci_work.specs.Made.{ComesInCall, none}
use Rattle.sci_work.specs.Ring.{IsRingSize}
use Rattle.sci_work.proofs.Residual.{on_ok_same}
use Rattle.sci_work.proofs.Worked.{still_not}
use Rattle.sci_work.proofs.rings.producing.produce.Goals as goal

pub returns-then-not-is_ring_size : goal.returns-then-not-is_ring_size
returns-then-not-is_ring_size g c =
    record {
      limits = ((λ _ size. absurd (false≢true (c.if-not-is_ring_size.ensures.1 size))), λ _. refl);
      untouched = λ _. (refl, refl);
      ok = tt;
      err = λ size. absurd (false≢true (c.if-not-is_ring_size.ensures.1 size));
      still = ([], still_not c.requires.ready, tt);
      made = record { count = 0; within = omega arith; made = none };
    }

pub returns : goal.returns
returns g c =
    let size : IsRingSize (length c.args.source.now) c.args.lines = c.if-not-is_ring_size.ensures.0 refl in
    let ended = c.produced-ended.ensures in
    let same = sym c.told.ensures in
    record {
      limits = ((λ e. absurd (subst (λ r. IfErr r ComesInCall) (same ∙ e) ended.err)), λ no. absurd (no size));
      untouched = λ no. absurd (no size);
      ok = on_ok_same _ _ _ c.told.ensures ended.ok;
      err = λ _. subst (λ r. IfErr r ComesInCall) same ended.err;
      made = ended.made;
      still = (ended.still.0, ended.still.1, on_ok_same _ _ _ c.told.ensures ended.still.2);
    }
