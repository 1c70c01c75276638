use Rattle.std.proofs.Common.{◌<◌, List, IfErr, IsOk, get_or, length, sym, subst}
use Rattle.std.specs.Prelude.{All}
use Rattle.sci_fine.proofs.Elements.{each_all, inside}
use Rattle.sci_work.specs.Programs.{ComesInPart}
use Rattle.sci_work.proofs.Seated.{or_at}
use Rattle.sci_work.proofs.starting.run_all.Goals as goal

pub check_ended-requires : goal.check_ended-requires
check_ended-requires g c =
    subst (λ (xs : List _). All (λ one. IfErr one.share (ComesInPart c.args.program)) xs) (sym c.deref.ensures.value)
    (each_all (λ one. IfErr one.share (ComesInPart c.args.program)) c.in_ok-done.done.items (λ k one at. (c.in_ok-done.ensures.each k one at).refused))

pub part-requires-clause-ended : goal.part-requires-clause-ended
part-requires-clause-ended g c k x at =
    let ok = subst (λ (xs : List _). k < length xs → IsOk (get_or xs k x).share) c.deref.ensures.value (λ below. c.in_ok-check_ended.ensures.ended k x below) (inside c.in_ok-done.done.items x k at)
    in subst (λ one. IsOk one.share) (or_at c.in_ok-done.done.items k x x at) ok
