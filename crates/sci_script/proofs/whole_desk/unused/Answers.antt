use Rattle.std.proofs.Common.{◌+◌, ◌∙◌, ap}
use Rattle.std.proofs.lemmas.List.{length_push}
use Rattle.sci_script.proofs.Opened.{opened_push}
use Rattle.sci_script.proofs.whole_desk.unused.Goals as goal

pub loop-number-preserved : goal.loop-number-preserved
loop-number-preserved c =
    record {
      counted = rw c.in_ok-push-in-Ok.ensures.items (length_push c.loop-number.wholes.items _ ∙ ap (λ n. n + 1) c.loop-number.invariant.counted);
      opened = rw c.in_ok-push-in-Ok.ensures.items (opened_push c.args.script.now.size.nodes c.args.script.now.openings.items c.loop-number.wholes.items c.loop-number.number c.in-Ok.whole _ c.opening-content.result c.loop-number.invariant.counted
          c.loop-number.invariant.opened c.in-Ok.ensures.opened c.opening-content.ensures);
    }
