use Rattle.std.proofs.Common.{[], arith, ◌+◌, ◌∙◌, ap, sym}
use Rattle.std.proofs.lemmas.List.{length_push}
use Rattle.sci_core.specs.State.{blank}
use Rattle.sci_script.proofs.Content.{content_end}
use Rattle.sci_script.proofs.Opened.{opened_push}
use Rattle.sci_logs.proofs.follower.unused.Goals as goal

pub loop-number-preserved : goal.loop-number-preserved
loop-number-preserved c =
    record {
      counted = rw c.in_ok-push-in-Ok.ensures.items (length_push c.loop-number.lines.items _ ∙ ap (λ n. n + 1) c.loop-number.invariant.counted);
      unused = rw c.in_ok-push-in-Ok.ensures.items (opened_push c.args.size.nodes [] c.loop-number.lines.items c.loop-number.number c.in-Ok.whole _ blank c.loop-number.invariant.counted
          c.loop-number.invariant.unused c.in-Ok.ensures.opened (sym (content_end c.loop-number.number blank [] 0 (omega arith))));
    }
