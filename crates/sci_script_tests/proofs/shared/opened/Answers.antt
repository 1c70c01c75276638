use Rattle.std.proofs.Common.{rules, ◌≡◌, ℕ, ◌+◌, ◌∙◌, ap, subst, vec_items}
use Rattle.std.proofs.lemmas.List.{length_push}
use Rattle.sci_port.specs.SeatBanks.{IsLine}
use Rattle.sci_script.proofs.Dealt.{piled_more, shared_more}
use Rattle.sci_script_tests.proofs.shared.opened.Goals as goal

pub loop-number-preserved : goal.loop-number-preserved
loop-number-preserved g c =
    let was = c.loop-number.invariant in
    let line = c.in_ok-line.line in
    record {
      count = rw c.in-Ok.ensures.items (length_push c.loop-number.lines.items _ ∙ ap (λ n. n + 1) was.count);
      even = rw c.in-Ok-push.ensures.items (length_push c.loop-number.piles.items _ ∙ ap (λ n. n + 1) was.even);
      lines = rw c.in-Ok.ensures.items (shared_more (λ l nodes number. IsLine nodes (record {}) number (g.L.SharedLine.terms l)) c.args.script.now.size.nodes c.loop-number.number c.loop-number.lines.items line was.count was.lines
          (subst (λ (n : ℕ). IsLine n (record {}) c.loop-number.number (g.L.SharedLine.terms line)) c.nodes.ensures.value c.in_ok-line.ensures.line));
      piles = rw c.in-Ok.ensures.items (rw c.in-Ok-push.ensures.items (piled_more g.L.SharedLine.is_seat vec_items c.loop-number.number c.loop-number.lines.items c.loop-number.piles.items line c.in_ok-line.seats was.count was.even was.piles c.in_ok-line.ensures.seats));
    }
