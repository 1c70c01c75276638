use Rattle.std.proofs.Common.{◌≡◌, ◌∙◌, All, length, arith, ap, refl, sym, subst}
use Rattle.sci_core.specs.Progress.{IsAtRest}
use Rattle.sci_core.specs.Whole.{nodes_of, state_of}
use Rattle.sci_cache.specs.Nodes.{NodeState}
use Rattle.sci_script.specs.Nodes.{whole_of}
use Rattle.sci_script.specs.Unused.{AreOpened}
use Rattle.sci_script.proofs.Desks.{opens}
use Rattle.sci_script.proofs.Opened.{are_lines, idle_nodes, opened_rest, opened_widths}
use Rattle.sci_script.proofs.whole_desk.WholeDesk.open.Goals as goal

pub new-bank-requires : goal.new-bank-requires
new-bank-requires c =
    let script = c.args.script.now in
    let first = c.in_ok-nodes.ensures.idle 0 c.index.result.now (omega (arith, script.is_size.some_nodes)) in
    let id : c.id.result ≡ 0 = c.id.ensures ∙ ap (λ (n : NodeState). n.id) (c.index.ensures ∙ first) in
    record {
      lines = (
        record {},
        are_lines script.size.nodes script.openings.items c.in_ok-wholes.wholes.items script.size.lines c.id.result c.in_ok-wholes.ensures.count (omega (arith, script.is_size.some_lines)) script.is_size.few_lines
            (omega (arith, id, script.is_size.some_nodes)) c.in_ok-wholes.ensures.opened,
      );
      count = c.in_ok-receipts.ensures.count ∙ (c.from.ensures ∙ sym c.in_ok-wholes.ensures.count);
    }

pub invariant_of-result : goal.invariant_of-result
invariant_of-result c =
    let script = c.args.script.now in
    let size = script.size in
    let wholes = c.in_ok-wholes.wholes.items in
    let same = sym c.new-bank.ensures.same_lines in
    record {
      lines = subst (λ v. length v.items ≡ size.lines) same c.in_ok-wholes.ensures.count;
      widths = subst (λ v. All (λ w. nodes_of w ≡ size.nodes) v.items) same (opened_widths size.nodes script.openings.items wholes size.lines c.in_ok-wholes.ensures.count c.in_ok-wholes.ensures.opened);
      count = c.in_ok-nodes.nodes.ok.0 ∙ c.in_ok-nodes.ensures.count;
      of = idle_nodes size.lines script.capacity size.nodes c.in_ok-nodes.nodes.items c.in_ok-nodes.ensures.count c.in_ok-nodes.ensures.idle;
      rests = record {
        each = λ line on.
            subst (λ v. IsAtRest (state_of (whole_of v.items line))) same (opened_rest size.nodes script.openings.items wholes size.lines c.in_ok-wholes.ensures.count c.in_ok-wholes.ensures.opened line);
      };
    }

pub returns-clause-size : goal.returns-clause-size
returns-clause-size c = refl

pub returns-clause-opened : goal.returns-clause-opened
returns-clause-opened c =
    let script = c.args.script.now in
    opens script.size script.capacity script.openings.items c.new-bank.result.wholes.items c.in_ok-nodes.nodes.items
    (subst (λ v. AreOpened script.size.nodes script.openings.items script.size.lines v.items) (sym c.new-bank.ensures.same_lines) c.in_ok-wholes.ensures.opened) c.in_ok-nodes.ensures.idle
