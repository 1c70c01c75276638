use Rattle.std.proofs.Common.{◌≡◌, ◌∙◌, ℕ, length, All, refl, sym, ap, subst}
use Rattle.sci_core.specs.Progress.{IsAtRest}
use Rattle.sci_core.specs.Whole.{nodes_of, state_of}
use Rattle.sci_port.specs.Banks.{AreLinesOf}
use Rattle.sci_script.specs.Nodes.{whole_of}
use Rattle.sci_script.specs.Resting.{ComeToRest}
use Rattle.sci_script.proofs.RestedLines.{all_at_rest, lines_stay, widths_stay}
use Rattle.sci_script.proofs.whole_desk.WholeDesk.rest.Goals as goal

pub rest_all-requires-clause-lines : goal.rest_all-requires-clause-lines
rest_all-requires-clause-lines g c = subst (λ v. length v.items ≡ c.args.self.size.lines) (sym c.into_parts-parts.ensures.same_lines) c.args.self.lines

pub rest_all-requires-clause-widths : goal.rest_all-requires-clause-widths
rest_all-requires-clause-widths g c = subst (λ v. All (λ w. nodes_of w ≡ c.args.self.size.nodes) v.items) (sym c.into_parts-parts.ensures.same_lines) c.args.self.widths

pub new-bank-requires : goal.new-bank-requires
new-bank-requires g c =
    let desk = c.args.self in
    let from : c.into_parts-parts.result.0 ≡ desk.bank.wholes = c.into_parts-parts.ensures.same_lines in
    let lines : length c.into_parts-parts.result.0.items ≡ desk.size.lines = subst (λ v. length v.items ≡ desk.size.lines) (sym from) desk.lines in
    let were = subst (λ v. AreLinesOf desk.bank.keep desk.bank.node v.items) (sym from) desk.bank.of in
    let are = lines_stay c.into_parts-parts.result.0.items c.rest_all.new.wholes.items (c.rest_all.ensures.lines ∙ sym lines) c.rest_all.ensures.same desk.bank.keep desk.bank.node were in
    record {
      lines = (
        desk.bank.keep,
        subst (λ (i : ℕ). AreLinesOf desk.bank.keep i c.rest_all.new.wholes.items) (sym c.node-node.ensures.value) are,
      );
      count = ap (λ v. length v.items) c.into_parts-parts.ensures.same_receipts ∙ desk.bank.count ∙ sym (ap (λ v. length v.items) from) ∙ lines ∙ sym c.rest_all.ensures.lines;
    }

pub invariant_of-result : goal.invariant_of-result
invariant_of-result g c =
    let desk = c.args.self in
    let from = c.into_parts-parts.ensures.same_lines in
    let lines : length c.into_parts-parts.result.0.items ≡ desk.size.lines = subst (λ v. length v.items ≡ desk.size.lines) (sym from) desk.lines in
    let wide = subst (λ v. All (λ w. nodes_of w ≡ desk.size.nodes) v.items) (sym from) desk.widths in
    let same = sym c.new-bank.ensures.same_lines in
    record {
      lines = subst (λ v. length v.items ≡ desk.size.lines) same c.rest_all.ensures.lines;
      widths = subst (λ v. All (λ w. nodes_of w ≡ desk.size.nodes) v.items) same (widths_stay c.into_parts-parts.result.0.items c.rest_all.new.wholes.items (c.rest_all.ensures.lines ∙ sym lines) c.rest_all.ensures.same desk.size.nodes wide);
      count = desk.count;
      of = desk.of;
      rests = record {
        each = λ line on.
            subst (λ v. IsAtRest (state_of (whole_of v.items line))) same
            (all_at_rest desk.size.nodes desk.size.lines c.into_parts-parts.result.0.items c.rest_all.new.wholes.items c.rest_all.ensures.rested.0 c.rest_all.ensures.lines c.rest_all.ensures.rested.2 line);
      };
    }

pub returns-clause-rested : goal.returns-clause-rested
returns-clause-rested g c =
    let desk = c.args.self in
    let rested = c.rest_all.ensures.rested in
    let lines : ComeToRest desk.size.nodes desk.size.lines desk.bank.wholes.items rested.0 c.new-bank.result.wholes.items = subst (λ v. ComeToRest desk.size.nodes desk.size.lines desk.bank.wholes.items rested.0 v.items) (sym c.new-bank.ensures.same_lines)
    (subst (λ v. ComeToRest desk.size.nodes desk.size.lines v.items rested.0 c.rest_all.new.wholes.items) c.into_parts-parts.ensures.same_lines rested.2) in
    (rested.0, rested.1, record { width = refl; taken = lines.taken; none = lines.none; all = lines.all; lines = lines.lines; nodes = λ node. refl })

pub returns-clause-rest : goal.returns-clause-rest
returns-clause-rest g c =
    let desk = c.args.self in
    subst (λ v. (line : ℕ) → IsAtRest (state_of (whole_of v.items line))) (sym c.new-bank.ensures.same_lines)
    (all_at_rest desk.size.nodes desk.size.lines c.into_parts-parts.result.0.items c.rest_all.new.wholes.items c.rest_all.ensures.rested.0 c.rest_all.ensures.lines c.rest_all.ensures.rested.2)

pub returns-clause-bound : goal.returns-clause-bound
returns-clause-bound g c = c.rest_all.ensures.bound

pub returns-clause-size : goal.returns-clause-size
returns-clause-size g c = refl
