use Rattle.std.proofs.Common.{◌∙◌, ap, sym, ℕ}
use Rattle.sci_dump.specs.Reading.{count_at}
use Rattle.sci_dump.proofs.Labelled.{head_no_layout, head_no_nodes, head_no_lines, head_no_end, head_all}
use Rattle.sci_dump.proofs.rows.head_row.Goals as goal

pub returns-in_err-layout : goal.returns-in_err-layout
returns-in_err-layout c = record {
  exact = rw c.from_residual.ensures (head_no_layout c.args.text.now c.in_err-layout.ensures.exact);
  range = rw c.from_residual.ensures tt;
}

pub returns-in_err-nodes-clause-exact : goal.returns-in_err-nodes-clause-exact
returns-in_err-nodes-clause-exact c =
    let counted = ap (λ (n : ℕ). count_at n c.in_ok-layout.text.now) (sym c.nodes_in.ensures) ∙ c.in_err-nodes.ensures.exact in
    rw c.from_residual-in_err-nodes.ensures (head_no_nodes c.args.text.now c.in_ok-layout.text.now c.in_ok-layout.layout c.in_ok-layout.ensures.exact counted)

pub returns-in_err-lines-clause-exact : goal.returns-in_err-lines-clause-exact
returns-in_err-lines-clause-exact c =
    let counted = ap (λ (n : ℕ). count_at n c.in_ok-layout.text.now) (sym c.nodes_in.ensures) ∙ c.in_ok-nodes.ensures.exact in
    rw c.from_residual-in_err-lines.ensures (head_no_lines c.args.text.now c.in_ok-layout.text.now c.in_ok-nodes.text.now c.in_ok-layout.layout c.in_ok-nodes.nodes c.in_ok-layout.ensures.exact counted c.in_err-lines.ensures.exact)

pub returns-in_err-rest-clause-exact : goal.returns-in_err-rest-clause-exact
returns-in_err-rest-clause-exact c =
    let counted = ap (λ (n : ℕ). count_at n c.in_ok-layout.text.now) (sym c.nodes_in.ensures) ∙ c.in_ok-nodes.ensures.exact in
    rw c.from_residual-in_err-rest.ensures (head_no_end c.args.text.now c.in_ok-layout.text.now c.in_ok-nodes.text.now c.in_ok-lines.text.now c.in_ok-layout.layout c.in_ok-nodes.nodes c.in_ok-lines.lines c.in_ok-layout.ensures.exact counted c.in_ok-lines.ensures.exact c.in_err-rest.ensures.exact)

pub returns-clause-exact : goal.returns-clause-exact
returns-clause-exact c =
    let counted = ap (λ (n : ℕ). count_at n c.in_ok-layout.text.now) (sym c.nodes_in.ensures) ∙ c.in_ok-nodes.ensures.exact in
    head_all c.args.text.now c.in_ok-layout.text.now c.in_ok-nodes.text.now c.in_ok-lines.text.now c.in_ok-rest.rest.now c.in_ok-layout.layout c.in_ok-nodes.nodes c.in_ok-lines.lines c.in_ok-layout.ensures.exact counted c.in_ok-lines.ensures.exact c.in_ok-rest.ensures.exact
