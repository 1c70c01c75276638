use Rattle.std.proofs.Common.{◌∙◌, ◌++◌, ◌≤◌, ℕ, List, length, subst, sym, ap}
use Rattle.sci_core.specs.Closed.{ClosedLine}
use Rattle.sci_work.specs.Ended.{HaveNodes}
use Rattle.sci_settings.specs.Settings.{nodes_of}
use Rattle.sci_serve.specs.Runs.{AreLeftBy, dump_part, result_line}
use Rattle.sci_serve.proofs.LinesLeft.{are_few, have_nodes}
use Rattle.sci_serve.proofs.results.result_text.Goals as goal

pub push_dump-requires-clause-lines : goal.push_dump-requires-clause-lines
push_dump-requires-clause-lines g c =
    let (any, few, one, most) = are_few c.args.settings.now c.in_ok-worked.memory.lines.items c.requires c.in_ok-worked.ensures.left in
    subst (λ (cs : List ClosedLine). (1 ≤ length cs) × (length cs ≤ 1024)) (sym c.deref.ensures.value) (one, most)

pub push_dump-requires-clause-nodes : goal.push_dump-requires-clause-nodes
push_dump-requires-clause-nodes g c =
    let s = c.args.settings.now in let closed = c.in_ok-worked.memory.lines.items in
    let (any, few, one, most) = are_few s closed c.requires c.in_ok-worked.ensures.left in
    (nodes_of s, any, few, subst (λ (cs : List ClosedLine). HaveNodes (nodes_of s) cs) (sym c.deref.ensures.value) (have_nodes s closed c.in_ok-worked.ensures.left))

pub returns-clause-ok : goal.returns-clause-ok
returns-clause-ok g c =
    let s = c.args.settings.now in let closed = c.deref.result.now in
    let left = subst (λ (cs : List ClosedLine). AreLeftBy s cs) (sym c.deref.ensures.value) c.in_ok-worked.ensures.left in (
      closed,
      left,
      c.in_ok-push_dump.ensures (nodes_of s) (have_nodes s closed left)
          ∙ ap (λ (text : List ℕ). text ++ dump_part c.wants_dump.result (nodes_of s) closed) (c.in_ok-text.ensures ∙ c.in_ok-worked.ensures.line)
          ∙ ap (λ wanted. result_line s ++ dump_part wanted (nodes_of s) closed) c.wants_dump.ensures,
    )
