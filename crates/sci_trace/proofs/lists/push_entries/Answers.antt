use Rattle.std.proofs.Common.{arith, ◌≡◌, ◌∙◌, ◌<◌, ◌-◌, ◌+◌, ◌++◌, IfSome, codes, refl, subst}
use Rattle.sci_script.specs.declared.commands.Size.{Size}
use Rattle.sci_script.specs.Shared.{Shared}
use Rattle.sci_script.specs.Wholes.{shared_of}
use Rattle.sci_trace.specs.NoteText.{note_bytes}
use Rattle.sci_trace.specs.Lists.{entry_text}
use Rattle.sci_trace.proofs.Walking.{first_walked, next_walked, all_walked}
use Rattle.sci_trace.proofs.lists.push_entries.Goals as goal

pub loop-init : goal.loop-init
loop-init c =
    let tags = ((shared_of c.args.desk.now).lines c.args.line).tags in
    let nodes = c.args.nodes in
    record {
      text = first_walked tags nodes (nodes - 1) c.args.head c.in_ok-next.next _ _ _ (omega arith) refl c.in_ok-next.ensures.pushed c.in_ok-next.ensures.next;
      same = c.in_ok-next.ensures.same;
      size = c.in_ok-next.ensures.size;
      link = c.in_ok-next.ensures.link;
    }

pub returns-in_default-clause-pushed : goal.returns-in_default-clause-pushed
returns-in_default-clause-pushed c =
    let tags = ((shared_of c.args.desk.now).lines c.args.line).tags in
    all_walked tags (c.args.nodes - c.loop.counter) c.loop.next _ _ c.in_default.is c.loop.invariant.text

pub loop-preserved : goal.loop-preserved
loop-preserved c =
    let tags = ((shared_of c.args.desk.now).lines c.args.line).tags in
    let nodes = c.args.nodes in
    let i = c.loop.counter in
    let node = c.in-Some.node in
    let next = c.in_ok-next-2.next in
    let same = c.loop.invariant.same in
    let pushed = subst (λ (s : Shared). note_bytes c.push_entry-in-loop.new.text ≡ (note_bytes c.loop.text ++ codes ", ") ++ entry_text (node, (s.lines c.args.line).tags node)) same c.in_ok-next-2.ensures.pushed in
    let to = subst (λ (s : Shared). next ≡ ((s.lines c.args.line).tags node).forw) same c.in_ok-next-2.ensures.next in
    record {
      text = next_walked tags (nodes - i) (nodes - (i + 1)) node c.loop.next next _ _ _ _ (omega arith) c.in-Some.is refl pushed to c.loop.invariant.text;
      same = c.in_ok-next-2.ensures.same ∙ same;
      size = c.in_ok-next-2.ensures.size ∙ c.loop.invariant.size;
      link = subst (λ (z : Size). IfSome next (λ n. n < z.nodes)) c.loop.invariant.size c.in_ok-next-2.ensures.link;
    }
