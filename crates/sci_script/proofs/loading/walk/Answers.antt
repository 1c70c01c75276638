use Rattle.std.proofs.Common.{◌≡◌, ◌+◌, ◌<◌, ◌∙◌, ◌∷◌, ◌++◌, [], length, IfSome, inl, ap, refl, subst, sym, arith}
use Rattle.std.proofs.lemmas.List.{length_push}
use Rattle.std.proofs.lemmas.Result.{err_from_is_err_and}
use Rattle.sci_script.specs.declared.commands.Size.{Size}
use Rattle.sci_script.proofs.Runs.{walked_none, walked_more, walked_out, lost_behind}
use Rattle.sci_script.proofs.loading.walk.Goals as goal

pub loop-init : goal.loop-init
loop-init g c =
    rw c.new-entries.ensures.items record {
      so_far = walked_none g.D.Desk.does c.args.line c.args.head c.args.desk.now;
      counted = refl;
      size = refl;
      link = c.requires.head;
    }

pub returns-in_default-clause-walked : goal.returns-in_default-clause-walked
returns-in_default-clause-walked g c = rw c.in_default.is at c.loop.invariant.so_far

pub returns-in_default-clause-size : goal.returns-in_default-clause-size
returns-in_default-clause-size g c = c.loop.invariant.size

pub load_tag-requires-clause-line : goal.load_tag-requires-clause-line
load_tag-requires-clause-line g c = subst (λ (size : Size). c.args.line < size.lines) (sym c.loop.invariant.size) c.requires.line

pub load_tag-requires-clause-node : goal.load_tag-requires-clause-node
load_tag-requires-clause-node g c = subst (λ (size : Size). c.in-Some.node < size.nodes) (sym c.loop.invariant.size) (rw c.in-Some.is at c.loop.invariant.link)

pub returns-in_default-load_tag-clause-walked : goal.returns-in_default-load_tag-clause-walked
returns-in_default-load_tag-clause-walked g c = (c.loop.entries.items, c.in-Some.node, c.loop.desk, rw c.in-Some.is at c.loop.invariant.so_far, inl c.in_default-load_tag.ensures.loads)

pub returns-in_default-load_tag-clause-size : goal.returns-in_default-load_tag-clause-size
returns-in_default-load_tag-clause-size g c = c.in_default-load_tag.ensures.size ∙ c.loop.invariant.size

pub loop-preserved : goal.loop-preserved
loop-preserved g c =
    let before = rw c.in-Some.is at c.loop.invariant.so_far in
    let tag = c.in-Some-load_tag.tag in
    rw c.in_ok-push.ensures.items record {
      so_far = walked_more g.D.Desk.does c.args.line c.in-Some.node c.args.head c.loop.entries.items tag c.args.desk.now c.loop.desk c.load_tag.new.desk before c.in-Some-load_tag.ensures.loads;
      counted = length_push c.loop.entries.items _ ∙ ap (λ n. n + 1) c.loop.invariant.counted;
      size = c.in-Some-load_tag.ensures.size ∙ c.loop.invariant.size;
      link = subst (λ (size : Size). IfSome tag.forw (λ n. n < size.nodes)) c.loop.invariant.size c.in-Some-load_tag.ensures.link;
    }

-- the tag was loaded, and the entry had no room
pub returns-in_err-push-clause-err : goal.returns-in_err-push-clause-err
returns-in_err-push-clause-err g c =
    let p = err_from_is_err_and c.from_residual.result c.from_residual.ensures.1 in
    let before = rw c.in-Some.is at c.loop.invariant.so_far in
    let tag = c.in-Some-load_tag.tag in
    rw p.1 (
      c.loop.entries.items ++ (c.in-Some.node, tag) ∷ [],
      tag.forw,
      walked_more g.D.Desk.does c.args.line c.in-Some.node c.args.head c.loop.entries.items tag c.args.desk.now c.loop.desk c.load_tag.new.desk before c.in-Some-load_tag.ensures.loads,
    )

pub returns-in_err-push-clause-size : goal.returns-in_err-push-clause-size
returns-in_err-push-clause-size g c = c.in-Some-load_tag.ensures.size ∙ c.loop.invariant.size

pub returns-then-is_some-clause-walked : goal.returns-then-is_some-clause-walked
returns-then-is_some-clause-walked g c =
    let all : length c.loop.entries.items ≡ c.args.nodes = omega (arith, c.loop.invariant.counted, c.loop-test.false, c.loop.auto.counter-end) in
    lost_behind g.D.Desk.does c.args.nodes c.args.line c.args.head c.loop.next c.loop.entries.items c.args.desk.now c.loop.desk (sym c.is_some.ensures ∙ c.if-is_some.true) all c.loop.invariant.so_far

pub returns-then-is_some-clause-size : goal.returns-then-is_some-clause-size
returns-then-is_some-clause-size g c = c.loop.invariant.size

pub returns-clause-walked : goal.returns-clause-walked
returns-clause-walked g c =
    walked_out g.D.Desk.does c.args.line c.args.head c.loop.next c.loop.entries.items c.args.desk.now c.loop.desk (sym c.is_some.ensures ∙ c.if-is_some.false) c.loop.invariant.so_far

pub returns-clause-size : goal.returns-clause-size
returns-clause-size g c = c.loop.invariant.size
