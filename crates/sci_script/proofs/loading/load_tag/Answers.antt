use Rattle.std.proofs.Common.{◌≡◌, ◌<◌, ◌∙◌, ℕ, None, Option, IfSome, refl, subst, sym, arith}
use Rattle.sci_words.specs.declared.tags.Tag.{Tag}
use Rattle.sci_script.specs.declared.commands.Size.{Size}
use Rattle.sci_script.specs.Event.{SawTag}
use Rattle.sci_script.specs.Run.{Repeats}
use Rattle.sci_script.proofs.Runs.{repeats_none, repeats_more}
use Rattle.sci_script.proofs.loading.load_tag.Goals as goal

pub loop-init : goal.loop-init
loop-init g c = record { so_far = repeats_none g.D.Desk.does (SawTag c.args.line c.args.node None) c.args.desk.now; size = refl }

pub loop-preserved : goal.loop-preserved
loop-preserved g c =
    let none = subst (λ (answer : Option Tag). g.D.Desk.does c.loop.desk (SawTag c.args.line c.args.node answer) c.tag.new.self) c.in_default.is c.tag.ensures.saw in
    record {
      so_far = repeats_more g.D.Desk.does (SawTag c.args.line c.args.node None) c.loop.counter c.args.desk.now c.loop.desk c.tag.new.self c.loop.invariant.so_far none;
      size = c.tag.ensures.size ∙ c.loop.invariant.size;
    }

pub tag-requires : goal.tag-requires
tag-requires g c =
    let same = sym c.loop.invariant.size in
    record { line = subst (λ (size : Size). c.args.line < size.lines) same c.requires.line; node = subst (λ (size : Size). c.args.node < size.nodes) same c.requires.node }

pub returns-in-Some-clause-loads : goal.returns-in-Some-clause-loads
returns-in-Some-clause-loads g c = (c.loop.counter, c.loop-test.true, c.loop.desk, c.loop.invariant.so_far, c.in-Some.ensures.saw)

pub returns-in-Some-clause-link : goal.returns-in-Some-clause-link
returns-in-Some-clause-link g c = subst (λ (size : Size). IfSome c.in-Some.tag.forw (λ n. n < size.nodes)) c.loop.invariant.size c.in-Some.ensures.link

pub returns-in-Some-clause-size : goal.returns-in-Some-clause-size
returns-in-Some-clause-size g c = c.in-Some.ensures.size ∙ c.loop.invariant.size

pub returns-clause-loads : goal.returns-clause-loads
returns-clause-loads g c =
    let all : c.loop.counter ≡ 100000 = omega (arith, c.loop-test.false, c.loop.auto.counter-end) in
    subst (λ (n : ℕ). Repeats g.D.Desk.does (SawTag c.args.line c.args.node None) n c.args.desk.now c.loop.desk) all c.loop.invariant.so_far

pub returns-clause-size : goal.returns-clause-size
returns-clause-size g c = c.loop.invariant.size
