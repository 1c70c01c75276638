use Rattle.std.proofs.Common.{◌≡◌, ◌∙◌, ◌<◌, ℕ, refl, sym, ap, subst, arith}
use Rattle.std.proofs.lemmas.Bool.{MatchBool-at_false, MatchBool-at_true}
use Rattle.sci_script.specs.declared.commands.Size.{Size}
use Rattle.sci_script.specs.declared.desk.Toward.{Toward}
use Rattle.sci_script.specs.Run.{CalmsTo, RestsLines}
use Rattle.sci_script.proofs.Runs.{rests_none, rests_more}
use Rattle.sci_script.proofs.running.all_rest.Goals as goal

pub loop-line-init : goal.loop-line-init
loop-line-init g c = record { so_far = rests_none g.D.Desk.does c.args.desk.now; size = refl }

pub line_rests-requires : goal.line_rests-requires
line_rests-requires g c =
    let lines : (g.D.Desk.size c.loop-line.desk).lines ≡ c.args.lines = ap (λ (z : Size). z.lines) c.loop-line.invariant.size ∙ sym c.requires in
    omega (arith, c.loop-line-test.true, lines)

pub loop-line-preserved : goal.loop-line-preserved
loop-line-preserved g c =
    let i = c.loop-line.invariant in
    let k : ℕ = c.loop-line.line in
    let t = c.line_rests.new.desk in
    let calms = MatchBool-at_true (CalmsTo g.D.Desk.does k Toward.Reached c.loop-line.desk t) (CalmsTo g.D.Desk.does k Toward.Unknown c.loop-line.desk t) c.if-not-line_rests.false c.line_rests.ensures.calms in
    record {
      so_far = rests_more g.D.Desk.does k c.args.desk.now c.loop-line.desk t i.so_far calms;
      size = c.line_rests.ensures.size ∙ i.size;
    }

pub returns-then-not-line_rests : goal.returns-then-not-line_rests
returns-then-not-line_rests g c =
    let i = c.loop-line.invariant in
    let k : ℕ = c.loop-line.line in
    let t = c.line_rests.new.desk in
    let calms = MatchBool-at_false (CalmsTo g.D.Desk.does k Toward.Reached c.loop-line.desk t) (CalmsTo g.D.Desk.does k Toward.Unknown c.loop-line.desk t) c.if-not-line_rests.true c.line_rests.ensures.calms in
    record { rested = (k, c.loop-line-test.true, c.loop-line.desk, i.so_far, calms); size = c.line_rests.ensures.size ∙ i.size }

pub returns : goal.returns
returns g c =
    let i = c.loop-line.invariant in
    let all : c.loop-line.line ≡ c.args.lines = omega (arith, c.loop-line-test.false, c.loop-line.auto.line-end) in
    record { rested = subst (λ (m : ℕ). RestsLines g.D.Desk.does m c.args.desk.now c.loop-line.desk) all i.so_far; size = i.size }
