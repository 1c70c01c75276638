use Rattle.std.proofs.Common.{◌∙◌, ◌+◌, ◌<◌, refl, sym, subst}
use Rattle.sci_script.specs.declared.commands.Size.{Size}
use Rattle.sci_script.proofs.Runs.{calms_none, calms_more}
use Rattle.sci_script.proofs.running.line_rests.Goals as goal

pub turns-init : goal.turns-init
turns-init g c = record { so_far = (0, calms_none g.D.Desk.does c.args.line c.args.desk.now); size = refl }

pub rest_turn-requires : goal.rest_turn-requires
rest_turn-requires g c = subst (λ (z : Size). c.args.line < z.lines) (sym c.turns.invariant.size) c.requires

pub turns-preserved : goal.turns-preserved
turns-preserved g c =
    let i = c.turns.invariant in
    record {
      so_far = (i.so_far.0 + 1, calms_more g.D.Desk.does c.args.line i.so_far.0 c.in-Turned.field-0 c.args.desk.now c.turns.desk c.rest_turn.new.self i.so_far.1 c.in-Turned.ensures.turned);
      size = c.in-Turned.ensures.size ∙ i.size;
    }

pub turns-smaller : goal.turns-smaller
turns-smaller g c = c.in-Turned.ensures.nearer tt

pub returns-in-Reached : goal.returns-in-Reached
returns-in-Reached g c =
    let i = c.turns.invariant in
    record { calms = (i.so_far.0, c.turns.desk, i.so_far.1, c.in-Reached.ensures.turned); size = c.in-Reached.ensures.size ∙ i.size }

pub returns-in-Unknown : goal.returns-in-Unknown
returns-in-Unknown g c =
    let i = c.turns.invariant in
    record { calms = (i.so_far.0, c.turns.desk, i.so_far.1, c.in-Unknown.ensures.turned); size = c.in-Unknown.ensures.size ∙ i.size }
