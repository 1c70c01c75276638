use Rattle.std.proofs.Common.{rules}
use Rattle.sci_core.specs.Whole.{state_of}
use Rattle.sci_port.specs.declared.solo.Solo.{Solo}
use Rattle.sci_ops.proofs.Ending.Along.{turn_once}
use Rattle.sci_ops.proofs.Less.{answers_less, takes_less}
use Rattle.sci_ops.proofs.Resting.Falling.{turn_falls, turn_ranks}
use Rattle.sci_ops.proofs.Resting.Going.{mover_turns}
use Rattle.sci_ops.proofs.Resting.Reading.{turn_comes_to}
use Rattle.sci_ops.proofs.Resting.Waiting.{stuck_waits}
use Rattle.sci_ops.proofs.Valued.{lent_answers}
use Rattle.sci_ops.proofs.ops.Op.turn_on.Goals as goal

pub returns-clause-calls : goal.returns-clause-calls
returns-clause-calls g c = turn_once (Solo g.row.K.Denot g.K.Keeps) g.K.Keeps.fits (λ x. x.whole.ghost_name) (λ x. x.whole.now) (λ x. x.node) c.new.result c.turn.new.port c.args.self.now c.turn.result c.args.whole.now _ c.args.node c.new.ensures.same_line c.new.ensures.node (search rules) (takes_less (λ s call t h. h.0) c.turn.ensures.calls)

pub returns-clause-in_one_go : goal.returns-clause-in_one_go
returns-clause-in_one_go g c = turn_comes_to _ _ c.args.node c.args.self.now (state_of c.args.whole.now) c.turn.result _ (returns-clause-calls g c)

pub returns-clause-mover : goal.returns-clause-mover
returns-clause-mover g c = λ none m. mover_turns _ c.args.node (state_of c.args.whole.now) _ _ c.turn.result c.args.self.now none m (returns-clause-calls g c)

pub returns-clause-waits : goal.returns-clause-waits
returns-clause-waits g c = λ none busy stuck. stuck_waits _ _ c.args.node (state_of c.args.whole.now) _ c.turn.result stuck c.args.self.now none busy (returns-clause-calls g c)

pub returns-clause-nearer : goal.returns-clause-nearer
returns-clause-nearer g c = λ busy goes. turn_falls _ _ c.args.node c.requires.node c.args.self.now (state_of c.args.whole.now) c.turn.result _ busy (returns-clause-calls g c) goes

pub returns-clause-no_farther : goal.returns-clause-no_farther
returns-clause-no_farther g c = λ busy. turn_ranks _ _ c.args.node c.requires.node c.args.self.now (state_of c.args.whole.now) c.turn.result _ busy (returns-clause-calls g c)

pub returns-clause-answers : goal.returns-clause-answers
returns-clause-answers g c = lent_answers c.new.result c.turn.new.port g.K.Keeps.fits (λ x. x.whole.now) (λ x. x.node) (λ x. x.whole.ghost_name) c.args.self.now _ c.turn.result c.args.whole.now _ c.args.node c.new.ensures.same_line c.new.ensures.node (search rules) (answers_less (λ s call t h. h.0) (λ x. (state_of x.whole.now).steps x.node) c.args.self.now _ c.new.result c.turn.result c.turn.new.port c.turn.ensures.answers)

pub returns-clause-same : goal.returns-clause-same
returns-clause-same g c = search rules

pub returns-clause-op : goal.returns-clause-op
returns-clause-op g c = c.turn.ensures.op
