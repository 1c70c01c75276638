use Rattle.sci_work.proofs.Showing.{zeros_fit}
use Rattle.sci_work_tests.proofs.locked.cells_take_in_their_neighbours.Goals as goal

pub worked-requires-clause-fits : goal.worked-requires-clause-fits
worked-requires-clause-fits g c κs = zeros_fit c.new-fact.result.cells.now c.new-fact.result.phases
