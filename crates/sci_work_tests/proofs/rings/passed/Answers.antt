use Rattle.std.proofs.Common.{rules}
use Rattle.sci_work.proofs.Items.{is_ring, is_ring_of, zeros_fit}
use Rattle.sci_work_tests.proofs.rings.passed.Goals as goal

pub opened-requires-clause-first : goal.opened-requires-clause-first
opened-requires-clause-first g c = zeros_fit c.new-fact.result.source.now c.new-fact.result.lines 0

pub produce-produced-requires-clause-ring : goal.produce-produced-requires-clause-ring
produce-produced-requires-clause-ring g c = search (is_ring, rules)

pub consume-consumed-requires-clause-ring : goal.consume-consumed-requires-clause-ring
consume-consumed-requires-clause-ring g c = search (is_ring_of, rules)
