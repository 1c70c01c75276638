use Rattle.sci_ops.proofs.Storing.{any_store_fits}
use Rattle.sci_coarse.proofs.Staying.{chain_keeps}
use Rattle.sci_shared_tests.proofs.lines.turn.Goals as goal

pub turn-requires : goal.turn-requires
turn-requires g c = record { fits = any_store_fits c.args.op.now.goal }

pub returns-clause-same_line : goal.returns-clause-same_line
returns-clause-same_line g c = chain_keeps (λ s. s.line) _ (λ s call t h. h.0) c.args.port.now c.turn.ensures.calls.calls c.turn.new.port c.turn.ensures.calls.chain

pub returns-clause-same_reference : goal.returns-clause-same_reference
returns-clause-same_reference g c = chain_keeps (λ s. s.seat.ghost_name) _ (λ s call t h. h.1) c.args.port.now c.turn.ensures.calls.calls c.turn.new.port c.turn.ensures.calls.chain
