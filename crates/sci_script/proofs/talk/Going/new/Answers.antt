use Rattle.std.proofs.Common.{arith, ◌<◌, ℕ}
use Rattle.std.proofs.lemmas.List.Elements.{All-replicate}
use Rattle.sci_core.specs.declared.whole.TheConstants.{MOST_NODES}
use Rattle.sci_script.proofs.talk.Going.new.Goals as goal

pub invariant_of-result : goal.invariant_of-result
invariant_of-result c = record { is_size = c.requires; shown = All-replicate (λ (w : ℕ). w < 8) MOST_NODES 0 (omega arith) }
