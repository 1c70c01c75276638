use Rattle.std.proofs.Common.{rules, sym, subst}
use Rattle.std.specs.Prelude.{All}
use Rattle.sci_shared_tests.proofs.lines.replaying.replay_run.Goals as goal

pub replay_all-requires : goal.replay_all-requires
replay_all-requires g c = subst (λ l. All (λ s. g.L.SharedLine.is_seat c.in_ok-line.line s) l) (sym c.as_mut_slice.ensures.value) (search rules)
