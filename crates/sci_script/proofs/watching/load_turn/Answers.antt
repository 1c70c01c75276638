use Rattle.std.proofs.Common.{refl}
use Rattle.sci_script.proofs.watching.load_turn.Goals as goal

pub turn_at-requires : goal.turn_at-requires
turn_at-requires g c = record { line = c.requires; fits = tt }

pub returns-clause-turns : goal.returns-clause-turns
returns-clause-turns g c =
    record {
      turn = c.turn_at.result;
      calls = c.turn_at.ensures.calls;
      answers = c.turn_at.ensures.answers;
      loads = c.turn_at.ensures.loads;
      leaves = tt;
      shows = refl;
      node = refl;
    }
