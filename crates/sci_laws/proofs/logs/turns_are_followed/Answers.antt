use Rattle.sci_laws.proofs.TurnsFollowed.{turn_follows}
use Rattle.sci_laws.proofs.logs.turns_are_followed.Goals as goal

pub returns : goal.returns
returns c = λ n me line op s t turn passed few below small ruled stores made passes. turn_follows n me line s ruled below few small op turn t passed stores made passes
