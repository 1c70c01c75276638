use Rattle.std.proofs.Common.{◌≡◌, ◌++◌, take, drop}
use Rattle.sci_serve.specs.Kinds.{first_word}
use Rattle.sci_serve.proofs.kinds.first_word.Given as goal

abbrev pub invariant-loop-at : goal.invariant-loop-at
invariant-loop-at l = first_word l.text ≡ take l.at l.text ++ first_word (drop l.at l.text)
