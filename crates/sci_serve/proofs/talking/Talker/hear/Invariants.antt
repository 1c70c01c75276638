use Rattle.std.proofs.Common.{◌≡◌, ◌++◌, ℕ, List, length}
use Rattle.std.specs.Io.KnownBytes.{Appends}
use Rattle.sci_script.specs.Talkers.{standing_of}
use Rattle.sci_serve.specs.Talked.{Talks, IsPart, Ends}
use Rattle.sci_serve.proofs.talking.Talker.hear.Given as goal

-- the bytes in front of what is left ended these lines, which were answered
abbrev pub invariant-loop-ended : goal.invariant-loop-ended
invariant-loop-ended g l =
    (part : List ℕ) → IsPart l.fn.self.held part → (ended : List (List ℕ)) × (left text front : List ℕ) × (l.fn.bytes ≡ front ++ l.rest) × Ends part front ended left × IsPart l.self.held left
    × Talks (standing_of l.fn.self.talk) ended text (standing_of l.self.talk) × Appends (g.W.Write.contents l.fn.out) (g.W.Write.contents l.out) text

abbrev pub decreases-loop-ended : goal.decreases-loop-ended
decreases-loop-ended g l = length l.rest
