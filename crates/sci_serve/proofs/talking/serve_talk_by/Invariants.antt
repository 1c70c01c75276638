use Rattle.std.proofs.Common.{[], ℕ, List}
use Rattle.std.specs.Io.KnownBytes.{Appends, Consumes}
use Rattle.sci_script.specs.Talks.{Silent}
use Rattle.sci_script.specs.Talkers.{standing_of}
use Rattle.sci_serve.specs.Talked.{Talks, IsPart, Ends}
use Rattle.sci_serve.proofs.talking.serve_talk_by.Given as goal

-- the bytes that were read ended these lines, which were answered
abbrev pub invariant-loop : goal.invariant-loop
invariant-loop g l =
    (seen : List ℕ) × Consumes (g.R.Read.remaining l.fn.reader) (g.R.Read.remaining l.reader) seen × (ended : List (List ℕ)) × (left text : List ℕ) × Ends [] seen ended left × IsPart l.talker.held left
    × Talks Silent ended text (standing_of l.talker.talk) × Appends (g.W.Write.contents l.fn.writer) (g.W.Write.contents l.writer) text
