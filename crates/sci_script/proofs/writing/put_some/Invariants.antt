use Rattle.std.specs.Io.KnownBytes.{Keeps}
use Rattle.sci_script.proofs.writing.put_some.Given as goal

-- an interrupted write wrote nothing
abbrev pub invariant-loop : goal.invariant-loop
invariant-loop g l = Keeps (g.W.Write.contents l.fn.out) (g.W.Write.contents l.out)
