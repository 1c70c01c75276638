use Rattle.std.proofs.Common.{take}
use Rattle.std.specs.Io.KnownBytes.{Appends}
use Rattle.sci_trace.specs.Coding.{escaped}
use Rattle.sci_trace.proofs.coding.put_escaped.Given as goal

-- what stands for the bytes so far is written
abbrev pub invariant-loop-byte : goal.invariant-loop-byte
invariant-loop-byte g l = Appends (g.W.Write.contents l.fn.out) (g.W.Write.contents l.out) (escaped (take l.byte-index l.bytes))
