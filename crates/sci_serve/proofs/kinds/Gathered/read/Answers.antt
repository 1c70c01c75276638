use Rattle.std.proofs.Common.{[], append-nil, subst, sym}
use Rattle.std.proofs.KnownBytes.{Consumes-kept, Consumes-nil}
use Rattle.sci_serve.specs.Gathered.{IsGathered}
use Rattle.sci_serve.proofs.kinds.Gathered.read.Goals as goal

pub returns-in-Err-clause-read : goal.returns-in-Err-clause-read
returns-in-Err-clause-read g c = λ seen h. ([], subst (IsGathered c.args.self.now) (sym (append-nil seen)) h, Consumes-kept _ _ _ [] (Consumes-nil _) c.in-Err.ensures.bytes)

pub returns-in-Err-2-clause-err : goal.returns-in-Err-2-clause-err
returns-in-Err-2-clause-err g c = tt
