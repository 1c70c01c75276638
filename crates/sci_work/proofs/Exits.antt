-- A refusal that is passed on.
use Rattle.std.proofs.Common.{◌≡◌, Result, IfErr}
use Rattle.std.proofs.lemmas.Result.{err_from_is_err_and}
use Rattle.std.specs.Result.{IsErrAnd}
use Rattle.sci_work.specs.declared.refusals.WorkRefusal.{WorkRefusal}

-- it comes where the first one came
pub passed_on : {T : Type 0} (r : Result T WorkRefusal) (e : WorkRefusal) (Comes : WorkRefusal → Type 0) → IsErrAnd r (λ y. y ≡ e) → Comes e → IfErr r Comes
passed_on r e Comes is here = let p = err_from_is_err_and r is in rw (p.1, p.2) here
