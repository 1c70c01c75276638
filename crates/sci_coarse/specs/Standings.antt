-- What contracts see of a pending step on the terms of its line.
use Rattle.sci_core.specs.declared.pending.Pending.{Pending}
use Rattle.sci_coarse.specs.declared.views.Terms.{Terms}

pub record StandingOn (K : Type 0) : Type 0 where
  pub terms : Terms K
  pub pending : Pending
