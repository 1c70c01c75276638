-- The numbers of refusals. This project's profile.
use Rattle.std.specs.Prelude.{ℕ}
use Rattle.sci_core.specs.declared.outcomes.OpenRefusal.{OpenRefusal}

abbrev pub open_refusal_number : OpenRefusal → ℕ
open_refusal_number OpenRefusal.BadNodes = 6
open_refusal_number OpenRefusal.OutOfMemory = 7
