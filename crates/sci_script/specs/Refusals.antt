-- The numbers of refusals. This project's profile.
use Rattle.std.specs.Prelude.{ℕ}
use Rattle.sci_script.specs.declared.refusals.ScriptRefusal.{ScriptRefusal}
use Rattle.sci_script.specs.declared.refusals.ScriptRefusal.TheVariants.{OutOfMemory, BadCommand, BadNumber, NotDone, WriteFailed}

abbrev pub script_refusal_number : ScriptRefusal → ℕ
script_refusal_number OutOfMemory = 7
script_refusal_number (BadCommand line) = 16
script_refusal_number (BadNumber line) = 17
script_refusal_number (NotDone line) = 18
script_refusal_number WriteFailed = 24
