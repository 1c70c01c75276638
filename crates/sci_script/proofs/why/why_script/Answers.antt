use Rattle.std.proofs.Common.{subst}
use Rattle.sci_script.specs.Format.{Lacks, reading_of, view}
use Rattle.sci_script.proofs.Reading.{if_ok_then}
use Rattle.sci_script.proofs.Refusing.{no_refusal, script_ok, script_refused}
use Rattle.sci_script.proofs.why.why_script.Goals as goal

pub returns-in-Ok-clause-unread : goal.returns-in-Ok-clause-unread
returns-in-Ok-clause-unread c =
    if_ok_then c.why_stopped.result _ _ c.why_stopped.ensures (λ why is e refused. absurd (no_refusal c.args.text.now (view c.in-Ok.script) e (script_ok c.args.text.now (view c.in-Ok.script) c.in-Ok.ensures) refused))

pub returns-in-Err-Refused-clause-unread : goal.returns-in-Err-Refused-clause-unread
returns-in-Err-Refused-clause-unread c = λ e refused. rw c.in-Err-Refused.reason-is (script_refused c.args.text.now c.in-Err-Refused.field-0-0 c.in-Err-Refused.reason e (subst (λ unread. Lacks unread (reading_of c.args.text.now)) c.in-Err-Refused.field-0-is c.in-Err-Refused.ensures) refused)
