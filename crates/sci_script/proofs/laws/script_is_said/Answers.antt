use Rattle.sci_script.proofs.Saying.{of_script}
use Rattle.sci_script.proofs.Hearing.{heard_script}
use Rattle.sci_script.proofs.laws.script_is_said.Goals as goal

pub returns-clause-said : goal.returns-clause-said
returns-clause-said c = λ input text script e t. of_script input text script e t

pub returns-clause-heard : goal.returns-clause-heard
returns-clause-heard c = λ input text script e s. heard_script input text script e s
