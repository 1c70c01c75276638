use Rattle.sci_laws.proofs.Accepting.{talked_so, printed_so}
use Rattle.sci_laws.proofs.talks.script_is_talked.Goals as goal

pub returns-clause-talked : goal.returns-clause-talked
returns-clause-talked c = λ input text s. talked_so input text s

pub returns-clause-printed : goal.returns-clause-printed
returns-clause-printed c = λ input talk script t e talks none. printed_so input talk script t e talks none
