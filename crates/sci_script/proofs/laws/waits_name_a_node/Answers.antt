use Rattle.sci_script.proofs.Named.{named_behind, undone_behind}
use Rattle.sci_script.proofs.laws.waits_name_a_node.Goals as goal

pub returns-clause-turn : goal.returns-clause-turn
returns-clause-turn c = λ size capacity openings steps k text s mid t node before after whom within opened printed below turned passed awaited. named_behind size capacity openings steps k text s mid within opened printed node t before after whom below turned passed awaited

pub returns-clause-done : goal.returns-clause-done
returns-clause-done c = λ size capacity openings steps step k n text s mid t why within opened printed at stopped is. undone_behind size capacity openings steps k text s mid within opened printed step n t why at stopped is
