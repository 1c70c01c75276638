-- Pending steps in words, which show nothing of the lines that they keep. This project's profile.
use Rattle.std.specs.Prelude.{List, [], ◌++◌, codes, true, false, ℕ, if◌then◌else◌}
use Rattle.std.specs.Fmt.{decimal}
use Rattle.sci_core.specs.declared.stages.Stage.{Stage}
use Rattle.sci_trace.specs.Words.{link_word}

-- a step's name, and the bracket in front of the node that it keeps, where it keeps one
abbrev pub step_name : Stage → List ℕ
step_name Stage.Idle = codes "Idle"
step_name (Stage.Holding word) = codes "Holding"
step_name (Stage.Queueing forw) = codes "Queueing("
step_name (Stage.Fetching forw dirty) = codes "Fetching("
step_name (Stage.InQueue forw dirty copy) = codes "InQueue("
step_name (Stage.Copying forw word) = codes "Copying("
step_name (Stage.Ready forw dirty) = codes "Ready("
step_name (Stage.Converting forw turned) = codes "Converting("
step_name (Stage.Purging seen) = codes "Purging"
step_name (Stage.Advancing victim word) = codes "Advancing("
step_name (Stage.Clearing victim word) = codes "Clearing("
step_name (Stage.Leaving dirty seen) = codes "Leaving"
step_name (Stage.Promoted dirty succ) = codes "Promoted("
step_name Stage.WritingBack = codes "WritingBack"
step_name (Stage.Parted forw) = codes "Parted("
step_name (Stage.Rolling told seen) = codes "Rolling"
step_name (Stage.Unlinked forw back) = codes "Unlinked("

-- the node that a step keeps: the one behind, the victim, or the successor
abbrev pub step_argument : Stage → List ℕ
step_argument (Stage.Queueing forw) = link_word forw
step_argument (Stage.Fetching forw dirty) = link_word forw
step_argument (Stage.InQueue forw dirty copy) = link_word forw
step_argument (Stage.Ready forw dirty) = link_word forw
step_argument (Stage.Converting forw turned) = link_word forw
step_argument (Stage.Parted forw) = link_word forw
step_argument (Stage.Unlinked forw back) = link_word forw
step_argument (Stage.Copying forw word) = decimal forw
step_argument (Stage.Advancing victim word) = decimal victim
step_argument (Stage.Clearing victim word) = decimal victim
step_argument (Stage.Promoted dirty succ) = decimal succ
step_argument _ = []

-- what closes a step: the bracket, where there is one, and what else it keeps in mind
abbrev pub mark_of : Stage → List ℕ
mark_of Stage.Idle = codes "; "
mark_of (Stage.Holding word) = codes "; "
mark_of (Stage.Purging seen) = codes "; "
mark_of Stage.WritingBack = codes "; "
mark_of (Stage.Fetching forw dirty) = if dirty then codes ") dirty; " else codes "); "
mark_of (Stage.InQueue forw dirty copy) = if dirty then codes ") dirty; " else codes "); "
mark_of (Stage.Ready forw dirty) = if dirty then codes ") dirty; " else codes "); "
mark_of (Stage.Promoted dirty succ) = if dirty then codes ") dirty; " else codes "); "
mark_of (Stage.Converting forw turned) = if turned then codes ") turned; " else codes "); "
mark_of (Stage.Leaving true seen) = codes " dirty; "
mark_of (Stage.Leaving false seen) = codes "; "
mark_of (Stage.Rolling true seen) = codes " told; "
mark_of (Stage.Rolling false seen) = codes "; "
mark_of _ = codes "); "

abbrev pub step_text : Stage → List ℕ
step_text step = step_name step ++ step_argument step ++ mark_of step
