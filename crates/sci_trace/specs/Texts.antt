-- The line of one turn. This project's profile.
use Rattle.std.specs.Prelude.{ℕ, List, [], ◌++◌, Option, Some, None, codes, ◌==◌, if◌then◌else◌}
use Rattle.std.specs.Fmt.{decimal}
use Rattle.sci_words.specs.declared.memory.Mem.{Mem}
use Rattle.sci_words.specs.declared.tags.Tag.{Tag}
use Rattle.sci_core.specs.declared.stages.Stage.{Stage}
use Rattle.sci_ops.specs.declared.goals.Goal.{Goal}
use Rattle.sci_ops.specs.declared.goals.Write.{Write}
use Rattle.sci_port.specs.declared.watching.Load.{Load}
use Rattle.sci_port.specs.declared.watching.Passed.{Passed}
use Rattle.sci_trace.specs.declared.texts.Wait.{Wait}
use Rattle.sci_trace.specs.Words.{link_word, tag_text}
use Rattle.sci_trace.specs.Events.{event_text}
use Rattle.sci_trace.specs.Steps.{step_text}
use Rattle.sci_trace.specs.Lists.{list_text}

-- the operation at work, by its goal; a node without a call takes turns towards rest alone
abbrev pub operation_name : Option Goal → List ℕ
operation_name (Some Goal.Load) = codes "load: "
operation_name (Some (Goal.Write (Write.Store word value))) = codes "store: "
operation_name (Some (Goal.Write (Write.Add word delta))) = codes "add: "
operation_name (Some (Goal.Write (Write.Line words))) = codes "write line: "
operation_name (Some Goal.Evict) = codes "evict: "
operation_name None = codes "rest: "

-- a wait behind a load of the memory word: in Queueing for the lent line, elsewhere for the place of the head
abbrev pub mem_wait : Stage → Mem → List ℕ
mem_wait (Stage.Queueing forw) mem = codes "memory is lent"
mem_wait _ mem = codes "memory names " ++ link_word mem.forw

-- what a turn that waited has seen last
abbrev pub wait_text : ℕ → Option Load → Stage → List ℕ
wait_text node (Some (Load.Own (Some tag))) stage = tag_text node tag
wait_text node (Some (Load.Mem (Some mem))) stage = mem_wait stage mem
wait_text node (Some (Load.Tag other (Some tag))) stage = tag_text other tag
wait_text node _ stage = codes "the line is busy"

-- that it waited, and for how many turns the line stands
abbrev pub times_text : ℕ → List ℕ
times_text times = if times == 1 then codes "waits: " else codes "waits " ++ decimal times ++ codes " times: "

-- a turn without an exchange: it waited, or it only looked
abbrev pub look_text : ℕ → Option Load → Stage → Option Wait → List ℕ
look_text node load stage (Some wait) = times_text wait.times ++ wait_text node load stage ++ codes "; "
look_text node load stage None = codes "only looked; "

-- what a turn did: its event and how the exchange ended, or its wait, or that it only looked
abbrev pub act_text : ℕ → Passed → Stage → Option Wait → List ℕ
act_text node passed stage wait = elim passed.step [
  | None ↦ look_text node passed.load stage wait
  | Some step ↦ event_text passed.load step.0 step.1
]

-- `# node N line L OPERATION: `
abbrev pub place_text : ℕ → Option Goal → ℕ → List ℕ
place_text node goal line = codes "# node " ++ decimal node ++ codes " line " ++ decimal line ++ codes " " ++ operation_name goal

-- `; for node N`, where the turn waited for a node
abbrev pub whom_text : Option ℕ → List ℕ
whom_text None = []
whom_text (Some node) = codes "; for node " ++ decimal node

abbrev pub for_text : Option Wait → List ℕ
for_text None = []
for_text (Some wait) = whom_text wait.whom

-- `# node N line L OPERATION: WHAT; STEP; LIST`, and whom a turn waited for
abbrev pub note_line : ℕ → Option Goal → Passed → Stage → Option Wait → Mem → List (ℕ × Tag) → List ℕ
note_line node goal passed stage wait mem entries =
    place_text node goal passed.line ++ act_text node passed stage wait ++ step_text stage ++ list_text mem entries ++ for_text wait ++ codes "\n"
