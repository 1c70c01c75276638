-- The lines of turns. This project's profile.
use Rattle.std.specs.Prelude.{◌≡◌, ℕ, List, Option}
use Rattle.std.specs.List.{flat_map}
use Rattle.sci_words.specs.declared.memory.Mem.{Mem}
use Rattle.sci_words.specs.declared.tags.Tag.{Tag}
use Rattle.sci_core.specs.declared.stages.Stage.{Stage}
use Rattle.sci_ops.specs.declared.goals.Goal.{Goal}
use Rattle.sci_port.specs.declared.watching.Passed.{Passed}
use Rattle.sci_trace.specs.declared.texts.Wait.{Wait}
use Rattle.sci_trace.specs.Texts.{note_line}

-- what a line tells of a turn: whose it was, what its node's operation is to do, what passed, whether it waited, and the node's pending step,
-- but for its line, and the list after it
pub record Told : Type 0 where
  pub node : ℕ
  pub goal : Option Goal
  pub passed : Passed
  pub stage : Stage
  pub wait : Option Wait
  pub mem : Mem
  pub entries : List (ℕ × Tag)

abbrev pub line_of_turn : Told → List ℕ
line_of_turn told = note_line told.node told.goal told.passed told.stage told.wait told.mem told.entries

-- the lines of some turns
abbrev pub AreLines : List ℕ → Type 0
AreLines notes = (turns : List Told) × (notes ≡ flat_map line_of_turn turns)

-- the same, as what can't be otherwise: so it is a plain fact, which a struct can keep
abbrev pub AreNotes : List ℕ → Type 0
AreNotes notes = (AreLines notes → ⊥) → ⊥
