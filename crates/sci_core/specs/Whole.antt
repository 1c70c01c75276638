-- What contracts see of a `Whole`: its fields as lists, and the state that they are.
use Rattle.std.specs.Prelude.{◌≡◌, ℕ, ◌<◌, ◌≤◌, Option, Some, None, List, length, replicate, slice_index_or, slice_set}
use Rattle.sci_words.specs.declared.tags.Tag.{Tag}
use Rattle.sci_words.specs.declared.memory.Mem.{Mem}
use Rattle.sci_core.specs.declared.lines.Line.{Line}
use Rattle.sci_core.specs.declared.pending.Pending.{Pending}
use Rattle.sci_core.specs.declared.rows.Change.{Change}
use Rattle.sci_words.specs.declared.memory.MemState.{MemState}
use Rattle.sci_core.specs.declared.whole.TheConstants.{MOST_NODES}
use Rattle.sci_core.specs.State.{State, invalid, blank, memory_word}
use Rattle.sci_core.specs.Shape.{shape}
use Rattle.sci_core.specs.Law.{Witness, Law, Below}
use Rattle.sci_core.specs.WellFormed.{HasWellFormedWords}

pub record WholeLine (K : Type 0) : Type 0 where
  pub keep : K
  pub number : ℕ
  pub memory : Mem
  pub tags : List Tag
  pub steps : List Pending
  pub memory_slot : Option Line
  pub slots : List (Option Line)

abbrev pub nodes_of : {K : Type 0} → WholeLine K → ℕ
nodes_of w = length w.tags

-- the state, in which nodes that there are not are Invalid and Idle
abbrev pub state_of : {K : Type 0} → WholeLine K → State
state_of w = record {
  memory = w.memory;
  tags = λ i. slice_index_or w.tags i invalid;
  steps = λ i. slice_index_or w.steps i Pending.Idle;
  memory_slot = w.memory_slot;
  slots = λ i. slice_index_or w.slots i (Some blank);
}

-- a state under the law, with well-formed words whose links are below the number of nodes, and a value whose words fit
pub record IsRuled (n : ℕ) (fits : List ℕ → Type 0) (s : State) : Type 0 where
  pub witness : Witness
  pub law : Law (shape s) witness
  pub links : Below n (shape s)
  pub words : HasWellFormedWords s
  pub fit : fits witness.value.words

-- what is true of each `Whole`
pub record IsSound {K : Type 0} (fits : List ℕ → Type 0) (w : WholeLine K) : Type 0 where
  pub some : 0 < length w.tags
  pub few : length w.tags ≤ MOST_NODES
  pub steps : length w.steps ≡ length w.tags
  pub slots : length w.slots ≡ length w.tags
  pub ruled : IsRuled (length w.tags) fits (state_of w)

-- the same line of the same nodes, under the same fact
pub record IsSameLine {K : Type 0} (v w : WholeLine K) : Type 0 where
  pub keep : w.keep ≡ v.keep
  pub number : w.number ≡ v.number
  pub nodes : nodes_of w ≡ nodes_of v

-- a line of n nodes that nobody has used: HOME, all tags Invalid, and the line in each slot
abbrev pub opened_whole : {K : Type 0} → K → ℕ → ℕ → Line → WholeLine K
opened_whole keep number n line = record {
  keep = keep;
  number = number;
  memory = memory_word MemState.Home None;
  tags = replicate n invalid;
  steps = replicate n Pending.Idle;
  memory_slot = Some line;
  slots = replicate n (Some line);
}

abbrev pub tag_list_after : List Tag → Change → List Tag
tag_list_after l (Change.OfMemory before after) = l
tag_list_after l (Change.OfTag x before after) = slice_set l x after
