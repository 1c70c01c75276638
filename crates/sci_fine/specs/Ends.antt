-- What `finish` gives. This project's profile.
use Rattle.std.specs.Prelude.{◌≡◌, ℕ, suc, ◌<◌, ◌≤◌, true, Some, List, [], length, slice_index_or}
use mathlib.Core.Option.{some}
use lib.ListN.{get_elem?}
use Rattle.sci_words.specs.Codes.{tag_code}
use Rattle.sci_words.specs.Tag.{tag_well_formed, tag_links_below}
use Rattle.sci_words.specs.declared.tags.Tag.{Tag}
use Rattle.sci_core.specs.declared.lines.Line.{Line}
use Rattle.sci_core.specs.declared.pending.Pending.{Pending}
use Rattle.sci_core.specs.Closed.{ClosedLine, IsExactClosed}
use Rattle.sci_core.specs.State.{State, opened, invalid, blank}
use Rattle.sci_core.specs.Run.{HasValue}
use Rattle.sci_port.specs.History.{IsHistory}
use Rattle.sci_core.specs.Whole.{IsRuled}
use Rattle.sci_fine.specs.declared.views.Terms.{Terms}
use Rattle.sci_port.specs.declared.calls.Call.{Call}
use Rattle.sci_fine.specs.Rule.{lies_at, word_at, slot_in}
use Rattle.sci_port.specs.Runs.{Leads, done_by}
use Rattle.sci_port.specs.Solo.{Gives}

-- what the node j has done, where this is the list of what each has
abbrev pub log_at : List (List (ℕ × Call)) → ℕ → List (ℕ × Call)
log_at logs j = slice_index_or logs j []

-- one run of calls leads to this state from the line as it was opened; what each node has done in it, with the places, are these
pub record IsRunTo {K : Type 0} (fits : K → ℕ → List ℕ → Type 0) (t : Terms K) (logs : List (List (ℕ × Call))) (s : State) : Type 0 where
  pub run : List (ℕ × Call)
  pub led : Leads (Gives t.nodes (fits t.keep t.number)) (opened t.nodes t.opening) run s
  pub each : (j : ℕ) → done_by j run ≡ log_at logs j

-- the words and slots of a closed table are those of a lawful state in which each step is Idle, at the end of a run
pub record IsAtRest {K : Type 0} (fits : K → ℕ → List ℕ → Type 0) (t : Terms K) (logs : List (List (ℕ × Call))) (ws : List ℕ) (xs : List Line) : Type 0 where
  pub state : State
  pub fit : fits t.keep t.number t.opening.words
  pub ran : IsRunTo fits t logs state
  pub ruled : IsRuled t.nodes (fits t.keep t.number) state
  pub idle : (i : ℕ) → state.steps i ≡ Pending.Idle
  pub beyond : (i : ℕ) → t.nodes ≤ i → (state.tags i ≡ invalid) × (state.slots i ≡ Some blank)
  pub words : (i : ℕ) → i < suc t.nodes → get_elem? ws (lies_at i) ≡ some (word_at state i)
  pub lines : (i : ℕ) → i < suc t.nodes → (y : Line) × (slot_in state i ≡ Some y) × (get_elem? xs i ≡ some y)

-- what was read of them so far
pub record HasRead (ws : List ℕ) (xs : List Line) (i : ℕ) (tags : List Tag) (lines : List Line) : Type 0 where
  pub tag_count : length tags ≡ i
  pub line_count : length lines ≡ i
  pub tag : (x : ℕ) → x < i → (t : Tag) × (get_elem? tags x ≡ some t) × (tag_well_formed t ≡ true) × (tag_links_below 65535 t ≡ true) × (get_elem? ws (lies_at (suc x)) ≡ some (tag_code t))
  pub line : (x : ℕ) → x < i → get_elem? xs (suc x) ≡ get_elem? lines x

-- what is closed is this state's: its words, and the lines in its slots, which are all at home
pub record IsReadOff (n : ℕ) (s : State) (c : ClosedLine) : Type 0 where
  pub mem : c.mem ≡ s.memory
  pub memory : Some c.memory ≡ s.memory_slot
  pub tag_count : length c.tags ≡ n
  pub line_count : length c.lines ≡ n
  pub tags : (x : ℕ) → x < n → get_elem? c.tags x ≡ some (s.tags x)
  pub lines : (x : ℕ) → x < n → (y : Line) × (get_elem? c.lines x ≡ some y) × (s.slots x ≡ Some y)

-- an exact list, read off the state at the end of a run of the line from its opening, in which each step is Idle. What each
-- node has done in the run are the calls of its seat, each at its place; and nobody else did anything. The run is one legal
-- history, from the opening line to the value
pub record IsEnd {K : Type 0} (fits : K → ℕ → List ℕ → Type 0) (t : Terms K) (logs : List (List (ℕ × Call))) (c : ClosedLine) : Type 0 where
  pub state : State
  pub fit : fits t.keep t.number t.opening.words
  pub value : Line
  pub valued : HasValue t.nodes (fits t.keep t.number) state value
  pub ran : IsRunTo fits t logs state
  pub history : IsHistory t.opening ran.run value
  pub idle : (i : ℕ) → state.steps i ≡ Pending.Idle
  pub read : IsReadOff t.nodes state c
  pub exact : IsExactClosed c
