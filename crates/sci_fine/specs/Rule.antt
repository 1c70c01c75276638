-- The rule of the line's table, which holds between any two steps of it. This project's profile.
use Rattle.std.specs.Prelude.{◌≡◌, ℕ, zero, suc, ◌+◌, ◌*◌, ◌<◌, ◌≤◌, ◌-◌, Option, Some, None, List, [], length, slice_index}
use mathlib.Core.Option as maybe
use mathlib.Core.Option.{some, none}
use lib.ListN.{get_elem?}
use Rattle.atomic_table.specs.Table as table
use Rattle.sci_words.specs.Codes.{tag_code, mem_code}
use Rattle.sci_core.specs.declared.lines.Line.{Line}
use Rattle.sci_core.specs.declared.pending.Pending.{Pending}
use Rattle.sci_core.specs.declared.rows.Place.{Place}
use Rattle.sci_core.specs.declared.rows.Place.TheVariants.{Memory, Node}
use Rattle.sci_core.specs.State.{State, opened, invalid, blank}
use Rattle.sci_core.specs.Run.{IsLawfulLine}
use Rattle.sci_core.specs.Whole.{IsRuled}
use Rattle.sci_port.specs.declared.calls.Call.{Call}
use Rattle.sci_fine.specs.declared.views.Terms.{Terms}
use Rattle.sci_fine.specs.declared.views.View.{View}
use Rattle.sci_port.specs.Runs.{Leads, done_by}
use Rattle.sci_port.specs.Solo.{Gives}

-- the table: words, slots and views
abbrev pub Shared : Type 0 → Type 0
Shared K = table.State Line (View K)

-- where the word with this number lies: the words of different nodes stand 64 bytes apart
abbrev pub lies_at : ℕ → ℕ
lies_at i = i * 8

-- the number of a place's slot and word: 0 is memory's, x + 1 that of the node x
abbrev pub slot_number : Place → ℕ
slot_number Memory = 0
slot_number (Node x) = suc x

-- the code of the word with this number
abbrev pub word_at : State → ℕ → ℕ
word_at s zero = mem_code s.memory
word_at s (suc x) = tag_code (s.tags x)

-- the line in the slot with this number, if it is at home
abbrev pub slot_in : State → ℕ → Option Line
slot_in s zero = s.memory_slot
slot_in s (suc x) = s.slots x

-- a slot that is at home, as the table says it
abbrev pub home_of : Option Line → maybe.Option Line
home_of (Some l) = some l
home_of None = none

-- the seat i was joined to another
pub record IsSpent {K : Type 0} (views : List (View K)) (i : ℕ) : Type 0 where
  pub view : View K
  pub at : get_elem? views i ≡ some view
  pub of : view.of ≡ None
  pub pending : view.pending ≡ Pending.Idle

-- the view of the seat j, which is that of the node j unless it was joined to another: its step is the node's, and it keeps
-- what the node, and those whose seats were joined to it, have done
pub record Sits {K : Type 0} (t : Terms K) (a : State) (done : ℕ → List (ℕ × Call)) (views : List (View K)) (j : ℕ) (v : View K) : Type 0 where
  pub seat : (u : Terms K) → v.of ≡ Some u → (u ≡ t) × (v.node ≡ j)
  pub last : 0 < v.next → (j ≡ 0) × (v.next ≡ length views)
  pub step : v.pending ≡ a.steps j
  pub log : (u : Terms K) → v.of ≡ Some u → v.log ≡ done j
  pub joins : (u : Terms K) → v.of ≡ Some u → (i : ℕ) → v.joined ≤ i → i < t.nodes → IsSpent views i × (get_elem? v.logs (i - v.joined) ≡ some (done i))

-- There is a state that is lawful and coherent (the headline), and under the law by which that is shown. Its words' codes are
-- the table's words, its slots those of the table, and its pending steps those of the views; a node without a view is Idle. The
-- seven words behind each of these stay as they were opened.
-- One run, of all calls that were made, leads to it from the line as it was opened; each view has its node's, with their places
pub record Stands {K : Type 0} (fits : K → ℕ → List ℕ → Type 0) (t : Terms K) (s : Shared K) : Type 0 where
  pub state : State
  pub lawful : IsLawfulLine t.nodes (fits t.keep t.number) state
  pub ruled : IsRuled t.nodes (fits t.keep t.number) state
  pub fit : fits t.keep t.number t.opening.words
  pub run : List (ℕ × Call)
  pub led : Leads (Gives t.nodes (fits t.keep t.number)) (opened t.nodes t.opening) run state
  pub beyond : (i : ℕ) → t.nodes ≤ i → (state.tags i ≡ invalid) × (state.slots i ≡ Some blank)
  pub wide : length s.words ≡ lies_at (suc t.nodes)
  pub roomy : length s.homes ≡ suc t.nodes
  pub words : (i : ℕ) → i < suc t.nodes → slice_index s.words (lies_at i) ≡ word_at state i
  pub between : (i k : ℕ) → i < suc t.nodes → 0 < k → k < 8 → slice_index s.words (lies_at i + k) ≡ tag_code invalid
  pub homes : (i : ℕ) → i < suc t.nodes → get_elem? s.homes i ≡ some (home_of (slot_in state i))
  pub few : length s.views ≤ t.nodes
  pub seated : (j : ℕ) (v : View K) → get_elem? s.views j ≡ some v → Sits t state (λ i. done_by i run) s.views j v
  pub unseated : (j : ℕ) → length s.views ≤ j → (state.steps j ≡ Pending.Idle) × (done_by j run ≡ [])
