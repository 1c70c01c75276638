-- The rule of the line's table, which holds between any two steps of it. This project's profile.
use Rattle.std.specs.Prelude.{◌≡◌, ◌⊎◌, ℕ, ◌<◌, ◌≤◌, true, false, Option, Some, None, List, [], length, slice_index}
use mathlib.Core.Option.{some}
use lib.ListN.{get_elem?}
use Rattle.atomic_table.specs.Table as table
use Rattle.sci_core.specs.declared.pending.Pending.{Pending}
use Rattle.sci_core.specs.Run.{IsLawfulLine}
use Rattle.sci_core.specs.Whole.{WholeLine, nodes_of, state_of, opened_whole}
use Rattle.sci_port.specs.Runs.{Leads, done_by}
use Rattle.sci_coarse.specs.declared.views.Terms.{Terms}
use Rattle.sci_coarse.specs.declared.views.View.{View}
use Rattle.sci_coarse.specs.declared.views.Entry.{Entry}
use Rattle.sci_coarse.specs.Runs.{Moves}
use Rattle.sci_coarse.specs.Views.{keeps_of}

-- the table: words, slots and views
abbrev pub Shared : Type 0 → Type 0
Shared K = table.State (WholeLine K) (View K)

-- a whole line on these terms
pub record IsOn {K : Type 0} (t : Terms K) (w : WholeLine K) : Type 0 where
  pub keep : w.keep ≡ t.keep
  pub number : w.number ≡ t.number
  pub nodes : nodes_of w ≡ t.nodes

-- it is lawful and coherent
abbrev pub IsLawfulWhole : {K : Type 0} → (K → ℕ → List ℕ → Type 0) → WholeLine K → Type 0
IsLawfulWhole fits w = IsLawfulLine (nodes_of w) (fits w.keep w.number) (state_of w)

-- the line as it was opened
abbrev pub opened_on : {K : Type 0} → Terms K → WholeLine K
opened_on t = opened_whole t.keep t.number t.nodes t.opening

-- the whole line is in its slot, and no seat has it
pub record IsAtHome {K : Type 0} (s : Shared K) (w : WholeLine K) (holder : Option ℕ) : Type 0 where
  pub nobody : holder ≡ None
  pub free : slice_index s.words 0 ≡ 0
  pub home : get_elem? s.homes 0 ≡ some (some w)
  pub unheld : (j : ℕ) (v : View K) → get_elem? s.views j ≡ some v → v.holds ≡ false

-- the whole line is with one seat, whose view keeps it as it was taken
pub record IsOut {K : Type 0} (s : Shared K) (w : WholeLine K) (holder : Option ℕ) : Type 0 where
  pub taken : slice_index s.words 0 ≡ 1
  pub seat : ℕ
  pub view : View K
  pub somebody : holder ≡ Some seat
  pub at : get_elem? s.views seat ≡ some view
  pub holds : view.holds ≡ true
  pub took : view.take ≡ Some w
  pub alone : (j : ℕ) (v : View K) → get_elem? s.views j ≡ some v → v.holds ≡ true → j ≡ seat

-- the seat i was joined to another
pub record IsSpent {K : Type 0} (views : List (View K)) (i : ℕ) : Type 0 where
  pub view : View K
  pub at : get_elem? views i ≡ some view
  pub of : view.of ≡ None
  pub unheld : view.holds ≡ false
  pub pending : view.pending ≡ Pending.Idle

-- the view of the seat j, which is that of the node j unless it was joined to another; its pending step is the node's, and
-- its log is what the node did in the run, each step with its place. It keeps the logs of the seats that were joined to it
pub record Sits {K : Type 0} (t : Terms K) (w : WholeLine K) (run : List (ℕ × Entry)) (views : List (View K)) (j : ℕ) (v : View K) : Type 0 where
  pub seat : (u : Terms K) → v.of ≡ Some u → (u ≡ t) × (v.node ≡ j)
  pub last : 0 < v.next → (j ≡ 0) × (v.next ≡ length views)
  pub step : v.pending ≡ (state_of w).steps j
  pub log : (u : Terms K) → v.of ≡ Some u → keeps_of j v ≡ done_by j run
  pub joins : (u : Terms K) → v.of ≡ Some u → (i : ℕ) → v.joined ≤ i → i < t.nodes → IsSpent views i × (keeps_of i v ≡ done_by i run)

-- One lock word, and one slot. There is one run of all seats, from the line as it was opened to a whole line that is at home, or
-- out with one seat: the steps of the run, node by node, are those of the seats' logs, each at its place, and each seat's
-- pending step is its node's on that line, which is lawful
pub record Locked {K : Type 0} (fits : K → ℕ → List ℕ → Type 0) (t : Terms K) (s : Shared K) : Type 0 where
  pub run : List (ℕ × Entry)
  pub holder : Option ℕ
  pub whole : WholeLine K
  pub ran : Leads (Moves fits) (None, opened_on t) run (holder, whole)
  pub fit : fits t.keep t.number t.opening.words
  pub on : IsOn t whole
  pub lawful : IsLawfulWhole fits whole
  pub wide : length s.words ≡ 1
  pub roomy : length s.homes ≡ 1
  pub place : IsAtHome s whole holder ⊎ IsOut s whole holder
  pub few : length s.views ≤ t.nodes
  pub seated : (j : ℕ) (v : View K) → get_elem? s.views j ≡ some v → Sits t whole run s.views j v
  pub unseated : (j : ℕ) → length s.views ≤ j → ((state_of whole).steps j ≡ Pending.Idle) × (done_by j run ≡ [])
