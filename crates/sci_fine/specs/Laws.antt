-- What the rule of the line's table says of any step that adds one call to its seat's log, or none, whatever else it does; and what
-- a call of a port adds. This project's profile, after Herlihy and Wing's linearizability.
use Rattle.std.specs.Prelude.{◌≡◌, ℕ, ◌+◌, Some, List, [], ◌∷◌, ◌++◌, length, slice_index, slice_set}
use mathlib.Core.Option.{some}
use lib.ListN.{get_elem?}
use Rattle.sci_core.specs.declared.events.Event.{Event}
use Rattle.sci_core.specs.State.{State}
use Rattle.sci_core.specs.Step.{Finds}
use Rattle.sci_core.specs.Table.{row_of}
use Rattle.sci_port.specs.declared.calls.Call.{Call}
use Rattle.sci_port.specs.declared.calls.Call.TheVariants.{Stepped}
use Rattle.sci_core.specs.declared.outcomes.Outcome.TheVariants.{Missed}
use Rattle.sci_port.specs.Solo.{Gives}
use Rattle.sci_fine.specs.declared.views.Terms.{Terms}
use Rattle.sci_fine.specs.declared.views.View.{View}
use Rattle.sci_fine.specs.Calls.{IsStep}
use Rattle.sci_fine.specs.Rule.{Shared, Stands, lies_at}
use Rattle.sci_fine.specs.Steps.{place_of}

-- no seat was joined to another yet, as it is while threads use the line
abbrev pub AreApart : {K : Type 0} → Terms K → Shared K → Type 0
AreApart {K} t s = (j : ℕ) (v : View K) → get_elem? s.views j ≡ some v → v.of ≡ Some t

-- all that changed of the views from one table to the next is that of the seat id, whose log grew by these calls, each with its
-- place in the run
pub record Adds {K : Type 0} (s u : Shared K) (id : ℕ) (calls : List (ℕ × Call)) : Type 0 where
  pub before : View K
  pub after : View K
  pub at : get_elem? s.views id ≡ some before
  pub views : u.views ≡ slice_set s.views id after
  pub of : after.of ≡ before.of
  pub log : after.log ≡ before.log ++ calls

-- the call was made there and then: on the line as it stood it gives the line as it stands after, and it is the last of all
pub record IsTrue {K : Type 0} (fits : K → ℕ → List ℕ → Type 0) (t : Terms K) (s u : Shared K) (before : Stands fits t s) (after : Stands fits t u) (id turn : ℕ) (call : Call) : Type 0 where
  pub gives : Gives t.nodes (fits t.keep t.number) before.state id call after.state
  pub run : after.run ≡ before.run ++ (id, call) ∷ []
  pub last : turn ≡ length before.run

-- and so a miss was one: this code stood where the row's word is, and it is the code of another word than the row's word before
pub record IsMiss {K : Type 0} (s : Shared K) (state : State) (v : View K) (e : Event) (code : ℕ) : Type 0 where
  pub found : slice_index s.words (lies_at (place_of (row_of v.node v.pending e).change)) ≡ code
  pub other : Finds state (row_of v.node v.pending e).change → ⊥

-- a table under the rule has one run alone: the logs tell it
abbrev pub HasOneRun : {K : Type 0} → (K → ℕ → List ℕ → Type 0) → Type 0
HasOneRun {K} fits = (t : Terms K) (s : Shared K) (a b : Stands fits t s) → AreApart t s → a.run ≡ b.run

-- whatever keeps the rule and adds one call puts it at the end of the run, and slips none into what was before; and the call is
-- true: so the order of the run is the order in time
abbrev pub AppendsCalls : {K : Type 0} → (K → ℕ → List ℕ → Type 0) → Type 0
AppendsCalls {K} fits = (t : Terms K) (s u : Shared K) (before : Stands fits t s) (after : Stands fits t u) (id turn : ℕ) (call : Call) → AreApart t s → Adds s u id ((turn, call) ∷ []) → IsTrue fits t s u before after id turn call

-- whatever keeps the rule and adds no call leaves the line as it was
abbrev pub HidesNothing : {K : Type 0} → (K → ℕ → List ℕ → Type 0) → Type 0
HidesNothing {K} fits = (t : Terms K) (s u : Shared K) (before : Stands fits t s) (after : Stands fits t u) (id : ℕ) → AreApart t s → Adds s u id [] → (after.run ≡ before.run) × (after.state ≡ before.state)

-- and none tells a miss that was none
abbrev pub MissesTruly : {K : Type 0} → (K → ℕ → List ℕ → Type 0) → Type 0
MissesTruly {K} fits = (t : Terms K) (s u : Shared K) (before : Stands fits t s) (after : Stands fits t u) (id turn : ℕ) (e : Event) (code : ℕ) → AreApart t s → (added : Adds s u id ((turn, Stepped e (Missed code)) ∷ [])) → IsMiss s before.state added.before e code

-- from this view to that one the call was added to the log, once and alone, and counted as one step
abbrev pub IsLogged : {K : Type 0} → View K → Call → View K → Type 0
IsLogged v call u = (turn : ℕ) × (u.log ≡ v.log ++ (turn, call) ∷ []) × (u.steps ≡ v.steps + 1)

-- and a call of a port is
abbrev pub LogsCalls : {K : Type 0} → (K → ℕ → List ℕ → Type 0) → Type 0
LogsCalls {K} fits = (t : Terms K) (v : View K) (call : Call) (u : View K) → IsStep fits t v call u → IsLogged v call u
