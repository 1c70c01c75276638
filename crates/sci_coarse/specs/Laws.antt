-- What the rule of the line's table says of any step that adds one entry to its seat's log, or none, whatever else it does; and
-- what a call of a port adds. This project's profile, after Herlihy and Wing's linearizability.
use Rattle.std.specs.Prelude.{◌≡◌, ℕ, Some, None, List, [], ◌∷◌, ◌++◌, length, slice_index, slice_set}
use mathlib.Core.Option.{some}
use lib.ListN.{get_elem?}
use Rattle.atomic_table.specs.Table.{Allows}
use Rattle.sci_core.specs.declared.outcomes.Outcome.{Outcome}
use Rattle.sci_core.specs.Whole.{state_of}
use Rattle.sci_port.specs.declared.calls.Call.{Call}
use Rattle.sci_port.specs.declared.calls.Call.TheVariants.{Own, MemWas, TagWas, Stepped}
use Rattle.sci_port.specs.Solo.{Gives}
use Rattle.sci_coarse.specs.declared.views.Entry.{Entry}
use Rattle.sci_coarse.specs.declared.views.Entry.TheVariants.{Took, Missed, Gave}
use Rattle.sci_coarse.specs.declared.views.Terms.{Terms}
use Rattle.sci_coarse.specs.declared.views.View.{View}
use Rattle.sci_coarse.specs.Regions.{Seated, HasMissed, Came}
use Rattle.sci_coarse.specs.Rule.{Shared, Locked}

-- no seat was joined to another yet, as it is while threads use the line
abbrev pub AreApart : {K : Type 0} → Terms K → Shared K → Type 0
AreApart {K} t s = (j : ℕ) (v : View K) → get_elem? s.views j ≡ some v → v.of ≡ Some t

-- all that changed of the views from one table to the next is that of the seat id, whose log grew by these entries, each with its
-- place in the run
pub record Adds {K : Type 0} (s s2 : Shared K) (id : ℕ) (entries : List (ℕ × Entry)) : Type 0 where
  pub before : View K
  pub after : View K
  pub at : get_elem? s.views id ≡ some before
  pub views : s2.views ≡ slice_set s.views id after
  pub of : after.of ≡ before.of
  pub node : after.node ≡ before.node
  pub log : after.log ≡ before.log ++ entries

-- it grew by this entry
abbrev pub IsOneStep : {K : Type 0} → Shared K → Shared K → ℕ → ℕ → Entry → Type 0
IsOneStep s s2 id place e = Adds s s2 id ((place, e) ∷ [])

-- a table under the rule has one run alone: the logs tell it
abbrev pub HasOneRun : {K : Type 0} → (K → ℕ → List ℕ → Type 0) → Type 0
HasOneRun {K} fits = (t : Terms K) (s : Shared K) (a b : Locked fits t s) → AreApart t s → a.run ≡ b.run

-- whatever keeps the rule and adds one entry puts it at the end of the run, and slips none into what was before: so the order of the
-- run is the order in time
abbrev pub AppendsSteps : {K : Type 0} → (K → ℕ → List ℕ → Type 0) → Type 0
AppendsSteps {K} fits = (t : Terms K) (s s2 : Shared K) (a : Locked fits t s) (b : Locked fits t s2) (id place : ℕ) (e : Entry) → AreApart t s → IsOneStep s s2 id place e → b.run ≡ a.run ++ (id, e) ∷ []

-- whatever keeps the rule and adds none leaves the run, and who has the lock word, as they were
abbrev pub HidesNothing : {K : Type 0} → (K → ℕ → List ℕ → Type 0) → Type 0
HidesNothing {K} fits = (t : Terms K) (s s2 : Shared K) (a : Locked fits t s) (b : Locked fits t s2) (id : ℕ) → AreApart t s → Adds s s2 id [] → (b.run ≡ a.run) × (b.holder ≡ a.holder)

-- a take is told where the lock word is free alone
abbrev pub TakesTruly : {K : Type 0} → (K → ℕ → List ℕ → Type 0) → Type 0
TakesTruly {K} fits = (t : Terms K) (s s2 : Shared K) → Locked fits t s → Locked fits t s2 → (id place : ℕ) → AreApart t s → IsOneStep s s2 id place Took → slice_index s.words 0 ≡ 0

-- and a miss where the lock word is taken alone: a false Busy would break the rule
abbrev pub MissesTruly : {K : Type 0} → (K → ℕ → List ℕ → Type 0) → Type 0
MissesTruly {K} fits = (t : Terms K) (s s2 : Shared K) → Locked fits t s → Locked fits t s2 → (id place : ℕ) → AreApart t s → IsOneStep s s2 id place Missed → slice_index s.words 0 ≡ 1

-- and a give of a call that was made: on the line as it stood, which was the node's alone, it gives the line as it stands after
abbrev pub GivesTruly : {K : Type 0} → (K → ℕ → List ℕ → Type 0) → Type 0
GivesTruly {K} fits = (t : Terms K) (s s2 : Shared K) (a : Locked fits t s) (b : Locked fits t s2) (id place : ℕ) (call : Call) → AreApart t s → IsOneStep s s2 id place (Gave call) → Gives t.nodes (fits t.keep t.number) (state_of a.whole) id call (state_of b.whole)

-- so the rule allows no kind of step of the lock word, whatever it makes of the word and whatever it tells of a word that is taken,
-- that misses where it finds the word free
abbrev pub NoFalseBusy : {K : Type 0} → (K → ℕ → List ℕ → Type 0) → Type 0
NoFalseBusy {K} fits = (t : Terms K) (slots id : ℕ) (me : Seated K) (f : ℕ → ℕ) → Allows (Locked fits t) slots id me 0 f (λ found n. found ≡ 0 → HasMissed me n)
    → (s : Shared K) → Locked fits t s → AreApart t s → length s.homes ≡ slots → get_elem? s.views id ≡ some me.0 → slice_index s.words 0 ≡ 0 → ⊥

-- what a call adds to its seat's log, with the places: its take, and its give after this very call; or one miss, where the line was
-- not to be had
abbrev pub entries_of : Call → ℕ → ℕ → List (ℕ × Entry)
entries_of (Own None) place last = (place, Missed) ∷ []
entries_of (MemWas None) place last = (place, Missed) ∷ []
entries_of (TagWas node None) place last = (place, Missed) ∷ []
entries_of (Stepped e Outcome.Busy) place last = (place, Missed) ∷ []
entries_of call place last = (place, Took) ∷ (last, Gave call) ∷ []

-- from this view to that one the call was added to the log, once and alone
abbrev pub IsLogged : {K : Type 0} → View K → Call → View K → Type 0
IsLogged v call u = (place last : ℕ) × (u.log ≡ v.log ++ entries_of call place last)

-- and a call of a port is
abbrev pub LogsCalls : {K : Type 0} → (K → ℕ → List ℕ → Type 0) → Type 0
LogsCalls {K} fits = (t : Terms K) (v : View K) (call : Call) (u : View K) → Came fits t v call u → IsLogged v call u
