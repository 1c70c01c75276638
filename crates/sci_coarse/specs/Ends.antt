-- What `finish` gives. This project's profile.
use Rattle.std.specs.Prelude.{◌≡◌, ℕ, ◌<◌, ◌≤◌, None, List, []}
use mathlib.Core.Option.{some}
use lib.ListN.{get_elem?}
use Rattle.sci_core.specs.declared.keeps.Keeps as keeps
use Rattle.sci_core.specs.declared.lines.Line.{Line}
use Rattle.sci_core.specs.declared.pending.Pending.{Pending}
use Rattle.sci_core.specs.Closed.{ClosedLine, IsExactClosed, IsReadOff}
use Rattle.sci_core.specs.Run.{HasValue}
use Rattle.sci_core.specs.Whole.{WholeLine, nodes_of, state_of}
use Rattle.sci_port.specs.History.{IsHistory}
use Rattle.sci_port.specs.Runs.{Leads, done_by}
use Rattle.sci_coarse.specs.declared.views.Entry.{Entry}
use Rattle.sci_coarse.specs.declared.views.Terms.{Terms}
use Rattle.sci_coarse.specs.declared.views.View.{View}
use Rattle.sci_coarse.specs.declared.seats.Seat.{Seat}
use Rattle.sci_coarse.specs.Rule.{IsOn, IsLawfulWhole, opened_on}
use Rattle.sci_coarse.specs.Runs.{Moves, calls_in}
use Rattle.sci_coarse.specs.Views.{keeps_of}

-- one run leads from the line as it was opened to this one, and its steps, node by node, are those that this view keeps
pub record IsRun {K : Type 0} (fits : K → ℕ → List ℕ → Type 0) (t : Terms K) (v : View K) (w : WholeLine K) : Type 0 where
  pub run : List (ℕ × Entry)
  pub ran : Leads (Moves fits) (None, opened_on t) run (None, w)
  pub fit : fits t.keep t.number t.opening.words
  pub log : (i : ℕ) → i < t.nodes → keeps_of i v ≡ done_by i run
  pub nobody : (i : ℕ) → t.nodes ≤ i → done_by i run ≡ []

-- the view keeps the logs of all these seats, each under its place
abbrev pub KeepsLogs : {K : Type 0} {g : keeps.Ghosts K} → List (Seat K g) → View K → Type 0
KeepsLogs {K} {g} seats v = (i : ℕ) (s : Seat K g) → get_elem? seats i ≡ some s → keeps_of i v ≡ s.token.me.0.log

-- no seat has taken a step
abbrev pub AreUnused : {K : Type 0} {g : keeps.Ghosts K} → List (Seat K g) → Type 0
AreUnused {K} {g} seats = (i : ℕ) (s : Seat K g) → get_elem? seats i ≡ some s → s.token.me.0.log ≡ []

-- an exact list, read off the end of the one run of all seats from the line as it was opened: the steps of the run, node by node,
-- are those of the seats' logs, each at its place, and there are no others. What was answered is one legal history of the line,
-- from the opening line to the value at the end, where every pending step is Idle. Where no seat has taken a step, it is the line
-- as it was opened
pub record IsEnd {K : Type 0} {g : keeps.Ghosts K} (fits : K → ℕ → List ℕ → Type 0) (t : Terms K) (seats : List (Seat K g)) (c : ClosedLine) : Type 0 where
  pub whole : WholeLine K
  pub run : List (ℕ × Entry)
  pub ran : Leads (Moves fits) (None, opened_on t) run (None, whole)
  pub fit : fits t.keep t.number t.opening.words
  pub logs : (i : ℕ) (s : Seat K g) → get_elem? seats i ≡ some s → s.token.me.0.log ≡ done_by i run
  pub nobody : (i : ℕ) → t.nodes ≤ i → done_by i run ≡ []
  pub unused : AreUnused seats → whole ≡ opened_on t
  pub value : Line
  pub history : IsHistory t.opening (calls_in run) value
  pub valued : HasValue t.nodes (fits t.keep t.number) (state_of whole) value
  pub on : IsOn t whole
  pub lawful : IsLawfulWhole fits whole
  pub idle : (i : ℕ) → i < nodes_of whole → (state_of whole).steps i ≡ Pending.Idle
  pub read : IsReadOff whole c
  pub exact : IsExactClosed c
