-- What the command `outcomes` writes, and when commands on races fail. This project's profile.
use Rattle.std.specs.Prelude.{◌≡◌, ◌⊎◌, ℕ, ◌<◌, ◌≤◌, Option, List, [], length, take, Ok}
use Rattle.sci_script.specs.declared.commands.Size.{Size}
use Rattle.sci_script.specs.declared.commands.Opening.{Opening}
use Rattle.sci_script.specs.declared.commands.Step.{Step}
use Rattle.sci_script.specs.declared.refusals.ScriptRefusal.{ScriptRefusal}
use Rattle.sci_script.specs.declared.refusals.ScriptRefusal.TheVariants.{OutOfMemory}
use Rattle.sci_script.specs.Format.{script_of}
use Rattle.sci_search.specs.declared.refusals.SearchRefusal.{SearchRefusal}
use Rattle.sci_search.specs.declared.refusals.SearchRefusal.TheVariants as search
use Rattle.sci_search.specs.declared.searching.Found.{Found}
use Rattle.sci_search.specs.Search.{AreReached, AreMore}
use Rattle.sci_outcomes.specs.declared.outcomes.RaceOutcome.{RaceOutcome}
use Rattle.sci_outcomes.specs.Outcomes.{AreOutcomes}
use Rattle.sci_outcomes.specs.Race.{RaceState, leads_in}
use Rattle.sci_outcomes.specs.Report.{report_text}
use Rattle.sci_outcomes.specs.Start.{LeavesOpen, LeavesNone}
use Rattle.sci_serve.specs.declared.faults.SimFault.TheVariants.{CannotRead, CannotWrite, InputTooLong, Refused, NoDump, Unlawful, NoRun}
use Rattle.sci_serve.specs.declared.racing.RaceFault.{RaceFault}
use Rattle.sci_serve.specs.declared.racing.RaceFault.TheVariants.{Fault, TooManyStates}
use Rattle.sci_serve.specs.Fault.{status_of}
use Rattle.sci_serve.specs.Input.{IsToldInTime}
use Rattle.sci_serve.specs.Serve.{IsRefused}

-- 1 where a search stops
abbrev pub race_status_of : RaceFault → ℕ
race_status_of (Fault e) = status_of e
race_status_of TooManyStates = 1

abbrev pub race_fault_of : SearchRefusal → RaceFault
race_fault_of search.OutOfMemory = Fault (Refused OutOfMemory)
race_fault_of search.TooManyStates = TooManyStates

-- the input is a script of at most so many bytes, and this is the race of the calls that its run leaves open
abbrev pub IsRaceIn : ℕ → List ℕ → RaceState → Type 0
IsRaceIn limit input race =
    (length input ≤ limit) × (size : Size) × (capacity : ℕ) × (openings : List Opening) × (steps : List Step) × (script_of input ≡ Ok (size, capacity, openings, steps))
    × LeavesOpen size capacity openings steps race

-- exactly the outcomes of a race, and how many states its turns lead to, which are few enough
pub record IsReport (most : ℕ) (race : RaceState) (states : ℕ) (outcomes : List RaceOutcome) : Type 0 where
  pub listed : AreOutcomes (length race.nodes) race outcomes
  pub found : List (Found RaceState)
  pub reached : AreReached (leads_in (length race.nodes)) race found
  pub counted : states ≡ length found
  pub few : states ≤ most

-- this is the text of the outcomes of that race
abbrev pub Races : ℕ → ℕ → List ℕ → List ℕ → Type 0
Races limit most input text = (race : RaceState) × IsRaceIn limit input race × (states : ℕ) × (outcomes : List RaceOutcome) × IsReport most race states outcomes × (text ≡ report_text states outcomes)

-- the input is a script whose run is refused with this, or memory ran out
abbrev pub IsUnrun : List ℕ → ScriptRefusal → Type 0
IsUnrun input e = (size : Size) × (capacity : ℕ) × (openings : List Opening) × (steps : List Step) × (script_of input ≡ Ok (size, capacity, openings, steps)) × LeavesNone size capacity openings steps e

-- what is written where a command on races fails, which else writes a text that is so: a front of one where the writer failed, and else
-- nothing
abbrev pub Halts : (List ℕ → Type 0) → ℕ → ℕ → RaceFault → List ℕ → List ℕ → Type 0
Halts is limit most (Fault CannotRead) input written = written ≡ []
Halts is limit most (Fault CannotWrite) input written = (text : List ℕ) × (n : ℕ) × is text × (n < length text) × (written ≡ take n text)
Halts is limit most (Fault InputTooLong) input written = (limit < length input) × (written ≡ [])
Halts is limit most (Fault (Refused e)) input written = (IsRefused limit e input ⊎ IsUnrun input e) × (written ≡ [])
Halts is limit most (Fault (NoDump n)) input written = ⊥
Halts is limit most (Fault Unlawful) input written = ⊥
Halts is limit most (Fault (NoRun e)) input written = ⊥
Halts is limit most TooManyStates input written = (race : RaceState) × IsRaceIn limit input race × AreMore (leads_in (length race.nodes)) race most × (written ≡ [])

abbrev pub StopsRacing : ℕ → ℕ → RaceFault → List ℕ → List ℕ → Type 0
StopsRacing limit most e input written = Halts (Races limit most input) limit most e input written

-- that an input is too long is told at its end
abbrev pub IsRaceToldInTime : RaceFault → Option (List ℕ) → Type 0
IsRaceToldInTime (Fault e) left = IsToldInTime e left
IsRaceToldInTime TooManyStates left = Unit {0}
