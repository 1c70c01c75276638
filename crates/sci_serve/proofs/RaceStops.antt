-- The faults of commands on races.
use Rattle.std.proofs.Common.{◌≡◌, ◌≤◌, ℕ, Option, List, [], length, Ok, inl, inr, refl}
use Rattle.std.specs.Io.KnownBytes.{IsAtEnd}
use Rattle.sci_script.specs.declared.commands.Size.{Size}
use Rattle.sci_script.specs.declared.commands.Opening.{Opening}
use Rattle.sci_script.specs.declared.commands.Step.{Step}
use Rattle.sci_script.specs.declared.refusals.ScriptRefusal.{ScriptRefusal}
use Rattle.sci_script.specs.declared.refusals.ScriptRefusal.TheVariants.{OutOfMemory, BadCommand, BadNumber, NotDone, WriteFailed}
use Rattle.sci_script.specs.Format.{Fails, script_of}
use Rattle.sci_search.specs.declared.refusals.SearchRefusal.{SearchRefusal}
use Rattle.sci_search.specs.declared.refusals.SearchRefusal.TheVariants as search
use Rattle.sci_search.specs.Search.{IsRefused}
use Rattle.sci_outcomes.specs.Race.{RaceState, leads_in}
use Rattle.sci_outcomes.specs.Start.{LeavesNone}
use Rattle.sci_serve.specs.declared.faults.SimFault.{SimFault}
use Rattle.sci_serve.specs.declared.faults.SimFault.TheVariants.{CannotRead, CannotWrite, InputTooLong, Refused, NoDump, Unlawful, NoRun}
use Rattle.sci_serve.specs.declared.racing.RaceFault.{RaceFault}
use Rattle.sci_serve.specs.declared.racing.RaceFault.TheVariants.{Fault, TooManyStates}
use Rattle.sci_serve.specs.Fault.{fault_of}
use Rattle.sci_serve.specs.Input.{IsReadFault}
use Rattle.sci_serve.specs.Races.{race_fault_of, IsRaceIn, IsRaceToldInTime, Halts}
use Rattle.sci_serve.proofs.ReadFaults.{of_read_fault}

pub stops_read : (is : List ℕ → Type 0) (limit most : ℕ) (e : ScriptRefusal) (input : List ℕ) → length input ≤ limit → Fails e (script_of input) → Halts is limit most (Fault (fault_of e)) input []
stops_read is limit most OutOfMemory input short h = (inl tt, refl)
stops_read is limit most (BadCommand n) input short h = (inl (short, h), refl)
stops_read is limit most (BadNumber n) input short h = (inl (short, h), refl)
stops_read is limit most (NotDone n) input short h = absurd h
stops_read is limit most WriteFailed input short h = absurd h

pub stops_run : (is : List ℕ → Type 0) (limit most : ℕ) (e : ScriptRefusal) (input : List ℕ) (size : Size) (capacity : ℕ) (openings : List Opening) (steps : List Step) → script_of input ≡ Ok (size, capacity, openings, steps)
    → LeavesNone size capacity openings steps e → Halts is limit most (Fault (fault_of e)) input []
stops_run is limit most OutOfMemory input size capacity openings steps reads h = (inl tt, refl)
stops_run is limit most (BadCommand n) input size capacity openings steps reads h = (inr (size, capacity, openings, steps, reads, h), refl)
stops_run is limit most (BadNumber n) input size capacity openings steps reads h = (inr (size, capacity, openings, steps, reads, h), refl)
stops_run is limit most (NotDone n) input size capacity openings steps reads h = (inr (size, capacity, openings, steps, reads, h), refl)
stops_run is limit most WriteFailed input size capacity openings steps reads h = absurd h

pub stops_search : (is : List ℕ → Type 0) (limit most : ℕ) (e : SearchRefusal) (input : List ℕ) (race : RaceState) → IsRaceIn limit input race → IsRefused (leads_in (length race.nodes)) race most e → Halts is limit most (race_fault_of e) input []
stops_search is limit most search.OutOfMemory input race there h = (inl tt, refl)
stops_search is limit most search.TooManyStates input race there h = (race, there, h, refl)

pub stops_input : (is : List ℕ → Type 0) (limit most : ℕ) (e : SimFault) (input : List ℕ) → IsReadFault limit e input → Halts is limit most (Fault e) input []
stops_input is limit most e input h = of_read_fault limit (λ f. Halts is limit most (Fault f) input []) input refl (λ long. (long, refl)) (inl tt, refl) e h

-- where nothing is left of the input, each fault is told in time
pub told_at_end : (e : RaceFault) (left : Option (List ℕ)) → IsAtEnd left → IsRaceToldInTime e left
told_at_end (Fault CannotRead) left h = tt
told_at_end (Fault CannotWrite) left h = tt
told_at_end (Fault InputTooLong) left h = h
told_at_end (Fault (Refused e)) left h = tt
told_at_end (Fault (NoDump n)) left h = tt
told_at_end (Fault Unlawful) left h = tt
told_at_end (Fault (NoRun e)) left h = tt
told_at_end TooManyStates left h = tt
