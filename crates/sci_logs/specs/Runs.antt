-- A log as a run of the table. This project's profile.
use Rattle.std.specs.Prelude.{◌≡◌, ℕ, Option, Some, None, Result, Ok, Err, List, [], ◌∷◌, take, slice_get}
use Rattle.sci_core.specs.State.{State}
use Rattle.sci_logs.specs.declared.entries.Entry.{Entry}
use Rattle.sci_logs.specs.declared.entries.Deviation.{Deviation}
use Rattle.sci_logs.specs.declared.runs.Departure.{Departure}
use Rattle.sci_logs.specs.Steps.{Takes}

-- the entries one after another, each as the table's step answers, from the lines s to the lines t
abbrev pub IsRun : ℕ → (ℕ → State) → List Entry → (ℕ → State) → Type 0
IsRun n s [] t = (l : ℕ) → t l ≡ s l
IsRun n s (e ∷ es) t = (mid : ℕ → State) × Takes n s e (Ok tt) mid × IsRun n mid es t

-- no lawful line answers as this entry says, for this reason
abbrev pub Departs : ℕ → (ℕ → State) → Option Entry → Deviation → (ℕ → State) → Type 0
Departs n s (Some e) why t = Takes n s e (Err why) t
Departs n s None why t = ⊥

-- all entries are a run; or those before the first that isn't answered so
abbrev pub RunsTo : ℕ → (ℕ → State) → List Entry → Result (Unit {0}) Departure → (ℕ → State) → Type 0
RunsTo n s es (Ok u) t = IsRun n s es t
RunsTo n s es (Err d) t = (mid : ℕ → State) × IsRun n s (take d.place es) mid × Departs n mid (slice_get es d.place) d.why t
