-- What a run costs at most: each begun step is paid for once, by the event that began it. This project's profile.
use Rattle.std.specs.Prelude.{ℕ, ◌+◌, ◌≤◌, true, false, Result, Ok, Err, List, [], ◌∷◌, take}
use Rattle.std.proofs.Common.{zero, suc}
use Rattle.sci_words.specs.declared.tags.Kind.{Kind}
use Rattle.sci_words.specs.declared.tags.Tag.{Tag}
use Rattle.sci_core.specs.declared.pending.Pending.{Pending}
use Rattle.sci_core.specs.declared.events.Event.{Event}
use Rattle.sci_core.specs.State.{State}

-- what a tag of this kind is worth to those who purge it, and to its node
abbrev pub of_kind : Kind → ℕ
of_kind Kind.Fresh = 3
of_kind Kind.Dirty = 3
of_kind Kind.Valid = 3
of_kind _ = 0

-- how many exchanges a pending step leaves at most, with what they are worth
abbrev pub of_step : Pending → ℕ
of_step Pending.Idle = 0
of_step (Pending.Holding w l) = 1
of_step (Pending.Queueing f) = 8
of_step (Pending.Fetching f d l) = 7
of_step (Pending.InQueue f d c) = 6
of_step (Pending.Copying x w l) = 5
of_step (Pending.Ready f d l) = 4
of_step (Pending.Converting f false) = 6
of_step (Pending.Converting f true) = 5
of_step (Pending.Purging l seen) = 4
of_step (Pending.Advancing l x w) = 6
of_step (Pending.Clearing l x w) = 5
of_step (Pending.Leaving d l seen) = 8
of_step (Pending.Promoted d l x) = 7
of_step (Pending.WritingBack l) = 2
of_step (Pending.Parted f) = 1
of_step (Pending.Rolling false seen) = 3
of_step (Pending.Rolling true seen) = 2
of_step (Pending.Unlinked f b) = 1

-- the sum over the nodes below n
abbrev pub total : {A : Type 0} → (A → ℕ) → (ℕ → A) → ℕ → ℕ
total c f zero = 0
total c f (suc n) = c (f n) + total c f n

abbrev pub of_tag : Tag → ℕ
of_tag t = of_kind t.kind

-- what is left to do on a line of n nodes, at most
abbrev pub measure : ℕ → State → ℕ
measure n s = total of_tag s.tags n + total of_step s.steps n

-- what an event costs: those that begin something, and those that anybody may make again
abbrev pub cost : Event → ℕ
cost (Event.Queue f) = 9
cost (Event.Hold t) = 2
cost (Event.Convert t) = 4
cost (Event.BeginPurge t) = 2
cost (Event.Roll t) = 1
cost (Event.Leave t) = 6
cost (Event.Requeue f) = 1
cost (Event.Adopt t) = 1
cost Event.Look = 1
cost _ = 0

abbrev pub costs : List (ℕ × Event) → ℕ
costs [] = 0
costs (e ∷ es) = cost e.1 + costs es

-- the exchanges and looks that a run made, with what is left to do after it, are paid by what was left before and by its events
abbrev pub IsPaid : ℕ → State → List (ℕ × Event) → Result ℕ ℕ → State → Type 0
IsPaid n s es (Ok done) t = done + measure n t ≤ measure n s + costs es
IsPaid n s es (Err place) t = measure n t ≤ measure n s + costs (take place es)
