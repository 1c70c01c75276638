-- The views of seats, as they are made, split, joined and stepped with. This project's profile.
use Rattle.std.specs.Prelude.{◌≡◌, ◌+◌, ℕ, Some, None, [], ◌∷◌, ◌++◌}
use Rattle.sci_core.specs.declared.pending.Pending.{Pending}
use Rattle.sci_port.specs.declared.calls.Call.{Call}
use Rattle.sci_fine.specs.declared.views.Terms.{Terms}
use Rattle.sci_fine.specs.declared.views.View.{View}

-- the view of the first seat, which is that of the node 0
abbrev pub first_view : {K : Type 0} → Terms K → View K
first_view t = record { of = Some t; node = 0; next = 1; joined = t.nodes; pending = Pending.Idle; steps = 0; place = 0; word = 0; log = []; logs = [] }

-- the view of a seat that was joined to another
abbrev pub spent_view : {K : Type 0} → View K
spent_view = record { of = None; node = 0; next = 0; joined = 0; pending = Pending.Idle; steps = 0; place = 0; word = 0; log = []; logs = [] }

-- the view of the seat that is split off this one
abbrev pub new_view : {K : Type 0} → View K → View K
new_view v = record { of = v.of; node = v.next; next = 0; joined = v.joined; pending = Pending.Idle; steps = 0; place = 0; word = 0; log = []; logs = [] }

-- the view after one more seat was split off
abbrev pub split_view : {K : Type 0} → View K → View K
split_view v = record v { next = v.next + 1 }

-- the view after the seat of this other view was joined to it
abbrev pub joined_view : {K : Type 0} → View K → View K → View K
joined_view v w = record v { joined = w.node; steps = v.steps + w.steps; logs = w.log ∷ v.logs }

-- the view after one more step, which has this place in the run and was this call: the pending step after it, where the word
-- lies, and the word that was found there
abbrev pub saw : {K : Type 0} → View K → ℕ → Call → Pending → ℕ → ℕ → View K
saw v turn call p place word = record v { pending = p; steps = v.steps + 1; place = place; word = word; log = v.log ++ (turn, call) ∷ [] }

-- no step was made
abbrev pub HasMadeNone : {K : Type 0} → View K → Type 0
HasMadeNone v = (v.steps ≡ 0) × (v.log ≡ [])
