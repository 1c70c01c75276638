-- The views of seats, as they are made, split, joined and stepped with. This project's profile.
use Rattle.std.specs.Prelude.{◌≡◌, ℕ, ◌+◌, true, false, Some, None, List, [], ◌∷◌, ◌++◌}
use Rattle.sci_core.specs.declared.pending.Pending.{Pending}
use Rattle.sci_core.specs.Whole.{WholeLine, state_of}
use Rattle.sci_port.specs.declared.calls.Call.{Call}
use Rattle.sci_port.specs.Runs.{log_of}
use Rattle.sci_coarse.specs.declared.views.Terms.{Terms}
use Rattle.sci_coarse.specs.declared.views.View.{View}
use Rattle.sci_coarse.specs.declared.views.Entry.{Entry}
use Rattle.sci_coarse.specs.declared.views.Entry.TheVariants.{Took, Missed, Gave}

-- the view of the first seat, which is that of the node 0
abbrev pub first_view : {K : Type 0} → Terms K → View K
first_view t = record { of = Some t; node = 0; next = 1; joined = t.nodes; holds = false; pending = Pending.Idle; log = []; others = []; take = None; give = None }

-- no step is logged, and no whole line is kept
abbrev pub HasMadeNone : {K : Type 0} → View K → Type 0
HasMadeNone v = (v.log ≡ []) × (v.take ≡ None) × (v.give ≡ None)

-- what the view keeps of the node i: its own log, or that of a seat that was joined to it
abbrev pub keeps_of : {K : Type 0} → ℕ → View K → List (ℕ × Entry)
keeps_of i v = log_of i v.node v.log v.others

-- the view of a seat that was joined to another
abbrev pub spent_view : {K : Type 0} → View K
spent_view = record { of = None; node = 0; next = 0; joined = 0; holds = false; pending = Pending.Idle; log = []; others = []; take = None; give = None }

-- the view of the seat that is split off this one
abbrev pub new_view : {K : Type 0} → View K → View K
new_view v = record { of = v.of; node = v.next; next = 0; joined = v.joined; holds = false; pending = Pending.Idle; log = []; others = []; take = None; give = None }

-- the view after one more seat was split off
abbrev pub split_view : {K : Type 0} → View K → View K
split_view v = record v { next = v.next + 1 }

-- the view after the seat of this other view was joined to it, whose log it keeps
abbrev pub joined_view : {K : Type 0} → View K → View K → View K
joined_view v w = record v { joined = w.node; others = (w.node, w.log) ∷ v.others }

-- the view after one more step, at this place
abbrev pub logged : {K : Type 0} → View K → ℕ → Entry → View K
logged v place e = record v { log = v.log ++ (place, e) ∷ [] }

-- the view after a take, with the whole line as it was taken
abbrev pub took : {K : Type 0} → View K → ℕ → WholeLine K → View K
took v place w = record (logged v place Took) { holds = true; take = Some w }

-- the view after a take that found the lock word taken
abbrev pub missed : {K : Type 0} → View K → ℕ → View K
missed v place = logged v place Missed

-- the view after a give, with the call that was made, and the whole line as it was given back
abbrev pub gave : {K : Type 0} → View K → ℕ → WholeLine K → Call → View K
gave v place w call = record (logged v place (Gave call)) { holds = false; pending = (state_of w).steps v.node; give = Some w }
