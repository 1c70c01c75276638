-- A region: what stands between the take and the give of the lock word. This project's profile.
use Rattle.std.specs.Prelude.{◌≡◌, ◌≢◌, ℕ, ◌<◌, Some, None, List, [], ◌∷◌}
use Rattle.atomic_table.specs.Table.{Me}
use Rattle.sci_core.specs.declared.outcomes.Outcome.{Outcome}
use Rattle.sci_core.specs.Whole.{WholeLine, state_of}
use Rattle.sci_port.specs.declared.calls.Call.{Call}
use Rattle.sci_port.specs.declared.calls.Call.TheVariants.{Own, MemWas, TagWas, Stepped}
use Rattle.sci_coarse.specs.declared.views.Terms.{Terms}
use Rattle.sci_coarse.specs.declared.views.View.{View}
use Rattle.sci_coarse.specs.Runs.{Calls}
use Rattle.sci_coarse.specs.Rule.{IsOn, IsLawfulWhole}
use Rattle.sci_coarse.specs.Views.{took, missed, gave}

-- a seat's view, and what is in its hand
abbrev pub Seated : Type 0 → Type 0
Seated K = Me (WholeLine K) (View K)

-- what a seat that takes this whole line learns of it
abbrev pub Finds : {K : Type 0} → (K → ℕ → List ℕ → Type 0) → View K → WholeLine K → Type 0
Finds {K} fits v w = (t : Terms K) → v.of ≡ Some t → IsOn t w × IsLawfulWhole fits w × (v.node < t.nodes) × (v.pending ≡ (state_of w).steps v.node)

-- the lock word was free, and the whole line is in hand
abbrev pub HasTaken : {K : Type 0} → (K → ℕ → List ℕ → Type 0) → Seated K → Seated K → Type 0
HasTaken {K} fits m n = (w : WholeLine K) × (place : ℕ) × (n.0 ≡ took m.0 place w) × (n.1 ≡ (0, w) ∷ []) × Finds fits m.0 w

-- the lock word was taken, so there is another seat, and nothing changed but that the log has the miss
abbrev pub HasMissed : {K : Type 0} → Seated K → Seated K → Type 0
HasMissed {K} m n = (place : ℕ) × (n.0 ≡ missed m.0 place) × (n.1 ≡ []) × ((t : Terms K) → m.0.of ≡ Some t → 1 < t.nodes)

-- a take finds this number in the lock word
abbrev pub taken : {K : Type 0} → (K → ℕ → List ℕ → Type 0) → Seated K → ℕ → Seated K → Type 0
taken fits m found n = (found ≡ 0 → HasTaken fits m n) × (found ≢ 0 → HasMissed m n)

-- the whole line in hand is given back after this call
abbrev pub given : {K : Type 0} → Call → Seated K → Seated K → Type 0
given {K} call m n = (w : WholeLine K) × (place : ℕ) × (m.1 ≡ (0, w) ∷ []) × (n.0 ≡ gave m.0 place w call) × (n.1 ≡ [])

-- the call is made on the whole line in hand
abbrev pub HasCalled : {K : Type 0} → (K → ℕ → List ℕ → Type 0) → ℕ → Call → Seated K → Seated K → Type 0
HasCalled {K} fits node call m n = (w x : WholeLine K) × (m.1 ≡ (0, w) ∷ []) × (n.1 ≡ (0, x) ∷ []) × (n.0 ≡ m.0) × Calls fits node call w x

-- one region of a seat: its view before, the call that it made, and its view after, whose log has grown by a take and by a
-- give after this very call, and which keeps the whole line as it was taken and as it was given back
pub record IsRegion {K : Type 0} (fits : K → ℕ → List ℕ → Type 0) (t : Terms K) (v : View K) (call : Call) (u : View K) : Type 0 where
  pub take : WholeLine K
  pub give : WholeLine K
  pub on : IsOn t take
  pub lawful : IsLawfulWhole fits take
  pub after : IsLawfulWhole fits give
  pub step : v.pending ≡ (state_of take).steps v.node
  pub calls : Calls fits v.node call take give
  pub taken_at : ℕ
  pub given_at : ℕ
  pub view : u ≡ gave (took v taken_at take) given_at give call

-- a take that found the lock word taken by another seat: nothing changed but that the log has the miss
abbrev pub IsMiss : {K : Type 0} → Terms K → View K → View K → Type 0
IsMiss t v u = (place : ℕ) × (u ≡ missed v place) × (1 < t.nodes)

-- what a call of a port came to: a region, or a take that found the lock word taken by another seat
abbrev pub Came : {K : Type 0} → (K → ℕ → List ℕ → Type 0) → Terms K → View K → Call → View K → Type 0
Came fits t v (Own None) u = IsMiss t v u
Came fits t v (MemWas None) u = IsMiss t v u
Came fits t v (TagWas node None) u = IsMiss t v u
Came fits t v (Stepped e Outcome.Busy) u = IsMiss t v u
Came fits t v call u = IsRegion fits t v call u
