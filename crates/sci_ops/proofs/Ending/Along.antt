-- A chain of a port's calls is a chain on what the port is of.
use Rattle.std.proofs.Common.{◌≡◌, ℕ, List, [], ◌∷◌, ◌∙◌, refl, ap, subst}
use Rattle.std.specs.Borrow.{GName}
use Rattle.sci_core.specs.State.{State}
use Rattle.sci_core.specs.Whole.{WholeLine, nodes_of, state_of}
use Rattle.sci_port.specs.Owes.{Owes}
use Rattle.sci_port.specs.Solo.{Gives}
use Rattle.sci_port.specs.Way.{Way, way_to}
use Rattle.sci_ops.specs.Alone.{TakesTurn, on_line}
use Rattle.sci_ops.specs.Operation.{Operation}
use Rattle.sci_ops.specs.Table.{turn_of}
use Rattle.sci_port.specs.declared.calls.Call.{Call}
use Rattle.sci_port.specs.Call.{Chain}
use Rattle.sci_ops.specs.declared.answers.Turn.{Turn}
use Rattle.sci_ops.specs.Plan.{Plan, Takes}

module _ {S A : Type 0} (gives : S → Call → S → Type 0) (place : S → A) (state : S → State) (on : A → State → Call → State → Type 0) (each : (s : S) (c : Call) (t : S) → gives s c t → (place t ≡ place s) × on (place s) (state s) c (state t)) where
  chain_on : (a : A) (s : S) (cs : List Call) (t : S) → place s ≡ a → Chain gives s cs t → Chain (on a) (state s) cs (state t)
  chain_on a s [] t e h = ap state h
  chain_on a s (c ∷ cs) t e h =
      let one : (place h.0 ≡ place s) × on (place s) (state s) c (state h.0) = each s c h.0 h.1 in
      (state h.0, subst (λ (b : A). on b (state s) c (state h.0)) e one.1, chain_on a h.0 cs t (one.0 ∙ e) h.2)

  pub takes_on : (a : A) (plan : Plan) (s : S) (r : Turn) (t : S) → place s ≡ a → Takes gives plan s r t → Takes (on a) plan (state s) r (state t)
  takes_on a plan s r t e h = record { calls = h.calls; chain = chain_on a s h.calls t e h.chain; follows = h.follows }

module _ (S : Type 0) {K : Type 0} (fits : K → ℕ → List ℕ → Type 0) (name : S → GName) (whole : S → WholeLine K) (node : S → ℕ) where
  abbrev pub way_of : S → Way
  way_of s = way_to (name s) (whole s) (node s)

  -- what a port to a line that is lent gives
  abbrev pub lent : S → Call → S → Type 0
  lent s call t = (way_of t ≡ way_of s) × ((whole t).keep ≡ (whole s).keep) × Gives (nodes_of (whole s)) (fits (whole s).keep (whole s).number) (state_of (whole s)) (node s) call (state_of (whole t)) × Owes (nodes_of (whole s)) (fits (whole s).keep (whole s).number) (node s) ((state_of (whole s)).steps (node s)) call ((state_of (whole t)).steps (node t))

  abbrev pub place : S → Way × K
  place s = (way_of s, (whole s).keep)

  abbrev pub on_place : Way × K → State → Call → State → Type 0
  on_place p = on_line p.0.nodes (fits p.1 p.0.number) p.0.node

  lent_on : (s : S) (call : Call) (t : S) → lent s call t → (place t ≡ place s) × on_place (place s) (state_of (whole s)) call (state_of (whole t))
  lent_on s call t h =
      let same : node t ≡ node s = ap (λ (w : Way). w.node) h.0 in
      let owes = subst (λ (i : ℕ). Owes (nodes_of (whole s)) (fits (whole s).keep (whole s).number) (node s) ((state_of (whole s)).steps (node s)) call ((state_of (whole t)).steps i)) same h.3 in
      ((λ i. (h.0 i, h.1 i)), (h.2, owes))

  -- a turn over such a port is one over the line
  pub turn_lent : (init s t : S) (op o : Operation) (r : Turn) → o ≡ op → way_of s ≡ way_of init → (whole s).keep ≡ (whole init).keep → Takes lent (turn_of o (node s) ((state_of (whole s)).steps (node s))) s r t
      → TakesTurn (nodes_of (whole init)) (fits (whole init).keep (whole init).number) (node init) op (state_of (whole s)) r (state_of (whole t))
  turn_lent init s t op o r same way keep h =
      let there : place s ≡ place init = λ i. (way i, keep i) in
      let n : node s ≡ node init = ap (λ (w : Way). w.node) way in
      let on : Takes (on_place (place init)) (turn_of o (node s) ((state_of (whole s)).steps (node s))) (state_of (whole s)) r (state_of (whole t)) = takes_on lent place (λ x. state_of (whole x)) on_place lent_on (place init) (turn_of o (node s) ((state_of (whole s)).steps (node s))) s r t there h in
      let at : Takes (on_place (place init)) (turn_of o (node init) ((state_of (whole s)).steps (node init))) (state_of (whole s)) r (state_of (whole t)) = subst (λ (i : ℕ). Takes (on_place (place init)) (turn_of o i ((state_of (whole s)).steps i)) (state_of (whole s)) r (state_of (whole t))) n on in
      subst (λ (x : Operation). Takes (on_place (place init)) (turn_of x (node init) ((state_of (whole s)).steps (node init))) (state_of (whole s)) r (state_of (whole t))) same at

  -- the same of a line that is lent for the turn alone
  pub turn_once : (s t : S) (op : Operation) (r : Turn) (w : WholeLine K) (v : State) (me : ℕ) → whole s ≡ w → node s ≡ me → state_of (whole t) ≡ v → Takes lent (turn_of op (node s) ((state_of (whole s)).steps (node s))) s r t
      → TakesTurn (nodes_of w) (fits w.keep w.number) me op (state_of w) r v
  turn_once s t op r w v me from is to h =
      let base : TakesTurn (nodes_of (whole s)) (fits (whole s).keep (whole s).number) (node s) op (state_of (whole s)) r (state_of (whole t)) = turn_lent s s t op op r refl refl refl h in
      subst (λ (x : State). TakesTurn (nodes_of w) (fits w.keep w.number) me op (state_of w) r x) to
      (subst (λ (i : ℕ). TakesTurn (nodes_of w) (fits w.keep w.number) i op (state_of w) r (state_of (whole t))) is
      (subst (λ (x : WholeLine K). TakesTurn (nodes_of x) (fits x.keep x.number) (node s) op (state_of x) r (state_of (whole t))) from base))
