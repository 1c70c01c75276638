-- A turn of a mover, on the line that is brought to rest.
use Rattle.std.proofs.Common.{◌≡◌, ◌≢◌, ◌<◌, ℕ, true, None, List, refl, subst, ◌∙◌}
use Rattle.sci_core.specs.Progress.{IsMover}
use Rattle.sci_core.specs.declared.lines.Line.{Line}
use Rattle.sci_core.specs.Run.{HasValue}
use Rattle.sci_core.specs.State.{State}
use Rattle.sci_core.specs.Whole.{WholeLine, IsSameLine, nodes_of, state_of}
use Rattle.sci_ops.specs.declared.goals.Goal.{Goal}
use Rattle.sci_ops.specs.declared.answers.Turn.{Turn}
use Rattle.sci_ops.specs.Alone.{TakesTurn}
use Rattle.sci_ops.specs.Operation.{Operation}
use Rattle.sci_ops.specs.Ranking.{ranking}
use Rattle.sci_ops.specs.Rest.{due_turn, is_exchange}
use Rattle.sci_ops.specs.Table.{begun}
use Rattle.sci_ops.proofs.Resting.Falling.{turn_falls}
use Rattle.sci_ops.proofs.Resting.Keeping.{turn_keeps}

-- it makes an exchange, and leads nearer to rest
pub record Turned (n : ℕ) (fits : List ℕ → Type 0) (me : ℕ) (s : State) (r : Turn) (t : State) : Type 0 where
  pub inside : me < n
  pub mover : IsMover n s me
  pub goes : r ≢ Turn.Waiting
  pub taken : TakesTurn n fits me (begun Goal.Load) s r t
  pub falls : ranking n t < ranking n s
  pub value : (v : Line) → HasValue n fits s v → HasValue n fits t v

module _ {K : Type 0} (fits : K → ℕ → List ℕ → Type 0) where
  here : (w t : WholeLine K) (me : ℕ) (op : Operation) (r : Turn) → op ≡ begun Goal.Load → me < nodes_of w → IsMover (nodes_of w) (state_of w) me → TakesTurn (nodes_of w) (fits w.keep w.number) me op (state_of w) r (state_of t)
      → (op.answer ≡ None → IsMover (nodes_of w) (state_of w) me → (is_exchange (due_turn op me (state_of w)) ≡ true) × (r ≢ Turn.Waiting)) → Turned (nodes_of w) (fits w.keep w.number) me (state_of w) r (state_of t)
  here w t me op r e below m taken goes =
      let load : Operation = begun Goal.Load in
      let taken' : TakesTurn (nodes_of w) (fits w.keep w.number) me load (state_of w) r (state_of t) = subst (λ (o : Operation). TakesTurn (nodes_of w) (fits w.keep w.number) me o (state_of w) r (state_of t)) e taken in
      let goes' : (load.answer ≡ None → IsMover (nodes_of w) (state_of w) me → (is_exchange (due_turn load me (state_of w)) ≡ true) × (r ≢ Turn.Waiting)) =
      subst (λ (o : Operation). o.answer ≡ None → IsMover (nodes_of w) (state_of w) me → (is_exchange (due_turn o me (state_of w)) ≡ true) × (r ≢ Turn.Waiting)) e goes in
      let made = goes' refl m in
      record { inside = below; mover = m; goes = made.1; taken = taken'; falls = turn_falls (nodes_of w) (fits w.keep w.number) me below load (state_of w) r (state_of t) m.0 taken' made.0; value = turn_keeps (nodes_of w) (fits w.keep w.number) me (state_of w) r (state_of t) taken' }

  -- the same, of the line as it was at first
  pub turned : (init w t : WholeLine K) (me : ℕ) (op : Operation) (r : Turn) → IsSameLine init w → op ≡ begun Goal.Load → me < nodes_of w → IsMover (nodes_of w) (state_of w) me → TakesTurn (nodes_of w) (fits w.keep w.number) me op (state_of w) r (state_of t)
      → (op.answer ≡ None → IsMover (nodes_of w) (state_of w) me → (is_exchange (due_turn op me (state_of w)) ≡ true) × (r ≢ Turn.Waiting)) → Turned (nodes_of init) (fits init.keep init.number) me (state_of w) r (state_of t)
  turned init w t me op r same e below m taken goes =
      subst (λ (n : ℕ). Turned n (fits init.keep init.number) me (state_of w) r (state_of t)) same.nodes
      (subst (λ (k : K). Turned (nodes_of w) (fits k init.number) me (state_of w) r (state_of t)) same.keep
      (subst (λ (i : ℕ). Turned (nodes_of w) (fits w.keep i) me (state_of w) r (state_of t)) same.number
      (here w t me op r e below m taken goes)))

pub same_line : {K : Type 0} (a b c : WholeLine K) → IsSameLine a b → IsSameLine b c → IsSameLine a c
same_line a b c h k = record { keep = k.keep ∙ h.keep; number = k.number ∙ h.number; nodes = k.nodes ∙ h.nodes }
