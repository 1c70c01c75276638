-- A turn towards rest over the lines of a desk, as the desk sees it.
use Rattle.std.proofs.Common.{◌≡◌, ◌≢◌, ◌<◌, ℕ, true, List, refl, ap, subst}
use Rattle.sci_core.specs.declared.keeps.AnyWords.{AnyWords}
use Rattle.sci_core.specs.Progress.{IsMover}
use Rattle.sci_core.specs.Whole.{WholeLine, nodes_of, state_of}
use Rattle.sci_ops.specs.declared.answers.Turn.{Turn}
use Rattle.sci_ops.specs.declared.goals.Goal.{Goal}
use Rattle.sci_ops.specs.Alone.{TakesTurn}
use Rattle.sci_ops.specs.Ranking.{ranking}
use Rattle.sci_ops.specs.Rest.{due_turn, is_exchange}
use Rattle.sci_ops.specs.Table.{begun}
use Rattle.sci_ops.proofs.Resting.Falling.{turn_falls}
use Rattle.sci_ops.proofs.Resting.Going.{mover_turns}
use Rattle.sci_cache.specs.Nodes.{NodeState}
use Rattle.sci_script.specs.Nodes.{whole_of}
use Rattle.sci_script.specs.Resting.{any}
use Rattle.sci_script.specs.Shared.{TakesRestTurn}
use Rattle.sci_script.specs.Turns.{TurnsOn}
use Rattle.sci_script.specs.Unused.{shared}

module _ (width line me : ℕ) (wholes after : List (WholeLine AnyWords)) (nodes : List NodeState) (turn : Turn) (wide : nodes_of (whole_of wholes line) ≡ width) (below : me < nodes_of (whole_of wholes line))
    (mover : IsMover (nodes_of (whole_of wholes line)) (state_of (whole_of wholes line)) me)
    (lent : TakesTurn (nodes_of (whole_of wholes line)) any me (begun Goal.Load) (state_of (whole_of wholes line)) turn (state_of (whole_of after line))) where
  goes : (is_exchange (due_turn (begun Goal.Load) me (state_of (whole_of wholes line))) ≡ true) × (turn ≢ Turn.Waiting)
  goes = mover_turns (nodes_of (whole_of wholes line)) me (state_of (whole_of wholes line)) any (state_of (whole_of after line)) turn (begun Goal.Load) refl mover lent

  pub takes_rest : TurnsOn (nodes_of (whole_of wholes line)) me (begun Goal.Load) (state_of (whole_of wholes line)) turn (state_of (whole_of after line)) → ((m : ℕ) → m ≢ line → whole_of after m ≡ whole_of wholes m)
      → TakesRestTurn (shared width wholes nodes) line me (shared width after nodes)
  takes_rest made others = record {
    turn = turn;
    width = refl;
    inside = subst (λ (n : ℕ). me < n) wide below;
    mover = subst (λ (n : ℕ). IsMover n (state_of (whole_of wholes line)) me) wide mover;
    goes = goes.1;
    made = subst (λ (n : ℕ). TurnsOn n me (begun Goal.Load) (state_of (whole_of wholes line)) turn (state_of (whole_of after line))) wide made;
    others = λ m other. ap (λ (w : WholeLine AnyWords). state_of w) (others m other);
    nodes = λ i. refl;
  }

  pub rest_falls : ranking width (state_of (whole_of after line)) < ranking width (state_of (whole_of wholes line))
  rest_falls =
      subst (λ (n : ℕ). ranking n (state_of (whole_of after line)) < ranking n (state_of (whole_of wholes line))) wide
      (turn_falls (nodes_of (whole_of wholes line)) any me below (begun Goal.Load) (state_of (whole_of wholes line)) turn (state_of (whole_of after line)) mover.0 lent goes.0)
