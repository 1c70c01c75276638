-- Lines that are known to be at rest, and what a turn leaves of them.
use Rattle.std.proofs.Common.{◌≡◌, ◌≢◌, ◌<◌, ◌∙◌, ℕ, Bool, true, false, List, Option, Some, None, IfSome, length, get_or, set, refl, sym, subst, inl, inr, arith}
use Rattle.std.proofs.lemmas.Bool.{false≢true, cases_eq, cases_lt}
use Rattle.std.proofs.lemmas.List.{length-set, get_or-set_same, get_or-set_other, get_or_past, get_or_read}
use Rattle.sci_core.specs.declared.keeps.AnyWords.{AnyWords}
use Rattle.sci_core.specs.Progress.{IsAtRest}
use Rattle.sci_core.specs.State.{State}
use Rattle.sci_core.specs.Whole.{WholeLine, state_of}
use Rattle.sci_ops.specs.declared.answers.Turn.{Turn}
use Rattle.sci_cache.specs.declared.calls.OpenCall.{OpenCall}
use Rattle.sci_cache.specs.Nodes.{NodeState, line_by}
use Rattle.sci_script.specs.Nodes.{TurnsOverOf, whole_of}
use Rattle.sci_script.specs.Resting.{AreCalm}
use Rattle.sci_script.specs.Unused.{no_node}

-- where what is said of one line has changed, and the line
calm_but : (calm now : List Bool) (wholes after : List (WholeLine AnyWords)) (line : ℕ) → (get_or now line false ≡ true → IsAtRest (state_of (whole_of after line)))
    → ((m : ℕ) → m ≢ line → get_or now m false ≡ get_or calm m false) → ((m : ℕ) → m ≢ line → whole_of after m ≡ whole_of wholes m) → AreCalm calm wholes → AreCalm now after
calm_but calm now wholes after line here same others before = record {
  each = λ m on.
      elim (cases_eq m line) [
        | inl e ↦ subst (λ (k : ℕ). IsAtRest (state_of (whole_of after k))) (sym e) (here (subst (λ (k : ℕ). get_or now k false ≡ true) e on))
        | inr other ↦ subst (λ (w : WholeLine AnyWords). IsAtRest (state_of w)) (sym (others m other)) (before.each m (sym (same m other) ∙ on))
      ];
}

-- where a line was found at rest
pub calms : (calm : List Bool) (wholes : List (WholeLine AnyWords)) (line : ℕ) → IsAtRest (state_of (whole_of wholes line)) → AreCalm calm wholes → AreCalm (set calm line true) wholes
calms calm wholes line rest before = calm_but calm (set calm line true) wholes wholes line (λ on. rest) (λ m d. get_or-set_other calm line m true false d) (λ m d. refl) before

module _ (calm : List Bool) (wholes after : List (WholeLine AnyWords)) (line : ℕ) (others : (m : ℕ) → m ≢ line → whole_of after m ≡ whole_of wholes m) (before : AreCalm calm wholes) where
  -- where a line was loaded
  pub load_calms : state_of (whole_of after line) ≡ state_of (whole_of wholes line) → AreCalm calm after
  load_calms same = calm_but calm calm wholes after line (λ on. subst (λ (s : State). IsAtRest s) (sym same) (before.each line on)) (λ m d. refl) others before

  -- and where it was stirred: it isn't calm now
  pub rest_stirs : get_or calm line false ≡ false → AreCalm calm after
  rest_stirs off = calm_but calm calm wholes after line (λ on. absurd (false≢true (sym off ∙ on))) (λ m d. refl) others before

  stirs : AreCalm (set calm line false) after
  stirs =
      let off : get_or (set calm line false) line false ≡ false = elim (cases_lt line (length calm)) [
        | inl less ↦ get_or-set_same calm line false false less
        | inr more ↦ get_or_past (set calm line false) line false (omega (arith, more, length-set calm line false))
      ] in
      calm_but calm (set calm line false) wholes after line (λ on. absurd (false≢true (sym off ∙ on))) (λ m d. get_or-set_other calm line m false false d) others before

-- by a turn of the call of the node at this place
module _ (calm now : List Bool) (wholes after : List (WholeLine AnyWords)) (nodes : List NodeState) (place : ℕ) (n m : NodeState) (shown : Turn) (before : AreCalm calm wholes) where
  call_stirs : (call : Option OpenCall) → IfSome call (λ (c : OpenCall). now ≡ set calm (line_by c.victim c.line) false) → TurnsOverOf wholes n call shown after m → AreCalm now after
  call_stirs None stirred h = absurd h
  call_stirs (Some c) stirred h = subst (λ (l : List Bool). AreCalm l after) (sym stirred) (stirs calm wholes after (line_by c.victim c.line) h.others before)

  pub turn_stirs : (was : NodeState) (seated : List (WholeLine AnyWords)) → place < length nodes → was ≡ get_or nodes place was → n ≡ get_or nodes place n → seated ≡ wholes
      → IfSome was.call (λ (c : OpenCall). now ≡ set calm (line_by c.victim c.line) false) → TurnsOverOf seated n n.call shown after m → AreCalm now after
  turn_stirs was seated inside found here same stirred h =
      let one : was ≡ n = get_or_read nodes place was inside found no_node ∙ sym (get_or_read nodes place n inside here no_node) in
      call_stirs n.call (subst (λ (k : NodeState). IfSome k.call (λ (c : OpenCall). now ≡ set calm (line_by c.victim c.line) false)) one stirred)
      (subst (λ (l : List (WholeLine AnyWords)). TurnsOverOf l n n.call shown after m) same h)
