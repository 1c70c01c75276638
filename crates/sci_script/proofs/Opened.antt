-- Lines that nobody has used and nodes that have used none, one after the other.
use Rattle.std.proofs.Common.{◌≡◌, ℕ, ◌+◌, ◌<◌, ◌≤◌, false, List, [], ◌∷◌, ◌++◌, length, get_or, All, None, arith, refl, ap, sym, subst, ◌∙◌, inl, inr}
use Rattle.std.proofs.lemmas.Bool.{cases_lt}
use Rattle.std.proofs.lemmas.List.{get_or_append_left, get_or_push, get_or_past, length-replicate}
use Rattle.sci_core.specs.declared.keeps.AnyWords.{AnyWords}
use Rattle.sci_core.specs.declared.lines.Line.{Line}
use Rattle.sci_core.specs.Progress.{IsAtRest}
use Rattle.sci_core.specs.State.{State, invalid}
use Rattle.sci_core.specs.Whole.{WholeLine, nodes_of, opened_whole, state_of}
use Rattle.sci_core.proofs.States.{opened_state}
use Rattle.sci_port.specs.Banks.{AreLinesOf}
use Rattle.sci_cache.specs.Nodes.{NodeState, node_state}
use Rattle.sci_script.specs.declared.commands.Opening.{Opening}
use Rattle.sci_script.specs.Openings.{zeros, content_of}
use Rattle.sci_script.specs.Nodes.{AreNodesOf, whole_of}
use Rattle.sci_script.specs.Unused.{AreOpened, AreIdle, no_line}

its_keep : (w : WholeLine AnyWords) (keep : AnyWords) (k nodes : ℕ) (line : Line) → w ≡ opened_whole keep k nodes line → w ≡ opened_whole w.keep k nodes line
its_keep w keep k nodes line e = subst (λ (a : AnyWords). w ≡ opened_whole a k nodes line) (sym (ap (λ (x : WholeLine AnyWords). x.keep) e)) e

IsOpenedAt : ℕ → List Opening → ℕ → WholeLine AnyWords → Type 0
IsOpenedAt nodes openings k w = w ≡ opened_whole w.keep k nodes (content_of k zeros openings)

pub opened_push : (nodes : ℕ) (openings : List Opening) (wholes : List (WholeLine AnyWords)) (n : ℕ) (w : WholeLine AnyWords) (keep : AnyWords) (line : Line) → length wholes ≡ n
    → AreOpened nodes openings n wholes → w ≡ opened_whole keep n nodes line → line ≡ content_of n zeros openings → AreOpened nodes openings (n + 1) (wholes ++ w ∷ [])
unfolding IsOpenedAt
opened_push nodes openings wholes n w keep line count before e content = λ k d lt.
    elim (cases_lt k n) [
      | inl less ↦ subst (IsOpenedAt nodes openings k) (sym (get_or_append_left wholes (w ∷ []) d k (omega (arith, count)))) (before k d less)
      | inr more ↦
          let same : k ≡ n = omega arith in
          let here : IsOpenedAt nodes openings n w = subst (λ (l : Line). w ≡ opened_whole w.keep n nodes l) content (its_keep w keep n nodes line e) in
          subst (λ (j : ℕ). IsOpenedAt nodes openings j (get_or (wholes ++ w ∷ []) j d)) (sym same)
          (subst (IsOpenedAt nodes openings n) (sym (get_or_push wholes w d n count)) here)
    ]

pub opened_widths : (nodes : ℕ) (openings : List Opening) (wholes : List (WholeLine AnyWords)) (n : ℕ) → length wholes ≡ n → AreOpened nodes openings n wholes → All (λ w. nodes_of w ≡ nodes) wholes
opened_widths nodes openings wholes n count opened = λ k d lt.
    let lt-n : k < n = omega (arith, count) in
    ap (λ (w : WholeLine AnyWords). nodes_of w) (opened k d lt-n) ∙ length-replicate nodes invalid

pub opened_rest : (nodes : ℕ) (openings : List Opening) (wholes : List (WholeLine AnyWords)) (n : ℕ) → length wholes ≡ n → AreOpened nodes openings n wholes → (line : ℕ) → IsAtRest (state_of (whole_of wholes line))
opened_rest nodes openings wholes n count opened = λ line i.
    elim (cases_lt line n) [
      | inl less ↦ ap (λ (w : WholeLine AnyWords). (state_of w).steps i) (opened line no_line less) ∙ ap (λ (s : State). s.steps i) (opened_state (whole_of wholes line).keep line nodes (content_of line zeros openings))
      | inr more ↦ ap (λ (w : WholeLine AnyWords). (state_of w).steps i) (get_or_past wholes line no_line (omega (arith, more, count)))
    ]

-- and nodes that have used none
pub idle_push : (lines capacity : ℕ) (nodes : List NodeState) (n : ℕ) (node : NodeState) → length nodes ≡ n → AreIdle lines capacity n nodes → node ≡ node_state n lines capacity false [] None
    → AreIdle lines capacity (n + 1) (nodes ++ node ∷ [])
idle_push lines capacity nodes n node count before e = λ k d lt.
    elim (cases_lt k n) [
      | inl less ↦ get_or_append_left nodes (node ∷ []) d k (omega (arith, count)) ∙ before k d less
      | inr more ↦
          let same : k ≡ n = omega arith in
          subst (λ (j : ℕ). get_or (nodes ++ node ∷ []) j d ≡ node_state j lines capacity false [] None) (sym same) (get_or_push nodes node d n count ∙ e)
    ]

pub idle_nodes : (lines capacity n : ℕ) (nodes : List NodeState) → length nodes ≡ n → AreIdle lines capacity n nodes → AreNodesOf lines nodes
idle_nodes lines capacity n nodes count idle = λ k d lt.
    let here = idle k d (omega (arith, count)) in
    (ap (λ (node : NodeState). node.id) here, ap (λ (node : NodeState). node.lines) here, ap (λ (node : NodeState). node.keeps) here)

-- the lines of a bank of their node
pub are_lines : (nodes : ℕ) (openings : List Opening) (wholes : List (WholeLine AnyWords)) (n node : ℕ) → length wholes ≡ n → 0 < n → n ≤ 1024 → node < nodes → AreOpened nodes openings n wholes
    → AreLinesOf (record {}) node wholes
are_lines nodes openings wholes n node count some few below opened = record {
  some = omega (arith, count, some);
  few = omega (arith, count, few);
  each = λ line d lt.
      let here = opened line d (omega (arith, count, lt)) in
      let wide : nodes_of (get_or wholes line d) ≡ nodes = ap (λ (w : WholeLine AnyWords). nodes_of w) here ∙ length-replicate nodes invalid in
      record { number = ap (λ (w : WholeLine AnyWords). w.number) here; fact = refl; below = omega (arith, below, wide) };
}
