-- The calls of a desk of whole lines, on its lists.
use Rattle.std.proofs.Common.{◌≡◌, ◌∙◌, ℕ, ◌<◌, List, Option, Some, None, IfSome, length, get_or, set, All, refl, sym, ap, subst, arith}
use Rattle.std.proofs.lemmas.Bool.Decides.{nat_tests}
use Rattle.std.proofs.lemmas.List.{get_or-set_same, get_or-set_other}
use Rattle.sci_core.specs.declared.keeps.AnyWords.{AnyWords}
use Rattle.sci_core.specs.State.{update}
use Rattle.sci_core.specs.Whole.{WholeLine, nodes_of, state_of}
use Rattle.sci_core.proofs.States.{opened_state}
use Rattle.sci_ops.specs.declared.answers.Turn.{Turn}
use Rattle.sci_cache.specs.declared.calls.OpenCall.{OpenCall}
use Rattle.sci_cache.specs.Nodes.{NodeState, node_after, line_by, op_by}
use Rattle.sci_script.specs.declared.commands.Size.{Size}
use Rattle.sci_script.specs.declared.commands.Opening.{Opening}
use Rattle.sci_port.specs.declared.watching.Passed.{Passed}
use Rattle.sci_script.specs.Nodes.{TurnsOverOf, whole_of}
use Rattle.sci_script.specs.Passed.{PassesOn, PassesOverOf, PassesTurnOf}
use Rattle.sci_script.specs.Openings.{zeros, content_of}
use Rattle.sci_script.specs.ScriptText.{Opens}
use Rattle.sci_script.specs.Shared.{HasNode, TakesTurnOf}
use Rattle.sci_script.specs.Turns.{TurnsOn}
use Rattle.sci_script.specs.Unused.{AreOpened, AreIdle, no_line, no_node, shared}

pub read_set : {A : Type 0} (l : List A) (i j : ℕ) (v d : A) → i < length l → get_or (set l i v) j d ≡ update (λ k. get_or l k d) i v j
read_set l i j v d h = grind (arith, nat_tests, get_or-set_same l i v d, get_or-set_other l i j v d)

-- a turn of the call of the node that stands at its number
module _ (width : ℕ) (wholes after : List (WholeLine AnyWords)) (nodes : List NodeState) (node : ℕ) (shown : Turn) (m : NodeState) (inside : node < length nodes)
    (wide : All (λ w. nodes_of w ≡ width) wholes) where
  has_node : (n : NodeState) → m ≡ n → HasNode (shared width wholes nodes) node n (shared width after (set nodes node m))
  has_node n e = λ i. read_set nodes node i m no_node inside ∙ ap (λ (k : NodeState). update (λ j. get_or nodes j no_node) node k i) e

  pub takes_turn : (n : NodeState) (call : Option OpenCall) → get_or nodes node no_node ≡ n → n.id ≡ node → n.lines ≡ length wholes → IfSome call (λ (c : OpenCall). line_by c.victim c.line < n.lines)
      → TurnsOverOf wholes n call shown after m → TakesTurnOf (shared width wholes nodes) node call shown (shared width after (set nodes node m))
  takes_turn n None here id count below h = h
  takes_turn n (Some c) here id count below h =
      let line = line_by c.victim c.line in
      let op = op_by c.victim c.goal in
      let w = whole_of wholes line in
      let v = whole_of after line in
      record {
        turn = h.turn;
        width = refl;
        made = subst (λ (k : ℕ). TurnsOn k node op (state_of w) h.turn (state_of v)) (wide line no_line (omega (arith, below, count)))
            (subst (λ (k : ℕ). TurnsOn (nodes_of w) k op (state_of w) h.turn (state_of v)) id h.made);
        others = λ l other. ap (λ (x : WholeLine AnyWords). state_of x) (h.others l other);
        shows = h.shows;
        after = has_node (node_after (get_or nodes node no_node) c h.turn) (h.node ∙ ap (λ (k : NodeState). node_after k c h.turn) (sym here));
      }

-- what passes in a turn of the call of the node that stands at its number
pub passes_turn : (width : ℕ) (wholes after : List (WholeLine AnyWords)) (nodes others : List NodeState) (node : ℕ) (p q : Passed) → All (λ w. nodes_of w ≡ width) wholes
    → (n : NodeState) (call : Option OpenCall) → n.id ≡ node → n.lines ≡ length wholes → IfSome call (λ (c : OpenCall). line_by c.victim c.line < n.lines)
    → PassesOverOf wholes n call after p q → PassesTurnOf (shared width wholes nodes) node call (shared width after others) p q
passes_turn width wholes after nodes others node p q wide n None id count below h = h
passes_turn width wholes after nodes others node p q wide n (Some c) id count below h =
    let line = line_by c.victim c.line in
    let op = op_by c.victim c.goal in
    let w = whole_of wholes line in
    let v = whole_of after line in
    subst (λ (k : ℕ). PassesOn k node line op (state_of w) (state_of v) p q) (wide line no_line (omega (arith, below, count)))
    (subst (λ (k : ℕ). PassesOn (nodes_of w) k line op (state_of w) (state_of v) p q) id h)

-- lines and nodes just opened
pub opens : (size : Size) (capacity : ℕ) (openings : List Opening) (wholes : List (WholeLine AnyWords)) (nodes : List NodeState) → AreOpened size.nodes openings size.lines wholes → AreIdle size.lines capacity size.nodes nodes
    → Opens size capacity openings (shared size.nodes wholes nodes)
opens size capacity openings wholes nodes opened_all idle = record {
  width = refl;
  lines = λ line lt. ap (λ (w : WholeLine AnyWords). state_of w) (opened_all line no_line lt) ∙ opened_state (get_or wholes line no_line).keep line size.nodes (content_of line zeros openings);
  nodes = λ node lt. idle node no_node lt;
}
