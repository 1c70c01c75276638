-- A turn of a node over the bank that it is seated at, as one on a line that is lent to the node.
use Rattle.std.proofs.Common.{◌≡◌, ◌∙◌, ℕ, ◌<◌, List, Option, Some, None, IfSome, Ok, length, get_or, set, All, is_some, true, refl, sym, ap, subst, arith}
use Rattle.sci_core.specs.declared.keeps.AnyWords.{AnyWords}
use Rattle.sci_core.specs.State.{State, update}
use Rattle.sci_core.specs.Whole.{WholeLine, nodes_of, state_of}
use Rattle.sci_port.specs.declared.calls.Call.{Call}
use Rattle.sci_port.specs.Banks.{LentLines, GivesAt, whole_at, nodes_at, state_at, step_at}
use Rattle.sci_port.specs.Owes.{Owes}
use Rattle.sci_ops.specs.declared.answers.Turn.{Turn}
use Rattle.sci_ops.specs.Alone.{TakesTurn, on_line}
use Rattle.sci_ops.specs.Plan.{Takes}
use Rattle.sci_ops.specs.Table.{turn_of}
use Rattle.sci_ops.proofs.Ending.Along.{takes_on}
use Rattle.sci_ops.proofs.Ending.Counting.{not_updated}
use Rattle.sci_cache.specs.declared.calls.OpenCall.{OpenCall}
use Rattle.sci_cache.specs.Nodes.{NodeState, TurnsBy, node_after, line_by, op_by}
use Rattle.sci_cache.proofs.Through.{chain_keeps}
use Rattle.sci_script.specs.Nodes.{TurnsOverOf, whole_of}
use Rattle.sci_script.specs.Resting.{any, LentOverOf, TakesLent, TakesLentOf}
use Rattle.sci_script.specs.Shared.{Shared, HasNode, TakesTurnOf}
use Rattle.sci_script.specs.Turns.{TurnsOn}
use Rattle.sci_script.specs.Unused.{no_line, no_node, shared}
use Rattle.sci_script.proofs.Desks.{read_set}
use Rattle.sci_script.proofs.Followed.{turned_by}

module _ {U : Type 0} (lent : U → LentLines AnyWords) (gives : U → ℕ → Call → U → Type 0)
    (each : (u : U) (l : ℕ) (c : Call) (v : U) → gives u l c v → GivesAt (λ _ _ _. Unit {0}) (lent u) l c (lent v)) where
  abbrev place : ℕ → U → ℕ × ℕ
  place line u = (nodes_at (lent u) line, (lent u).node)

  abbrev on_place : ℕ × ℕ → State → Call → State → Type 0
  on_place p = on_line p.0 any p.1

  one : (line : ℕ) (u : U) (c : Call) (v : U) → gives u line c v → (place line v ≡ place line u) × on_place (place line u) (state_at (lent u) line) c (state_at (lent v) line)
  one line u c v h =
      let g = each u line c v h in
      let node : (lent v).node ≡ (lent u).node = ap (λ w. w.node) g.stays.way in
      let nodes : nodes_at (lent v) line ≡ nodes_at (lent u) line = g.stays.nodes line in
      let owes = subst (λ (k : ℕ). Owes (nodes_at (lent u) line) any (lent u).node (step_at (lent u) line) c ((state_at (lent v) line).steps k)) node g.owes in
      ((λ i. (nodes i, node i)), (g.gives, owes))

  pub lent_over : (n : NodeState) (call : Option OpenCall) (u : U) (turn : Turn) (v : U) (m : NodeState) → n.id ≡ (lent u).node
      → TurnsBy gives (λ a l. step_at (lent a) l) n call u (Ok turn) v m → LentOverOf (lent u).wholes n call turn (lent v).wholes m
  lent_over n None u turn v m id h = absurd (let e = h.0 in cc)
  lent_over n (Some c) u turn v m id h =
      let line = line_by c.victim c.line in
      let op = op_by c.victim c.goal in
      let calls : Takes (λ a call b. gives a line call b) (turn_of op (lent u).node (step_at (lent u) line)) u h.turn v =
      subst (λ (k : ℕ). Takes (λ a call b. gives a line call b) (turn_of op k (step_at (lent u) line)) u h.turn v) id h.calls in
      let taken : TakesTurn (nodes_at (lent u) line) any (lent u).node op (state_at (lent u) line) h.turn (state_at (lent v) line) =
      takes_on (λ a call b. gives a line call b) (place line) (λ a. state_at (lent a) line) on_place (one line) (place line u) (turn_of op (lent u).node (step_at (lent u) line)) u h.turn v refl calls in
      record {
        turn = h.turn;
        made = turned_by (λ a call b. gives a line call b) (λ a. whole_at (lent a) line) (λ a. (lent a).node) (λ a words. any words)
            (λ a call b k. let g = each a line call b k in (g.stays.nodes line, ap (λ w. w.node) g.stays.way, g.gives))
            op u h.turn v (whole_at (lent u) line) (state_at (lent v) line) n.id refl (sym id) refl calls;
        lent = subst (λ (k : ℕ). TakesTurn (nodes_at (lent u) line) any k op (state_at (lent u) line) h.turn (state_at (lent v) line)) (sym id) taken;
        others = λ m other. chain_keeps gives line (λ a. whole_at (lent a) m) (λ a call b k. (each a line call b k).stays.wholes m other) h.calls.calls u v h.calls.chain;
        shows = h.shows;
        node = h.node;
      }

-- a turn of the call of the node that stands at its number
module _ (width : ℕ) (wholes after : List (WholeLine AnyWords)) (nodes : List NodeState) (node : ℕ) (shown : Turn) (m : NodeState) (inside : node < length nodes)
    (wide : All (λ w. nodes_of w ≡ width) wholes) where
  pub takes_lent : (n : NodeState) (call : Option OpenCall) → get_or nodes node no_node ≡ n → n.id ≡ node → n.lines ≡ length wholes → IfSome call (λ (c : OpenCall). line_by c.victim c.line < n.lines)
      → LentOverOf wholes n call shown after m → TakesLentOf (shared width wholes nodes) node call shown (shared width after (set nodes node m))
  takes_lent n None here id count below h = h
  takes_lent n (Some c) here id count below h =
      let line = line_by c.victim c.line in
      let op = op_by c.victim c.goal in
      let w = whole_of wholes line in
      let v = whole_of after line in
      let as_wide : nodes_of w ≡ width = wide line no_line (omega (arith, below, count)) in
      let later : m ≡ node_after (get_or nodes node no_node) c h.turn = h.node ∙ ap (λ (k : NodeState). node_after k c h.turn) (sym here) in
      record {
        turn = h.turn;
        width = refl;
        made = subst (λ (k : ℕ). TurnsOn k node op (state_of w) h.turn (state_of v)) as_wide (subst (λ (k : ℕ). TurnsOn (nodes_of w) k op (state_of w) h.turn (state_of v)) id h.made);
        lent = subst (λ (k : ℕ). TakesTurn k any node op (state_of w) h.turn (state_of v)) as_wide (subst (λ (k : ℕ). TakesTurn (nodes_of w) any k op (state_of w) h.turn (state_of v)) id h.lent);
        others = λ l other. ap (λ (x : WholeLine AnyWords). state_of x) (h.others l other);
        shows = h.shows;
        after = λ i. read_set nodes node i m no_node inside ∙ ap (λ (k : NodeState). update (λ j. get_or nodes j no_node) node k i) later;
      }

-- it is a turn over these lines, and of the desk, and changes no other node
pub lent_turns : (wholes : List (WholeLine AnyWords)) (n : NodeState) (call : Option OpenCall) (shown : Turn) (after : List (WholeLine AnyWords)) (m : NodeState) → LentOverOf wholes n call shown after m
    → TurnsOverOf wholes n call shown after m
lent_turns wholes n None shown after m h = h
lent_turns wholes n (Some c) shown after m h = record { turn = h.turn; made = h.made; others = h.others; shows = h.shows; node = h.node }

pub lent_does : (s : Shared) (node : ℕ) (call : Option OpenCall) (shown : Turn) (t : Shared) → TakesLentOf s node call shown t → TakesTurnOf s node call shown t
lent_does s node None shown t h = h
lent_does s node (Some c) shown t h = record { turn = h.turn; width = h.width; made = h.made; others = h.others; shows = h.shows; after = h.after }

pub lent_others : (s : Shared) (node : ℕ) (call : Option OpenCall) (shown : Turn) (t : Shared) → TakesLentOf s node call shown t → (i : ℕ) → (i ≡ node → ⊥) → t.nodes i ≡ s.nodes i
lent_others s node None shown t h i d = absurd h
lent_others s node (Some c) shown t h i d = h.after i ∙ not_updated s.nodes node (node_after (s.nodes node) c h.turn) i d
