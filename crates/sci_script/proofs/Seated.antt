-- A turn of a node over the bank that it is seated at, as the lines see it.
use Rattle.std.proofs.Common.{◌≡◌, ℕ, List, Option, Some, None, Ok, refl, sym, ap, subst}
use Rattle.sci_core.specs.declared.keeps.AnyWords.{AnyWords}
use Rattle.sci_port.specs.declared.calls.Call.{Call}
use Rattle.sci_port.specs.Banks.{LentLines, GivesAt, whole_at, state_at, step_at}
use Rattle.sci_ops.specs.declared.answers.Turn.{Turn}
use Rattle.sci_ops.specs.Plan.{Takes}
use Rattle.sci_ops.specs.Table.{turn_of}
use Rattle.sci_cache.specs.declared.calls.OpenCall.{OpenCall}
use Rattle.sci_cache.specs.Nodes.{NodeState, TurnsBy, line_by, op_by}
use Rattle.sci_cache.proofs.Through.{chain_keeps}
use Rattle.sci_port.specs.declared.watching.Passed.{Passed}
use Rattle.sci_script.specs.Nodes.{TurnsOverOf}
use Rattle.sci_port.specs.Watching.{passed_by}
use Rattle.sci_script.specs.Passed.{PassesOverOf}
use Rattle.sci_script.proofs.Followed.{turned_by, passed_in}

module _ {U : Type 0} (fits : AnyWords → ℕ → List ℕ → Type 0) (lent : U → LentLines AnyWords) (gives : U → ℕ → Call → U → Type 0)
    (each : (u : U) (l : ℕ) (c : Call) (v : U) → gives u l c v → GivesAt fits (lent u) l c (lent v)) where
  pub turned : (n : NodeState) (call : Option OpenCall) (u : U) (turn : Turn) (v : U) (m : NodeState) → n.id ≡ (lent u).node
      → TurnsBy gives (λ a l. step_at (lent a) l) n call u (Ok turn) v m → TurnsOverOf (lent u).wholes n call turn (lent v).wholes m
  turned n None u turn v m id h = absurd (let e = h.0 in cc)
  turned n (Some c) u turn v m id h =
      let line = line_by c.victim c.line in
      let op = op_by c.victim c.goal in
      let calls : Takes (λ a call b. gives a line call b) (turn_of op (lent u).node (step_at (lent u) line)) u h.turn v =
      subst (λ (k : ℕ). Takes (λ a call b. gives a line call b) (turn_of op k (step_at (lent u) line)) u h.turn v) id h.calls in
      record {
        turn = h.turn;
        made = turned_by (λ a call b. gives a line call b) (λ a. whole_at (lent a) line) (λ a. (lent a).node) (λ a words. fits (lent a).keep line words)
            (λ a call b k. let g = each a line call b k in (g.stays.nodes line, ap (λ w. w.node) g.stays.way, g.gives))
            op u h.turn v (whole_at (lent u) line) (state_at (lent v) line) n.id refl (sym id) refl calls;
        others = λ m other. chain_keeps gives line (λ a. whole_at (lent a) m) (λ a call b k. (each a line call b k).stays.wholes m other) h.calls.calls u v h.calls.chain;
        shows = h.shows;
        node = h.node;
      }

  -- and what is kept of the turn's calls
  module _ (seen : U → Passed) (kept : (u : U) (l : ℕ) (c : Call) (v : U) → gives u l c v → seen v ≡ passed_by (seen u) l c) where
    pub watched : (n : NodeState) (call : Option OpenCall) (u : U) (turn : Turn) (v : U) (m : NodeState) → n.id ≡ (lent u).node
        → TurnsBy gives (λ a l. step_at (lent a) l) n call u (Ok turn) v m → PassesOverOf (lent u).wholes n call (lent v).wholes (seen u) (seen v)
    watched n None u turn v m id h = absurd (let e = h.0 in cc)
    watched n (Some c) u turn v m id h =
        let line = line_by c.victim c.line in
        let op = op_by c.victim c.goal in
        let calls : Takes (λ a call b. gives a line call b) (turn_of op (lent u).node (step_at (lent u) line)) u h.turn v =
        subst (λ (k : ℕ). Takes (λ a call b. gives a line call b) (turn_of op k (step_at (lent u) line)) u h.turn v) id h.calls in
        passed_in (λ a call b. gives a line call b) (λ a. whole_at (lent a) line) (λ a. (lent a).node) (λ a words. fits (lent a).keep line words)
        (λ a call b k. let g = each a line call b k in (g.stays.nodes line, ap (λ w. w.node) g.stays.way, g.gives))
        seen line (λ a call b k. kept a line call b k) op u h.turn v (whole_at (lent u) line) (state_at (lent v) line) n.id refl (sym id) refl calls
