-- The line on which calls pass in a turn.
use Rattle.std.proofs.Common.{◌≡◌, ℕ, ◌<◌, List, Option, Some, None, IfSome, sym, subst, arith}
use Rattle.sci_core.specs.declared.keeps.AnyWords.{AnyWords}
use Rattle.sci_core.specs.State.{State}
use Rattle.sci_core.specs.Step.{looked}
use Rattle.sci_core.specs.Whole.{WholeLine, nodes_of, state_of}
use Rattle.sci_port.specs.declared.calls.Call.TheVariants.{Own, MemWas, TagWas}
use Rattle.sci_ops.specs.Plan.{Plan, own, mem, tag, exchange, ends}
use Rattle.sci_ops.specs.Table.{turn_of}
use Rattle.sci_cache.specs.declared.calls.OpenCall.{OpenCall}
use Rattle.sci_cache.specs.Nodes.{NodeState, line_by, op_by}
use Rattle.sci_port.specs.declared.watching.Passed.{Passed}
use Rattle.sci_script.specs.Nodes.{whole_of}
use Rattle.sci_port.specs.Watching.{passed_by}
use Rattle.sci_script.specs.Passed.{Passes, PassesOverOf}

-- what passes along a plan is on its line
passes_line : (n me line : ℕ) (s : State) (plan : Plan) (t : State) (p q : Passed) (most : ℕ) → line < most → p.line < most → Passes n me line s plan t p q → q.line < most
passes_line n me line s (own next) t p q most below at h =
    passes_line n me line (looked s me) (next (s.tags me)) t (passed_by p line (Own (Some (s.tags me)))) q most below below h
passes_line n me line s (mem next) t p q most below at h = passes_line n me line s (next s.memory) t (passed_by p line (MemWas (Some s.memory))) q most below below h
passes_line n me line s (tag node next) t p q most below at h =
    passes_line n me line s (next (s.tags node)) t (passed_by p line (TagWas node (Some (s.tags node)))) q most below below h
passes_line n me line s (exchange event end) t p q most below at h = subst (λ (x : Passed). x.line < most) (sym h.2) below
passes_line n me line s (ends last) t p q most below at h = subst (λ (x : Passed). x.line < most) (sym h) at

-- what passes in a turn of the node's call is on a line of its
pub passed_line : (wholes after : List (WholeLine AnyWords)) (n : NodeState) (call : Option OpenCall) (p q : Passed) (most : ℕ) → IfSome call (λ (c : OpenCall). line_by c.victim c.line < most) → p.line ≡ 0
    → PassesOverOf wholes n call after p q → q.line < most
passed_line wholes after n None p q most below none h = absurd h
passed_line wholes after n (Some c) p q most below none h =
    let line = line_by c.victim c.line in
    let s = state_of (whole_of wholes line) in
    passes_line (nodes_of (whole_of wholes line)) n.id line s (turn_of (op_by c.victim c.goal) n.id (s.steps n.id)) (state_of (whole_of after line)) p q most below (omega (arith, below, none)) h
