use Rattle.std.proofs.Common.{◌≡◌, ℕ, ◌<◌, Result, Ok, Err, length, replicate, sym, subst, arith}
use Rattle.std.proofs.lemmas.List.{get_or-replicate, length-replicate}
use Rattle.std.specs.Prelude.{IfOk}
use Rattle.sci_words.specs.declared.tags.Tag.{Tag}
use Rattle.sci_core.specs.declared.lines.Line.{Line}
use Rattle.sci_core.specs.declared.outcomes.OpenRefusal.{OpenRefusal}
use Rattle.sci_core.specs.declared.pending.Pending.{Pending}
use Rattle.sci_core.specs.State.{invalid}
use Rattle.sci_core.specs.Whole.{WholeLine, nodes_of, state_of, opened_whole}
use Rattle.sci_line_tests.proofs.whole.opened.Goals as goal

-- on a line that nobody has used each node is Idle
opened_idle : {K : Type 0} (keep : K) (number nodes : ℕ) (line : Line) (r : Result (WholeLine K) OpenRefusal) → IfOk r (λ w. w ≡ opened_whole keep number nodes line)
    → IfOk r (λ w. (i : ℕ) → i < nodes_of w → (state_of w).steps i ≡ Pending.Idle)
opened_idle {K} keep number nodes line (Ok w) e = λ i h.
    let long = length-replicate {A = Tag} nodes invalid in
    let inside : i < length (replicate nodes invalid) = subst (λ (u : WholeLine K). i < nodes_of u) e h in
    subst (λ (u : WholeLine K). (state_of u).steps i ≡ Pending.Idle) (sym e) (get_or-replicate nodes i Pending.Idle Pending.Idle (omega arith))
opened_idle keep number nodes line (Err x) e = tt

pub returns : goal.returns
returns c = opened_idle _ _ _ _ c.open.result c.open.ensures.opened
