-- Lines keep their number of nodes.
use Rattle.std.proofs.Common.{◌≡◌, ◌∙◌, ℕ, ◌<◌, List, length, All, ap, arith}
use Rattle.std.proofs.lemmas.List.{get_or_default, length-replicate}
use Rattle.sci_core.specs.declared.keeps.AnyWords.{AnyWords}
use Rattle.sci_core.specs.declared.lines.Line.{Line}
use Rattle.sci_core.specs.State.{invalid}
use Rattle.sci_core.specs.Whole.{WholeLine, nodes_of, opened_whole}
use Rattle.sci_script.specs.Unused.{no_line}
use Rattle.sci_logs.specs.Steps.{whole_at}

pub kept_widths : (n : ℕ) (vs ws : List (WholeLine AnyWords)) → length ws ≡ length vs → ((l : ℕ) → nodes_of (whole_at ws l) ≡ nodes_of (whole_at vs l))
    → All (λ w. nodes_of w ≡ n) vs → All (λ w. nodes_of w ≡ n) ws
kept_widths n vs ws count each all = λ k d lt.
    ap (λ (w : WholeLine AnyWords). nodes_of w) (get_or_default ws k d no_line lt) ∙ each k ∙ all k no_line (omega (arith, count, lt))

pub width_at : (n : ℕ) (ws : List (WholeLine AnyWords)) (line : ℕ) → line < length ws → All (λ w. nodes_of w ≡ n) ws → nodes_of (whole_at ws line) ≡ n
width_at n ws line lt all = all line no_line lt

pub opened_nodes : (keep : AnyWords) (number n : ℕ) (content : Line) (w : WholeLine AnyWords) → w ≡ opened_whole keep number n content → nodes_of w ≡ n
opened_nodes keep number n content w is = ap (λ (v : WholeLine AnyWords). nodes_of v) is ∙ length-replicate n invalid
