-- The text of the nodes and of the lines, one after another.
use Rattle.std.proofs.Common.{◌≡◌, ℕ, ◌+◌, ◌<◌, ◌≤◌, List, [], ◌++◌, length, get_or, drop, refl, arith}
use Rattle.std.proofs.lemmas.List.{drop_more, drop_all}
use Rattle.sci_words.specs.declared.layouts.Layout.{Layout}
use Rattle.sci_words.specs.declared.tags.Tag.{Tag}
use Rattle.sci_core.specs.declared.lines.Line.{Line}
use Rattle.sci_core.specs.Closed.{ClosedLine}
use Rattle.sci_dump.specs.Text.{node_text, nodes_text, closed_text, lines_text}

module _ (layout : Layout) where
  pub nodes_more : (number i : ℕ) (tags : List Tag) (lines : List Line) (t : Tag) (l : Line) → i < length tags → length lines ≡ length tags
      → nodes_text layout number i (drop i tags) (drop i lines) ≡ node_text layout number i (get_or tags i t) (get_or lines i l) ++ nodes_text layout number (i + 1) (drop (i + 1) tags) (drop (i + 1) lines)
  unfolding nodes_text
  nodes_more number i tags lines t l lt same = rw (drop_more tags i t lt, drop_more lines i l (omega arith)) refl

  pub nodes_end : (number i : ℕ) (tags : List Tag) (lines : List Line) → length tags ≤ i → nodes_text layout number i (drop i tags) lines ≡ []
  unfolding nodes_text
  nodes_end number i tags lines le = rw (drop_all i tags le) refl

  pub lines_more : (i : ℕ) (cs : List ClosedLine) (c : ClosedLine) → i < length cs → lines_text layout i (drop i cs) ≡ closed_text layout i (get_or cs i c) ++ lines_text layout (i + 1) (drop (i + 1) cs)
  unfolding lines_text
  lines_more i cs c lt = rw (drop_more cs i c lt) refl

  pub lines_end : (i : ℕ) (cs : List ClosedLine) → length cs ≤ i → lines_text layout i (drop i cs) ≡ []
  unfolding lines_text
  lines_end i cs le = rw (drop_all i cs le) refl
