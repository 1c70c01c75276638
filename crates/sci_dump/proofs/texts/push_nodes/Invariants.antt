use Rattle.std.proofs.Common.{◌≡◌, ◌++◌, string_bytes, drop}
use Rattle.sci_words.specs.declared.layouts.Layout.TheVariants.{Two}
use Rattle.sci_dump.specs.Text.{nodes_text}
use Rattle.sci_dump.proofs.texts.push_nodes.Given as goal

-- what is written, and the text of the nodes that are left, is all of the text
abbrev pub invariant-loop-node : goal.invariant-loop-node
invariant-loop-node l =
    string_bytes l.text ++ nodes_text Two l.number l.node (drop l.node l.closed.tags) (drop l.node l.closed.lines) ≡ string_bytes l.fn.text ++ nodes_text Two l.number 0 l.closed.tags l.closed.lines
