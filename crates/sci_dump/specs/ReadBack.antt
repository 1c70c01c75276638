-- Which closed lines can be dumped, and what is read of their dump. This project's profile.
use Rattle.std.specs.Prelude.{◌≡◌, ℕ, ◌<◌, ◌≤◌, ◌^◌, true, List, [], ◌∷◌, length, map, All, if◌then◌else◌}
use Rattle.sci_words.specs.declared.tags.Tag.{Tag}
use Rattle.sci_words.specs.declared.layouts.Layout.{Layout}
use Rattle.sci_words.specs.Layout.{no_link}
use Rattle.sci_words.specs.Tag.{is_invalid, tag_links_below}
use Rattle.sci_words.specs.Mem.{mem_links_below}
use Rattle.sci_core.specs.declared.lines.Line.{Line}
use Rattle.sci_core.specs.Closed.{ClosedLine, IsClosed}
use Rattle.sci_core.specs.State.{blank}
use Rattle.sci_dump.specs.Text.{nodes_in}
use Rattle.sci_dump.specs.Dumps.{DumpLines}

-- a stamp and eight words, numbers of 64 bits
pub record IsContent (line : Line) : Type 0 where
  pub stamp : line.stamp < 2 ^ 64
  pub words : All (λ word. word < 2 ^ 64) line.words
  pub eight : length line.words ≡ 8

-- a closed line of so many nodes, whose links have a code in this layout
pub record IsLineOf (l : Layout) (nodes : ℕ) (c : ClosedLine) : Type 0 where
  pub closed : IsClosed c
  pub tags : length c.tags ≡ nodes
  pub head : mem_links_below (no_link l) c.mem ≡ true
  pub links : All (λ tag. tag_links_below (no_link l) tag ≡ true) c.tags
  pub memory : IsContent c.memory
  pub contents : All IsContent c.lines

-- 1 to 1,024 lines of 1 to 64 nodes in layout 1, of 1 to 1,024 in layout 2
pub record CanBeDumped (l : Layout) (nodes : ℕ) (cs : List ClosedLine) : Type 0 where
  pub few : (1 ≤ nodes) × (nodes ≤ nodes_in l)
  pub lines : (1 ≤ length cs) × (length cs ≤ 1024)
  pub each : All (IsLineOf l nodes) cs

-- contents as they are read: zeros for a node that is Invalid
unfoldable pub contents_read : List Tag → List Line → List Line
contents_read (tag ∷ tags) (line ∷ lines) = (if is_invalid tag.kind then blank else line) ∷ contents_read tags lines
contents_read _ _ = []

abbrev pub line_read : ClosedLine → ClosedLine
line_read c = record { mem = c.mem; memory = c.memory; tags = c.tags; lines = contents_read c.tags c.lines }

abbrev pub dump_read : ℕ → List ClosedLine → DumpLines
dump_read nodes cs = record { nodes = nodes; lines = map line_read cs }
