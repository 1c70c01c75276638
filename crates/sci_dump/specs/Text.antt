-- The text of a dump. This project's profile.
use Rattle.std.specs.Prelude.{ℕ, zero, suc, ◌+◌, ◌/◌, ◌%◌, false, List, [], ◌∷◌, ◌++◌, length, codes, if◌then◌else◌}
use Rattle.std.specs.Fmt.{decimal, digit_glyph}
use Rattle.std.specs.List.{flat_map}
use Rattle.sci_words.specs.declared.memory.Mem.{Mem}
use Rattle.sci_words.specs.declared.tags.Tag.{Tag}
use Rattle.sci_words.specs.declared.layouts.Layout.{Layout}
use Rattle.sci_words.specs.declared.layouts.Layout.TheVariants.{One, Two}
use Rattle.sci_words.specs.Codes.{mem_code_in, tag_code_in}
use Rattle.sci_words.specs.Tag.{is_invalid}
use Rattle.sci_core.specs.declared.lines.Line.{Line}
use Rattle.sci_core.specs.Closed.{ClosedLine}
use Rattle.sci_core.specs.declared.whole.TheConstants.{MOST_NODES}

-- the last k hexadecimal digits of a number, in lower case
unfoldable pub hexadecimal : ℕ → ℕ → List ℕ
hexadecimal zero n = []
hexadecimal (suc k) n = hexadecimal k (n / 16) ++ digit_glyph false (n % 16) ∷ []

-- each value behind a space
abbrev pub values_text : List ℕ → List ℕ
values_text values = flat_map (λ v. codes " " ++ decimal v) values

-- a word of 64 bits in 16 digits, then a line's stamp and its eight words
abbrev pub content_text : ℕ → Line → List ℕ
content_text word line = hexadecimal 16 word ++ values_text (line.stamp ∷ line.words) ++ codes "\n"

-- `line L`, the memory word, and memory's line
unfoldable pub memory_text : Layout → ℕ → Mem → Line → List ℕ
memory_text l number mem line = codes "line " ++ decimal number ++ codes " " ++ content_text (mem_code_in l mem) line

-- `tag L N`, the node's tag, and its line
unfoldable pub tag_text : Layout → ℕ → ℕ → Tag → Line → List ℕ
tag_text l number node tag line = codes "tag " ++ decimal number ++ codes " " ++ decimal node ++ codes " " ++ content_text (tag_code_in l tag) line

-- the same for a node whose tag isn't Invalid
unfoldable pub node_text : Layout → ℕ → ℕ → Tag → Line → List ℕ
node_text l number node tag line = if is_invalid tag.kind then [] else tag_text l number node tag line

-- the nodes from this one on
unfoldable pub nodes_text : Layout → ℕ → ℕ → List Tag → List Line → List ℕ
nodes_text l number node (tag ∷ tags) (line ∷ lines) = node_text l number node tag line ++ nodes_text l number (node + 1) tags lines
nodes_text l number node _ _ = []

unfoldable pub closed_text : Layout → ℕ → ClosedLine → List ℕ
closed_text l number c = memory_text l number c.mem c.memory ++ nodes_text l number 0 c.tags c.lines

-- the lines from this one on
unfoldable pub lines_text : Layout → ℕ → List ClosedLine → List ℕ
lines_text l number [] = []
lines_text l number (c ∷ cs) = closed_text l number c ++ lines_text l (number + 1) cs

-- how a dump in this layout begins, and how many nodes it may have
abbrev pub layout_label : Layout → List ℕ
layout_label One = codes "scidump 1 "
layout_label Two = codes "scidump 2 "

abbrev pub nodes_in : Layout → ℕ
nodes_in One = 64
nodes_in Two = MOST_NODES

-- `scidump LAYOUT NODES LINES`
unfoldable pub head_text : Layout → ℕ → ℕ → List ℕ
head_text l nodes lines = layout_label l ++ decimal nodes ++ codes " " ++ decimal lines ++ codes "\n"

-- a whole dump
unfoldable pub dump_text : Layout → ℕ → List ClosedLine → List ℕ
dump_text l nodes cs = head_text l nodes (length cs) ++ lines_text l 0 cs ++ codes "end\n"
