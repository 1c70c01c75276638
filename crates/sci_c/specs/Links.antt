-- The numbers of links and of tags. This project's profile.
use Rattle.std.specs.Prelude.{◌≡◌, ℕ, ◌==◌, Bool, true, ◌&&◌, cond, Option, Some, None}
use Rattle.sci_words.specs.declared.tags.Tag.{Tag}
use Rattle.sci_words.specs.declared.memory.Mem.{Mem}
use Rattle.sci_words.specs.declared.layouts.Layout.{Layout}
use Rattle.sci_words.specs.Codes.{tag_code, mem_code, tag_code_in, mem_code_in, fits_tag_in, fits_mem_in}
use Rattle.sci_words.specs.Tag.{tag_well_formed, tag_links_below}
use Rattle.sci_words.specs.Mem.{mem_well_formed, mem_links_below}

-- what stands for no node, behind the numbers of all nodes
abbrev pub no_node : ℕ
no_node = 65535

-- the number of a link, as in a word
abbrev pub link_number : Option ℕ → ℕ
link_number None = no_node
link_number (Some node) = node

-- the link that a number means
abbrev pub link_meant : ℕ → Option ℕ
link_meant n = cond (n == no_node) None (Some n)

-- the node that a number means, and 0 where it means none
abbrev pub node_meant : ℕ → ℕ
node_meant n = cond (n == no_node) 0 n

-- a tag has a code: it is well formed, and its links name nodes
abbrev pub fits_tag : Tag → Bool
fits_tag t = tag_well_formed t && tag_links_below no_node t

-- a memory word has a code
abbrev pub fits_mem : Mem → Bool
fits_mem m = mem_well_formed m && mem_links_below no_node m

-- the word is the code of this tag, in layout 2
abbrev pub IsTag : ℕ → Tag → Type 0
IsTag w t = (tag_code t ≡ w) × (fits_tag t ≡ true)

-- the word is the code of this memory word, in layout 2
abbrev pub IsMem : ℕ → Mem → Type 0
IsMem w m = (mem_code m ≡ w) × (fits_mem m ≡ true)

-- the word is the code of this tag in this layout, or of this memory word
abbrev pub IsTagIn : Layout → ℕ → Tag → Type 0
IsTagIn l w t = (tag_code_in l t ≡ w) × (fits_tag_in l t ≡ true)

abbrev pub IsMemIn : Layout → ℕ → Mem → Type 0
IsMemIn l w m = (mem_code_in l m ≡ w) × (fits_mem_in l m ≡ true)
