-- What contracts see of a line that nobody uses any more. This project's profile.
use Rattle.std.specs.Prelude.{◌≡◌, ℕ, true, Option, Some, None, List, length, map, All, slice_index_or}
use Rattle.sci_words.specs.declared.tags.Tag.{Tag}
use Rattle.sci_words.specs.declared.memory.Mem.{Mem}
use Rattle.sci_words.specs.Tag.{tag_well_formed}
use Rattle.sci_words.specs.Mem.{mem_well_formed}
use Rattle.sci_core.specs.declared.lines.Line.{Line}
use Rattle.sci_core.specs.State.{invalid, blank}
use Rattle.sci_core.specs.Exact.{IsExact}
use Rattle.sci_core.specs.Whole.{WholeLine}

-- the memory word and memory's line, and by node the tags and the lines
pub record ClosedLine : Type 0 where
  pub mem : Mem
  pub memory : Line
  pub tags : List Tag
  pub lines : List Line

-- one tag and one line per node, and well-formed words
pub record IsClosed (c : ClosedLine) : Type 0 where
  pub lines : length c.lines ≡ length c.tags
  pub mem : mem_well_formed c.mem ≡ true
  pub tags : All (λ t. tag_well_formed t ≡ true) c.tags

-- it is what stands: the words, and the lines in the slots, which are all at home
pub record IsReadOff {K : Type 0} (w : WholeLine K) (c : ClosedLine) : Type 0 where
  pub mem : c.mem ≡ w.memory
  pub memory : Some c.memory ≡ w.memory_slot
  pub tags : c.tags ≡ w.tags
  pub lines : map (λ l. Some l) c.lines ≡ w.slots

-- these nodes are its exact sharing list. IEEE Std 1596-1992
abbrev pub IsExactBy : ClosedLine → List ℕ → Type 0
IsExactBy c nodes = IsExact (length c.tags) c.mem c.memory (λ i. slice_index_or c.tags i invalid) (λ i. slice_index_or c.lines i blank) nodes

-- some nodes are
abbrev pub IsExactClosed : ClosedLine → Type 0
IsExactClosed c = (nodes : List ℕ) × IsExactBy c nodes

-- the bytes of the list's first node, or memory's where there is no list
abbrev pub value_by : Option ℕ → Line → List Line → Line
value_by None memory lines = memory
value_by (Some head) memory lines = slice_index_or lines head blank

abbrev pub value_of : ClosedLine → Line
value_of c = value_by c.mem.forw c.memory c.lines
