-- All words of a line are well formed. This project's profile of IEEE Std 1596-1992.
use Rattle.std.specs.Prelude.{◌≡◌, ℕ, true, IsTrue}
use Rattle.sci_words.specs.declared.tags.Tag.{Tag}
use Rattle.sci_words.specs.declared.memory.Mem.{Mem}
use Rattle.sci_words.specs.Tag.{tag_well_formed, tag_links_below}
use Rattle.sci_words.specs.Mem.{mem_well_formed, mem_links_below}
use Rattle.sci_core.specs.declared.rows.Change.{Change}
use Rattle.sci_core.specs.declared.rows.Change.TheVariants.{OfMemory, OfTag}
use Rattle.sci_core.specs.State.{State}

-- a tag of a line of n nodes
abbrev pub IsTag : ℕ → Tag → Type 0
IsTag n t = IsTrue (tag_well_formed t) × IsTrue (tag_links_below n t)

-- a memory word of a line of n nodes
abbrev pub IsMem : ℕ → Mem → Type 0
IsMem n m = IsTrue (mem_well_formed m) × IsTrue (mem_links_below n m)

-- what stands where the change would be is a word of a line of n nodes
abbrev pub FindsWord : ℕ → State → Change → Type 0
FindsWord n s (OfMemory before after) = IsMem n s.memory
FindsWord n s (OfTag x before after) = IsTag n (s.tags x)

pub record HasWellFormedWords (s : State) : Type 0 where
  pub memory : mem_well_formed s.memory ≡ true
  pub tags : (i : ℕ) → tag_well_formed (s.tags i) ≡ true

-- the word after a change is well formed
abbrev pub LeavesWellFormed : Change → Type 0
LeavesWellFormed (OfMemory before after) = mem_well_formed after ≡ true
LeavesWellFormed (OfTag x before after) = tag_well_formed after ≡ true

-- the word before it is
abbrev pub FindsWellFormed : Change → Type 0
FindsWellFormed (OfMemory before after) = mem_well_formed before ≡ true
FindsWellFormed (OfTag x before after) = tag_well_formed before ≡ true
