-- The rules and the names of memory words.
use Rattle.std.specs.Prelude.{ℕ, Bool, true, false, not, ◌&&◌, is_some, is_none, List, codes}
use Rattle.sci_words.specs.declared.memory.MemState.{MemState}
use Rattle.sci_words.specs.declared.memory.MemState.TheVariants.{Home, Fresh, Gone}
use Rattle.sci_words.specs.declared.memory.Mem.{Mem}
use Rattle.sci_words.specs.Tag.{link_below}

-- the state of a line that has no sharing list (IEEE Std 1596-1992)
abbrev pub is_home : MemState → Bool
is_home Home = true
is_home _ = false

-- there is a sharing list, but no link to its head (IEEE Std 1596-1992)
abbrev pub misses_head : Mem → Bool
misses_head m = not (is_home m.state) && is_none m.forw

-- there is no sharing list, but a link to its head (IEEE Std 1596-1992)
abbrev pub has_unwanted_head : Mem → Bool
has_unwanted_head m = is_home m.state && is_some m.forw

-- the rules of the link, both; memory may be lent in any state (this project's profile of IEEE Std 1596-1992)
abbrev pub mem_well_formed : Mem → Bool
mem_well_formed m = not (misses_head m) && not (has_unwanted_head m)

-- the link names a node below `n`, or none
abbrev pub mem_links_below : ℕ → Mem → Bool
mem_links_below n m = link_below n m.forw

-- a memory word's name in listings: its state (IEEE Std 1596-1992)
abbrev pub mem_name_of : Mem → List ℕ
mem_name_of m = elim m.state [ Home ↦ codes "HOME" | Fresh ↦ codes "FRESH" | Gone ↦ codes "GONE" ]
