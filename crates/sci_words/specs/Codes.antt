-- The codes of words, by a layout (this project's profile of IEEE Std 1596-1992).
use Rattle.std.specs.Prelude.{ℕ, ◌+◌, ◌*◌, ◌^◌, ◌==◌, cond, Bool, ◌&&◌}
use Rattle.sci_words.specs.declared.tags.Kind.{Kind}
use Rattle.sci_words.specs.declared.tags.Tag.{Tag}
use Rattle.sci_words.specs.declared.memory.MemState.{MemState}
use Rattle.sci_words.specs.declared.memory.Mem.{Mem}
use Rattle.sci_words.specs.declared.layouts.Layout.{Layout}
use Rattle.sci_words.specs.declared.layouts.Layout.TheVariants.{Two}
use Rattle.sci_words.specs.Tag.{tag_well_formed, tag_links_below}
use Rattle.sci_words.specs.Mem.{mem_well_formed, mem_links_below}
use Rattle.sci_words.specs.Layout.{link_width, no_link, kind_field, held_field, forward_field, back_field, link_of, link_code, bit}

-- the number of a kind
abbrev pub kind_number : Kind → ℕ
kind_number Kind.Invalid = 0
kind_number Kind.Queued = 1
kind_number Kind.Fresh = 2
kind_number Kind.Dirty = 3
kind_number Kind.Convert = 4
kind_number Kind.Purging = 5
kind_number Kind.Leaving = 6
kind_number Kind.Valid = 7
kind_number Kind.Roll = 8
kind_number Kind.Purged = 9

-- the number of a state of memory
abbrev pub state_number : MemState → ℕ
state_number MemState.Home = 0
state_number MemState.Fresh = 1
state_number MemState.Gone = 2

-- the kind with this number; Purged too for the numbers of no kind, which are refused
abbrev pub kind_of : ℕ → Kind
kind_of n = cond (n == 0) Kind.Invalid (cond (n == 1) Kind.Queued (cond (n == 2) Kind.Fresh (cond (n == 3) Kind.Dirty
    (cond (n == 4) Kind.Convert (cond (n == 5) Kind.Purging (cond (n == 6) Kind.Leaving (cond (n == 7) Kind.Valid
    (cond (n == 8) Kind.Roll Kind.Purged))))))))

-- the state with this number; GONE too for the numbers of no state, which are refused
abbrev pub state_of : ℕ → MemState
state_of n = cond (n == 0) MemState.Home (cond (n == 1) MemState.Fresh MemState.Gone)

-- a tag's code: the number of each part in its field, and 0 in the spare bits
abbrev pub tag_code_in : Layout → Tag → ℕ
tag_code_in l t = kind_number t.kind + 2 ^ 4 * bit t.held + 2 ^ link_width l * link_code l t.forw + 2 ^ (2 * link_width l) * link_code l t.back

-- a memory word's code: the number of each part in its field, and 0 in the spare bits
abbrev pub mem_code_in : Layout → Mem → ℕ
mem_code_in l m = state_number m.state + 2 ^ 4 * bit m.lent + 2 ^ link_width l * link_code l m.forw

-- the tag that the fields of a word mean
abbrev pub tag_in : Layout → ℕ → Tag
tag_in l word = record { kind = kind_of (kind_field word); held = held_field word == 1; forw = link_of l (forward_field l word); back = link_of l (back_field l word) }

-- the memory word that the fields of a word mean
abbrev pub mem_in : Layout → ℕ → Mem
mem_in l word = record { state = state_of (kind_field word); lent = held_field word == 1; forw = link_of l (forward_field l word) }

-- a tag is well formed, and the layout has room for its links
abbrev pub fits_tag_in : Layout → Tag → Bool
fits_tag_in l t = tag_well_formed t && tag_links_below (no_link l) t

-- a memory word is well formed, and the layout has room for its link
abbrev pub fits_mem_in : Layout → Mem → Bool
fits_mem_in l m = mem_well_formed m && mem_links_below (no_link l) m

-- a tag's code in memory: that of layout 2
abbrev pub tag_code : Tag → ℕ
tag_code t = tag_code_in Two t

-- a memory word's code in memory: that of layout 2
abbrev pub mem_code : Mem → ℕ
mem_code m = mem_code_in Two m
