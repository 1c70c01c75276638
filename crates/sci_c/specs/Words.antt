-- The parts of words, in numbers. This project's profile of IEEE Std 1596-1992.
use Rattle.std.specs.Prelude.{◌≡◌, ℕ, ◌==◌, ◌||◌, Bool, not, ltb, cond, Option, Some, None}
use Rattle.sci_words.specs.declared.tags.Tag.{Tag}
use Rattle.sci_words.specs.declared.memory.Mem.{Mem}
use Rattle.sci_words.specs.declared.layouts.Layout.{Layout}
use Rattle.sci_words.specs.declared.refusals.WordRefusal.{WordRefusal}
use Rattle.sci_words.specs.declared.refusals.WordRefusal.TheVariants.{UnknownKind, SpareBits, LinkMissing, LinkUnwanted, HeldNotValid}
use Rattle.sci_words.specs.Codes.{kind_number, state_number, kind_of, state_of}
use Rattle.sci_words.specs.Layout.{bit, no_link}
use Rattle.sci_words.specs.Tag.{tag_links_below, misses_link, has_unwanted_link, is_held_wrongly}
use Rattle.sci_words.specs.Mem.{mem_links_below, misses_head, has_unwanted_head}
use Rattle.sci_words.specs.Refused.{tag_refusal_in, mem_refusal_in}
use Rattle.sci_c.specs.declared.faults.Fault.{Fault}
use Rattle.sci_c.specs.declared.faults.Fault.TheVariants.{Word}
use Rattle.sci_c.specs.declared.words.TagNumbers.{TagNumbers}
use Rattle.sci_c.specs.declared.words.MemNumbers.{MemNumbers}
use Rattle.sci_c.specs.Links.{link_number, link_meant, IsTagIn, IsMemIn}

abbrev pub tag_numbers : Tag → TagNumbers
tag_numbers t = record { kind = kind_number t.kind; held = bit t.held; forw = link_number t.forw; back = link_number t.back }

abbrev pub mem_numbers : Mem → MemNumbers
mem_numbers m = record { state = state_number m.state; lent = bit m.lent; forw = link_number m.forw }

-- the word is the code, in this layout, of the tag that has these parts
abbrev pub IsTagOf : Layout → TagNumbers → ℕ → Type 0
IsTagOf l n w = (t : Tag) × IsTagIn l w t × (n ≡ tag_numbers t)

abbrev pub IsMemOf : Layout → MemNumbers → ℕ → Type 0
IsMemOf l n w = (m : Mem) × IsMemIn l w m × (n ≡ mem_numbers m)

-- why a number is no tag's, or no memory word's: the lowest refusal that applies
abbrev pub IsNoTag : Layout → ℕ → Fault → Type 0
IsNoTag l w (Word r) = tag_refusal_in l w ≡ Some r
IsNoTag l w _ = ⊥

abbrev pub IsNoMem : Layout → ℕ → Fault → Type 0
IsNoMem l w (Word r) = mem_refusal_in l w ≡ Some r
IsNoMem l w _ = ⊥

-- the tag that parts mean, where their numbers are those of a kind and of a bit
abbrev pub tag_meant : TagNumbers → Tag
tag_meant n = record { kind = kind_of n.kind; held = n.held == 1; forw = link_meant n.forw; back = link_meant n.back }

abbrev pub mem_meant : MemNumbers → Mem
mem_meant n = record { state = state_of n.state; lent = n.lent == 1; forw = link_meant n.forw }

-- the first rule of words that a tag breaks, or a memory word
abbrev pub tag_rule : Tag → Option WordRefusal
tag_rule t = cond (misses_link t) (Some LinkMissing) (cond (has_unwanted_link t) (Some LinkUnwanted) (cond (is_held_wrongly t) (Some HeldNotValid) None))

abbrev pub mem_rule : Mem → Option WordRefusal
mem_rule m = cond (misses_head m) (Some LinkMissing) (cond (has_unwanted_head m) (Some LinkUnwanted) None)

-- a part is too great for its field: the bit is above 1, or the layout has no room for a link
abbrev pub tag_overflows : Layout → TagNumbers → Bool
tag_overflows l n = ltb 1 n.held || not (tag_links_below (no_link l) (tag_meant n))

abbrev pub mem_overflows : Layout → MemNumbers → Bool
mem_overflows l n = ltb 1 n.lent || not (mem_links_below (no_link l) (mem_meant n))

-- why parts are those of no tag in this layout, or of no memory word: the lowest refusal that applies
abbrev pub tag_parts_refusal : Layout → TagNumbers → Option WordRefusal
tag_parts_refusal l n = cond (ltb 9 n.kind) (Some UnknownKind) (cond (tag_overflows l n) (Some SpareBits) (tag_rule (tag_meant n)))

abbrev pub mem_parts_refusal : Layout → MemNumbers → Option WordRefusal
mem_parts_refusal l n = cond (ltb 2 n.state) (Some UnknownKind) (cond (mem_overflows l n) (Some SpareBits) (mem_rule (mem_meant n)))

abbrev pub AreNoTag : Layout → TagNumbers → Fault → Type 0
AreNoTag l n (Word r) = tag_parts_refusal l n ≡ Some r
AreNoTag l n _ = ⊥

abbrev pub AreNoMem : Layout → MemNumbers → Fault → Type 0
AreNoMem l n (Word r) = mem_parts_refusal l n ≡ Some r
AreNoMem l n _ = ⊥
