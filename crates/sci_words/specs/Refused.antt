-- When a number is refused as a tag or as a memory word (this project's profile of IEEE Std 1596-1992).
use Rattle.std.specs.Prelude.{ℕ, ◌*◌, ltb, Bool, false, not, Option, [], ◌∷◌, find}
use Rattle.sci_words.specs.declared.refusals.WordRefusal.{WordRefusal}
use Rattle.sci_words.specs.declared.refusals.WordRefusal.TheVariants.{UnknownKind, SpareBits, LinkMissing, LinkUnwanted, HeldNotValid}
use Rattle.sci_words.specs.declared.layouts.Layout.{Layout}
use Rattle.sci_words.specs.declared.layouts.Layout.TheVariants.{Two}
use Rattle.sci_words.specs.Layout.{link_width, kind_field, spare_bits_clear}
use Rattle.sci_words.specs.Tag.{misses_link, has_unwanted_link, is_held_wrongly}
use Rattle.sci_words.specs.Mem.{misses_head, has_unwanted_head}
use Rattle.sci_words.specs.Codes.{tag_in, mem_in}

-- the number of a refusal
abbrev pub refusal_number : WordRefusal → ℕ
refusal_number UnknownKind = 1
refusal_number SpareBits = 2
refusal_number LinkMissing = 3
refusal_number LinkUnwanted = 4
refusal_number HeldNotValid = 5

-- whether a refusal applies to a word that is read as a tag: 9 is the last kind's number
abbrev pub tag_refused : Layout → ℕ → WordRefusal → Bool
tag_refused l word UnknownKind = ltb 9 (kind_field word)
tag_refused l word SpareBits = not (spare_bits_clear l (3 * link_width l) word)
tag_refused l word LinkMissing = misses_link (tag_in l word)
tag_refused l word LinkUnwanted = has_unwanted_link (tag_in l word)
tag_refused l word HeldNotValid = is_held_wrongly (tag_in l word)

-- whether a refusal applies to a word that is read as a memory word: 2 is the last state's number
abbrev pub mem_refused : Layout → ℕ → WordRefusal → Bool
mem_refused l word UnknownKind = ltb 2 (kind_field word)
mem_refused l word SpareBits = not (spare_bits_clear l (2 * link_width l) word)
mem_refused l word LinkMissing = misses_head (mem_in l word)
mem_refused l word LinkUnwanted = has_unwanted_head (mem_in l word)
mem_refused l word HeldNotValid = false

-- the refusal of the lowest number among those that apply, or None
abbrev pub lowest : (WordRefusal → Bool) → Option WordRefusal
lowest applies = find applies (UnknownKind ∷ SpareBits ∷ LinkMissing ∷ LinkUnwanted ∷ HeldNotValid ∷ [])

-- why a word is refused as a tag in this layout, or None
abbrev pub tag_refusal_in : Layout → ℕ → Option WordRefusal
tag_refusal_in l word = lowest (tag_refused l word)

-- why a word is refused as a memory word in this layout, or None
abbrev pub mem_refusal_in : Layout → ℕ → Option WordRefusal
mem_refusal_in l word = lowest (mem_refused l word)

-- and in memory's own, layout 2
abbrev pub tag_refusal : ℕ → Option WordRefusal
tag_refusal word = tag_refusal_in Two word

abbrev pub mem_refusal : ℕ → Option WordRefusal
mem_refusal word = mem_refusal_in Two word
