-- Where the fields of a word lie.
use Rattle.std.specs.Prelude.{ℕ, ◌-◌, ◌*◌, ◌/◌, ◌%◌, ◌^◌, ◌==◌, Bool, true, false, cond, ◌&&◌, Option, Some, None}
use Rattle.sci_words.specs.declared.layouts.Layout.{Layout}
use Rattle.sci_words.specs.declared.layouts.Layout.TheVariants.{One, Two}

-- a field of a word: the number in its `width` bits from bit `from` on
abbrev pub field : ℕ → ℕ → ℕ → ℕ
field from width word = word / 2 ^ from % 2 ^ width

-- How wide links are (this project's profile of IEEE Std 1596-1992). A tag's kind or memory's state lies in bits 0 to 3, and
-- bit 4 is the held or lent bit. The forward link lies in `link_width` bits from bit `link_width` on, and a tag's back link in
-- as many behind them. All other bits are spare, and 0. So layout 1 has forward in bits 8 to 15 and back in bits 16 to 23,
-- layout 2 forward in bits 16 to 31 and back in bits 32 to 47.
abbrev pub link_width : Layout → ℕ
link_width One = 8
link_width Two = 16

-- the number of a tag's kind or of memory's state: bits 0 to 3
abbrev pub kind_field : ℕ → ℕ
kind_field word = field 0 4 word

-- the held or lent bit: bit 4
abbrev pub held_field : ℕ → ℕ
held_field word = field 4 1 word

-- the number of the forward link
abbrev pub forward_field : Layout → ℕ → ℕ
forward_field l word = field (link_width l) (link_width l) word

-- the number of a tag's back link
abbrev pub back_field : Layout → ℕ → ℕ
back_field l word = field (2 * link_width l) (link_width l) word

-- no bit is set between bit 4 and the links, nor from bit `end` on
abbrev pub spare_bits_clear : Layout → ℕ → ℕ → Bool
spare_bits_clear l end word = (field 5 (link_width l - 5) word == 0) && (word / 2 ^ end == 0)

-- the number that stands for no link: the greatest that the field has
abbrev pub no_link : Layout → ℕ
no_link l = 2 ^ link_width l - 1

-- the number of a link in its field
abbrev pub link_code : Layout → Option ℕ → ℕ
link_code l None = no_link l
link_code l (Some node) = node

-- the link that a number in its field means
abbrev pub link_of : Layout → ℕ → Option ℕ
link_of l n = cond (n == no_link l) None (Some n)

-- the number of a bit: 1 for one that is set
abbrev pub bit : Bool → ℕ
bit true = 1
bit false = 0
