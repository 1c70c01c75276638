-- A row in numbers. This project's profile.
use Rattle.std.specs.Prelude.{ℕ, Bool, true, ◌&&◌, ltb}
use Rattle.sci_words.specs.Codes.{tag_code, mem_code}
use Rattle.sci_words.specs.Layout.{bit}
use Rattle.sci_core.specs.declared.lines.Line.{Line}
use Rattle.sci_core.specs.declared.rows.Change.{Change}
use Rattle.sci_core.specs.declared.rows.Change.TheVariants.{OfMemory, OfTag}
use Rattle.sci_core.specs.declared.rows.Place.{Place}
use Rattle.sci_core.specs.declared.rows.Place.TheVariants.{Memory, Node}
use Rattle.sci_core.specs.declared.outlines.Motion.{Motion}
use Rattle.sci_core.specs.declared.outlines.Motion.TheVariants.{Stays, Takes, Gives}
use Rattle.sci_core.specs.declared.outlines.Outline.{Outline}
use Rattle.sci_c.specs.declared.lines.LineNumbers.{LineNumbers}
use Rattle.sci_c.specs.declared.rows.RowNumbers.{RowNumbers}
use Rattle.sci_c.specs.Links.{fits_mem, fits_tag, no_node}
use Rattle.sci_c.specs.Steps.{fits_step, step_numbers}

abbrev pub line_of : LineNumbers → Line
line_of n = record { words = n.words; stamp = n.stamp }

abbrev pub line_numbers : Line → LineNumbers
line_numbers l = record { words = l.words; stamp = l.stamp }

-- whose word is changed: 65,535 stands for memory's
abbrev pub changed_number : Change → ℕ
changed_number (OfMemory before after) = no_node
changed_number (OfTag x before after) = x

-- the codes of that word before and after
abbrev pub before_code : Change → ℕ
before_code (OfMemory before after) = mem_code before
before_code (OfTag x before after) = tag_code before

abbrev pub after_code : Change → ℕ
after_code (OfMemory before after) = mem_code after
after_code (OfTag x before after) = tag_code after

-- whose slot: 65,535 stands for memory's
abbrev pub place_number : Place → ℕ
place_number Memory = no_node
place_number (Node x) = x

-- what becomes of a slot: 0 none moves, 1 its line is taken, 2 a line is given back into it
abbrev pub carry_number : Motion → ℕ
carry_number Stays = 0
carry_number (Takes x) = 1
carry_number (Gives x) = 2

-- and of which one
abbrev pub slot_number : Motion → ℕ
slot_number Stays = 0
slot_number (Takes x) = place_number x
slot_number (Gives x) = place_number x

-- the numbers of a row, but for lines
abbrev pub row_numbers : Outline → RowNumbers
row_numbers o = record {
  word = changed_number o.change;
  carry = carry_number o.motion;
  answers = bit o.answers;
  slot = slot_number o.motion;
  before = before_code o.change;
  after = after_code o.change;
  step = step_numbers o.after;
}

-- the words are words, and the node is one of n
abbrev pub change_fits : ℕ → Change → Bool
change_fits n (OfMemory before after) = fits_mem before && fits_mem after
change_fits n (OfTag x before after) = ltb x n && (fits_tag before && fits_tag after)

abbrev pub place_fits : ℕ → Place → Bool
place_fits n Memory = true
place_fits n (Node x) = ltb x n

abbrev pub motion_fits : ℕ → Motion → Bool
motion_fits n Stays = true
motion_fits n (Takes x) = place_fits n x
motion_fits n (Gives x) = place_fits n x

-- a row of a line of n nodes has numbers
abbrev pub row_fits : ℕ → Outline → Bool
row_fits n o = change_fits n o.change && (motion_fits n o.motion && fits_step o.after)
