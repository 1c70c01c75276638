-- What a text says as a dump, or its first fault. This project's profile.
use Rattle.std.specs.Prelude.{◌≡◌, ℕ, zero, suc, ◌+◌, ◌^◌, Bool, not, ◌&&◌, ◌||◌, List, [], ◌∷◌, length, take, drop, Option, Some, None, Result, Ok, Err, codes, nat_le, nat_lt, slice_index, ◌==◌, if◌then◌else◌, min}
use Rattle.std.specs.Char.{is_ascii_digit}
use Rattle.std.specs.List.{list_all, position_or_len}
use Rattle.std.specs.Str.{bytes_eq}
use Rattle.std.specs.Str.Parse.{digits_value}
use Rattle.sci_words.specs.declared.memory.Mem.{Mem}
use Rattle.sci_words.specs.declared.tags.Tag.{Tag}
use Rattle.sci_words.specs.declared.refusals.WordRefusal.{WordRefusal}
use Rattle.sci_words.specs.declared.layouts.Layout.{Layout}
use Rattle.sci_words.specs.declared.layouts.Layout.TheVariants.{One, Two}
use Rattle.sci_words.specs.Refused.{tag_refusal_in, mem_refusal_in}
use Rattle.sci_words.specs.Codes.{tag_in, mem_in}
use Rattle.sci_words.specs.Tag.{is_invalid}
use Rattle.sci_core.specs.declared.lines.Line.{Line}
use Rattle.sci_core.specs.Closed.{ClosedLine}
use Rattle.sci_core.specs.State.{invalid, blank}
use Rattle.sci_dump.specs.Text.{layout_label, nodes_in}
use Rattle.sci_dump.specs.Dumps.{DumpLines}
use Rattle.sci_dump.specs.declared.refusals.DumpRefusal.{DumpRefusal}
use Rattle.sci_dump.specs.declared.refusals.DumpRefusal.TheVariants.{OutOfMemory, DumpFault}

-- one part after another: each gives a value and the text behind it, or nothing
infixl 10 ◌>>=◌
abbrev pub ◌>>=◌ : {A B : Type 0} → Option A → (A → Option B) → Option B
(Some x) >>= f = f x
None >>= f = None

-- what a function returned, seen by view, is what reading gives
abbrev pub Reads : {X Y : Type 0} → (X → Y) → Option X → Option Y → Type 0
Reads view (Some x) read = read ≡ Some (view x)
Reads view None read = read ≡ None

-- the text behind these bytes
unfoldable pub behind : List ℕ → List ℕ → Option (List ℕ)
behind bytes text = if bytes_eq (take (length bytes) text) bytes then Some (drop (length bytes) text) else None

-- how many digits stand in front
abbrev pub digits_in_front : List ℕ → ℕ
digits_in_front text = position_or_len (λ b. not (is_ascii_digit b)) text

-- 1 to 20 digits, and no zero before another
abbrev pub is_number : List ℕ → Bool
is_number digits = nat_le 1 (length digits) && nat_le (length digits) 20 && (length digits == 1 || not (slice_index digits 0 == 48)) && nat_lt (digits_value 10 digits) (2 ^ 64)

-- a number below 2 ^ 64, in decimal without leading zeros
unfoldable pub number_at : List ℕ → Option (ℕ × List ℕ)
number_at text =
    if is_number (take (digits_in_front text) text)
    then Some (digits_value 10 (take (digits_in_front text) text), drop (digits_in_front text) text)
    else None

-- digits, and no zero before another
abbrev pub is_numeral : List ℕ → Bool
is_numeral digits = nat_le 1 (length digits) && (length digits == 1 || not (slice_index digits 0 == 48))

-- a number of any length, in decimal without leading zeros; one above `most` stands for that
unfoldable pub capped_at : ℕ → List ℕ → Option (ℕ × List ℕ)
capped_at most text =
    if is_numeral (take (digits_in_front text) text)
    then Some (min (digits_value 10 (take (digits_in_front text) text)) most, drop (digits_in_front text) text)
    else None

-- a lower-case hexadecimal digit
abbrev pub is_hexadecimal : ℕ → Bool
is_hexadecimal b = is_ascii_digit b || (nat_le 97 b && nat_le b 102)

-- a word of 64 bits in 16 digits
unfoldable pub word_at : List ℕ → Option (ℕ × List ℕ)
word_at text =
    if nat_le 16 (length text) && list_all is_hexadecimal (take 16 text)
    then Some (digits_value 16 (take 16 text), drop 16 text)
    else None

-- a number behind a space
unfoldable pub value_at : List ℕ → Option (ℕ × List ℕ)
value_at text = do
  text ← behind (codes " ") text
  number_at text

-- so many numbers, each behind a space
unfoldable pub values_at : ℕ → List ℕ → Option (List ℕ × List ℕ)
values_at zero text = Some ([], text)
values_at (suc k) text = do
  value ← value_at text
  values ← values_at k value.1
  Some (value.0 ∷ values.0, values.1)

-- a line's stamp and its eight words, each behind a space, to the end of the line
unfoldable pub content_at : List ℕ → Option (Line × List ℕ)
content_at text = do
  stamp ← value_at text
  words ← values_at 8 stamp.1
  rest ← behind (codes "\n") words.1
  Some (record { words = words.0; stamp = stamp.0 }, rest)

-- the memory word with this code, and a tag that isn't Invalid
abbrev pub mem_of : Layout → ℕ → Option Mem
mem_of l word = elim (mem_refusal_in l word) [ None ↦ Some (mem_in l word) | Some e ↦ None ]

abbrev pub sharer : Option WordRefusal → Tag → Option Tag
sharer None tag = if is_invalid tag.kind then None else Some tag
sharer (Some e) tag = None

unfoldable pub tag_of : Layout → ℕ → Option Tag
tag_of l word = sharer (tag_refusal_in l word) (tag_in l word)

-- this number
unfoldable pub numbered_at : ℕ → List ℕ → Option (List ℕ)
numbered_at number text = do
  found ← number_at text
  if found.0 == number then Some found.1 else None

-- what stands behind a label, this number and a space
abbrev pub labelled_at : List ℕ → ℕ → List ℕ → Option (List ℕ)
labelled_at label number text = do
  text ← behind label text
  text ← numbered_at number text
  behind (codes " ") text

-- `line L`, the memory word, and memory's line
unfoldable pub memory_at : Layout → ℕ → List ℕ → Option (Mem × Line × List ℕ)
memory_at l number text = do
  text ← behind (codes "line ") text
  text ← numbered_at number text
  text ← behind (codes " ") text
  word ← word_at text
  mem ← mem_of l word.0
  content ← content_at word.1
  Some (mem, content.0, content.1)

-- what stands behind `tag L N `
unfoldable pub node_at : ℕ → ℕ → List ℕ → Option (List ℕ)
node_at number node text = do
  text ← behind (codes "tag ") text
  text ← numbered_at number text
  text ← behind (codes " ") text
  text ← numbered_at node text
  behind (codes " ") text

-- a tag that isn't Invalid, and the node's line
unfoldable pub tag_at : Layout → List ℕ → Option (Tag × Line × List ℕ)
tag_at l text = do
  word ← word_at text
  tag ← tag_of l word.0
  content ← content_at word.1
  Some (tag, content.0, content.1)

-- a number from 1 to this one
unfoldable pub count_at : ℕ → List ℕ → Option (ℕ × List ℕ)
count_at most text = do
  found ← number_at text
  if nat_le 1 found.0 && nat_le found.0 most then Some found else None

-- a label, and a number from 1 to this one
abbrev pub counted_at : List ℕ → ℕ → List ℕ → Option (ℕ × List ℕ)
counted_at label most text = do
  text ← behind label text
  count_at most text

-- the layout that a dump begins with, by what stands behind either label
abbrev pub layout_by : Option (List ℕ) → Option (List ℕ) → Option (Layout × List ℕ)
layout_by (Some rest) two = Some (One, rest)
layout_by None (Some rest) = Some (Two, rest)
layout_by None None = None

unfoldable pub layout_at : List ℕ → Option (Layout × List ℕ)
layout_at text = layout_by (behind (layout_label One) text) (behind (layout_label Two) text)

-- `scidump LAYOUT NODES LINES`
unfoldable pub head_at : List ℕ → Option (Layout × ℕ × ℕ × List ℕ)
head_at text = do
  layout ← layout_at text
  nodes ← count_at (nodes_in layout.0) layout.1
  text ← behind (codes " ") nodes.1
  lines ← count_at 1024 text
  text ← behind (codes "\n") lines.1
  Some (layout.0, nodes.0, lines.0, text)

-- one line of text after another: each gives a value, or the first fault
infixl 10 ◌>>>◌
abbrev pub ◌>>>◌ : {A B : Type 0} → Result A DumpRefusal → (A → Result B DumpRefusal) → Result B DumpRefusal
(Ok x) >>> f = f x
(Err e) >>> f = Err e

-- what a function returned, seen by view, is what reading gives, unless memory ran out
abbrev pub Fails : {Y : Type 0} → DumpRefusal → Result Y DumpRefusal → Type 0
Fails OutOfMemory read = Unit {0}
Fails (DumpFault n) read = read ≡ Err (DumpFault n)

abbrev pub Gives : {X Y : Type 0} → (X → Y) → Result X DumpRefusal → Result Y DumpRefusal → Type 0
Gives view (Ok x) read = read ≡ Ok (view x)
Gives view (Err e) read = Fails e read

-- what stands on line n, or a fault there
abbrev pub on_line : {A : Type 0} → ℕ → Option A → Result A DumpRefusal
on_line n (Some x) = Ok x
on_line n None = Err (DumpFault n)

-- a node's tag and line, the number of the next line of text, and the text from there on: of a node that has no tag line those of an Invalid one
abbrev pub tag_on : ℕ → Option (Tag × Line × List ℕ) → Option (Tag × Line × ℕ × List ℕ)
tag_on n None = None
tag_on n (Some found) = Some (found.0, found.1, n + 1, found.2)

abbrev pub found_on : Layout → ℕ → List ℕ → Option (List ℕ) → Option (Tag × Line × ℕ × List ℕ)
found_on l n text None = Some (invalid, blank, n, text)
found_on l n text (Some rest) = tag_on n (tag_at l rest)

unfoldable pub entry_at : Layout → ℕ → ℕ → ℕ → List ℕ → Option (Tag × Line × ℕ × List ℕ)
entry_at l number node n text = found_on l n text (node_at number node text)

-- the tags and the lines of so many nodes from this one on
unfoldable pub entries_at : Layout → ℕ → ℕ → ℕ → ℕ → List ℕ → Result (List Tag × List Line × ℕ × List ℕ) DumpRefusal
entries_at l number node zero n text = Ok ([], [], n, text)
entries_at l number node (suc k) n text =
    on_line n (entry_at l number node n text) >>> λ entry. entries_at l number (node + 1) k entry.2 entry.3
    >>> λ more. Ok (entry.0 ∷ more.0, entry.1 ∷ more.1, more.2, more.3)

-- a closed line
unfoldable pub closed_at : Layout → ℕ → ℕ → ℕ → List ℕ → Result (ClosedLine × ℕ × List ℕ) DumpRefusal
closed_at l number nodes n text =
    on_line n (memory_at l number text) >>> λ home. entries_at l number 0 nodes (n + 1) home.2
    >>> λ found. Ok (record { mem = home.0; memory = home.1; tags = found.0; lines = found.1 }, found.2, found.3)

-- so many closed lines from this one on
unfoldable pub lines_at : Layout → ℕ → ℕ → ℕ → ℕ → List ℕ → Result (List ClosedLine × ℕ × List ℕ) DumpRefusal
lines_at l number zero nodes n text = Ok ([], n, text)
lines_at l number (suc k) nodes n text =
    closed_at l number nodes n text >>> λ line. lines_at l (number + 1) k nodes line.1 line.2
    >>> λ more. Ok (line.0 ∷ more.0, more.1, more.2)

-- `end`, and nothing behind it
abbrev pub ended : ℕ → List ℕ → Result (Unit {0}) DumpRefusal
ended n [] = Ok tt
ended n (b ∷ bs) = Err (DumpFault (n + 1))

unfoldable pub end_at : ℕ → List ℕ → Result (Unit {0}) DumpRefusal
end_at n text = on_line n (behind (codes "end\n") text) >>> ended n

-- a whole dump
unfoldable pub dump_of : List ℕ → Result DumpLines DumpRefusal
dump_of text =
    on_line 1 (head_at text) >>> λ head. lines_at head.0 0 head.2 head.1 2 head.3
    >>> λ found. end_at found.1 found.2
    >>> λ _. Ok (record { nodes = head.1; lines = found.0 })
