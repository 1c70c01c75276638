-- A dump that is read from a reader, line of text by line of text. This project's profile.
use Rattle.std.specs.Prelude.{◌≡◌, ◌≢◌, ◌⊎◌, ℕ, zero, suc, ◌+◌, ◌-◌, ◌≤◌, List, [], ◌∷◌, length, take, drop, All, Option, Some, Result, Ok, Err, codes}
use Rattle.std.specs.Io.BufRead.{take_through}
use Rattle.std.specs.Io.KnownBytes.{Consumes}
use Rattle.sci_words.specs.declared.layouts.Layout.{Layout}
use Rattle.sci_words.specs.declared.memory.Mem.{Mem}
use Rattle.sci_core.specs.declared.lines.Line.{Line}
use Rattle.sci_core.specs.Closed.{ClosedLine}
use Rattle.sci_dump.specs.declared.refusals.DumpRefusal.{DumpRefusal}
use Rattle.sci_dump.specs.declared.refusals.DumpRefusal.TheVariants as refusals
use Rattle.sci_dump.specs.declared.streams.StreamFault.{StreamFault}
use Rattle.sci_dump.specs.declared.streams.StreamFault.TheVariants.{OutOfMemory, CannotRead, DumpFault}
use Rattle.sci_dump.specs.declared.dumps.DumpStream.{DumpStream}
use Rattle.sci_dump.specs.declared.places.DumpHead.{DumpHead}
use Rattle.sci_dump.specs.declared.places.DumpPlace.{DumpPlace}
use Rattle.sci_dump.specs.declared.places.DumpPlace.TheVariants as places
use Rattle.sci_dump.specs.declared.places.DumpRow.{DumpRow}
use Rattle.sci_dump.specs.Reading.{on_line, behind, head_at, memory_at, node_at, closed_at, lines_at, dump_of}

-- a text from line n on, counted from 1
unfoldable pub from_line : ℕ → List ℕ → List ℕ
from_line zero text = text
from_line (suc zero) text = text
from_line (suc (suc k)) text = drop (length (take_through 10 (from_line (suc k) text))) (from_line (suc k) text)

-- the first line of a text, or the first 1,024 bytes of a longer one
abbrev pub first_row : List ℕ → List ℕ
first_row text = take_through 10 (take 1024 text)

-- a text begins with this head
abbrev pub IsHeadOf : DumpHead → List ℕ → Type 0
IsHeadOf head text = head_at text ≡ Some (head.layout, head.nodes, head.lines, from_line 2 text)

-- a text begins with the row of a line of the memory that has this node next
abbrev pub IsRowBefore : DumpHead → ℕ → ℕ → List ℕ → Type 0
IsRowBefore head number node text = ((node ≡ 0) × (home : Mem × Line × List ℕ) × (memory_at head.layout number text ≡ Some home))
    ⊎ ((before : ℕ) × (node ≡ before + 1) × (row : List ℕ) × (node_at number before text ≡ Some row))

-- this stands in front of line n of a text
abbrev pub StandsBefore : DumpPlace → ℕ → List ℕ → Type 0
StandsBefore places.Start n text = n ≡ 1
StandsBefore (places.Head head) n text = (n ≡ 2) × IsHeadOf head text
StandsBefore (places.Line head number node) n text = IsHeadOf head text × IsRowBefore head number node (from_line (n - 1) text)
StandsBefore places.End n text = (2 ≤ n) × (rest : List ℕ) × (behind (codes "end\n") (from_line (n - 1) text) ≡ Some rest)

-- a row is this line of a text: its number, what stands in front of it, and its first bytes
abbrev pub IsRowOf : List ℕ → DumpRow → Type 0
IsRowOf text row = (1 ≤ row.number) × StandsBefore row.place row.number text × (row.text.items ≡ first_row (from_line row.number text))

-- of a text the first line is held, or the first 1,024 bytes of a longer one, and its reader has left what stands behind those
abbrev pub Holds : List ℕ → Option (List ℕ) → List ℕ → Type 0
Holds line left text = (line ≡ first_row text) × (left ≡ Some (drop (length line) text))

-- the same of a line of a text
abbrev pub HoldsRow : List ℕ → DumpRow → Option (List ℕ) → Type 0
HoldsRow text row left = IsRowOf text row × (left ≡ Some (drop (length row.text.items) (from_line row.number text)))

-- of what a reader had, these bytes of a line are read, in front of its line feed
abbrev pub IsFront : Option (List ℕ) → Option (List ℕ) → List ℕ → Type 0
IsFront had left line = Consumes had left line × All (λ b. b ≢ 10) line × (length line ≤ 1024)

-- no fault of the text
abbrev pub IsOutside : StreamFault → Type 0
IsOutside OutOfMemory = Unit {0}
IsOutside CannotRead = Unit {0}
IsOutside (DumpFault row) = ⊥

-- a fault of a text is that of reading, and its row
abbrev pub StopsAt : {Y : Type 0} → List ℕ → StreamFault → Result Y DumpRefusal → Type 0
StopsAt text OutOfMemory read = Unit {0}
StopsAt text CannotRead read = Unit {0}
StopsAt text (DumpFault row) read = (read ≡ Err (refusals.DumpFault row.number)) × IsRowOf text row

-- what a function returned, seen by view, is what reading gives of a text, and it holds the row behind that
abbrev pub Streams : {X Y : Type 0} → List ℕ → (X → List ℕ → Y) → (X → DumpRow) → Option (List ℕ) → Result X StreamFault → Result Y DumpRefusal → Type 0
Streams text view row left (Ok x) read = (read ≡ Ok (view x (from_line (row x).number text))) × HoldsRow text (row x) left
Streams text view row left (Err e) read = StopsAt text e read

-- what follows from what stands on a line, and nothing behind a fault
abbrev pub unless_fault : {A B : Type 0} → Result A DumpRefusal → (A → List B) → List B
unless_fault (Ok x) f = f x
unless_fault (Err e) f = []

-- the closed lines from this one on, in front of the first fault
unfoldable pub lines_before_fault_from : Layout → ℕ → ℕ → ℕ → ℕ → List ℕ → List ClosedLine
lines_before_fault_from l number zero nodes n text = []
lines_before_fault_from l number (suc k) nodes n text = unless_fault (closed_at l number nodes n text) (λ line. line.0 ∷ lines_before_fault_from l (number + 1) k nodes line.1 line.2)

-- the closed lines of a text in front of its first fault: of a dump all of them
unfoldable pub lines_before_fault : List ℕ → List ClosedLine
lines_before_fault text = unless_fault (on_line 1 (head_at text)) (λ head. lines_before_fault_from head.0 0 head.2 head.1 2 head.3)

-- a stream has read the head of a text and these closed lines of it, and holds the next line of text
pub record HasRead (text : List ℕ) (lines : List ClosedLine) (s : DumpStream) (left : Option (List ℕ)) : Type 0 where
  pub head : IsHeadOf s.head text
  pub read : lines_at s.head.layout 0 (length lines) s.head.nodes 2 (from_line 2 text) ≡ Ok (lines, s.row.number, from_line s.row.number text)
  pub many : length lines ≡ s.closed
  pub few : s.closed ≤ s.head.lines
  pub holds : HoldsRow text s.row left

-- a text is no dump, and this is its row at fault
abbrev pub IsFaultOf : List ℕ → DumpRow → Type 0
IsFaultOf text row = (dump_of text ≡ Err (refusals.DumpFault row.number)) × IsRowOf text row

-- why a stream stops behind these lines
abbrev pub StopsBehind : StreamFault → List ℕ → List ClosedLine → Type 0
StopsBehind OutOfMemory text lines = Unit {0}
StopsBehind CannotRead text lines = Unit {0}
StopsBehind (DumpFault row) text lines = IsFaultOf text row × (lines_before_fault text ≡ lines)
