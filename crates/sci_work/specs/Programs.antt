-- What a program asks of its lines, and what is true of a node's share. This project's own.
use Rattle.std.specs.Prelude.{◌≡◌, ℕ, ◌<◌, ◌≤◌, List, length}
use Rattle.sci_core.specs.declared.receipts.Receipt.{Receipt}
use Rattle.sci_port.specs.ReceiptList.{ReceiptList}
use Rattle.sci_ops.specs.declared.goals.Goal.{Goal}
use Rattle.sci_ops.specs.declared.goals.Write.{Write}
use Rattle.sci_ops.specs.Change.{StoresFitting}
use Rattle.sci_work.specs.declared.programs.Program.{Program}
use Rattle.sci_work.specs.declared.refusals.WorkRefusal.{WorkRefusal}
use Rattle.sci_work.specs.Adding.{HasAdded}
use Rattle.sci_work.specs.Plain.{plain}
use Rattle.sci_work.specs.Ring.{IsRing, IsRingSize, ring_writes}
use Rattle.sci_work.specs.Shares.{IsShare, IsWork}
use Rattle.sci_work.specs.Stencil.{stencil_writes}
use Rattle.sci_work.specs.Written.{AddsAlone, HasWrote, WritesAlone}

abbrev pub Suits : Program → (ℕ → List ℕ → Type 0) → ℕ → ℕ → Type 0
Suits (Program.Count adds) fits lines number = (0 < lines) × StoresFitting (fits 0) (Goal.Write (Write.Add 0 1))
Suits (Program.Ring source lines) fits count number = IsRing fits source.now lines × IsRingSize (length source.now) lines × (lines < count)
Suits (Program.Stencil work) fits lines number = IsWork fits work.cells.now work.phases work.tiles lines × (number < work.nodes) × (work.nodes ≤ 64)

abbrev pub IsShareOf : Program → ℕ → List ℕ → Type 0
IsShareOf (Program.Count adds) number share = Unit {0}
IsShareOf (Program.Ring source lines) number share = number ≡ 1 → share ≡ source.now
IsShareOf (Program.Stencil work) number share = IsShare (plain work.cells.now work.phases) work.nodes number work.tiles share

-- what a node that has its share has added to its writes, of a count on line 0, else on each line
abbrev pub HasWritten : Program → ℕ → (ℕ → ReceiptList) → (ℕ → ReceiptList) → Type 0
HasWritten (Program.Count adds) number before after = HasAdded adds (before 0).list (after 0).list
HasWritten (Program.Ring source lines) number before after = HasWrote (ring_writes source.now lines number) before after
HasWritten (Program.Stencil work) number before after = HasWrote (stencil_writes work.cells.now work.phases work.nodes work.tiles number) before after

-- the receipts of a node on a line that have just those writes
abbrev pub AreWritesOf : Program → ℕ → ℕ → List Receipt → Type 0
AreWritesOf (Program.Count adds) number line list = line ≡ 0 → AddsAlone adds number line list
AreWritesOf (Program.Ring source lines) number line list = WritesAlone (ring_writes source.now lines) number line list
AreWritesOf (Program.Stencil work) number line list = WritesAlone (stencil_writes work.cells.now work.phases work.nodes work.tiles) number line list

-- whether its nodes await items or phases of others
abbrev pub Awaits : Program → Type 0
Awaits (Program.Count adds) = ⊥
Awaits (Program.Ring source lines) = Unit {0}
Awaits (Program.Stencil work) = Unit {0}

-- a node's part refuses with 7, 11, 20 or 25, and with 19 where it awaits others
abbrev pub ComesInPart : Program → WorkRefusal → Type 0
ComesInPart program WorkRefusal.BadSettings = ⊥
ComesInPart program WorkRefusal.NoThread = ⊥
ComesInPart program WorkRefusal.Overrun = Awaits program
ComesInPart program refusal = Unit {0}
