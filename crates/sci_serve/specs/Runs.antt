-- What a workload comes to, and what the command `run` writes of it. This project's profile.
use Rattle.std.specs.Prelude.{◌≡◌, ℕ, ◌+◌, ◌*◌, ◌/◌, ◌%◌, ◌^◌, ◌≤◌, List, [], ◌++◌, length, codes, Some, Bool, IsUtf8, if◌then◌else◌}
use Rattle.sci_core.specs.declared.receipts.Receipt.{Receipt}
use Rattle.sci_core.specs.Closed.{ClosedLine}
use Rattle.sci_script.specs.declared.refusals.ScriptRefusal.TheVariants.{OutOfMemory}
use Rattle.sci_words.specs.declared.layouts.Layout.TheVariants.{Two}
use Rattle.sci_dump.specs.Text.{dump_text}
use Rattle.sci_work.specs.declared.refusals.WorkRefusal.{WorkRefusal}
use Rattle.sci_work.specs.Ended.{AreClosed, HaveNodes, IsCounted, IsCountSize, any_words}
use Rattle.sci_work.specs.Plain.{plain}
use Rattle.sci_work.specs.Ring.{FitsRing, IsRingRun, ring_writes}
use Rattle.sci_work.specs.Stencil.{FitsStencil, IsStencilSize, stencil_writes}
use Rattle.sci_work.specs.Written.{AddsAlone, WritesAlone}
use Rattle.sci_settings.specs.declared.settings.Settings.{Settings}
use Rattle.sci_settings.specs.declared.settings.Settings.TheVariants.{Stencil, Ring, Count}
use Rattle.sci_serve.specs.declared.faults.SimFault.{SimFault}
use Rattle.sci_serve.specs.declared.faults.SimFault.TheVariants.{Refused, NoRun}
use Rattle.sci_settings.specs.Settings.{settings_of, nodes_of, wants_dump}
use Rattle.sci_serve.specs.Works.{list_line, count_line}

-- the input is a text of these settings
abbrev pub AreSettings : List ℕ → Settings → Type 0
AreSettings input settings = (length input ≤ 1048576) × IsUtf8 input × (settings_of input ≡ Some settings)

-- the settings are within the limits of their work
abbrev pub AreWithin : Settings → Type 0
AreWithin (Stencil nodes capacity phases cells dump) = IsStencilSize (length cells) phases nodes capacity
AreWithin (Ring lines capacity items dump) = IsRingRun (length items) lines capacity
AreWithin (Count nodes adds capacity dump) = IsCountSize nodes adds capacity

-- the dump of closed lines of so many nodes, where it is wanted
abbrev pub dump_part : Bool → ℕ → List ClosedLine → List ℕ
dump_part wanted nodes closed = if wanted then dump_text Two nodes closed else []

-- what is known of the words of each line of these settings
abbrev pub fits_of : Settings → ℕ → List ℕ → Type 0
fits_of (Stencil nodes capacity phases cells dump) = FitsStencil cells phases
fits_of (Ring lines capacity items dump) = FitsRing items lines
fits_of (Count nodes adds capacity dump) = λ k. any_words

-- what the receipts of a node on a line have as its writes: of a stencil the node's tiles phase by phase, of a ring node 0 the items and
-- node 1 how many it has read, of a count the node's adds; and no others
abbrev pub writes_of : Settings → ℕ → ℕ → List Receipt → Type 0
writes_of (Stencil nodes capacity phases cells dump) = WritesAlone (stencil_writes cells phases nodes (length cells / 7))
writes_of (Ring lines capacity items dump) = WritesAlone (ring_writes items lines)
writes_of (Count nodes adds capacity dump) = AddsAlone adds

-- the lines of these settings as their work leaves them
abbrev pub AreLeftBy : Settings → List ClosedLine → Type 0
AreLeftBy (Stencil nodes capacity phases cells dump) closed = AreClosed (FitsStencil cells phases) (2 * (length cells / 7)) closed × HaveNodes nodes closed
AreLeftBy (Ring lines capacity items dump) closed = AreClosed (FitsRing items lines) (lines + 1) closed × HaveNodes 2 closed
AreLeftBy (Count nodes adds capacity dump) closed = IsCounted ((nodes * adds) % 2 ^ 64) closed × HaveNodes nodes closed

-- the line of their result
abbrev pub result_line : Settings → List ℕ
result_line (Stencil nodes capacity phases cells dump) = list_line (codes "cells") (plain cells phases)
result_line (Ring lines capacity items dump) = list_line (codes "items") items
result_line (Count nodes adds capacity dump) = count_line ((nodes * adds) % 2 ^ 64)

-- the result of these settings, and the dump of the lines on which it was made
abbrev pub IsTextOf : Settings → List ℕ → Type 0
IsTextOf s text = (closed : List ClosedLine) × AreLeftBy s closed × (text ≡ result_line s ++ dump_part (wants_dump s) (nodes_of s) closed)

-- a run of settings within the limits fails with 7, or with a refusal of the workload other than 22
abbrev pub ComesInRun : SimFault → Type 0
ComesInRun (Refused OutOfMemory) = Unit {0}
ComesInRun (NoRun WorkRefusal.OutOfMemory) = ⊥
ComesInRun (NoRun WorkRefusal.BadSettings) = ⊥
ComesInRun (NoRun refusal) = Unit {0}
ComesInRun _ = ⊥
