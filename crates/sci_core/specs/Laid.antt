-- How a `Whole` lies in memory: its view, put together from steps without lines and the bytes of the slots.
use Rattle.std.specs.Prelude.{◌≡◌, ℕ, ◌||◌, true, cond, Option, Some, None, List, [], ◌∷◌, length, slice_index_or, slice_set}
use Rattle.std.proofs.Common.{zero, suc}
use Rattle.sci_words.specs.declared.tags.Tag.{Tag}
use Rattle.sci_words.specs.declared.memory.Mem.{Mem}
use Rattle.sci_core.specs.declared.lines.Line.{Line}
use Rattle.sci_core.specs.declared.pending.Pending.{Pending}
use Rattle.sci_core.specs.declared.events.Event.{Event}
use Rattle.sci_core.specs.declared.stages.Stage.{Stage}
use Rattle.sci_core.specs.declared.rows.Place.{Place}
use Rattle.sci_core.specs.declared.outlines.Motion.{Motion}
use Rattle.sci_core.specs.State.{invalid, blank}
use Rattle.sci_core.specs.Shape.{phase_of}
use Rattle.sci_core.specs.Law.{has_slot}
use Rattle.sci_core.specs.Table.Purging.{written, can_count}
use Rattle.sci_core.specs.Ranges.{PlaceBelow}
use Rattle.sci_core.specs.Stage.{pending_of, is_fetching}
use Rattle.sci_core.specs.Whole.{WholeLine, IsSound}

-- the bytes of a node's own slot are at home unless the node has the slot in its hand, or it is held
abbrev pub slot_of : Tag → Stage → Line → Option Line
slot_of t s l = cond (has_slot (phase_of (pending_of s l)) || t.held) None (Some l)

abbrev pub memory_slot_of : Mem → Line → Option Line
memory_slot_of m l = cond m.lent None (Some l)

-- the first values of a function from i on
abbrev pub tabled : {A : Type 0} → (ℕ → A) → ℕ → ℕ → List A
tabled f i zero = []
tabled f i (suc n) = f i ∷ tabled f (suc i) n

-- the pending step of a node, put together
abbrev pub step_laid : List Stage → List Line → ℕ → Pending
step_laid stages lines j = pending_of (slice_index_or stages j Stage.Idle) (slice_index_or lines j blank)

abbrev pub steps_of : List Stage → List Line → List Pending
steps_of stages lines = tabled (step_laid stages lines) 0 (length stages)

abbrev pub slots_of : List Tag → List Stage → List Line → List (Option Line)
slots_of tags stages lines = tabled (λ i. slot_of (slice_index_or tags i invalid) (slice_index_or stages i Stage.Idle) (slice_index_or lines i blank)) 0 (length tags)

abbrev pub seen_whole : {K : Type 0} → K → ℕ → Mem → List Tag → List Stage → Line → List Line → WholeLine K
seen_whole keep number memory tags stages bytes lines = record {
  keep = keep;
  number = number;
  memory = memory;
  tags = tags;
  steps = steps_of stages lines;
  memory_slot = memory_slot_of memory bytes;
  slots = slots_of tags stages lines;
}

-- what is true of each `Whole`
pub record IsLaid {K : Type 0} (fits : List ℕ → Type 0) (keep : K) (number : ℕ) (memory : Mem) (tags : List Tag) (stages : List Stage) (bytes : Line) (lines : List Line) : Type 0 where
  pub of_stages : length stages ≡ length tags
  pub of_lines : length lines ≡ length tags
  pub sound : IsSound fits (seen_whole keep number memory tags stages bytes lines)

-- the own bytes written over as they are given back
abbrev pub given_lines : List Line → ℕ → Event → List Line
given_lines ls me Event.Left = slice_set ls me blank
given_lines ls me (Event.Written (Some words)) = slice_set ls me (written (slice_index_or ls me blank) (Some words))
given_lines ls me e = ls

-- memory's bytes and the nodes' after an exchange
abbrev pub bytes_after : Line → List Line → ℕ → Event → Motion → Line
bytes_after m ls me e (Motion.Gives Place.Memory) = slice_index_or (given_lines ls me e) me blank
bytes_after m ls me e _ = m

abbrev pub lines_after : Line → List Line → ℕ → Event → Motion → Stage → List Line
lines_after m ls me e Motion.Stays after = ls
lines_after m ls me e (Motion.Takes Place.Memory) after = cond (is_fetching after) (slice_set ls me m) ls
lines_after m ls me e (Motion.Takes (Place.Node x)) after = slice_set ls me (slice_index_or ls x blank)
lines_after m ls me e (Motion.Gives Place.Memory) after = given_lines ls me e
lines_after m ls me e (Motion.Gives (Place.Node x)) after = slice_set (given_lines ls me e) x (slice_index_or (given_lines ls me e) me blank)

abbrev pub MovesBelow : ℕ → Motion → Type 0
MovesBelow n Motion.Stays = Unit {0}
MovesBelow n (Motion.Takes x) = PlaceBelow n x
MovesBelow n (Motion.Gives x) = PlaceBelow n x

-- a write of words is counted by this line's stamp
abbrev pub CanCountIn : Line → Event → Type 0
CanCountIn l (Event.Written (Some words)) = can_count l ≡ true
CanCountIn l e = Unit {0}

-- and so is one that is given back in an exchange
abbrev pub CountsGiven : Event → Motion → Line → Type 0
CountsGiven (Event.Written (Some words)) (Motion.Gives x) l = can_count l ≡ true
CountsGiven e m l = Unit {0}
