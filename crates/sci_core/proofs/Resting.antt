-- A `Whole` on which every step is Idle: its bytes are those of all slots, and exact.
use Rattle.std.proofs.Common.{◌≡◌, ℕ, ◌+◌, ◌<◌, Bool, true, false, cond, Some, None, List, length, map, get_or, refl, sym, ap, ◌∙◌, arith}
use Rattle.sci_words.specs.declared.tags.Tag.{Tag}
use Rattle.sci_words.specs.declared.memory.Mem.{Mem}
use Rattle.sci_core.specs.declared.lines.Line.{Line}
use Rattle.sci_core.specs.declared.pending.Pending.{Pending}
use Rattle.sci_core.specs.declared.stages.Stage.{Stage}
use Rattle.sci_core.specs.State.{State, invalid, blank}
use Rattle.sci_core.specs.Closed.{ClosedLine, IsClosed, IsExactClosed, IsReadOff}
use Rattle.sci_core.specs.Laid.{IsLaid, seen_whole, slot_of, memory_slot_of, tabled, slots_of}
use Rattle.sci_core.specs.Step.{line_in}
use Rattle.sci_core.specs.Whole.{WholeLine, state_of}
use Rattle.sci_core.proofs.AtRest.{all_idle, closed_as, exact_as, read_off_as}
use Rattle.sci_core.proofs.Idle.{memory_at_home, at_home as slot_at_home}
use Rattle.sci_core.proofs.Laying.{state_seen, tabled_back}

home_line : (b : Bool) (k l : Line) → cond b None (Some k) ≡ Some l → line_in (cond b None (Some k)) ≡ k
home_line true k l e = absurd (cc)
home_line false k l e = refl

-- the line read off
pub record Rests {K : Type 0} (w : WholeLine K) (c : ClosedLine) : Type 0 where
  pub closed : IsClosed c
  pub exact : IsExactClosed c
  pub read : IsReadOff w c

module _ {K : Type 0} (fits : List ℕ → Type 0) (keep : K) (number : ℕ) (memory : Mem) (tags : List Tag) (stages : List Stage) (bytes : Line) (lines : List Line) (laid : IsLaid fits keep number memory tags stages bytes lines) where
  abbrev w : WholeLine K
  w = seen_whole keep number memory tags stages bytes lines

  module _ (idle : (i : ℕ) → i < length tags → (state_of (seen_whole keep number memory tags stages bytes lines)).steps i ≡ Pending.Idle) where
    rest_memory : bytes ≡ line_in (memory_slot_of memory bytes)
    rest_memory =
        let there = memory_at_home (state_of w) laid.sound.ruled.witness laid.sound.ruled.law (all_idle fits w laid.sound idle) in
        sym (home_line memory.lent bytes there.0 there.1)

    rest_line : (j : ℕ) → line_in (slot_of (get_or tags j invalid) (get_or stages j Stage.Idle) (get_or lines j blank)) ≡ get_or lines j blank
    rest_line j =
        let there = slot_at_home (state_of w) laid.sound.ruled.witness laid.sound.ruled.law (all_idle fits w laid.sound idle) j in
        let slot : slot_of (get_or tags j invalid) (get_or stages j Stage.Idle) (get_or lines j blank) ≡ Some there.0 =
        ap (λ (s : State). s.slots j) (sym (state_seen tags stages lines laid.of_stages laid.of_lines keep number memory bytes)) ∙ there.1 in
        home_line _ (get_or lines j blank) there.0 slot

    rest_line_from : (j : ℕ) → line_in (slot_of (get_or tags (0 + j) invalid) (get_or stages (0 + j) Stage.Idle) (get_or lines (0 + j) blank)) ≡ get_or lines j blank
    rest_line_from j =
        let e : 0 + j ≡ j = omega arith in
        ap (λ (n : ℕ). line_in (slot_of (get_or tags n invalid) (get_or stages n Stage.Idle) (get_or lines n blank))) e ∙ rest_line j

    pub rest_lines : lines ≡ map line_in (slots_of tags stages lines)
    rest_lines =
        sym (ap (λ (n : ℕ). map line_in (tabled (λ i. slot_of (get_or tags i invalid) (get_or stages i Stage.Idle) (get_or lines i blank)) 0 n)) (sym laid.of_lines)
        ∙ tabled_back (λ i. slot_of (get_or tags i invalid) (get_or stages i Stage.Idle) (get_or lines i blank)) line_in 0 lines blank (λ j h. rest_line_from j))

    pub rests : (ts : List Tag) (ls : List Line) → ts ≡ tags → ls ≡ map line_in (slots_of tags stages lines) → Rests (seen_whole keep number memory tags stages bytes lines) record { mem = memory; memory = bytes; tags = ts; lines = ls }
    rests ts ls t l = record {
      closed = closed_as fits w laid.sound bytes ts ls rest_memory t l;
      exact = exact_as fits w laid.sound bytes ts ls rest_memory t l idle;
      read = read_off_as fits w laid.sound bytes ts ls rest_memory t l idle;
    }
