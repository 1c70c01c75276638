-- A sound line on which every step is Idle, read off, is exact.
use Rattle.std.proofs.Common.{◌≡◌, ℕ, ◌<◌, true, Option, Some, List, [], ◌∷◌, suc, map, get_or, refl, sym, subst, ⊎_elim, ◌∙◌, arith}
use Rattle.std.proofs.Math.ListN.{get_or-map, length-map}
use Rattle.std.proofs.lemmas.Bool.{cases_lt}
use Rattle.std.proofs.lemmas.List.{get_or_past}
use Rattle.std.proofs.lemmas.List.Elements.{All-from_get_or}
use mathlib.Core.Path.{fun_ext}
use Rattle.sci_words.specs.declared.tags.Tag.{Tag}
use Rattle.sci_words.specs.Tag.{tag_well_formed}
use Rattle.sci_core.specs.declared.lines.Line.{Line}
use Rattle.sci_core.specs.declared.pending.Pending.{Pending}
use Rattle.sci_core.specs.State.{invalid, blank}
use Rattle.sci_core.specs.Exact.{IsExact}
use Rattle.sci_core.specs.Step.{line_in}
use Rattle.sci_core.specs.Whole.{WholeLine, nodes_of, state_of, IsSound}
use Rattle.sci_core.specs.Closed.{ClosedLine, IsClosed, IsExactClosed, IsReadOff}
use Rattle.sci_core.proofs.Idle.{memory_at_home, at_home as slot_at_home}
use Rattle.sci_core.proofs.Ruled.{ruled_path, ruled_exact}

-- the lines read off are those of the slots
lines_read : (l : List (Option Line)) → ◌≡◌ {A = ℕ → Line} (λ i. get_or (map line_in l) i blank) (λ i. line_in (get_or l i (Some blank)))
lines_read l = fun_ext (λ i. get_or-map line_in l i (Some blank))

-- what a line is, read off
abbrev closed_of : {K : Type 0} → WholeLine K → ClosedLine
closed_of w = record { mem = w.memory; memory = line_in w.memory_slot; tags = w.tags; lines = map line_in w.slots }

-- and its parts
read_off : {K : Type 0} (w : WholeLine K) (memory : Line) (tags : List Tag) (lines : List Line) → memory ≡ line_in w.memory_slot → tags ≡ w.tags → lines ≡ map line_in w.slots
    → ◌≡◌ {A = ClosedLine} record { mem = w.memory; memory = memory; tags = tags; lines = lines } (closed_of w)
read_off w memory tags lines m t l = λ k. record { mem = w.memory; memory = m k; tags = t k; lines = l k }

at_home : (f : Option Line) (l : Line) → f ≡ Some l → Some (line_in f) ≡ f
at_home f l e = rw e refl

all_at_home : (slots : List (Option Line)) → ((i : ℕ) → Some (line_in (get_or slots i (Some blank))) ≡ get_or slots i (Some blank)) → map (λ l. Some l) (map line_in slots) ≡ slots
all_at_home [] h = refl
all_at_home (f ∷ slots) h = λ k. h 0 k ∷ all_at_home slots (λ i. h (suc i)) k

module _ {K : Type 0} (fits : List ℕ → Type 0) (w : WholeLine K) (o : IsSound fits w) where
  sound_is_closed : IsClosed (closed_of w)
  sound_is_closed = record {
    lines = length-map w.slots line_in ∙ o.slots;
    mem = o.ruled.words.memory;
    tags = All-from_get_or (λ t. tag_well_formed t ≡ true) w.tags invalid (λ i l. o.ruled.words.tags i);
  }

  pub all_idle : ((i : ℕ) → i < nodes_of w → (state_of w).steps i ≡ Pending.Idle) → (i : ℕ) → (state_of w).steps i ≡ Pending.Idle
  all_idle h i = ⊎_elim (λ l. h i l) (λ m. get_or_past w.steps i Pending.Idle (omega (arith, m, o.steps))) (cases_lt i (nodes_of w))

  sound_is_exact : ((i : ℕ) → i < nodes_of w → (state_of w).steps i ≡ Pending.Idle) → IsExactClosed (closed_of w)
  sound_is_exact h =
      let path = ruled_path (nodes_of w) fits (state_of w) o.ruled in
      (path.0, subst (λ (lines : ℕ → Line). IsExact (nodes_of w) w.memory (line_in w.memory_slot) (state_of w).tags lines path.0) (sym (lines_read w.slots)) (ruled_exact (nodes_of w) fits (state_of w) o.ruled path.0 path.1 (all_idle h)))

  sound_is_read_off : ((i : ℕ) → i < nodes_of w → (state_of w).steps i ≡ Pending.Idle) → IsReadOff w (closed_of w)
  sound_is_read_off h =
      let memory = memory_at_home (state_of w) o.ruled.witness o.ruled.law (all_idle h) in
      let slot = slot_at_home (state_of w) o.ruled.witness o.ruled.law (all_idle h) in
      record {
        mem = refl;
        memory = at_home w.memory_slot memory.0 memory.1;
        tags = refl;
        lines = all_at_home w.slots (λ i. at_home (get_or w.slots i (Some blank)) (slot i).0 (slot i).1);
      }

  module _ (memory : Line) (tags : List Tag) (lines : List Line) (m : memory ≡ line_in w.memory_slot) (t : tags ≡ w.tags) (l : lines ≡ map line_in w.slots) where
    pub closed_as : IsClosed record { mem = w.memory; memory = memory; tags = tags; lines = lines }
    closed_as = subst (λ (c : ClosedLine). IsClosed c) (sym (read_off w memory tags lines m t l)) sound_is_closed

    pub exact_as : ((i : ℕ) → i < nodes_of w → (state_of w).steps i ≡ Pending.Idle) → IsExactClosed record { mem = w.memory; memory = memory; tags = tags; lines = lines }
    exact_as h = subst (λ (c : ClosedLine). IsExactClosed c) (sym (read_off w memory tags lines m t l)) (sound_is_exact h)

    pub read_off_as : ((i : ℕ) → i < nodes_of w → (state_of w).steps i ≡ Pending.Idle) → IsReadOff w record { mem = w.memory; memory = memory; tags = tags; lines = lines }
    read_off_as h = subst (λ (c : ClosedLine). IsReadOff w c) (sym (read_off w memory tags lines m t l)) (sound_is_read_off h)
