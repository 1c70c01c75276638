-- The receipts of a node's seats at lines, where a call is made on one of them or its receipts are readied.
use Rattle.std.proofs.Common.{◌≡◌, ◌≢◌, ◌⊎◌, inl, inr, ℕ, ◌<◌, None, List, map, length, get_or, set, refl, sym, ap, subst, ◌∙◌}
use Rattle.std.proofs.lemmas.Bool.{cases_eq}
use Rattle.std.proofs.lemmas.List.{get_or-set_same, get_or-set_other, get_or_default, map-set, length-map}
use mathlib.Core.Option.{some}
use lib.ListN.{get_elem?}
use Rattle.sci_core.specs.declared.pending.Pending.{Pending}
use Rattle.sci_port.specs.declared.calls.Call.{Call}
use Rattle.sci_port.specs.declared.calls.Call.TheVariants.{MemWas}
use Rattle.sci_port.specs.Owes.{Owes}
use Rattle.sci_port.specs.Readying.{ChangesAt, Readies, Readying, no_receipts, receipts_at}
use Rattle.sci_port.specs.ReceiptList.{ReceiptList, ReceivesIfRoom}
use Rattle.sci_port.specs.Seated.{CallsOn, ReadiesOn, Seated}
use Rattle.sci_port.specs.SeatBanks.{IsKept, IsShared, LineTerms, MakesCall, MakesReady, Seating, receipts_of}
use Rattle.sci_port.proofs.Seated.{read_at, same_steps}

-- where those on the line stay, so do all
pub all_stay : {changes : ReceiptList → ReceiptList → Type 0} {before after : ℕ → ReceiptList} {line : ℕ} → ChangesAt changes before line after → after line ≡ before line → (m : ℕ) → after m ≡ before m
all_stay {before = before} {after = after} {line = line} h same m = each m (cases_eq m line)
  where
    each : (m : ℕ) → (m ≡ line) ⊎ (m ≢ line) → after m ≡ before m
    each m (inl e) = subst (λ (k : ℕ). after k ≡ before k) (sym e) same
    each m (inr other) = h.others m other

-- what was read of the receipts on a line
pub read_there : (lists : List ReceiptList) (i line : ℕ) (d : ReceiptList) → line < length lists → i ≡ line → d ≡ get_or lists i d → d ≡ receipts_at lists line
read_there lists i line d near il is = is ∙ (ap (λ (k : ℕ). get_or lists k d) il ∙ get_or_default lists line d no_receipts near)

-- and what is read of them as they are lent
pub there : (lists after lent : List ReceiptList) (i line : ℕ) (d : ReceiptList) → line < length lists → i ≡ line → after ≡ lists → lent ≡ after → get_or lent i d ≡ receipts_at lists line
there lists after lent i line d near il same of = (λ k. get_or ((of ∙ same) k) (il k) d) ∙ get_or_default lists line d no_receipts near

-- a list of receipts with those of one line replaced
pub set_changes : (changes : ReceiptList → ReceiptList → Type 0) (before after : List ReceiptList) (line : ℕ) (y : ReceiptList) → line < length before → after ≡ set before line y → changes (receipts_at before line) y → ChangesAt changes (λ m. receipts_at before m) line (λ m. receipts_at after m)
set_changes changes before after line y near back h = record {
  here = subst (λ (z : ReceiptList). changes (receipts_at before line) z) (sym (ap (λ (l : List ReceiptList). receipts_at l line) back ∙ get_or-set_same before line y no_receipts near)) h;
  others = λ m other. ap (λ (l : List ReceiptList). receipts_at l m) back ∙ get_or-set_other before line m y no_receipts other;
}

module _ {K L S : Type 0} {seating : S → Seating K} {is_seat : L → S → Type 0} {makes : S → Call → S → Type 0} {readies : S → Readying → S → Type 0} (kept : IsKept seating is_seat makes readies) where
  seat_changes : (changes : ReceiptList → ReceiptList → Type 0) (before after : List S) (line : ℕ) (x y : S) → line < length before → get_elem? before line ≡ some x → after ≡ set before line y → changes (seating x).receipts (seating y).receipts
      → ChangesAt changes (λ m. receipts_at (receipts_of seating before) m) line (λ m. receipts_at (receipts_of seating after) m)
  seat_changes changes before after line x y near at back h = set_changes changes (receipts_of seating before) (receipts_of seating after) line (seating y).receipts
      (subst (λ (n : ℕ). line < n) (sym (length-map before (λ (s : S). (seating s).receipts))) near)
      (ap (λ (l : List S). receipts_of seating l) back ∙ map-set (λ (s : S). (seating s).receipts) before line y)
      (subst (λ (z : ReceiptList). changes z (seating y).receipts) (sym (read_at (λ (s : S). (seating s).receipts) before line x no_receipts at)) h)

  -- a call of the seat at the line
  pub with_receipts : {A B : Type 0} {before after : List S} {line : ℕ} {call : Call} → line < length before → A → MakesCall makes before line call after × B
      → A × MakesCall makes before line call after × B × ChangesAt (ReceivesIfRoom (get_or (map (λ (s : S). (seating s).pending) before) line Pending.Idle) call) (λ m. receipts_at (receipts_of seating before) m) line (λ m. receipts_at (receipts_of seating after) m)
  with_receipts {before = before} {after = after} {line = line} {call = call} near a h =
      let p = get_or (map (λ (s : S). (seating s).pending) before) line Pending.Idle in (
        a,
        h.0,
        h.1,
        seat_changes (ReceivesIfRoom p call) before after line h.0.seat h.0.later near h.0.at h.0.seats
            (subst (λ (q : Pending). ReceivesIfRoom q call (seating h.0.seat).receipts (seating h.0.later).receipts) (sym (read_at (λ (s : S). (seating s).pending) before line h.0.seat Pending.Idle h.0.at)) (kept.receives h.0.seat call h.0.later h.0.made)),
      )

  module _ {fits : K → ℕ → List ℕ → Type 0} {terms : L → LineTerms K} (laws : IsShared fits terms seating is_seat makes) (r : Readying) where
    -- to ready a seat's receipts is, for all but them, as a load that finds nothing
    abbrev pub loads : S → Call → S → Type 0
    loads s call t = (call ≡ MemWas None) × readies s r t

    pub ready_laws : IsShared fits terms seating is_seat loads
    ready_laws = record {
      same_terms = laws.same_terms;
      below = laws.below;
      stays = λ l s call t of made. kept.stays l s r t of made.1;
      same_node = λ s call t made. kept.same_node s r t made.1;
      owes = λ s call t made. subst (λ (c : Call). Owes (seating s).terms.nodes (fits (seating s).terms.keep (seating s).terms.number) (seating s).node (seating s).pending c (seating t).pending) (sym made.0) (kept.same_step s r t made.1, tt);
    }

    pub with_ready : {A : Type 0} {before after : List S} {line : ℕ} {u v : Seated K} → line < length before → A → MakesCall loads before line (MemWas None) after × CallsOn fits u line (MemWas None) v
        → A × MakesReady readies before line r after × ReadiesOn u v × ChangesAt (Readies r) (λ m. receipts_at (receipts_of seating before) m) line (λ m. receipts_at (receipts_of seating after) m)
    with_ready {before = before} {after = after} {line = line} near a h = (
      a,
      record { seat = h.0.seat; later = h.0.later; at = h.0.at; made = h.0.made.1; seats = h.0.seats },
      record { way = h.1.way; fact = h.1.fact; nodes = h.1.nodes; steps = same_steps h.1 h.1.owes.0 },
      seat_changes (Readies r) before after line h.0.seat h.0.later near h.0.at h.0.seats (kept.leaves h.0.seat r h.0.later h.0.made.1),
    )
