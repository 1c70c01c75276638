-- A node's way to a line by its seat there, whatever the line is. This project's profile.
use Rattle.std.specs.Prelude.{◌≡◌, ℕ, List}
use Rattle.std.specs.Borrow.{GName}
use Rattle.std.proofs.Common.{sym, ◌∙◌}
use Rattle.sci_port.specs.declared.calls.Call.{Call}
use Rattle.sci_port.specs.SeatBanks.{IsKept, IsShared, LineTerms, Seating}
use Rattle.sci_port.specs.Readying.{Readying}
use Rattle.sci_port.specs.Way.{Way}

-- the way to the line of a seat, by this reference to the seat
abbrev pub way_by : {K : Type 0} → GName → Seating K → Way
way_by reference s = record { node = s.node; nodes = s.terms.nodes; number = s.terms.number; reference = reference }

module _ {K L S : Type 0} {fits : K → ℕ → List ℕ → Type 0} {terms : L → LineTerms K} {seating : S → Seating K} {is_seat : L → S → Type 0} {makes : S → Call → S → Type 0} (laws : IsShared fits terms seating is_seat makes)
    (l : L) (s : S) (of : is_seat l s) (call : Call) (t : S) (made : makes s call t) where
  -- a call leaves a seat of the line on its terms
  pub same_terms : (seating t).terms ≡ (seating s).terms
  same_terms = laws.same_terms l t (laws.stays l s call t of made) ∙ sym (laws.same_terms l s of)

  -- and so on its way
  pub same_way : {a b : GName} → b ≡ a → way_by b (seating t) ≡ way_by a (seating s)
  same_way name i = record { node = laws.same_node s call t made i; nodes = (same_terms i).nodes; number = (same_terms i).number; reference = name i }

-- nor does a call that readies the receipts leave that way
pub ready_way : {K L S : Type 0} {seating : S → Seating K} {is_seat : L → S → Type 0} {makes : S → Call → S → Type 0} {readies : S → Readying → S → Type 0} (kept : IsKept seating is_seat makes readies)
    (s : S) (r : Readying) (t : S) → readies s r t → {a b : GName} → b ≡ a → way_by b (seating t) ≡ way_by a (seating s)
ready_way kept s r t made name i = record { node = kept.same_node s r t made i; nodes = (kept.same_terms s r t made i).nodes; number = (kept.same_terms s r t made i).number; reference = name i }
