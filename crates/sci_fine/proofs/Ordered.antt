-- Seats in order.
use Rattle.std.proofs.Common.{◌≡◌, ℕ, zero, suc, ◌+◌, ◌<◌, List, [], ◌∷◌, ◌++◌, length, get_or, take, drop, refl, sym, ap, ◌∙◌, subst, ⊎_elim, arith, map, append-nil}
use mathlib.Core.Option.{some-injective, some-ne-none}
use lib.ListN.{get_elem?}
use Rattle.atomic_table.proofs.Lists.{at_index, at_last, at_longer}
use Rattle.sci_core.specs.Carrying.{hand_of}
use Rattle.sci_core.specs.declared.keeps.Keeps as keeps
use Rattle.sci_core.specs.declared.lines.Line.{Line}
use Rattle.sci_fine.specs.Rule.{slot_number}
use Rattle.sci_fine.specs.Steps.{slots_in}
use Rattle.sci_core.specs.declared.pending.Pending.{Pending}
use Rattle.sci_fine.specs.declared.line.FineLine.{FineLine}
use Rattle.sci_fine.specs.declared.seats.Seat.{Seat}
use Rattle.sci_fine.specs.Seats.{IsSeatOf, AreIdleFrom, logs_of}
use Rattle.sci_fine.specs.Views.{joined_view}
use Rattle.sci_fine.specs.declared.views.View.{View}
use Rattle.sci_port.specs.declared.calls.Call.{Call}
use Rattle.sci_fine.proofs.Elements.{at_end}

module _ {K : Type 0} {g : keeps.Ghosts K} (l : FineLine K) where
  pub one_more : (from : ℕ) (seats : List (Seat K g)) (s : Seat K g) → AreIdleFrom l from seats → IsSeatOf l s → s.standing.node ≡ length seats + from → s.standing.pending ≡ Pending.Idle → AreIdleFrom l from (seats ++ s ∷ [])
  one_more from seats s old of node idle k u e = ⊎_elim (λ h. old k u h)
      (λ h. subst (λ (z : ℕ × Seat K g). IsSeatOf l z.1 × (z.1.standing.node ≡ z.0 + from) × (z.1.standing.pending ≡ Pending.Idle)) (λ i. (sym h.0 i, h.1 i)) (of, node, idle)) (at_end seats s u k e)

  pub first_of : (seats : List (Seat K g)) (s : Seat K g) → AreIdleFrom l 0 seats → 0 < length seats → s ≡ get_or seats 0 s → IsSeatOf l s × (s.standing.node ≡ 0) × (s.standing.pending ≡ Pending.Idle)
  first_of seats s all some_seat is = all 0 s (at_index seats 0 s some_seat is)

  pub others_of : (seats others : List (Seat K g)) → AreIdleFrom l 0 seats → others ≡ take 0 seats ++ drop 1 seats → AreIdleFrom l 1 others
  others_of [] others all is k u e = absurd (some-ne-none u (sym (ap (λ (z : List (Seat K g)). get_elem? z k) (sym is) ∙ e)))
  others_of (x ∷ xs) others all is k u e = let h = all (suc k) u (ap (λ (z : List (Seat K g)). get_elem? z k) (sym is) ∙ e) in (h.0, (let n = h.1 in omega arith), h.2)

  pub last_of : (from : ℕ) (seats fewer : List (Seat K g)) (s : Seat K g) → AreIdleFrom l from seats → seats ≡ fewer ++ s ∷ [] → (IsSeatOf l s × (s.standing.node ≡ length fewer + from) × (s.standing.pending ≡ Pending.Idle)) × AreIdleFrom l from fewer
  last_of from seats fewer s all is = let go = subst (AreIdleFrom l from) is all in (go (length fewer) s (at_last fewer s (length fewer) refl), (λ k u e. go k u (at_longer fewer (s ∷ []) k u e)))

  pub one_before : (seats : List (Seat K g)) (s : Seat K g) → AreIdleFrom l 1 seats → IsSeatOf l s → s.standing.node ≡ 0 → s.standing.pending ≡ Pending.Idle → AreIdleFrom l 0 (s ∷ seats)
  one_before seats s old of node idle zero u e = subst (λ (z : Seat K g). IsSeatOf l z × (z.standing.node ≡ 0) × (z.standing.pending ≡ Pending.Idle)) (some-injective s u e) (of, node, idle)
  one_before seats s old of node idle (suc k) u e = let h = old k u e in (h.0, (let n = h.1 in omega arith), h.2)

-- a seat in no step has nothing in its hand
no_slot : (c : List (ℕ × Line)) → slots_in c ≡ [] → c ≡ []
no_slot [] e = refl
no_slot (x ∷ xs) e = cc

pub empty_hand : {K : Type 0} {g : keeps.Ghosts K} (s : Seat K g) → s.standing.pending ≡ Pending.Idle → s.token.me.1 ≡ []
empty_hand s idle = no_slot s.token.me.1 (s.hand ∙ ap (λ (p : Pending). map slot_number (hand_of s.standing.node p)) idle)

-- a seat that nobody was joined to has its own calls alone
pub no_logs : {K : Type 0} {g : keeps.Ghosts K} (s : Seat K g) → s.token.me.0.logs ≡ []
no_logs s = s.seen.3

-- the calls of the first seat, and those of the others
pub logs_first : {K : Type 0} {g : keeps.Ghosts K} (s : Seat K g) (seats others : List (Seat K g)) (logs : List (List (ℕ × Call))) → 0 < length seats → s ≡ get_or seats 0 s → others ≡ take 0 seats ++ drop 1 seats → logs ≡ [] → s.token.me.0.log ∷ (logs_of others ++ logs) ≡ logs_of seats
logs_first s [] others logs more first rest none = absurd (omega arith)
logs_first {K} {g} s (x ∷ xs) others logs more first rest none = (λ i. (first i).token.me.0.log ∷ (logs_of (rest i) ++ none i)) ∙ ap (λ (l : List (List (ℕ × Call))). x.token.me.0.log ∷ l) (append-nil (logs_of xs))

logs_snoc : {K : Type 0} {g : keeps.Ghosts K} (fewer : List (Seat K g)) (s : Seat K g) (ls : List (List (ℕ × Call))) → logs_of fewer ++ (s.token.me.0.log ∷ ls) ≡ logs_of (fewer ++ s ∷ []) ++ ls
logs_snoc [] s ls = refl
logs_snoc (x ∷ xs) s ls = ap (λ (l : List (List (ℕ × Call))). x.token.me.0.log ∷ l) (logs_snoc xs s ls)

-- the last seat is joined to the first
pub logs_last : {K : Type 0} {g : keeps.Ghosts K} (seats fewer : List (Seat K g)) (s : Seat K g) (v u : View K) → u ≡ joined_view v s.token.me.0 → seats ≡ fewer ++ s ∷ [] → u.log ∷ (logs_of fewer ++ u.logs) ≡ v.log ∷ (logs_of seats ++ v.logs)
logs_last {K} {g} seats fewer s v u is all = (λ i. (is i).log ∷ (logs_of fewer ++ (is i).logs)) ∙ (ap (λ (l : List (List (ℕ × Call))). v.log ∷ l) (logs_snoc fewer s v.logs) ∙ ap (λ (l : List (Seat K g)). v.log ∷ (logs_of l ++ v.logs)) (sym all))
