-- Seats in order.
use Rattle.std.proofs.Common.{◌≡◌, ◌⊎◌, ℕ, zero, suc, ◌+◌, ◌<◌, ◌≤◌, inl, inr, List, [], ◌∷◌, ◌++◌, length, get_or, take, drop, length-append, refl, sym, ap, ◌∙◌, subst, ⊎_elim, arith}
use mathlib.Core.Logic.{dite}
use mathlib.Core.Option.{some, some-injective, some-ne-none}
use native.Mathlib.Decide.{ℕ_discrete}
use lib.ListN.{get_elem?}
use Rattle.atomic_table.proofs.Lists.{at_index, at_last, at_longer}
use Rattle.sci_core.specs.declared.keeps.Keeps as keeps
use Rattle.sci_core.specs.declared.pending.Pending.{Pending}
use Rattle.sci_coarse.specs.declared.line.CoarseLine.{CoarseLine}
use Rattle.sci_coarse.specs.declared.seats.Seat.{Seat}
use Rattle.sci_coarse.specs.Seats.{IsSeatOf, AreIdleFrom}
use Rattle.sci_coarse.specs.declared.views.View.{View}
use Rattle.sci_coarse.specs.Views.{keeps_of, joined_view}
use Rattle.sci_coarse.specs.Ends.{KeepsLogs}
use Rattle.sci_port.proofs.Running.{own_log, joined_log, joined_else}
use Rattle.sci_coarse.proofs.Listed.{inside, at_end}

module _ {K : Type 0} {g : keeps.Ghosts K} (l : CoarseLine K) where
  pub one_more : (from : ℕ) (seats : List (Seat K g)) (s : Seat K g) → AreIdleFrom l from seats → IsSeatOf l s → s.node ≡ length seats + from → s.standing.pending ≡ Pending.Idle → AreIdleFrom l from (seats ++ s ∷ [])
  one_more from seats s old of node idle k u e = ⊎_elim (λ h. old k u h)
      (λ h. subst (λ (z : ℕ × Seat K g). IsSeatOf l z.1 × (z.1.node ≡ z.0 + from) × (z.1.standing.pending ≡ Pending.Idle)) (λ i. (sym h.0 i, h.1 i)) (of, node, idle)) (at_end seats s u k e)

  pub first_of : (seats : List (Seat K g)) (s : Seat K g) → AreIdleFrom l 0 seats → 0 < length seats → s ≡ get_or seats 0 s → IsSeatOf l s × (s.node ≡ 0) × (s.standing.pending ≡ Pending.Idle)
  first_of seats s all some_seat is = all 0 s (at_index seats 0 s some_seat is)

  pub others_of : (seats others : List (Seat K g)) → AreIdleFrom l 0 seats → others ≡ take 0 seats ++ drop 1 seats → AreIdleFrom l 1 others
  others_of [] others all is k u e = absurd (some-ne-none u (sym (ap (λ (z : List (Seat K g)). get_elem? z k) (sym is) ∙ e)))
  others_of (x ∷ xs) others all is k u e = let h = all (suc k) u (ap (λ (z : List (Seat K g)). get_elem? z k) (sym is) ∙ e) in (h.0, (let n = h.1 in omega arith), h.2)

  pub last_of : (from : ℕ) (seats fewer : List (Seat K g)) (s : Seat K g) → AreIdleFrom l from seats → seats ≡ fewer ++ s ∷ [] → (IsSeatOf l s × (s.node ≡ length fewer + from) × (s.standing.pending ≡ Pending.Idle)) × AreIdleFrom l from fewer
  last_of from seats fewer s all is = let go = subst (AreIdleFrom l from) is all in (go (length fewer) s (at_last fewer s (length fewer) refl), (λ k u e. go k u (at_longer fewer (s ∷ []) k u e)))

  pub one_before : (seats : List (Seat K g)) (s : Seat K g) → AreIdleFrom l 1 seats → IsSeatOf l s → s.node ≡ 0 → s.standing.pending ≡ Pending.Idle → AreIdleFrom l 0 (s ∷ seats)
  one_before seats s old of node idle zero u e = subst (λ (z : Seat K g). IsSeatOf l z × (z.node ≡ 0) × (z.standing.pending ≡ Pending.Idle)) (some-injective s u e) (of, node, idle)
  one_before seats s old of node idle (suc k) u e = let h = old k u e in (h.0, (let n = h.1 in omega arith), h.2)

module _ {K : Type 0} {g : keeps.Ghosts K} where
  -- the view keeps the logs of the first seat, and of those from this place on
  abbrev pub KeepsFrom : List (Seat K g) → ℕ → View K → Type 0
  KeepsFrom seats from v = (i : ℕ) (s : Seat K g) → get_elem? seats i ≡ some s → ((i ≡ 0) ⊎ (from ≤ i)) → keeps_of i v ≡ s.token.me.0.log

  -- what is left are the seats after the first, up to some place
  abbrev pub AreFirstOf : List (Seat K g) → List (Seat K g) → Type 0
  AreFirstOf seats left = (i : ℕ) (s : Seat K g) → get_elem? seats (suc i) ≡ some s → i < length left → get_elem? left i ≡ some s

  pub first_kept : (seats : List (Seat K g)) (s : Seat K g) (n : ℕ) → get_elem? seats 0 ≡ some s → s.token.me.0.node ≡ 0 → length seats ≤ n → KeepsFrom seats n s.token.me.0
  first_kept seats s n at first far i u e = ⊎_elim
      (λ is. own_log i s.token.me.0.node s.token.me.0.log s.token.me.0.others (first ∙ sym is) ∙ ap (λ (x : Seat K g). x.token.me.0.log) (some-injective s u (sym at ∙ (ap (get_elem? seats) (sym is) ∙ e))))
      (λ from. let near : i < length seats = inside seats u i e in absurd (omega arith))

  pub others_first : (seats others : List (Seat K g)) → others ≡ take 0 seats ++ drop 1 seats → AreFirstOf seats others
  others_first [] others is i s e near = absurd (some-ne-none s (sym e))
  others_first (x ∷ xs) others is i s e near = ap (λ (z : List (Seat K g)). get_elem? z i) is ∙ e

  pub fewer_first : (seats left fewer : List (Seat K g)) (s : Seat K g) → left ≡ fewer ++ s ∷ [] → AreFirstOf seats left → AreFirstOf seats fewer
  fewer_first seats left fewer s is all i u e near =
      let long : length left ≡ length fewer + 1 = ap (λ (z : List (Seat K g)). length z) is ∙ length-append fewer (s ∷ []) in
      ⊎_elim (λ h. h) (λ h. let no : i ≡ length fewer = h.0 in absurd (omega arith)) (at_end fewer s u i (ap (λ (z : List (Seat K g)). get_elem? z i) (sym is) ∙ all i u e (omega arith)))

  -- the last of those left is joined
  pub kept_more : (seats left fewer : List (Seat K g)) (s : Seat K g) (v : View K) → left ≡ fewer ++ s ∷ [] → AreFirstOf seats left → s.token.me.0.node ≡ length fewer + 1 → v.node ≡ 0 → KeepsFrom seats (length left + 1) v → KeepsFrom seats (length fewer + 1) (joined_view v s.token.me.0)
  kept_more seats left fewer s v is all node first kept i u e from =
      let w = s.token.me.0 in
      let long : length left ≡ length fewer + 1 = ap (λ (z : List (Seat K g)). length z) is ∙ length-append fewer (s ∷ []) in
      dite (ℕ_discrete i w.node)
      (λ e'.
      let place : i ≡ suc (length fewer) = omega arith in
      let at : get_elem? left (length fewer) ≡ some u = all (length fewer) u (subst (λ (z : ℕ). get_elem? seats z ≡ some u) place e) (omega arith) in
      let same : s ≡ u = some-injective s u (sym (at_last fewer s (length fewer) refl) ∙ (ap (λ (z : List (Seat K g)). get_elem? z (length fewer)) (sym is) ∙ at)) in
      ap (λ (z : ℕ). keeps_of z (joined_view v w)) e' ∙ (joined_log w.node v.node v.log w.log v.others (λ z. absurd (omega arith)) ∙ ap (λ (x : Seat K g). x.token.me.0.log) same))
      (λ ne. joined_else i w.node v.node v.log w.log v.others ne ∙ kept i u e (⊎_elim (λ z. inl z) (λ h. inr (omega arith)) from))

  pub kept_all : (seats : List (Seat K g)) (n : ℕ) (v : View K) → n ≤ 1 → KeepsFrom seats n v → KeepsLogs seats v
  kept_all seats n v few kept i s e = kept i s e (dite (ℕ_discrete i 0) (λ z. inl z) (λ ne. inr (omega arith)))
