-- The node that may write is the only valid sharer.
use Rattle.std.proofs.Common.{◌≡◌, ℕ, ◌<◌, ◌≤◌, true, Some, None, refl, sym, ap, ⊎_elim, eq-or-lt_of_le, ◌∙◌, arith}
use Rattle.std.proofs.lemmas.Bool.{cases_lt}
use Rattle.sci_words.specs.declared.tags.Kind.{Kind}
use Rattle.sci_core.specs.declared.lines.Line.{Line}
use Rattle.sci_core.specs.declared.pending.Pending.{Pending}
use Rattle.sci_core.specs.State.{State, word}
use Rattle.sci_core.specs.Shape.{Phase, shape, has_seen, seen_forw_of}
use Rattle.sci_core.specs.Law.{Law, Witness, suits, may_be_outside, waits, is_valid}
use Rattle.sci_core.specs.Sharers.{IsValidSharer, IsSoleSharer, MayWrite}
use Rattle.sci_core.proofs.ReadBack.LastFront.{not_both}
use Rattle.sci_core.proofs.ReadBack.PendingStep.{front_is, only_purging, suits_in}

valid_inside : (p : Phase) (k : Kind) → suits p k ≡ true → is_valid k ≡ true → may_be_outside p k ≡ true → ⊥
valid_inside p k h v m = grind (arith, h, v, m)

valid_waits_not : (p : Phase) (k : Kind) → suits p k ≡ true → is_valid k ≡ true → waits p ≡ true → ⊥
valid_waits_not p k h v w = grind (arith, h, v, w)

module _ (s : State) (g : Witness) (o : Law (shape s) g) where
  -- a valid sharer is in the chain, at or behind the last front
  pub valid_in : (i : ℕ) → IsValidSharer s i → 0 < g.rank i
  valid_in i v = ⊎_elim (λ p. p) (λ z. absurd (valid_inside _ _ (o.own.suited i) v (o.outside.may_be i (omega (arith, z))))) (cases_lt 0 (g.rank i))

  pub valid_behind : (i : ℕ) → IsValidSharer s i → g.rank i ≤ g.rank g.last_front
  valid_behind i v = ⊎_elim (λ l. absurd (valid_waits_not _ _ (o.own.suited i) v (o.fronts.queue i l))) (λ l. l) (cases_lt (g.rank g.last_front) (g.rank i))

  -- who may write is the last front
  pub writer_is_last : (i : ℕ) → MayWrite s i → i ≡ g.last_front
  writer_is_last i m =
      let v : IsValidSharer s i = rw m.0 refl in
      let p = valid_in i v in
      let l = valid_behind i v in
      let b = o.fronts.body i p in
      let n = not_both (s.tags i).kind (rw m.0 refl) in
      o.order.apart i g.last_front p (let o : ℕ = 0 in grind (arith, l, b, n))

  pub writer_is_alone : (i j : ℕ) → MayWrite s i → IsValidSharer s j → i ≡ j
  writer_is_alone i j m v =
      let e = writer_is_last i m in
      let p = valid_in j v in
      let q = valid_in i (rw m.0 refl) in
      ⊎_elim
      (λ h. sym (o.order.apart j i p (h ∙ ap g.rank (sym e))))
      (λ l. absurd (let z = o.order.last i j q m.1 (rw e l) in omega (arith, z, p)))
      (eq-or-lt_of_le (valid_behind j v))

  -- a node that is Purging and has seen that nobody stands behind it has the word Purging without a forward link
  pub writer_word : (me : ℕ) (l : Line) → s.steps me ≡ Pending.Purging l (Some None) → s.tags me ≡ word Kind.Purging None None
  writer_word me l e = front_is s g o me Kind.Purging None (only_purging _ (suits_in s g o me _ e)) refl refl (o.sees.none_seen me (rw e refl) (ap has_seen e) (ap seen_forw_of e))

  -- and is the only valid sharer
  pub sole_sharer : (me : ℕ) (l : Line) → s.steps me ≡ Pending.Purging l (Some None) → IsSoleSharer s me
  sole_sharer me l e = let w = writer_word me l e in (rw w refl, λ j. writer_is_alone me j (rw w refl, rw w refl))
