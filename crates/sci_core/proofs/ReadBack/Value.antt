-- All copies are the value.
use Rattle.std.proofs.Common.{◌≡◌, ◌⊎◌, ◌≢◌, ℕ, ◌<◌, Bool, true, false, Option, Some, None, List, refl, sym, ap, inl, inr, ⊎_elim, ◌∙◌, arith}
use Rattle.sci_words.specs.declared.tags.Kind.{Kind}
use Rattle.sci_words.specs.declared.memory.MemState.{MemState}
use Rattle.sci_core.specs.declared.lines.Line.{Line}
use Rattle.sci_core.specs.declared.pending.Pending.{Pending}
use Rattle.sci_core.specs.State.{State}
use Rattle.sci_core.specs.Shape.{Phase, shape, phase_of, kept_of, line_of, has_copy, kept_line}
use Rattle.sci_core.specs.Law.{Law, Witness, suits, has_attached, has_slot, has_memory_slot, is_valid, is_dirty_front}
use Rattle.sci_core.specs.Sharers.{IsValidSharer}
use Rattle.sci_core.specs.Copies.{HasInHand, IsCopy, IsMemoryCopy}
use Rattle.sci_core.specs.Value.{HasOneValue}
use Rattle.sci_core.proofs.ReadBack.Ranked.{Stands}
use Rattle.sci_core.proofs.ReadBack.LastFront.{last_front_is}
use Rattle.sci_core.proofs.ReadBack.Slots.{in_hand, copying_phase, memory_lent}

-- the steps that always keep a line
abbrev pub keeps_line : Phase → Bool
keeps_line Phase.Holding = true
keeps_line Phase.Fetching = true
keeps_line Phase.Copying = true
keeps_line Phase.Ready = true
keeps_line Phase.Purging = true
keeps_line Phase.Advancing = true
keeps_line Phase.Clearing = true
keeps_line Phase.Leaving = true
keeps_line Phase.Promoted = true
keeps_line Phase.WritingBack = true
keeps_line _ = false

pub line_kept : (p : Pending) → keeps_line (phase_of p) ≡ true → kept_line p ≡ Some (line_of p)
line_kept Pending.Idle h = absurd (grind (arith, h))
line_kept (Pending.Holding w l) h = refl
line_kept (Pending.Queueing f) h = absurd (grind (arith, h))
line_kept (Pending.Fetching f d l) h = refl
line_kept (Pending.InQueue f d c) h = absurd (grind (arith, h))
line_kept (Pending.Copying f w l) h = refl
line_kept (Pending.Ready f d l) h = refl
line_kept (Pending.Converting f t) h = absurd (grind (arith, h))
line_kept (Pending.Purging l q) h = refl
line_kept (Pending.Advancing l v w) h = refl
line_kept (Pending.Clearing l v w) h = refl
line_kept (Pending.Leaving d l q) h = refl
line_kept (Pending.Promoted d l t) h = refl
line_kept (Pending.WritingBack l) h = refl
line_kept (Pending.Parted f) h = absurd (grind (arith, h))
line_kept (Pending.Rolling t q) h = absurd (grind (arith, h))
line_kept (Pending.Unlinked f b) h = absurd (grind (arith, h))

pub copy_kept : (p : Pending) → phase_of p ≡ Phase.InQueue → has_copy p ≡ true → kept_line p ≡ Some (line_of p)
copy_kept (Pending.InQueue f d None) e h = absurd (grind (arith, h))
copy_kept (Pending.InQueue f d (Some l)) e h = refl
copy_kept _ e h = absurd (grind (arith, e))

valid_keeps : (p : Phase) (k : Kind) → suits p k ≡ true → is_valid k ≡ true → has_slot p ≡ true → keeps_line p ≡ true
valid_keeps p k h v q = grind (arith, h, v, q)

memory_keeps : (p : Phase) → has_memory_slot p ≡ true → keeps_line p ≡ true
memory_keeps p h = grind (arith, h)

pub phase_keeps : (p q : Phase) → p ≡ q → keeps_line q ≡ true → keeps_line p ≡ true
phase_keeps p q e h = rw e h

phase_has_slot : (p q : Phase) → p ≡ q → has_slot q ≡ true → has_slot p ≡ true
phase_has_slot p q e h = rw e h

cases_dirty_front : (p : Phase) (k : Kind) (f : Bool) → is_dirty_front k p f ≡ true → (is_valid k ≡ true) ⊎ (k ≡ Kind.Leaving) ⊎ (p ≡ Phase.Copying) ⊎ (p ≡ Phase.Ready) ⊎ ((k ≡ Kind.Queued) × ((p ≡ Phase.Fetching) ⊎ (p ≡ Phase.InQueue)))
cases_dirty_front p k f h = grind (arith, h)

no_link : (f : Option ℕ) → ((j : ℕ) → f ≡ Some j → ⊥) → f ≡ None
no_link None n = refl
no_link (Some j) n = absurd (n j refl)

module _ (s : State) (g : Witness) (o : Law (shape s) g) where
  pub kept_value : (i : ℕ) → keeps_line (phase_of (s.steps i)) ≡ true → line_of (s.steps i) ≡ g.value → kept_line (s.steps i) ≡ Some g.value
  kept_value i h e = line_kept (s.steps i) h ∙ ap (λ l. Some l) e

  hand_value : (j i : ℕ) → IsValidSharer s i → HasInHand s j i → kept_line (s.steps j) ≡ Some g.value
  hand_value j i v h =
      ⊎_elim
      (λ a. rw a.0 (kept_value i (valid_keeps (phase_of (s.steps i)) (s.tags i).kind (o.own.suited i) v a.1) (o.values.hand i v a.1)))
      (λ c. let p = copying_phase (s.steps j) i c in kept_value j (phase_keeps _ _ p refl) (o.values.copying j p))
      h

  pub sharer_copy : (i : ℕ) (c : Option Line) → s.slots i ≡ c → IsValidSharer s i → IsCopy s i g.value
  sharer_copy i None e v = let h = in_hand s g o i e in inr (e, (h.0, h.1, hand_value h.0 i v h.1))
  sharer_copy i (Some l) e v = inl (e ∙ ap (λ x. Some x) (o.values.sharer i l v e))

  memory_copy : (c : Option Line) → s.memory_slot ≡ c → s.memory.state ≢ MemState.Gone → IsMemoryCopy s g.value
  memory_copy None e n = let h = o.slots.borrower_has (memory_lent s g o e) in inr (e, (g.borrower, h, kept_value g.borrower (memory_keeps _ h) (o.values.lent_line g.borrower h)))
  memory_copy (Some l) e n = inl (e ∙ ap (λ x. Some x) (o.values.memory l n e))

  own_copy : (i : ℕ) (q : Phase) → phase_of (s.steps i) ≡ q → has_slot q ≡ true → keeps_line q ≡ true → line_of (s.steps i) ≡ g.value → IsCopy s i g.value
  own_copy i q e h k l = let m = phase_has_slot _ q e h in inr (o.slots.in_hand i m, (i, inl (refl, m), kept_value i (phase_keeps _ q e k) l))

  leaving_value : (i : ℕ) → phase_of (s.steps i) ≡ Phase.Leaving → kept_line (s.steps i) ≡ Some g.value
  leaving_value i e = kept_value i (phase_keeps _ _ e refl) (o.values.leaving i e)

  -- a last front that is Queued and has attached no entry has nobody behind it
  pub nobody_behind : 0 < g.rank g.last_front → (s.tags g.last_front).kind ≡ Kind.Queued → has_attached (phase_of (s.steps g.last_front)) ≡ false → (s.tags g.last_front).forw ≡ None
  nobody_behind p k h = no_link (s.tags g.last_front).forw (λ j e. let c = o.fronts.attached j p k e in grind (arith, c, h))

  pub last_value : (i : ℕ) → (s.tags i).forw ≡ None → phase_of (s.steps i) ≡ Phase.InQueue → kept_line (s.steps i) ≡ Some g.value
  last_value i f e =
      let kept : kept_of (s.steps i) ≡ None = sym (o.own.as_kept i (rw e refl)) ∙ f in
      copy_kept (s.steps i) e (o.mode.last_copy i e kept) ∙ ap (λ (l : Line). Some l) (o.mode.last_value i e kept)

  -- a writer that found HOME keeps the value
  pub writer_value : 0 < g.rank g.last_front → (s.tags g.last_front).kind ≡ Kind.Queued → (phase_of (s.steps g.last_front) ≡ Phase.Fetching) ⊎ (phase_of (s.steps g.last_front) ≡ Phase.InQueue) → kept_line (s.steps g.last_front) ≡ Some g.value
  writer_value p k c =
      let i = g.last_front in
      ⊎_elim
      (λ e. kept_value i (phase_keeps _ _ e refl) (o.values.lent_line i (rw e refl)))
      (λ e. last_value i (nobody_behind p k (rw e refl)) e)
      c

  enters_with_slot : (q : Phase) → (q ≡ Phase.Fetching) ⊎ (q ≡ Phase.InQueue) → has_slot q ≡ true
  enters_with_slot q c = ⊎_elim (λ e. rw e refl) (λ e. rw e refl) c

  keeper_copy : s.memory.state ≡ MemState.Gone → 0 < g.rank g.last_front → IsCopy s g.last_front g.value
  keeper_copy h p =
      let i = g.last_front in
      ⊎_elim (λ v. sharer_copy i (s.slots i) refl v)
      (λ b. ⊎_elim (λ k. let e = o.fronts.leaves p k in own_copy i _ e refl refl (o.values.leaving i e))
      (λ c. ⊎_elim (λ e. own_copy i _ e refl refl (o.values.copying i e))
      (λ d. ⊎_elim (λ e. own_copy i _ e refl refl (o.values.ready i e))
      (λ w. let m = enters_with_slot _ w.1 in inr (o.slots.in_hand i m, (i, inl (refl, m), writer_value p w.0 w.1))) d) c) b)
      (cases_dirty_front (phase_of (s.steps i)) (s.tags i).kind _ (o.mode.gone h))

  pub value_of_law : (fits : List ℕ → Type 0) → fits g.value.words → (nodes : List ℕ) → Stands g.rank nodes → HasOneValue fits s nodes g.value
  value_of_law fits f nodes r = record {
    value = record {
      memory = memory_copy s.memory_slot refl;
      keeper = λ h i l. let e = last_front_is s g o nodes r i l in rw e (keeper_copy h (rw (sym e) (r.inside i l.0)));
    };
    sharer = λ i. sharer_copy i (s.slots i) refl;
    leaving = λ i l k. let e = last_front_is s g o nodes r i l in leaving_value i (rw e (o.fronts.leaves (rw (sym e) (r.inside i l.0)) (rw (sym e) k)));
    fit = f;
  }
