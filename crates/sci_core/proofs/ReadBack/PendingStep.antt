-- Each node's own word is what its pending step says.
use Rattle.std.proofs.Common.{◌≡◌, ◌≢◌, ℕ, Bool, true, false, Option, Some, None, List, refl, sym, ap, subst, ◌∙◌, arith}
use Rattle.sci_words.specs.declared.tags.Kind.{Kind}
use Rattle.sci_words.specs.declared.tags.Tag.{Tag}
use Rattle.sci_core.specs.declared.pending.Pending.{Pending}
use Rattle.sci_core.specs.State.{State, word}
use Rattle.sci_core.specs.Shape.{Phase, shape, phase_of, kept_of, word_of, seen_back_of, has_copy}
use Rattle.sci_core.specs.Law.{Law, Witness, suits, is_front, can_be_held, keeps_forw}
use Rattle.sci_core.specs.PendingStep.{IsOwnWord, IsInStep, is_at_rest}
use Rattle.sci_core.proofs.ReadBack.Ranked.{Stands}

pub tag_is : (t : Tag) (k : Kind) (h : Bool) (f b : Option ℕ) → t.kind ≡ k → t.held ≡ h → t.forw ≡ f → t.back ≡ b → t ≡ record { kind = k; held = h; forw = f; back = b }
tag_is t k h f b e0 e1 e2 e3 = rw (sym e0) (rw (sym e1) (rw (sym e2) (rw (sym e3) refl)))

idle_rests : (k : Kind) → suits Phase.Idle k ≡ true → is_at_rest k ≡ true
idle_rests k h = grind (arith, h)

holding_held : (k : Kind) → suits Phase.Holding k ≡ true → can_be_held k ≡ true
holding_held k h = grind (arith, h)

only_queued : (k : Kind) → suits Phase.Queueing k ≡ true → k ≡ Kind.Queued
only_queued k h = grind (arith, h)

only_convert : (k : Kind) → suits Phase.Converting k ≡ true → k ≡ Kind.Convert
only_convert k h = grind (arith, h)

pub only_purging : (k : Kind) → suits Phase.Purging k ≡ true → k ≡ Kind.Purging
only_purging k h = grind (arith, h)

only_leaving : (k : Kind) → suits Phase.Leaving k ≡ true → k ≡ Kind.Leaving
only_leaving k h = grind (arith, h)

only_roll : (k : Kind) → suits Phase.Rolling k ≡ true → k ≡ Kind.Roll
only_roll k h = grind (arith, h)

copy_is_some : (f : Option ℕ) (d : Bool) (c : Option _) → has_copy (Pending.InQueue f d c) ≡ true → c ≢ None
copy_is_some f d None h e = absurd (grind (arith, h))
copy_is_some f d (Some l) h e = grind (arith, e)

module _ (s : State) (g : Witness) (o : Law (shape s) g) where
  pub suits_in : (i : ℕ) (p : Pending) → s.steps i ≡ p → suits (phase_of p) (s.tags i).kind ≡ true
  suits_in i p e = subst (λ (q : Pending). suits (phase_of q) (s.tags i).kind ≡ true) e (o.own.suited i)

  forw_in : (i : ℕ) (p : Pending) → s.steps i ≡ p → keeps_forw (phase_of p) ≡ true → (s.tags i).forw ≡ kept_of p
  forw_in i p e = subst (λ (q : Pending). keeps_forw (phase_of q) ≡ true → (s.tags i).forw ≡ kept_of q) e (o.own.as_kept i)

  pub not_held : (i : ℕ) (k : Kind) → (s.tags i).kind ≡ k → can_be_held k ≡ false → (s.tags i).held ≡ false
  not_held i k e h = let c = o.own.can_hold i in let o : ℕ = 0 in grind (arith, c, e, h)

  word_is : (i : ℕ) (k : Kind) (f b : Option ℕ) → (s.tags i).kind ≡ k → can_be_held k ≡ false → (s.tags i).forw ≡ f → (s.tags i).back ≡ b → s.tags i ≡ word k f b
  word_is i k f b e h ef eb = tag_is (s.tags i) k false f b e (not_held i k e h) ef eb

  pub front_is : (i : ℕ) (k : Kind) (f : Option ℕ) → (s.tags i).kind ≡ k → is_front k ≡ true → can_be_held k ≡ false → (s.tags i).forw ≡ f → s.tags i ≡ word k f None
  front_is i k f e h n ef = word_is i k f None e n ef (o.own.front_back i (subst (λ (q : Kind). is_front q ≡ true) (sym e) h))

  own_word : (i : ℕ) (p : Pending) → s.steps i ≡ p → IsOwnWord p (s.tags i)
  own_word i Pending.Idle e = idle_rests (s.tags i).kind (suits_in i Pending.Idle e)
  own_word i (Pending.Holding w l) e =
      let p = ap phase_of e in
      let k : (s.tags i).kind ≡ w.kind = o.words.held_kind i p ∙ ap (λ q. (word_of q).kind) e in
      (tag_is (s.tags i) w.kind true w.forw w.back k (o.slots.holding i p) (o.words.held_forw i p ∙ ap (λ q. (word_of q).forw) e) (o.words.held_back i p ∙ ap (λ q. (word_of q).back) e), subst (λ (q : Kind). can_be_held q ≡ true) k (holding_held (s.tags i).kind (suits_in i (Pending.Holding w l) e)))
  own_word i (Pending.Queueing f) e = front_is i Kind.Queued f (only_queued _ (suits_in i _ e)) refl refl (forw_in i _ e refl)
  own_word i (Pending.Fetching f d l) e = front_is i Kind.Queued f (only_queued _ (suits_in i _ e)) refl refl (forw_in i _ e refl)
  own_word i (Pending.InQueue f d c) e = (front_is i Kind.Queued f (only_queued _ (suits_in i _ e)) refl refl (forw_in i _ e refl), λ n. copy_is_some f d c (sym (ap has_copy e) ∙ o.mode.last_copy i (ap phase_of e) (ap kept_of e ∙ n)))
  own_word i (Pending.Copying f w l) e = front_is i Kind.Queued (Some f) (only_queued _ (suits_in i _ e)) refl refl (forw_in i _ e refl)
  own_word i (Pending.Ready f d l) e = front_is i Kind.Queued f (only_queued _ (suits_in i _ e)) refl refl (forw_in i _ e refl)
  own_word i (Pending.Converting f t) e = front_is i Kind.Convert f (only_convert _ (suits_in i _ e)) refl refl (forw_in i _ e refl)
  own_word i (Pending.Purging l q) e = front_is i Kind.Purging (s.tags i).forw (only_purging _ (suits_in i _ e)) refl refl refl
  own_word i (Pending.Advancing l v w) e = front_is i Kind.Purging (Some v) (only_purging _ (suits_in i _ e)) refl refl (forw_in i _ e refl)
  own_word i (Pending.Clearing l v w) e = front_is i Kind.Purging (s.tags i).forw (only_purging _ (suits_in i _ e)) refl refl refl
  own_word i (Pending.Leaving d l q) e = front_is i Kind.Leaving (s.tags i).forw (only_leaving _ (suits_in i _ e)) refl refl refl
  own_word i (Pending.Promoted d l t) e = front_is i Kind.Leaving (Some t) (only_leaving _ (suits_in i _ e)) refl refl (forw_in i _ e refl)
  own_word i (Pending.WritingBack l) e = front_is i Kind.Leaving None (only_leaving _ (suits_in i _ e)) refl refl (forw_in i _ e refl)
  own_word i (Pending.Parted f) e = front_is i Kind.Leaving f (only_leaving _ (suits_in i _ e)) refl refl (forw_in i _ e refl)
  own_word i (Pending.Rolling t q) e = word_is i Kind.Roll (s.tags i).forw (s.tags i).back (only_roll _ (suits_in i _ e)) refl refl refl
  own_word i (Pending.Unlinked f b) e = word_is i Kind.Roll f (Some b) (only_roll _ (suits_in i _ e)) refl (forw_in i _ e refl) (o.own.back_kept i (ap phase_of e) ∙ ap seen_back_of e)

  pub steps_of_law : (nodes : List ℕ) → Stands g.rank nodes → IsInStep s nodes
  steps_of_law nodes r = record {
    own_word = λ i. own_word i (s.steps i) refl;
    outside = λ i h c. let a = o.outside.outside i h in let b = r.inside i c in omega (arith, a, b);
  }
