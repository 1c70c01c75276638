-- What the memory word says of the chain.
use Rattle.std.proofs.Common.{◌≡◌, ◌⊎◌, ◌≢◌, ℕ, ◌<◌, true, false, Some, None, List, refl, sym, ap, inl, inr, ⊎_elim, ◌∙◌, arith}
use Rattle.sci_words.specs.declared.tags.Kind.{Kind}
use Rattle.sci_words.specs.declared.tags.Tag.{Tag}
use Rattle.sci_words.specs.declared.memory.MemState.{MemState}
use Rattle.sci_core.specs.declared.lines.Line.{Line}
use Rattle.sci_core.specs.declared.pending.Pending.{Pending}
use Rattle.sci_core.specs.State.{State}
use Rattle.sci_core.specs.Shape.{Phase, shape, phase_of, flag_of, has_copy, kept_line}
use Rattle.sci_core.specs.Law.{Law, Witness, suits, has_attached, has_dirty, is_dirty_front}
use Rattle.sci_core.specs.Mode.{is_dirty_step, is_turned, IsFreshList, IsDirtyFront, IsDirtyWaiting, IsGoneList, FitsMemoryWord}
use Rattle.sci_core.proofs.ReadBack.Ranked.{Stands}
use Rattle.sci_core.proofs.ReadBack.LastFront.{last_front_is, waiting_above}
use Rattle.sci_core.proofs.ReadBack.Value.{kept_value, copy_kept, nobody_behind, writer_value}

clean_step : (p : Pending) → (has_dirty (phase_of p) ≡ true → flag_of p ≡ false) → is_dirty_step p ≡ false
clean_step (Pending.Fetching f d l) h = h refl
clean_step (Pending.InQueue f d c) h = h refl
clean_step (Pending.Ready f d l) h = h refl
clean_step (Pending.Leaving d l q) h = h refl
clean_step (Pending.Promoted d l t) h = h refl
clean_step _ h = refl

not_turned : (p : Pending) → (has_dirty (phase_of p) ≡ true → flag_of p ≡ false) → is_turned p ≡ false
not_turned (Pending.Converting f t) h = h refl
not_turned _ h = refl

-- a writer that found HOME has nobody behind it, and keeps the value
abbrev pub HasNobodyBehind : Tag → Pending → Line → Type 0
HasNobodyBehind t p v = (t.forw ≡ None) × (kept_line p ≡ Some v)

writer : (t : Tag) (p : Pending) (v : Line) → t.kind ≡ Kind.Queued → is_dirty_step p ≡ true → HasNobodyBehind t p v → IsDirtyFront t p v
writer t p v k d a = inr (inr (inr (inr (inr (inr (k, d, a.0, a.1))))))

dirty_front : (t : Tag) (p : Pending) (v : Line) → suits (phase_of p) t.kind ≡ true → (t.kind ≡ Kind.Queued → (phase_of p ≡ Phase.Fetching) ⊎ (phase_of p ≡ Phase.InQueue) → HasNobodyBehind t p v) → is_dirty_front t.kind (phase_of p) (flag_of p) ≡ true → IsDirtyFront t p v
dirty_front t Pending.Idle v h a e = grind (arith, h, e)
dirty_front t (Pending.Holding w l) v h a e = grind (arith, h, e)
dirty_front t (Pending.Queueing f) v h a e = grind (arith, h, e)
dirty_front t (Pending.Fetching f d l) v h a e = let k : t.kind ≡ Kind.Queued = grind (arith, h) in writer t (Pending.Fetching f d l) v k (grind (arith, k, e)) (a k (inl refl))
dirty_front t (Pending.InQueue f d c) v h a e = let k : t.kind ≡ Kind.Queued = grind (arith, h) in writer t (Pending.InQueue f d c) v k (grind (arith, k, e)) (a k (inr refl))
dirty_front t (Pending.Copying f w l) v h a e = grind (arith, h, e)
dirty_front t (Pending.Ready f d l) v h a e = grind (arith, h, e)
dirty_front t (Pending.Converting f u) v h a e = grind (arith, h, e)
dirty_front t (Pending.Purging l q) v h a e = grind (arith, h, e)
dirty_front t (Pending.Advancing l x w) v h a e = grind (arith, h, e)
dirty_front t (Pending.Clearing l x w) v h a e = grind (arith, h, e)
dirty_front t (Pending.Leaving d l q) v h a e = grind (arith, h, e)
dirty_front t (Pending.Promoted d l u) v h a e = grind (arith, h, e)
dirty_front t (Pending.WritingBack l) v h a e = grind (arith, h, e)
dirty_front t (Pending.Parted f) v h a e = grind (arith, h, e)
dirty_front t (Pending.Rolling u q) v h a e = grind (arith, h, e)
dirty_front t (Pending.Unlinked f b) v h a e = grind (arith, h, e)

entering_without_link : (p : Phase) → (p ≡ Phase.Fetching) ⊎ (p ≡ Phase.InQueue) → has_attached p ≡ false
entering_without_link p c = ⊎_elim (λ e. rw e refl) (λ e. rw e refl) c

dirty_waiting : (p : Pending) → flag_of p ≡ true → (phase_of p ≢ Phase.Promoted → phase_of p ≡ Phase.InQueue) → (phase_of p ≡ Phase.InQueue → has_copy p ≡ false) → IsDirtyWaiting p
dirty_waiting (Pending.InQueue f d None) h q c = (h, refl)
dirty_waiting (Pending.InQueue f d (Some l)) h q c = absurd (let e = c refl in grind (arith, e))
dirty_waiting (Pending.Promoted d l t) h q c = h
dirty_waiting _ h q c = absurd (let e = q (λ n. grind (arith, n)) in grind (arith, e))

cases_queued : (p : Phase) (k : Kind) → suits p k ≡ true → k ≡ Kind.Queued → p ≢ Phase.Queueing → p ≢ Phase.Copying → (p ≡ Phase.Fetching) ⊎ (p ≡ Phase.InQueue) ⊎ (p ≡ Phase.Ready)
cases_queued p k h e m n = grind (arith, h, e, m, n)

module _ (s : State) (g : Witness) (o : Law (shape s) g) (nodes : List ℕ) (r : Stands g.rank nodes) where
  not_queueing : (i : ℕ) → 0 < g.rank i → phase_of (s.steps i) ≢ Phase.Queueing
  not_queueing i p e = let c = o.outside.outside i (rw e refl) in omega (arith, c, p)

  fetched : (i : ℕ) → s.memory.state ≡ MemState.Fresh → 0 < g.rank i → phase_of (s.steps i) ≡ Phase.Fetching → kept_line (s.steps i) ≡ Some g.value
  fetched i h p e = kept_value s g o i (rw e refl) (o.mode.has_value i h p (rw e refl))

  ready : (i : ℕ) → s.memory.state ≡ MemState.Fresh → 0 < g.rank i → phase_of (s.steps i) ≡ Phase.Ready → kept_line (s.steps i) ≡ Some g.value
  ready i h p e = kept_value s g o i (rw e refl) (o.mode.has_value i h p (rw e refl))

  promoted : (i : ℕ) → s.memory.state ≡ MemState.Fresh → 0 < g.rank i → phase_of (s.steps i) ≡ Phase.Promoted → kept_line (s.steps i) ≡ Some g.value
  promoted i h p e = kept_value s g o i (rw e refl) (o.mode.has_value i h p (rw e refl))

  in_queue : (i : ℕ) → s.memory.state ≡ MemState.Fresh → 0 < g.rank i → phase_of (s.steps i) ≡ Phase.InQueue → kept_line (s.steps i) ≡ Some g.value
  in_queue i h p e = copy_kept (s.steps i) e (o.mode.has_copy i h p e) ∙ ap (λ (l : Line). Some l) (o.mode.has_value i h p (rw e refl))

  queued : (i : ℕ) → s.memory.state ≡ MemState.Fresh → 0 < g.rank i → (s.tags i).kind ≡ Kind.Queued → kept_line (s.steps i) ≡ Some g.value
  queued i h p k = ⊎_elim (fetched i h p) (λ b. ⊎_elim (in_queue i h p) (ready i h p) b) (cases_queued (phase_of (s.steps i)) (s.tags i).kind (o.own.suited i) k (not_queueing i p) (o.mode.not_copying i h p))

  fresh_list : s.memory.state ≡ MemState.Fresh → IsFreshList s nodes g.value
  fresh_list h = record {
    not_dirty = λ i c. o.mode.not_dirty i h (r.inside i c);
    not_purging = λ i c. o.mode.not_purging i h (r.inside i c);
    not_copying = λ i c. o.mode.not_copying i h (r.inside i c);
    clean_steps = λ i c. clean_step (s.steps i) (o.mode.not_flagged i h (r.inside i c));
    not_turned = λ i c. not_turned (s.steps i) (o.mode.not_flagged i h (r.inside i c));
    queued = λ i c. queued i h (r.inside i c);
    promoted = λ i c. promoted i h (r.inside i c);
  }

  last_with_nobody_behind : 0 < g.rank g.last_front → (s.tags g.last_front).kind ≡ Kind.Queued → (phase_of (s.steps g.last_front) ≡ Phase.Fetching) ⊎ (phase_of (s.steps g.last_front) ≡ Phase.InQueue) → HasNobodyBehind (s.tags g.last_front) (s.steps g.last_front) g.value
  last_with_nobody_behind p k c = (nobody_behind s g o p k (entering_without_link _ c), writer_value s g o p k c)

  last_dirty : s.memory.state ≡ MemState.Gone → 0 < g.rank g.last_front → IsDirtyFront (s.tags g.last_front) (s.steps g.last_front) g.value
  last_dirty h p = dirty_front (s.tags g.last_front) (s.steps g.last_front) g.value (o.own.suited g.last_front) (last_with_nobody_behind p) (o.mode.gone h)

  gone_list : s.memory.state ≡ MemState.Gone → IsGoneList s nodes g.value
  gone_list h = record {
    last = λ i l. let e = last_front_is s g o nodes r i l in rw e (last_dirty h (rw (sym e) (r.inside i l.0)));
    waiting = λ i w. let a = waiting_above s g o nodes r i w in dirty_waiting (s.steps i) (o.mode.gone_flag i h a) (o.mode.gone_queue i h a) (o.mode.gone_copy i h a);
  }

  pub mode_of_law : FitsMemoryWord s nodes g.value
  mode_of_law = record { fresh = fresh_list; gone = gone_list }
