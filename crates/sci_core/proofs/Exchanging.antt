-- Who goes on moves, and who moves goes on.
use Rattle.std.proofs.Common.{◌≡◌, ◌≢◌, ◌⊎◌, ℕ, Bool, true, false, cond, ◌&&◌, ◌||◌, not, Option, Some, None, is_some, refl, sym, ap, subst, inl, inr, ⊎_elim, ◌∙◌, arith}
use Rattle.std.proofs.lemmas.Bool.Decides.{nat_tests}
use Rattle.std.proofs.lemmas.Bool.{cases_lt, cases_eq, cases_Bool}
use Rattle.sci_words.specs.declared.tags.Kind.{Kind}
use Rattle.sci_words.specs.declared.tags.Tag.{Tag}
use Rattle.sci_words.specs.declared.memory.Mem.{Mem}
use Rattle.sci_words.specs.declared.memory.MemState.{MemState}
use Rattle.sci_core.specs.declared.lines.Line.{Line}
use Rattle.sci_core.specs.declared.pending.Pending.{Pending}
use Rattle.sci_core.specs.declared.stages.Stage.{Stage}
use Rattle.sci_core.specs.declared.events.Event.{Event}
use Rattle.sci_core.specs.State.{State, word}
use Rattle.sci_core.specs.Shape.{Phase, shape, phase_of, flag_of}
use Rattle.sci_core.specs.Law.{Law, Witness, Below, is_dirty_front, suits, has_dirty, is_body}
use Rattle.sci_core.specs.Chain.{forward}
use Rattle.sci_core.specs.Found.{names, is_fresh, is_dirty, is_settled_body, is_rolling, is_found}
use Rattle.sci_core.specs.Row.{listed, purged_word}
use Rattle.sci_core.specs.Stage.{stage_of}
use Rattle.sci_core.specs.Step.{Finds, look_of, look_back}
use Rattle.sci_core.specs.Table.{has_row, row_of}
use Rattle.sci_core.specs.PendingStep.{IsOwnWord}
use Rattle.sci_core.specs.Facts.{KeptWordStands, LentWordStands}
use Rattle.sci_core.specs.Progress.{GivesWayRightly, MovesIn, Moves, tag_at, is_next, is_before, goes_in, goes}
use Rattle.sci_core.proofs.ReadBack.{path_of_law, facts_at}
use Rattle.sci_core.proofs.ReadBack.Ranked.{stands}
use Rattle.sci_core.proofs.ReadBack.PendingStep.{tag_is, not_held, steps_of_law}
use Rattle.sci_core.proofs.Sound.{memory_links}

mem_is : (m : Mem) (t : MemState) (l : Bool) (f : Option ℕ) → m.state ≡ t → m.lent ≡ l → m.forw ≡ f → m ≡ record { state = t; lent = l; forw = f }
mem_is m t l f a b c = rw (sym a) (rw (sym b) (rw (sym c) refl))

state_is : (m : MemState) (d : Bool) → (m ≡ MemState.Home → ⊥) → (m ≡ MemState.Fresh → d ≡ false) → (m ≡ MemState.Gone → d ≡ true) → m ≡ cond d MemState.Gone MemState.Fresh
state_is MemState.Home d h f g = absurd (h refl)
state_is MemState.Fresh d h f g = rw (f refl) refl
state_is MemState.Gone d h f g = rw (g refl) refl

names_this : (i : ℕ) (l : Option ℕ) → names i l ≡ true → l ≡ Some i
names_this i None e = absurd (cc)
names_this i (Some x) e = grind (arith, nat_tests)

names_other : (i : ℕ) (l : Option ℕ) → names i l ≡ false → l ≢ Some i
names_other i None e = λ h. absurd (cc)
names_other i (Some x) e = λ h. grind (arith, nat_tests)

names_not : (i : ℕ) (l : Option ℕ) → l ≢ Some i → names i l ≡ false
names_not i None e = refl
names_not i (Some x) e = grind (arith, nat_tests)

links_same : (a b : Option ℕ) → (a ≡ b) ⊎ (a ≢ b)
links_same None None = inl refl
links_same None (Some y) = inr (λ e. absurd (cc))
links_same (Some x) None = inr (λ e. absurd (cc))
links_same (Some x) (Some y) = ⊎_elim (λ e. inl (ap (λ (z : ℕ). Some z) e)) (λ n. inr (λ e. n (grind (arith, e)))) (cases_eq x y)

first_true : (a b : Bool) → (a && b) ≡ true → a ≡ true
first_true true b h = refl
first_true false b h = absurd (cc)

second_true : (a b : Bool) → (a && b) ≡ true → b ≡ true
second_true true b h = h
second_true false b h = absurd (cc)

not_true : (b : Bool) → not b ≡ true → b ≡ false
not_true true h = absurd (cc)
not_true false h = refl

left_too : (a b : Bool) → a ≡ true → (a || b) ≡ true
left_too true b h = refl
left_too false b h = absurd (cc)

right_too : (a b : Bool) → b ≡ true → (a || b) ≡ true
right_too true b h = refl
right_too false b h = h

right_true : (a b : Bool) → a ≡ false → (a || b) ≡ true → b ≡ true
right_true true b e h = absurd (cc)
right_true false b e h = h

-- the steps of a head that looks for its name in memory's word
abbrev is_heading : Phase → Bool
is_heading Phase.Converting = true
is_heading Phase.Leaving = true
is_heading Phase.Promoted = true
is_heading _ = false

heading_dirty : (p : Phase) → is_heading p ≡ true → has_dirty p ≡ true
heading_dirty p h = grind (arith, h)

heading_flag : (p : Phase) (k : Kind) (f : Bool) → is_heading p ≡ true → suits p k ≡ true → is_dirty_front k p f ≡ true → f ≡ true
heading_flag p k f h u e = grind (arith, h, u, e)

module _ (n : ℕ) (s : State) (g : Witness) (o : Law (shape s) g) (links : Below n (shape s)) where
  head_not_lent : (i : ℕ) → s.memory.forw ≡ Some i → is_heading (phase_of (s.steps i)) ≡ true → s.memory.lent ≡ false
  head_not_lent i h p =
      let c0 = o.slots.borrower_has in
      let c1 = o.slots.fetching g.borrower in
      let c2 = o.slots.writing g.borrower in
      let c3 = o.mode.home in
      let o : ℕ = 0 in
      grind (arith, c0, c1, c2, c3, h, p)

  head_flag : (i : ℕ) → s.memory.forw ≡ Some i → is_heading (phase_of (s.steps i)) ≡ true → s.memory.state ≡ MemState.Gone → flag_of (s.steps i) ≡ true
  head_flag i h p e =
      let q = o.order.head_in i h in
      let top = o.order.head_top i g.last_front h in
      ⊎_elim
      (λ l. o.mode.gone_flag i e l)
      (λ l. let same = o.order.apart i g.last_front q (omega (arith, top, l)) in heading_flag (phase_of (s.steps i)) (s.tags i).kind (flag_of (s.steps i)) p (o.own.suited i) (rw same (o.mode.gone e)))
      (cases_lt (g.rank g.last_front) (g.rank i))

  -- memory's word, where it names such a head
  head_word : (i : ℕ) (d : Bool) → s.memory.forw ≡ Some i → is_heading (phase_of (s.steps i)) ≡ true → flag_of (s.steps i) ≡ d → s.memory ≡ listed d i
  head_word i d h p f =
      mem_is s.memory (cond d MemState.Gone MemState.Fresh) false (Some i)
      (state_is s.memory.state d
      (λ e. let c = o.mode.home e in let o : ℕ = 0 in absurd (cc))
      (λ e. sym f ∙ o.mode.not_flagged i e (o.order.head_in i h) (heading_dirty (phase_of (s.steps i)) p))
      (λ e. sym f ∙ head_flag i h p e))
      (head_not_lent i h p)
      h

  -- node i in this step, where the step finds what it must
  make : (i : ℕ) (p : Pending) (e : Event) → has_row n i p e ≡ true → Finds s (row_of i p e).change → GivesWayRightly s.memory i p e → MovesIn n s i p
  make i p e a f w = record { event = e; allowed = a; finds = f; gives_way = w }

  converting : (i : ℕ) (f : Option ℕ) (b : Bool) → s.steps i ≡ Pending.Converting f false → s.tags i ≡ word Kind.Convert f None → names i s.memory.forw ≡ b → MovesIn n s i (Pending.Converting f false)
  converting i f true e w b = make i (Pending.Converting f false) Event.FreshToGone refl (head_word i false (names_this i s.memory.forw b) (ap (λ (p : Pending). is_heading (phase_of p)) e) (ap flag_of e)) tt
  converting i f false e w b = make i (Pending.Converting f false) Event.Unconverted refl w (names_other i s.memory.forw b)

  promoted : (i : ℕ) (d : Bool) (l : Line) (x : ℕ) (b : Bool) → s.steps i ≡ Pending.Promoted d l x → s.tags i ≡ word Kind.Leaving (Some x) None → names i s.memory.forw ≡ b → MovesIn n s i (Pending.Promoted d l x)
  promoted i d l x true e w b = make i (Pending.Promoted d l x) Event.PassOn refl (head_word i d (names_this i s.memory.forw b) (ap (λ (p : Pending). is_heading (phase_of p)) e) (ap flag_of e)) tt
  promoted i d l x false e w b = make i (Pending.Promoted d l x) Event.ReEnter refl w (names_other i s.memory.forw b)

  prepends : (i : ℕ) (f : Option ℕ) (t : MemState) → s.memory.forw ≡ f → s.memory.state ≡ t → s.memory.lent ≡ false → MovesIn n s i (Pending.Queueing f)
  prepends i None MemState.Home h t l = make i (Pending.Queueing None) Event.PrependValid refl (mem_is s.memory MemState.Home false None t l h) tt
  prepends i None MemState.Fresh h t l = absurd (let c = o.mode.not_home h in let o : ℕ = 0 in grind (arith, c, t))
  prepends i None MemState.Gone h t l = absurd (let c = o.mode.not_home h in let o : ℕ = 0 in grind (arith, c, t))
  prepends i (Some x) MemState.Home h t l = absurd (let c = o.mode.home t in let o : ℕ = 0 in cc)
  prepends i (Some x) MemState.Fresh h t l = make i (Pending.Queueing (Some x)) Event.PrependValid refl (mem_is s.memory MemState.Fresh false (Some x) t l h) tt
  prepends i (Some x) MemState.Gone h t l = make i (Pending.Queueing (Some x)) Event.PrependGone refl (mem_is s.memory MemState.Gone false (Some x) t l h) tt

  queueing : (i : ℕ) (f : Option ℕ) → s.tags i ≡ word Kind.Queued f None → s.memory.lent ≡ false → MovesIn n s i (Pending.Queueing f)
  queueing i f w l =
      ⊎_elim
      (λ e. prepends i f s.memory.state e refl l)
      (λ d. make i (Pending.Queueing f) (Event.Requeue s.memory.forw) (memory_links n s links) w (l, refl, λ e. d (sym e)))
      (links_same s.memory.forw f)

  in_queue : (i : ℕ) (f : Option ℕ) (d : Bool) (c : Option Line) → s.tags i ≡ word Kind.Queued f None → (f ≡ None → c ≢ None) → goes_in i s.memory (Stage.InQueue f d (is_some c)) (tag_at s f) None ≡ true → MovesIn n s i (Pending.InQueue f d c)
  in_queue i None d None w k h = absurd (k refl refl)
  in_queue i None d (Some l) w k h = make i (Pending.InQueue None d (Some l)) Event.Settle refl w tt
  in_queue i (Some x) true None w k h = make i (Pending.InQueue (Some x) true None) (Event.AttachDirty (s.tags x)) h refl tt
  in_queue i (Some x) true (Some l) w k h = absurd (cc)
  in_queue i (Some x) false None w k h = absurd (cc)
  in_queue i (Some x) false (Some l) w k h = make i (Pending.InQueue (Some x) false (Some l)) (Event.AttachFresh (s.tags x)) h refl tt

  purging : (i : ℕ) (l : Line) (f : Option ℕ) (b : Option Tag) → s.tags i ≡ word Kind.Purging f None → goes_in i s.memory (Stage.Purging (Some f)) (tag_at s f) b ≡ true → MovesIn n s i (Pending.Purging l (Some f))
  purging i l None b w h = make i (Pending.Purging l (Some None)) (Event.Written None) refl w tt
  purging i l (Some x) b w h =
      ⊎_elim
      (λ v. make i (Pending.Purging l (Some (Some x))) (Event.PurgeOne (s.tags x)) v refl tt)
      (λ v. make i (Pending.Purging l (Some (Some x))) (Event.Adopt (s.tags x)) (right_true (is_found is_settled_body (s.tags x)) (is_found is_rolling (s.tags x) && not (names i (s.tags x).back)) v h) refl tt)
      (cases_Bool (is_found is_settled_body (s.tags x)))

  returns : (i : ℕ) (d : Bool) (l : Line) → s.memory ≡ listed d i → MovesIn n s i (Pending.Leaving d l (Some None))
  returns i true l m = make i (Pending.Leaving true l (Some None)) Event.ReturnHomeDirty refl m tt
  returns i false l m = make i (Pending.Leaving false l (Some None)) Event.ReturnHomeFresh refl m tt

  leaving : (i : ℕ) (d b : Bool) (l : Line) (f : Option ℕ) (q : Option (Option ℕ)) → s.steps i ≡ Pending.Leaving d l q → s.tags i ≡ word Kind.Leaving f None → names i s.memory.forw ≡ b → goes_in i s.memory (Stage.Leaving d q) (tag_at s f) None ≡ true → MovesIn n s i (Pending.Leaving d l (Some f))
  leaving i d false l f q e w b h = make i (Pending.Leaving d l (Some f)) Event.Stay refl w (names_other i s.memory.forw b)
  leaving i d true l None q e w b h = returns i d l (head_word i d (names_this i s.memory.forw b) (ap (λ (p : Pending). is_heading (phase_of p)) e) (ap flag_of e))
  leaving i d true l (Some x) q e w b h = make i (Pending.Leaving d l (Some (Some x))) (Event.Promote (s.tags x)) (right_true (not (names i s.memory.forw)) (is_next i (s.tags x)) (ap not b) h) refl tt

  rolling : (i : ℕ) (u : Bool) (f : Option ℕ) (b : ℕ) (q : Option (Option ℕ × ℕ)) → goes_in i s.memory (Stage.Rolling u q) (tag_at s f) (Some (s.tags b)) ≡ true → MovesIn n s i (Pending.Rolling u (Some (f, b)))
  rolling i false (Some x) b q h = make i (Pending.Rolling false (Some (Some x, b))) (Event.TellSuccessor (s.tags x)) h refl tt
  rolling i false None b q h = make i (Pending.Rolling false (Some (None, b))) (Event.TellPredecessor (s.tags b)) h refl tt
  rolling i true f b q h = make i (Pending.Rolling true (Some (f, b))) (Event.TellPredecessor (s.tags b)) h refl tt

  rolling_as : (i : ℕ) (u : Bool) (f b : Option ℕ) (q : Option (Option ℕ × ℕ)) → (b ≢ None) → goes_in i s.memory (Stage.Rolling u q) (tag_at s f) (tag_at s b) ≡ true → MovesIn n s i (look_of (Pending.Rolling u q) record { kind = Kind.Roll; held = false; forw = f; back = b })
  rolling_as i u f None q c h = absurd (c refl)
  rolling_as i u f (Some b) q c h = rolling i u f b q h

  cleared : (v : ℕ) (w : Tag) → s.tags v ≡ w → w.kind ≡ Kind.Purged → s.tags v ≡ purged_word w
  cleared v w e k =
      let kind : (s.tags v).kind ≡ Kind.Purged = ap (λ (t : Tag). t.kind) e ∙ k in
      tag_is (s.tags v) Kind.Purged false w.forw w.back kind (not_held s g o v Kind.Purged kind refl) (ap (λ (t : Tag). t.forw) e) (ap (λ (t : Tag). t.back) e)

  -- who goes on in this step moves
  moving : (i : ℕ) (p : Pending) → s.steps i ≡ p → IsOwnWord p (s.tags i) → KeptWordStands s.tags i p → LentWordStands s.memory i p → goes_in i s.memory (stage_of p) (tag_at s (s.tags i).forw) (tag_at s (s.tags i).back) ≡ true → MovesIn n s i (look_of p (s.tags i))
  moving i Pending.Idle e w k m h = absurd (cc)
  moving i (Pending.Holding t l) e w k m h = make i (Pending.Holding t l) Event.Unhold refl w.0 tt
  moving i (Pending.Queueing f) e w k m h = queueing i f w (not_true s.memory.lent h)
  moving i (Pending.Fetching f d l) e w k m h = make i (Pending.Fetching f d l) Event.ReturnMemory refl m tt
  moving i (Pending.InQueue f d c) e w k m h = in_queue i f d c w.0 w.1 (subst (λ (t : Tag). goes_in i s.memory (Stage.InQueue f d (is_some c)) (tag_at s t.forw) (tag_at s t.back) ≡ true) w.0 h)
  moving i (Pending.Copying f t l) e w k m h = make i (Pending.Copying f t l) Event.ReturnCopy refl k.0 tt
  moving i (Pending.Ready f d l) e w k m h = make i (Pending.Ready f d l) Event.Settle refl w tt
  moving i (Pending.Converting f true) e w k m h = make i (Pending.Converting f true) Event.Converted refl w tt
  moving i (Pending.Converting f false) e w k m h = converting i f (names i s.memory.forw) e w refl
  moving i (Pending.Purging l q) e w k m h = purging i l (s.tags i).forw (tag_at s (s.tags i).back) w h
  moving i (Pending.Advancing l v t) e w k m h = make i (Pending.Advancing l v t) Event.Advance refl w tt
  moving i (Pending.Clearing l v t) e w k m h = make i (Pending.Clearing l v t) Event.Clear refl (cleared v t k.0 k.1) tt
  moving i (Pending.Leaving d l q) e w k m h = leaving i d (names i s.memory.forw) l (s.tags i).forw q e w refl (subst (λ (b : Option ℕ). goes_in i s.memory (Stage.Leaving d q) (tag_at s (s.tags i).forw) (tag_at s b) ≡ true) (ap (λ (t : Tag). t.back) w) h)
  moving i (Pending.Promoted d l x) e w k m h = promoted i d l x (names i s.memory.forw) e w refl
  moving i (Pending.WritingBack l) e w k m h = make i (Pending.WritingBack l) Event.ReturnMemory refl m tt
  moving i (Pending.Parted f) e w k m h = make i (Pending.Parted f) Event.Left refl w tt
  moving i (Pending.Rolling u q) e w k m h = rolling_as i u (s.tags i).forw (s.tags i).back q (o.own.body_back i (ap (λ (t : Tag). is_body t.kind) w)) h
  moving i (Pending.Unlinked f b) e w k m h = make i (Pending.Unlinked f b) Event.Rolled refl w tt

  own_word : (i : ℕ) → IsOwnWord (s.steps i) (s.tags i)
  own_word i = let c = path_of_law s g o in (steps_of_law s g o c.0 (stands s.memory.forw (forward s) g.rank o.order c.0 c.1)).own_word i

  pub moves_of : (i : ℕ) → goes s i ≡ true → Moves n s i
  moves_of i h =
      let c = path_of_law s g o in
      let facts = facts_at s g o c.0 c.1 in
      moving i (s.steps i) refl (own_word i) (facts.kept_word i) (facts.lent i) h

  -- a newcomer that moves finds memory's slot at home
  queueing_back : (i : ℕ) (f : Option ℕ) (e : Event) → has_row n i (Pending.Queueing f) e ≡ true → Finds s (row_of i (Pending.Queueing f) e).change → GivesWayRightly s.memory i (Pending.Queueing f) e → not s.memory.lent ≡ true
  queueing_back i f (Event.Requeue h) a d w = ap not w.0
  queueing_back i None Event.PrependValid a d w = ap (λ (m : Mem). not m.lent) d
  queueing_back i (Some x) Event.PrependValid a d w = ap (λ (m : Mem). not m.lent) d
  queueing_back i (Some x) Event.PrependGone a d w = ap (λ (m : Mem). not m.lent) d
  queueing_back i None Event.PrependGone a d w = absurd (cc)
  queueing_back i None Event.HomeWrite a d w = ap (λ (m : Mem). not m.lent) d
  queueing_back i (Some x) Event.HomeWrite a d w = absurd (cc)
  queueing_back i f _ a d w = absurd (grind (arith, a))

  in_queue_back : (i : ℕ) (f : Option ℕ) (d : Bool) (c : Option Line) (b : Option Tag) (e : Event) → has_row n i (Pending.InQueue f d c) e ≡ true → Finds s (row_of i (Pending.InQueue f d c) e).change → goes_in i s.memory (Stage.InQueue f d (is_some c)) (tag_at s f) b ≡ true
  in_queue_back i None d c b e a m = refl
  in_queue_back i (Some x) true None b (Event.AttachDirty t) a m = subst (λ (u : Tag). is_found is_dirty u ≡ true) (sym m) a
  in_queue_back i (Some x) false (Some l) b (Event.AttachFresh t) a m = subst (λ (u : Tag). is_found is_fresh u ≡ true) (sym m) a
  in_queue_back i (Some x) d c b _ a m = absurd (grind (arith, a))

  purging_back : (i : ℕ) (l : Line) (f : Option ℕ) (q : Option (Option ℕ)) (b : Option Tag) (e : Event) → has_row n i (Pending.Purging l (Some f)) e ≡ true → Finds s (row_of i (Pending.Purging l (Some f)) e).change → goes_in i s.memory (Stage.Purging q) (tag_at s f) b ≡ true
  purging_back i l None q b e a m = refl
  purging_back i l (Some x) q b (Event.PurgeOne t) a m = left_too (is_found is_settled_body (s.tags x)) (is_found is_rolling (s.tags x) && not (names i (s.tags x).back)) (subst (λ (u : Tag). is_found is_settled_body u ≡ true) (sym m) a)
  purging_back i l (Some x) q b (Event.Adopt t) a m = right_too (is_found is_settled_body (s.tags x)) (is_found is_rolling (s.tags x) && not (names i (s.tags x).back)) (subst (λ (u : Tag). (is_found is_rolling u && not (names i u.back)) ≡ true) (sym m) a)
  purging_back i l (Some x) q b _ a m = absurd (grind (arith, a))

  leaving_back : (i : ℕ) (d : Bool) (l : Line) (f : Option ℕ) (q : Option (Option ℕ)) (b : Option Tag) (e : Event) → has_row n i (Pending.Leaving d l (Some f)) e ≡ true → Finds s (row_of i (Pending.Leaving d l (Some f)) e).change → GivesWayRightly s.memory i (Pending.Leaving d l (Some f)) e → goes_in i s.memory (Stage.Leaving d q) (tag_at s f) b ≡ true
  leaving_back i d l None q b e a m w = refl
  leaving_back i d l (Some x) q b (Event.Promote t) a m w = right_too (not (names i s.memory.forw)) (is_next i (s.tags x)) (subst (λ (u : Tag). is_next i u ≡ true) (sym m) a)
  leaving_back i d l (Some x) q b Event.Stay a m w = left_too (not (names i s.memory.forw)) (is_next i (s.tags x)) (ap not (names_not i s.memory.forw w))
  leaving_back i d l (Some x) q b _ a m w = absurd (grind (arith, a))

  rolling_back : (i : ℕ) (u : Bool) (f : Option ℕ) (b : ℕ) (q : Option (Option ℕ × ℕ)) (e : Event) → has_row n i (Pending.Rolling u (Some (f, b))) e ≡ true → Finds s (row_of i (Pending.Rolling u (Some (f, b))) e).change → goes_in i s.memory (Stage.Rolling u q) (tag_at s f) (Some (s.tags b)) ≡ true
  rolling_back i false (Some x) b q (Event.TellSuccessor t) a m = subst (λ (v : Tag). is_next i v ≡ true) (sym m) a
  rolling_back i false None b q (Event.TellPredecessor t) a m = subst (λ (v : Tag). is_before i v ≡ true) (sym m) a
  rolling_back i true f b q (Event.TellPredecessor t) a m = subst (λ (v : Tag). is_before i v ≡ true) (sym m) a
  rolling_back i u f b q _ a m = absurd (grind (arith, a))

  rolling_back_as : (i : ℕ) (u : Bool) (f b : Option ℕ) (q : Option (Option ℕ × ℕ)) (e : Event) → (b ≢ None) → has_row n i (look_back u q f b) e ≡ true → Finds s (row_of i (look_back u q f b) e).change → goes_in i s.memory (Stage.Rolling u q) (tag_at s f) (tag_at s b) ≡ true
  rolling_back_as i u f None q e c a m = absurd (c refl)
  rolling_back_as i u f (Some b) q e c a m = rolling_back i u f b q e a m

  -- who isn't Idle and moves goes on
  going : (i : ℕ) (p : Pending) → IsOwnWord p (s.tags i) → (p ≢ Pending.Idle) → (e : Event) → has_row n i (look_of p (s.tags i)) e ≡ true → Finds s (row_of i (look_of p (s.tags i)) e).change → GivesWayRightly s.memory i (look_of p (s.tags i)) e → goes_in i s.memory (stage_of p) (tag_at s (s.tags i).forw) (tag_at s (s.tags i).back) ≡ true
  going i Pending.Idle v b e a m w = absurd (b refl)
  going i (Pending.Queueing f) v b e a m w = queueing_back i f e a m w
  going i (Pending.InQueue f d c) v b e a m w = subst (λ (t : Tag). goes_in i s.memory (Stage.InQueue f d (is_some c)) (tag_at s t.forw) (tag_at s t.back) ≡ true) (sym v.0) (in_queue_back i f d c None e a m)
  going i (Pending.Purging l q) v b e a m w = purging_back i l (s.tags i).forw q (tag_at s (s.tags i).back) e a m
  going i (Pending.Leaving d l q) v b e a m w = leaving_back i d l (s.tags i).forw q (tag_at s (s.tags i).back) e a m w
  going i (Pending.Rolling u q) v b e a m w = rolling_back_as i u (s.tags i).forw (s.tags i).back q e (o.own.body_back i (ap (λ (t : Tag). is_body t.kind) v)) a m
  going i (Pending.Holding t l) v b e a m w = refl
  going i (Pending.Fetching f d l) v b e a m w = refl
  going i (Pending.Copying f t l) v b e a m w = refl
  going i (Pending.Ready f d l) v b e a m w = refl
  going i (Pending.Converting f t) v b e a m w = refl
  going i (Pending.Advancing l x t) v b e a m w = refl
  going i (Pending.Clearing l x t) v b e a m w = refl
  going i (Pending.Promoted d l x) v b e a m w = refl
  going i (Pending.WritingBack l) v b e a m w = refl
  going i (Pending.Parted f) v b e a m w = refl
  going i (Pending.Unlinked f x) v b e a m w = refl

  pub goes_of : (i : ℕ) → (s.steps i ≢ Pending.Idle) → Moves n s i → goes s i ≡ true
  goes_of i b m = going i (s.steps i) (own_word i) b m.event m.allowed m.finds m.gives_way
