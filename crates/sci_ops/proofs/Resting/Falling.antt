-- Each exchange of a node that isn't Idle leads nearer to rest.
use Rattle.std.proofs.Common.{◌≡◌, ◌≢◌, ◌⊎◌, ◌<◌, ◌≤◌, ◌+◌, ◌*◌, ℕ, Bool, true, false, ◌||◌, not, cond, Option, Some, None, Ok, List, [], ◌∷◌, refl, sym, ap, subst, inl, inr, ⊎_elim, ◌∙◌, arith, eq-eqb}
use Rattle.std.proofs.lemmas.Bool.Decides.{nat_tests}
use Rattle.std.proofs.lemmas.Bool.{cases_eq, cases_Bool, false≢true}
use Rattle.std.proofs.lemmas.List.Elements.{All-contains, All-cons, All-nil}
use Rattle.std.proofs.lemmas.Nat.{mul-le}
use Rattle.sci_words.specs.declared.tags.Kind.{Kind}
use Rattle.sci_words.specs.declared.tags.Tag.{Tag}
use Rattle.sci_core.specs.declared.lines.Line.{Line}
use Rattle.sci_core.specs.declared.pending.Pending.{Pending}
use Rattle.sci_core.specs.declared.events.Event.{Event}
use Rattle.sci_core.specs.declared.outcomes.Outcome.{Outcome}
use Rattle.sci_core.specs.declared.rows.Change.{Change}
use Rattle.sci_core.specs.declared.rows.Exchange.{Exchange}
use Rattle.sci_core.specs.Answers.{Answers, row_at}
use Rattle.sci_core.specs.Costs.{measure, cost}
use Rattle.sci_core.specs.Found.{names, is_fresh, is_dirty, is_settled_body, is_rolling, is_found}
use Rattle.sci_core.specs.Law.{is_valid}
use Rattle.sci_core.specs.PendingStep.{IsOwnWord}
use Rattle.sci_core.specs.Row.{queued_word, exchange_with}
use Rattle.sci_core.specs.Run.{HasValue, KeepsLawful}
use Rattle.sci_core.specs.Sharers.{is_dirty_sharer}
use Rattle.sci_core.specs.State.{State, update, word}
use Rattle.sci_core.specs.Step.{Finds, stepped, looked, look_of, look_back, taken_line, tags_after, memory_after}
use Rattle.sci_core.specs.Table.{has_row, row_of}
use Rattle.sci_core.specs.Table.InQueue.{in_queue_allows, in_queue_row}
use Rattle.sci_core.specs.Table.Leaving.{leaving_allows, leaving_row}
use Rattle.sci_core.specs.Table.Purging.{purging_allows, purging_row}
use Rattle.sci_core.specs.Table.Queueing.{queueing_allows, queueing_row}
use Rattle.sci_core.specs.Table.Rolling.{rolling_allows, rolling_row}
use Rattle.sci_core.specs.Waiting.{is_purging}
use Rattle.sci_core.proofs.Costs.{trail_pays}
use Rattle.sci_core.proofs.Going.Facts.{and_left, and_right, not_true, or_cases, found, fresh_kind, dirty_kind, body_kind, rolling_kind}
use Rattle.sci_ops.specs.declared.answers.Turn.{Turn}
use Rattle.sci_ops.specs.Alone.{on_line, TakesTurn}
use Rattle.sci_ops.specs.Operation.{Operation}
use Rattle.sci_ops.specs.Plan.{Plan, own, mem, tag, exchange, ends, Takes}
use Rattle.sci_ops.specs.Rest.{read, due_turn, is_exchange}
use Rattle.sci_ops.specs.Ranking.{stirs, is_late, names_purger, is_loose, is_stale, is_stirring, ranking}
use Rattle.sci_ops.specs.Table.{is_same, turn_again}
use Rattle.sci_ops.proofs.Ending.Counting.{count_max, updated, not_updated}
use Rattle.sci_ops.proofs.Ending.Inverse.{of_own, of_mem, of_tag}
use Rattle.sci_ops.proofs.Ending.Rest.{next_in}
use Rattle.sci_ops.proofs.Resting.Finding.{own_at}
use Rattle.sci_ops.proofs.Resting.Ranking.{count_mono, count_drop, is_queueing, Calm, both_true, or_left, or_right, loose_elsewhere, loose_kept, late_kept, stale_kept, stirring_kept, settled_less, calmed_less, turned_less}
use Rattle.sci_ops.proofs.Resting.Reading.{same_link, Renews, reach, IsDue, Came, came, due_again, Done, done}

-- the actor stirs no more, or nobody becomes stale
abbrev Steadies : Pending → Pending → Change → Type 0
Steadies p q c = ((stirs p ≡ true) × (stirs q ≡ false)) ⊎ ((stirs q ≡ true → stirs p ≡ true) × (is_queueing q ≡ false) × Calm c)

-- a step that stays what it is
abbrev Again : Pending → Event → Type 0
Again (Pending.Queueing f) (Event.Requeue g) = Unit {0}
Again (Pending.Purging l (Some (Some x))) (Event.Adopt t) = Unit {0}
Again _ _ = ⊥

abbrev Effect : Pending → Event → Pending → Change → Type 0
Effect p e q c = (Steadies p q c × (cost e ≡ 0)) ⊎ Again p e

fresh_apart : (k : Kind) → k ≡ Kind.Fresh → k ≢ Kind.Purging
fresh_apart k e f = grind (arith, e, f)

dirty_apart : (k : Kind) → k ≡ Kind.Dirty → k ≢ Kind.Purging
dirty_apart k e f = grind (arith, e, f)

valid_apart : (k : Kind) → k ≡ Kind.Valid → k ≢ Kind.Purging
valid_apart k e f = grind (arith, e, f)

settled_apart : (d : Bool) → cond d Kind.Dirty Kind.Fresh ≢ Kind.Roll
settled_apart true e = cc
settled_apart false e = cc

queueing_effect : (n me : ℕ) (e : Event) (f : Option ℕ) (y : Line) → queueing_allows n f e ≡ true → Effect (Pending.Queueing f) e ((queueing_row me e f).after y) (queueing_row me e f).change
queueing_effect n me (Event.Requeue g) f y h = inr tt
queueing_effect n me Event.PrependValid f y h = inl (inl (refl, refl), refl)
queueing_effect n me Event.PrependGone (Some x) y h = inl (inl (refl, refl), refl)
queueing_effect n me Event.PrependGone None y h = absurd (false≢true h)
queueing_effect n me Event.HomeWrite None y h = inl (inl (refl, refl), refl)
queueing_effect n me Event.HomeWrite (Some x) y h = absurd (false≢true h)
queueing_effect n me _ f y h = absurd (false≢true h)

in_queue_effect : (me : ℕ) (e : Event) (f : Option ℕ) (d : Bool) (c : Option Line) (y : Line) → in_queue_allows e f d c ≡ true → Effect (Pending.InQueue f d c) e ((in_queue_row me e f d c).after y) (in_queue_row me e f d c).change
in_queue_effect me (Event.AttachFresh w) (Some x) false (Some l) y h = inl (inr ((λ a. a), refl, inr (fresh_apart w.kind (fresh_kind w.kind (found is_fresh w h).kind), λ z. cc)), refl)
in_queue_effect me (Event.AttachDirty w) (Some x) true None y h = inl (inr ((λ a. a), refl, inr (dirty_apart w.kind (dirty_kind w.kind (found is_dirty w h).kind), λ z. cc)), refl)
in_queue_effect me Event.Settle None d (Some l) y h = inl (inr ((λ a. a), refl, inr ((λ z. cc), settled_apart d)), refl)
in_queue_effect me _ f d c y h = absurd (false≢true h)

purging_effect : (me : ℕ) (l : Line) (e : Event) (seen : Option (Option ℕ)) (y : Line) → purging_allows me l e seen ≡ true → Effect (Pending.Purging l seen) e ((purging_row me l e seen).after y) (purging_row me l e seen).change
purging_effect me l (Event.Written words) seen y h = inl (inl (refl, refl), refl)
purging_effect me l (Event.PurgeOne w) (Some (Some x)) y h = inl (inr ((λ a. refl), refl, inr (valid_apart w.kind (body_kind w.kind (found is_settled_body w h).kind), λ z. cc)), refl)
purging_effect me l (Event.Adopt w) (Some (Some x)) y h = inr tt
purging_effect me l _ seen y h = absurd (false≢true h)

leaving_effect : (me : ℕ) (d : Bool) (l : Line) (e : Event) (seen : Option (Option ℕ)) (y : Line) → leaving_allows me d e seen ≡ true → Effect (Pending.Leaving d l seen) e ((leaving_row me d l e seen).after y) (leaving_row me d l e seen).change
leaving_effect me d l (Event.Promote w) (Some (Some x)) y h = inl (inr ((λ a. refl), refl, inr (valid_apart w.kind (body_kind w.kind (found is_settled_body w (and_left (is_found is_settled_body w) (names me w.back) h)).kind), settled_apart d)), refl)
leaving_effect me d l Event.Stay (Some f) y h = inl (inl (refl, refl), refl)
leaving_effect me d l Event.ReturnHomeFresh (Some None) y h = inl (inl (refl, refl), refl)
leaving_effect me d l Event.ReturnHomeDirty (Some None) y h = inl (inl (refl, refl), refl)
leaving_effect me d l _ seen y h = absurd (false≢true h)

rolling_effect : (me : ℕ) (told : Bool) (e : Event) (seen : Option (Option ℕ × ℕ)) (y : Line) → rolling_allows me told e seen ≡ true → Effect (Pending.Rolling told seen) e ((rolling_row e seen).after y) (rolling_row e seen).change
rolling_effect me false (Event.TellSuccessor w) (Some (Some x, b)) y h = inl (inr ((λ a. a), refl, inr (valid_apart w.kind (body_kind w.kind (found is_settled_body w (and_left (is_found is_settled_body w) (names me w.back) h)).kind), λ z. cc)), refl)
rolling_effect me false (Event.TellSuccessor w) (Some (None, b)) y h = absurd (false≢true h)
rolling_effect me true (Event.TellSuccessor w) (Some seen) y h = absurd (false≢true h)
rolling_effect me told (Event.TellPredecessor w) (Some (f, b)) y h = inl (inr ((λ a. a), refl, inl (refl, refl)), refl)
rolling_effect me told _ seen y h = absurd (false≢true h)

converting_effect : (n me : ℕ) (f : Option ℕ) (turned : Bool) (e : Event) (y : Line) → has_row n me (Pending.Converting f turned) e ≡ true → Effect (Pending.Converting f turned) e ((row_of me (Pending.Converting f turned) e).after y) (row_of me (Pending.Converting f turned) e).change
converting_effect n me f turned Event.FreshToGone y h = inl (inr ((λ a. refl), refl, refl), refl)
converting_effect n me f turned Event.Converted y h = inl (inr ((λ a. refl), refl, inr ((λ z. cc), λ z. cc)), refl)
converting_effect n me f turned Event.Unconverted y h = inl (inl (refl, refl), refl)
converting_effect n me f turned _ y h = absurd (false≢true h)

-- every row, but those of Idle
effect : (n me : ℕ) (p : Pending) (e : Event) (y : Line) → p ≢ Pending.Idle → has_row n me p e ≡ true → Effect p e ((row_of me p e).after y) (row_of me p e).change
effect n me Pending.Idle e y b h = absurd (b refl)
effect n me (Pending.Holding w l) Event.Unhold y b h = inl (inr ((λ a. a), refl, inl (refl, refl)), refl)
effect n me (Pending.Queueing f) e y b h = queueing_effect n me e f y h
effect n me (Pending.Fetching f d l) Event.ReturnMemory y b h = inl (inr ((λ a. a), refl, refl), refl)
effect n me (Pending.InQueue f d c) e y b h = in_queue_effect me e f d c y h
effect n me (Pending.Copying x w l) Event.ReturnCopy y b h = inl (inr ((λ a. a), refl, inl (refl, refl)), refl)
effect n me (Pending.Ready f d l) Event.Settle y b h = inl (inr ((λ a. a), refl, inr ((λ z. cc), settled_apart d)), refl)
effect n me (Pending.Converting f turned) e y b h = converting_effect n me f turned e y h
effect n me (Pending.Purging l seen) e y b h = purging_effect me l e seen y h
effect n me (Pending.Advancing l x w) Event.Advance y b h = inl (inr ((λ a. refl), refl, inl (refl, refl)), refl)
effect n me (Pending.Clearing l x w) Event.Clear y b h = inl (inr ((λ a. refl), refl, inr ((λ z. cc), λ z. cc)), refl)
effect n me (Pending.Leaving d l seen) e y b h = leaving_effect me d l e seen y h
effect n me (Pending.Promoted d l x) Event.PassOn y b h = inl (inl (refl, refl), refl)
effect n me (Pending.Promoted d l x) Event.ReEnter y b h = inl (inl (refl, refl), refl)
effect n me (Pending.WritingBack l) Event.ReturnMemory y b h = inl (inr ((λ a. a), refl, refl), refl)
effect n me (Pending.Parted f) Event.Left y b h = inl (inr ((λ a. a), refl, inr ((λ z. cc), λ z. cc)), refl)
effect n me (Pending.Rolling told seen) e y b h = rolling_effect me told e seen y h
effect n me (Pending.Unlinked f x) Event.Rolled y b h = inl (inr ((λ a. a), refl, inr ((λ z. cc), λ z. cc)), refl)
effect n me _ e y b h = absurd (false≢true h)

same_self : (a : Option ℕ) → is_same a a ≡ true
same_self None = refl
same_self (Some x) = eq-eqb x x refl

not_same : (a b : Option ℕ) → a ≢ b → is_same a b ≡ false
not_same a b d = ⊎_elim (λ e. absurd (d (same_link a b e))) (λ e. e) (cases_Bool (is_same a b))

roll_not_late : (head : Option ℕ) (p : Pending) (t : Tag) → IsOwnWord p t → t.kind ≡ Kind.Roll → is_late head p ≡ false
roll_not_late head (Pending.Queueing f) t w k = let q : t.kind ≡ Kind.Queued = ap (λ (x : Tag). x.kind) w in absurd (grind (arith, k, q))
roll_not_late head _ t w k = refl

purging_dirty : (k : Kind) → is_purging k ≡ true → is_dirty_sharer k ≡ true
purging_dirty Kind.Purging h = refl
purging_dirty _ h = absurd (false≢true h)

not_itself : (me b : ℕ) → names me (Some b) ≡ false → me ≡ b → ⊥
not_itself me b h e = grind (arith, nat_tests, h, e)

module _ (n : ℕ) (s : State) (me : ℕ) (below : me < n) where
  steady_falls : (p : Pending) (x : Exchange) → s.steps me ≡ p → Finds s x.change → Steadies p x.after x.change → 1 + measure n (stepped s me x) ≤ measure n s → ranking n (stepped s me x) < ranking n s
  steady_falls p x is finds h less =
      ⊎_elim
      (λ a. settled_less n _ _ _ _ _ _ less
      (count_drop (is_stirring s.steps) (is_stirring (update s.steps me x.after)) me n below (ap stirs is ∙ a.0) (ap stirs (updated s.steps me x.after) ∙ a.1) (λ i l. stirring_kept s.steps me x.after (λ z. ap stirs is ∙ a.0) i))
      (count_max (is_stale (memory_after s.memory x.change).forw (tags_after s.tags x.change) (update s.steps me x.after)) n))
      (λ a. calmed_less n _ _ _ _ _ _ less
      (count_mono (is_stirring s.steps) (is_stirring (update s.steps me x.after)) n (λ i l. stirring_kept s.steps me x.after (λ z. ap stirs is ∙ a.0 z) i))
      (count_mono (is_stale s.memory.forw s.tags s.steps) (is_stale (memory_after s.memory x.change).forw (tags_after s.tags x.change) (update s.steps me x.after)) n (λ i l. stale_kept s x.change me x.after finds a.2 a.1 i)))
      h

  -- a newcomer that notes the head is late no more
  requeue_late : (f g : Option ℕ) → g ≡ s.memory.forw → (i : ℕ) → is_late s.memory.forw (update s.steps me (Pending.Queueing g) i) ≡ true → is_late s.memory.forw (s.steps i) ≡ true
  requeue_late f g e i h =
      ⊎_elim
      (λ q.
      let at : update s.steps me (Pending.Queueing g) i ≡ Pending.Queueing g = ap (update s.steps me (Pending.Queueing g)) q ∙ updated s.steps me (Pending.Queueing g) in
      let is : is_late s.memory.forw (update s.steps me (Pending.Queueing g) i) ≡ false = ap (is_late s.memory.forw) at ∙ ap (λ (a : Option ℕ). not (is_same a s.memory.forw)) e ∙ ap not (same_self s.memory.forw) in
      absurd (false≢true (sym is ∙ h)))
      (λ d. ap (is_late s.memory.forw) (sym (not_updated s.steps me (Pending.Queueing g) i d)) ∙ h)
      (cases_eq i me)

  requeue_falls : (f g : Option ℕ) (y : Line) → s.steps me ≡ Pending.Queueing f → s.tags me ≡ queued_word f → g ≡ s.memory.forw → f ≢ s.memory.forw
      → measure n (stepped s me (exchange_with y (queueing_row me (Event.Requeue g) f))) ≤ measure n s → ranking n (stepped s me (exchange_with y (queueing_row me (Event.Requeue g) f))) < ranking n s
  requeue_falls f g y is word_is e d less =
      let head = s.memory.forw in
      let tags : ℕ → Tag = update s.tags me (queued_word g) in
      let steps : ℕ → Pending = update s.steps me (Pending.Queueing g) in
      let was : is_stale head s.tags s.steps me ≡ true = or_left (is_late head (s.steps me)) (is_loose s.tags (s.tags me)) (ap (is_late head) is ∙ ap not (not_same f head d)) in
      let is_not : is_stale head tags steps me ≡ false =
      ap (λ (b : Bool). b || is_loose tags (tags me)) (ap (is_late head) (updated s.steps me (Pending.Queueing g)) ∙ ap (λ (a : Option ℕ). not (is_same a head)) e ∙ ap not (same_self head))
      ∙ ap (is_loose tags) (updated s.tags me (queued_word g)) in
      let kept : (i : ℕ) → i < n → is_stale head tags steps i ≡ true → is_stale head s.tags s.steps i ≡ true =
      λ i l h. ⊎_elim
      (λ a. or_left (is_late head (s.steps i)) (is_loose s.tags (s.tags i)) (requeue_late f g e i a))
      (λ a. or_right (is_late head (s.steps i)) (is_loose s.tags (s.tags i)) (loose_kept s (Change.OfTag me (queued_word f) (queued_word g)) word_is (inl (refl, refl)) i a))
      (or_cases (is_late head (steps i)) (is_loose tags (tags i)) h) in
      turned_less n _ _ _ _ _ _ less
      (count_mono (is_stirring s.steps) (is_stirring steps) n (λ i l. stirring_kept s.steps me (Pending.Queueing g) (λ z. ap stirs is) i))
      (count_drop (is_stale head s.tags s.steps) (is_stale head tags steps) me n below was is_not kept)

  module _ (fits : List ℕ → Type 0) (v : Line) (o : HasValue n fits s v) (l : Line) (x : ℕ) (w : Tag) (is : s.steps me ≡ Pending.Purging l (Some (Some x))) (next : (s.tags me).forw ≡ Some x) (there : s.tags x ≡ w) (rolls : is_rolling w.kind ≡ true) (other : names me w.back ≡ false) where
    purger : (s.tags me).kind ≡ Kind.Purging
    purger = ap (λ (t : Tag). t.kind) (own_at n fits s v o me (Pending.Purging l (Some (Some x))) is)

    roll : (s.tags x).kind ≡ Kind.Roll
    roll = ap (λ (t : Tag). t.kind) there ∙ rolling_kind w.kind rolls

    kinds_apart : (a b : Kind) → a ≡ Kind.Purging → b ≡ Kind.Roll → a ≡ b → ⊥
    kinds_apart a b h k e = grind (arith, h, k, e)

    apart : x ≢ me
    apart e = kinds_apart (s.tags me).kind (s.tags x).kind purger roll (ap (λ (i : ℕ). (s.tags i).kind) (sym e))

    inside : x < n
    inside = All-contains (λ i. i < n) o.chain x o.lawful.chain.below (next_in n fits s v o me x (o.coherent.reached me (ap is_valid purger)) next)

    -- no other node is purging
    no_purger : (b : Option ℕ) → names me b ≡ false → names_purger s.tags b ≡ false
    no_purger None h = refl
    no_purger (Some b) h =
        ⊎_elim
        (λ e. absurd (not_itself me b h (o.coherent.one_dirty me b (ap is_dirty_sharer purger) (purging_dirty (s.tags b).kind e))))
        (λ e. e)
        (cases_Bool (is_purging (s.tags b).kind))

    abbrev adopted : Tag
    adopted = word Kind.Roll w.forw (Some me)

    abbrev after : ℕ → Tag
    after = update s.tags x adopted

    abbrev steps : ℕ → Pending
    steps = update s.steps me (Pending.Purging l (Some (Some x)))

    was : is_stale s.memory.forw s.tags s.steps x ≡ true
    was = or_right (is_late s.memory.forw (s.steps x)) (is_loose s.tags (s.tags x)) (both_true (is_rolling (s.tags x).kind) (not (names_purger s.tags (s.tags x).back)) (ap is_rolling roll) (ap not (ap (λ (t : Tag). names_purger s.tags t.back) there ∙ no_purger w.back other)))

    adopted_not_loose : is_loose after (after x) ≡ false
    adopted_not_loose =
        ap (is_loose after) (updated s.tags x adopted)
        ∙ ap not (ap (λ (t : Tag). is_purging t.kind) (not_updated s.tags x adopted me (λ e. apart (sym e))) ∙ ap is_purging purger)

    is_not : is_stale s.memory.forw after steps x ≡ false
    is_not =
        let late : is_late s.memory.forw (steps x) ≡ false = ap (is_late s.memory.forw) (not_updated s.steps me (Pending.Purging l (Some (Some x))) x apart) ∙ roll_not_late s.memory.forw (s.steps x) (s.tags x) (o.lawful.steps.own_word x) roll in
        ap (λ (b : Bool). b || is_loose after (after x)) late ∙ adopted_not_loose

    kept : (i : ℕ) → i < n → is_stale s.memory.forw after steps i ≡ true → is_stale s.memory.forw s.tags s.steps i ≡ true
    kept i k h =
        ⊎_elim
        (λ e. subst (λ (j : ℕ). is_stale s.memory.forw s.tags s.steps j ≡ true) (sym e) was)
        (λ d. ⊎_elim
        (λ a. or_left (is_late s.memory.forw (s.steps i)) (is_loose s.tags (s.tags i)) (late_kept s.memory.forw s.memory.forw s.steps me (Pending.Purging l (Some (Some x))) refl refl i a))
        (λ a. or_right (is_late s.memory.forw (s.steps i)) (is_loose s.tags (s.tags i)) (loose_elsewhere s.tags x w adopted there (inl (sym (rolling_kind w.kind rolls))) i d a))
        (or_cases (is_late s.memory.forw (steps i)) (is_loose after (after i)) h))
        (cases_eq i x)

    adopt_falls : (y : Line) → measure n (stepped s me (exchange_with y (purging_row me l (Event.Adopt w) (Some (Some x))))) ≤ measure n s → ranking n (stepped s me (exchange_with y (purging_row me l (Event.Adopt w) (Some (Some x))))) < ranking n s
    adopt_falls y less =
        turned_less n _ _ _ _ _ _ less
        (count_mono (is_stirring s.steps) (is_stirring steps) n (λ i k. stirring_kept s.steps me (Pending.Purging l (Some (Some x))) (λ z. ap stirs is) i))
        (count_drop (is_stale s.memory.forw s.tags s.steps) (is_stale s.memory.forw after steps) x n inside was is_not kept)

stirs_look_back : (told : Bool) (seen : Option (Option ℕ × ℕ)) (f b : Option ℕ) → stirs (look_back told seen f b) ≡ false
stirs_look_back told seen f (Some b) = refl
stirs_look_back told seen f None = refl

stirs_look : (p : Pending) (t : Tag) → stirs (look_of p t) ≡ stirs p
stirs_look (Pending.Rolling told seen) t = stirs_look_back told seen t.forw t.back
stirs_look (Pending.Purging l seen) t = refl
stirs_look (Pending.Leaving d l seen) t = refl
stirs_look _ t = refl

late_look_back : (head : Option ℕ) (told : Bool) (seen : Option (Option ℕ × ℕ)) (f b : Option ℕ) → is_late head (look_back told seen f b) ≡ false
late_look_back head told seen f (Some b) = refl
late_look_back head told seen f None = refl

late_look : (head : Option ℕ) (p : Pending) (t : Tag) → is_late head (look_of p t) ≡ is_late head p
late_look head (Pending.Rolling told seen) t = late_look_back head told seen t.forw t.back
late_look head (Pending.Purging l seen) t = refl
late_look head (Pending.Leaving d l seen) t = refl
late_look head _ t = refl

busy_look_back : (told : Bool) (seen : Option (Option ℕ × ℕ)) (f b : Option ℕ) → look_back told seen f b ≢ Pending.Idle
busy_look_back told seen f (Some b) e = cc
busy_look_back told seen f None e = cc

busy_look : (p : Pending) (t : Tag) → p ≢ Pending.Idle → look_of p t ≢ Pending.Idle
busy_look (Pending.Rolling told seen) t h e = busy_look_back told seen t.forw t.back e
busy_look (Pending.Purging l seen) t h e = cc
busy_look (Pending.Leaving d l seen) t h e = cc
busy_look _ t h e = h e

next_link : (x : ℕ) (f : Option ℕ) → ◌≡◌ {A = Option (Option ℕ)} (Some (Some x)) (Some f) → f ≡ Some x
next_link x f e = cc

found_kind : (t : Tag) → is_found is_rolling t ≡ true → is_rolling t.kind ≡ true
found_kind t q = (found is_rolling t q).kind

no_less : (n m k a b c d : ℕ) → m ≤ k → a ≤ b → c ≤ d → m + n * a + c ≤ k + n * b + d
no_less n m k a b c d h l stale =
    let more : n * a ≤ n * b = mul-le n a n b (omega arith) l in
    omega (arith, h, more, stale)

module _ (n : ℕ) (fits : List ℕ → Type 0) (me : ℕ) (below : me < n) where
  -- an event that is done is paid
  event_pays : (e : Event) (answer : Option Line) (s t : State) → Answers n s me e (Ok (Outcome.Done answer)) t → KeepsLawful n fits s me e (Ok (Outcome.Done answer)) t → 1 + measure n t ≤ measure n s + cost e
  event_pays e answer s t a k =
      let paid : 1 + measure n t ≤ measure n s + (cost e + 0) = trail_pays n fits s t k.value k.next ((me, e) ∷ []) 1 k.before (All-cons (λ (x : ℕ × Event). x.0 < n) (me, e) [] below (All-nil (λ (x : ℕ × Event). x.0 < n))) (Outcome.Done answer, 0, t, k.next, refl, a, k.after, k.change, (refl, refl, refl)) in
      omega (arith, paid)

  -- a look leads no farther from rest
  look_ranks : (s : State) → KeepsLawful n fits s me Event.Look (Ok (Outcome.Done None)) (looked s me) → ranking n (looked s me) ≤ ranking n s
  look_ranks s k =
      let p = look_of (s.steps me) (s.tags me) in
      let paid : 1 + measure n (looked s me) ≤ measure n s + 1 = event_pays Event.Look None s (looked s me) (refl, refl) k in
      let kept : (i : ℕ) → i < n → is_stale s.memory.forw s.tags (update s.steps me p) i ≡ true → is_stale s.memory.forw s.tags s.steps i ≡ true =
      λ i l h. subst (λ (b : Bool). (b || is_loose s.tags (s.tags i)) ≡ true)
      (⊎_elim
      (λ q. ap (λ (j : ℕ). is_late s.memory.forw (update s.steps me p j)) q ∙ ap (is_late s.memory.forw) (updated s.steps me p) ∙ late_look s.memory.forw (s.steps me) (s.tags me) ∙ ap (λ (j : ℕ). is_late s.memory.forw (s.steps j)) (sym q))
      (λ d. ap (is_late s.memory.forw) (not_updated s.steps me p i d))
      (cases_eq i me))
      h in
      no_less n _ _ _ _ _ _ (omega (arith, paid))
      (count_mono (is_stirring s.steps) (is_stirring (update s.steps me p)) n (λ i l. stirring_kept s.steps me p (λ z. sym (stirs_look (s.steps me) (s.tags me)) ∙ z) i))
      (count_mono (is_stale s.memory.forw s.tags s.steps) (is_stale s.memory.forw s.tags (update s.steps me p)) n kept)

  reach_ranks : (plan : Plan) (s : State) (r : Turn) (t : State) → Takes (on_line n fits me) plan s r t → ranking n (reach n fits me s plan) ≤ ranking n s
  reach_ranks (own next) s r t h =
      let look = of_own n fits me h in
      let first = look_ranks s look.lawful in
      let rest = reach_ranks (next (s.tags me)) (looked s me) r t look.rest in
      omega (arith, first, rest)
  reach_ranks (mem next) s r t h = reach_ranks (next s.memory) s r t (of_mem n fits me h)
  reach_ranks (tag x next) s r t h = reach_ranks (next (s.tags x)) s r t (of_tag n fits me h)
  reach_ranks (exchange e end) s r t h = omega arith
  reach_ranks (ends turn) s r t h = omega arith

  reach_busy : (plan : Plan) (s : State) → s.steps me ≢ Pending.Idle → (reach n fits me s plan).steps me ≢ Pending.Idle
  reach_busy (own next) s h = reach_busy (next (s.tags me)) (looked s me) (λ e. busy_look (s.steps me) (s.tags me) h (sym (updated s.steps me (look_of (s.steps me) (s.tags me))) ∙ e))
  reach_busy (mem next) s h = reach_busy (next s.memory) s h
  reach_busy (tag x next) s h = reach_busy (next (s.tags x)) s h
  reach_busy (exchange e end) s h = h
  reach_busy (ends turn) s h = h

  -- the two exchanges after which the actor is where it was
  again_falls : (u : State) (v : Line) (p : Pending) (e : Event) (y : Line) → HasValue n fits u v → u.steps me ≡ p → Again p e → has_row n me p e ≡ true → Finds u (row_of me p e).change → Renews u.memory.forw (u.tags me).forw p e
      → 1 + measure n (stepped u me (exchange_with y (row_of me p e))) ≤ measure n u + cost e → ranking n (stepped u me (exchange_with y (row_of me p e))) < ranking n u
  again_falls u v (Pending.Queueing f) (Event.Requeue g) y o is a h finds more paid =
      let free : 1 + measure n (stepped u me (exchange_with y (queueing_row me (Event.Requeue g) f))) ≤ measure n u + 1 = paid in
      requeue_falls n u me below f g y is finds more.0 more.1 (omega (arith, free))
  again_falls u v (Pending.Purging l (Some (Some x))) (Event.Adopt w) y o is a h finds more paid =
      let free : 1 + measure n (stepped u me (exchange_with y (purging_row me l (Event.Adopt w) (Some (Some x))))) ≤ measure n u + 1 = paid in
      adopt_falls n u me below fits v o l x w is (next_link x (u.tags me).forw more) finds
      (found_kind w (and_left (is_found is_rolling w) (not (names me w.back)) h))
      (not_true (names me w.back) (and_right (is_found is_rolling w) (not (names me w.back)) h))
      y (omega (arith, free))
  again_falls u v _ e y o is a h finds more paid = absurd a

  exchange_falls : (e : Event) (y : Line) (u : State) (v : Line) → HasValue n fits u v → u.steps me ≢ Pending.Idle → has_row n me (u.steps me) e ≡ true → Finds u (row_at u me e).change → Renews u.memory.forw (u.tags me).forw (u.steps me) e
      → 1 + measure n (stepped u me (exchange_with y (row_at u me e))) ≤ measure n u + cost e → ranking n (stepped u me (exchange_with y (row_at u me e))) < ranking n u
  exchange_falls e y u v o busy h finds more paid =
      ⊎_elim
      (λ a. steady_falls n u me below (u.steps me) (exchange_with y (row_at u me e)) refl finds a.0 (let free : cost e ≡ 0 = a.1 in omega (arith, paid, free)))
      (λ a. again_falls u v (u.steps me) e y o refl a h finds more paid)
      (effect n me (u.steps me) e y busy h)

  came_falls : (plan : Plan) (u : State) (r : Turn) (t : State) → u.steps me ≢ Pending.Idle → is_exchange plan ≡ true → IsDue n fits me plan u → Came n fits me plan u r t → ranking n t < ranking n u
  came_falls (exchange e end) u r t busy x due h =
      let d : Done n fits me e end u r t = done n fits me e end u r t due h in
      let y : Line = taken_line u (row_at u me e).carry in
      let paid : 1 + measure n t ≤ measure n u + cost e = event_pays e d.answer u t d.answers d.keeps in
      subst (λ (w : State). ranking n w < ranking n u) (sym d.makes.next)
      (exchange_falls e y u d.keeps.value d.keeps.before busy d.makes.allowed d.makes.finds due.1 (subst (λ (w : State). 1 + measure n w ≤ measure n u + cost e) d.makes.next paid))
  came_falls (own next) u r t busy x due h = absurd h
  came_falls (mem next) u r t busy x due h = absurd h
  came_falls (tag y next) u r t busy x due h = absurd h
  came_falls (ends turn) u r t busy x due h = absurd (false≢true x)

  -- a turn of a node that isn't Idle leads nearer to rest, if it makes its exchange
  pub turn_falls : (op : Operation) (s : State) (r : Turn) (t : State) → s.steps me ≢ Pending.Idle → TakesTurn n fits me op s r t → is_exchange (due_turn op me s) ≡ true → ranking n t < ranking n s
  turn_falls op s r t busy h goes =
      let plan : Plan = turn_again op.goal op.answer me (s.steps me) in
      let u : State = reach n fits me s plan in
      let near : ranking n u ≤ ranking n s = reach_ranks plan s r t h in
      let falls : ranking n t < ranking n u = came_falls (read s.memory s.tags me plan) u r t (reach_busy plan s busy) goes (due_again n fits me op.goal op.answer s) (came n fits me plan s r t h) in
      omega (arith, near, falls)

  came_stays : (plan : Plan) (u : State) (r : Turn) (t : State) → is_exchange plan ≡ false → Came n fits me plan u r t → ranking n t ≤ ranking n u
  came_stays (exchange e end) u r t x h = absurd (false≢true (sym x))
  came_stays (own next) u r t x h = absurd h
  came_stays (mem next) u r t x h = absurd h
  came_stays (tag y next) u r t x h = absurd h
  came_stays (ends turn) u r t x h = subst (λ (w : State). ranking n w ≤ ranking n u) (sym h.1) (omega arith)

  -- and leads no farther from it otherwise
  pub turn_ranks : (op : Operation) (s : State) (r : Turn) (t : State) → s.steps me ≢ Pending.Idle → TakesTurn n fits me op s r t → ranking n t ≤ ranking n s
  turn_ranks op s r t busy h =
      ⊎_elim
      (λ x. let falls : ranking n t < ranking n s = turn_falls op s r t busy h x in omega (arith, falls))
      (λ x.
      let plan : Plan = turn_again op.goal op.answer me (s.steps me) in
      let u : State = reach n fits me s plan in
      let near : ranking n u ≤ ranking n s = reach_ranks plan s r t h in
      let stays : ranking n t ≤ ranking n u = came_stays (read s.memory s.tags me plan) u r t x (came n fits me plan s r t h) in
      omega (arith, near, stays))
      (cases_Bool (is_exchange (due_turn op me s)))
