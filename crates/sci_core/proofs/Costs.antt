-- A run makes no more exchanges than what its events cost and what was left to do.
use Rattle.std.proofs.Common.{◌≡◌, ◌⊎◌, ℕ, ◌+◌, ◌<◌, ◌≤◌, zero, suc, Bool, true, false, cond, Option, Some, None, Result, Ok, Err, List, [], ◌∷◌, All, take, refl, sym, ap, subst, inl, inr, ⊎_elim, arith}
use Rattle.std.proofs.lemmas.Bool.Decides.{nat_tests}
use Rattle.std.proofs.lemmas.Bool.{cases_eq, cases_lt, false≢true}
use Rattle.std.proofs.lemmas.List.Elements.{All-contains, All-head, All-tail, All-take}
use Rattle.sci_words.specs.declared.tags.Kind.{Kind}
use Rattle.sci_words.specs.declared.tags.Tag.{Tag}
use Rattle.sci_core.specs.declared.lines.Line.{Line}
use Rattle.sci_core.specs.declared.pending.Pending.{Pending}
use Rattle.sci_core.specs.declared.events.Event.{Event}
use Rattle.sci_core.specs.declared.outcomes.Outcome.{Outcome}
use Rattle.sci_core.specs.declared.rows.Change.{Change}
use Rattle.sci_core.specs.State.{State, update, opened, invalid}
use Rattle.sci_core.specs.Law.{is_valid}
use Rattle.sci_core.specs.Found.{is_fresh, is_dirty, is_settled_front, is_settled_body, is_found, names}
use Rattle.sci_core.specs.Table.{has_row, row_of}
use Rattle.sci_core.specs.Table.Idle.{idle_allows, idle_row}
use Rattle.sci_core.specs.Table.Queueing.{queueing_allows, queueing_row}
use Rattle.sci_core.specs.Table.InQueue.{in_queue_allows, in_queue_row}
use Rattle.sci_core.specs.Table.Converting.{converting_allows, converting_row}
use Rattle.sci_core.specs.Table.Purging.{purging_allows, purging_row}
use Rattle.sci_core.specs.Table.Leaving.{leaving_allows, leaving_row}
use Rattle.sci_core.specs.Table.Rolling.{rolling_allows, rolling_row}
use Rattle.sci_core.specs.Step.{Finds, tags_after, taken_line, looked, look_of, look_back}
use Rattle.sci_core.specs.Answers.{Answers, Makes, IsDone, row_at}
use Rattle.sci_core.specs.Run.{HasValue, Trail, RunsTo, done_in}
use Rattle.sci_core.specs.Costs.{of_kind, of_step, of_tag, total, measure, cost, costs, IsPaid}
use Rattle.sci_core.proofs.Answered.{update_same}
use Rattle.sci_core.proofs.Going.Facts.{and_left, found, fresh_kind, dirty_kind, body_kind}

update_other : {A : Type 0} (f : ℕ → A) (i j : ℕ) (x : A) → (j ≡ i → ⊥) → update f i x j ≡ f j
update_other f i j x h = grind (arith, nat_tests, h)

-- a sum after one more value was put in
total_beyond : {A : Type 0} (c : A → ℕ) (f : ℕ → A) (i : ℕ) (x : A) (n : ℕ) → n ≤ i → total c (update f i x) n ≡ total c f n
total_beyond c f i x zero h = refl
total_beyond c f i x (suc n) h =
    let e : c (update f i x n) ≡ c (f n) = ap c (update_other f i n x (λ q. omega (arith, q, h))) in
    let r : total c (update f i x) n ≡ total c f n = total_beyond c f i x n (omega (arith, h)) in
    omega (arith, e, r)

total_update : {A : Type 0} (c : A → ℕ) (f : ℕ → A) (i : ℕ) (x : A) (n : ℕ) → i < n → total c (update f i x) n + c (f i) ≡ total c f n + c x
total_update c f i x zero h = absurd (omega (arith, h))
total_update {A} c f i x (suc n) h =
    ⊎_elim
    (λ q.
    let e : c (update f i x i) ≡ c x = ap c (update_same f i x) in
    let r : total c (update f i x) i ≡ total c f i = total_beyond c f i x i (omega (arith)) in
    subst (λ (m : ℕ). (c (update f i x m) + total c (update f i x) m) + c (f i) ≡ (c (f m) + total c f m) + c x) q (omega (arith, e, r)))
    (λ q.
    let e : c (update f i x n) ≡ c (f n) = ap c (update_other f i n x (λ w. q (sym w))) in
    let r : total c (update f i x) n + c (f i) ≡ total c f n + c x = total_update c f i x n (omega (arith, h, q)) in
    omega (arith, e, r))
    (cases_eq i n)

-- a change of a word, and a step from one of this worth to one of that, are paid by this cost
abbrev Pays : ℕ → Change → ℕ → ℕ → ℕ → Type 0
Pays me (Change.OfMemory before after) x y c = 1 + y ≤ x + c
Pays me (Change.OfTag i before after) x y c = (1 + (of_tag after + y) ≤ (of_tag before + x) + c) × ((i ≡ me) ⊎ (1 + y ≤ x + c) ⊎ (is_valid before.kind ≡ true))

kind_of : (k : Kind) (t : Tag) → t.kind ≡ k → of_tag t ≡ of_kind k
kind_of k t e = ap of_kind e

settled_kind : (k : Kind) → is_settled_front k ≡ true → of_kind k ≡ 3
settled_kind k h = grind (arith, h)

idle_pays : (n me : ℕ) (e : Event) (y : Line) → idle_allows n e ≡ true → Pays me (idle_row me e).change 0 (of_step ((idle_row me e).after y)) (cost e)
idle_pays n me (Event.Queue f) y h = (omega (arith), inl refl)
idle_pays n me (Event.Hold w) y h = (omega (arith), inl refl)
idle_pays n me (Event.Convert w) y h = let e = kind_of Kind.Fresh w (fresh_kind w.kind (found is_fresh w h).kind) in (omega (arith, e), inl refl)
idle_pays n me (Event.BeginPurge w) y h = let e = kind_of Kind.Dirty w (dirty_kind w.kind (found is_dirty w h).kind) in (omega (arith, e), inl refl)
idle_pays n me (Event.Roll w) y h = let e = kind_of Kind.Valid w (body_kind w.kind (found is_settled_body w h).kind) in (omega (arith, e), inl refl)
idle_pays n me (Event.Leave w) y h = let e = settled_kind w.kind (found is_settled_front w h).kind in (omega (arith, e), inl refl)
idle_pays n me _ y h = absurd (false≢true h)

queueing_pays : (n me : ℕ) (e : Event) (f : Option ℕ) (y : Line) → queueing_allows n f e ≡ true → Pays me (queueing_row me e f).change 8 (of_step ((queueing_row me e f).after y)) (cost e)
queueing_pays n me (Event.Requeue g) f y h = (omega (arith), inl refl)
queueing_pays n me Event.PrependValid f y h = omega (arith)
queueing_pays n me Event.PrependGone (Some x) y h = omega (arith)
queueing_pays n me Event.PrependGone None y h = absurd (false≢true h)
queueing_pays n me Event.HomeWrite None y h = omega (arith)
queueing_pays n me Event.HomeWrite (Some x) y h = absurd (false≢true h)
queueing_pays n me _ f y h = absurd (false≢true h)

settled_cost : (d : Bool) → of_kind (cond d Kind.Dirty Kind.Fresh) ≡ 3
settled_cost true = refl
settled_cost false = refl

in_queue_pays : (me : ℕ) (e : Event) (f : Option ℕ) (d : Bool) (c : Option Line) (y : Line) → in_queue_allows e f d c ≡ true → Pays me (in_queue_row me e f d c).change 6 (of_step ((in_queue_row me e f d c).after y)) (cost e)
in_queue_pays me (Event.AttachFresh w) (Some x) false (Some l) y h = let e = kind_of Kind.Fresh w (fresh_kind w.kind (found is_fresh w h).kind) in (omega (arith, e), inr (inl (omega (arith))))
in_queue_pays me (Event.AttachDirty w) (Some x) true None y h = let e = kind_of Kind.Dirty w (dirty_kind w.kind (found is_dirty w h).kind) in (omega (arith, e), inr (inl (omega (arith))))
in_queue_pays me Event.Settle None d (Some l) y h = let e = settled_cost d in (omega (arith, e), inl refl)
in_queue_pays me _ f d c y h = absurd (false≢true h)

converting_pays : (me : ℕ) (e : Event) (f : Option ℕ) (turned : Bool) (y : Line) → converting_allows turned e ≡ true → Pays me (converting_row me f e).change (of_step (Pending.Converting f turned)) (of_step ((converting_row me f e).after y)) (cost e)
converting_pays me Event.FreshToGone f false y h = omega (arith)
converting_pays me Event.Converted f true y h = (omega (arith), inl refl)
converting_pays me Event.Unconverted f false y h = (omega (arith), inl refl)
converting_pays me _ f turned y h = absurd (false≢true h)

purging_pays : (me : ℕ) (l : Line) (e : Event) (seen : Option (Option ℕ)) (y : Line) → purging_allows me l e seen ≡ true → Pays me (purging_row me l e seen).change 4 (of_step ((purging_row me l e seen).after y)) (cost e)
purging_pays me l (Event.Written words) seen y h = (omega (arith), inl refl)
purging_pays me l (Event.PurgeOne w) (Some (Some x)) y h = let k = body_kind w.kind (found is_settled_body w h).kind in let e = kind_of Kind.Valid w k in (omega (arith, e), inr (inr (ap is_valid k)))
purging_pays me l (Event.Adopt w) (Some (Some x)) y h = (omega (arith), inr (inl (omega (arith))))
purging_pays me l _ seen y h = absurd (false≢true h)

leaving_pays : (me : ℕ) (d : Bool) (l : Line) (e : Event) (seen : Option (Option ℕ)) (y : Line) → leaving_allows me d e seen ≡ true → Pays me (leaving_row me d l e seen).change 8 (of_step ((leaving_row me d l e seen).after y)) (cost e)
leaving_pays me d l (Event.Promote w) (Some (Some x)) y h =
    let e = settled_cost d in
    let k = kind_of Kind.Valid w (body_kind w.kind (found is_settled_body w (and_left (is_found is_settled_body w) (names me w.back) h)).kind) in
    (omega (arith, e, k), inr (inl (omega (arith))))
leaving_pays me d l Event.Stay (Some f) y h = let e = settled_cost d in (omega (arith, e), inl refl)
leaving_pays me d l Event.ReturnHomeFresh (Some None) y h = omega (arith)
leaving_pays me d l Event.ReturnHomeDirty (Some None) y h = omega (arith)
leaving_pays me d l _ seen y h = absurd (false≢true h)

rolling_pays : (me : ℕ) (told : Bool) (e : Event) (seen : Option (Option ℕ × ℕ)) (y : Line) → rolling_allows me told e seen ≡ true → Pays me (rolling_row e seen).change (of_step (Pending.Rolling told seen)) (of_step ((rolling_row e seen).after y)) (cost e)
rolling_pays me false (Event.TellSuccessor w) (Some (Some x, b)) y h = let e = kind_of Kind.Valid w (body_kind w.kind (found is_settled_body w (and_left (is_found is_settled_body w) (names me w.back) h)).kind) in (omega (arith, e), inr (inl (omega (arith))))
rolling_pays me false (Event.TellSuccessor w) (Some (None, b)) y h = absurd (false≢true h)
rolling_pays me true (Event.TellSuccessor w) (Some seen) y h = absurd (false≢true h)
rolling_pays me true (Event.TellPredecessor w) (Some (f, b)) y h = (omega (arith), inr (inl (omega (arith))))
rolling_pays me false (Event.TellPredecessor w) (Some (f, b)) y h = (omega (arith), inr (inl (omega (arith))))
rolling_pays me told _ seen y h = absurd (false≢true h)

promoted_pays : (me : ℕ) (d : Bool) (l : Line) (x : ℕ) (e : Event) (y : Line) → has_row 0 me (Pending.Promoted d l x) e ≡ true → Pays me (row_of me (Pending.Promoted d l x) e).change 7 (of_step ((row_of me (Pending.Promoted d l x) e).after y)) (cost e)
promoted_pays me d l x Event.PassOn y h = omega (arith)
promoted_pays me d l x Event.ReEnter y h = (omega (arith), inl refl)
promoted_pays me d l x _ y h = absurd (false≢true h)

-- every row pays for itself, but for what its event costs
row_pays : (n me : ℕ) (p : Pending) (e : Event) (y : Line) → has_row n me p e ≡ true → Pays me (row_of me p e).change (of_step p) (of_step ((row_of me p e).after y)) (cost e)
row_pays n me Pending.Idle e y h = idle_pays n me e y h
row_pays n me (Pending.Holding w l) Event.Unhold y h = (omega (arith), inl refl)
row_pays n me (Pending.Queueing f) e y h = queueing_pays n me e f y h
row_pays n me (Pending.Fetching f d l) Event.ReturnMemory y h = omega (arith)
row_pays n me (Pending.InQueue f d c) e y h = in_queue_pays me e f d c y h
row_pays n me (Pending.Copying x w l) Event.ReturnCopy y h = (omega (arith), inr (inl (omega (arith))))
row_pays n me (Pending.Ready f d l) Event.Settle y h = let e = settled_cost d in (omega (arith, e), inl refl)
row_pays n me (Pending.Converting f turned) e y h = converting_pays me e f turned y h
row_pays n me (Pending.Purging l seen) e y h = purging_pays me l e seen y h
row_pays n me (Pending.Advancing l x w) Event.Advance y h = (omega (arith), inl refl)
row_pays n me (Pending.Clearing l x w) Event.Clear y h = (omega (arith), inr (inl (omega (arith))))
row_pays n me (Pending.Leaving d l seen) e y h = leaving_pays me d l e seen y h
row_pays n me (Pending.Promoted d l x) e y h = promoted_pays me d l x e y h
row_pays n me (Pending.WritingBack l) Event.ReturnMemory y h = omega (arith)
row_pays n me (Pending.Parted f) Event.Left y h = (omega (arith), inl refl)
row_pays n me (Pending.Rolling told seen) e y h = rolling_pays me told e seen y h
row_pays n me (Pending.Unlinked f b) Event.Rolled y h = (omega (arith), inl refl)
row_pays n me _ e y h = absurd (false≢true h)

-- an exchange pays
step_pays : (n : ℕ) (s : State) (me : ℕ) (p : Pending) (x : Change) (c : ℕ) → me < n → ((i : ℕ) → is_valid (s.tags i).kind ≡ true → i < n) → Finds s x → Pays me x (of_step (s.steps me)) (of_step p) c
    → 1 + (total of_tag (tags_after s.tags x) n + total of_step (update s.steps me p) n) ≤ measure n s + c
step_pays n s me p (Change.OfMemory before after) c below valid finds h =
    let a : total of_step (update s.steps me p) n + of_step (s.steps me) ≡ total of_step s.steps n + of_step p = total_update of_step s.steps me p n below in
    omega (arith, a, h)
step_pays n s me p (Change.OfTag i before after) c below valid finds h =
    let a : total of_step (update s.steps me p) n + of_step (s.steps me) ≡ total of_step s.steps n + of_step p = total_update of_step s.steps me p n below in
    let w : of_tag (s.tags i) ≡ of_tag before = ap of_tag finds in
    let h0 = h.0 in
    let inside : i < n → 1 + (total of_tag (update s.tags i after) n + total of_step (update s.steps me p) n) ≤ measure n s + c =
    λ q. let b : total of_tag (update s.tags i after) n + of_tag (s.tags i) ≡ total of_tag s.tags n + of_tag after = total_update of_tag s.tags i after n q in omega (arith, a, b, w, h0) in
    ⊎_elim
    (λ e. inside (subst (λ (j : ℕ). j < n) (sym e) below))
    (λ r. ⊎_elim
    (λ less. ⊎_elim inside (λ q. let b : total of_tag (update s.tags i after) n ≡ total of_tag s.tags n = total_beyond of_tag s.tags i after n (omega (arith, q)) in omega (arith, a, b, less)) (cases_lt i n))
    (λ v. inside (valid i (subst (λ (t : Tag). is_valid t.kind ≡ true) (sym finds) v)))
    r)
    h.1

look_back_step : (told : Bool) (seen : Option (Option ℕ × ℕ)) (f b : Option ℕ) → of_step (look_back told seen f b) ≡ of_step (Pending.Rolling told seen)
look_back_step true seen f (Some b) = refl
look_back_step false seen f (Some b) = refl
look_back_step told seen f None = refl

look_step : (p : Pending) (t : Tag) → of_step (look_of p t) ≡ of_step p
look_step (Pending.Rolling told seen) t = look_back_step told seen t.forw t.back
look_step (Pending.Purging l seen) t = refl
look_step (Pending.Leaving d l seen) t = refl
look_step _ t = refl

module _ (n : ℕ) (fits : List ℕ → Type 0) where
  valid_below : (s : State) (v : Line) → HasValue n fits s v → (i : ℕ) → is_valid (s.tags i).kind ≡ true → i < n
  valid_below s v h i e = All-contains (λ j. j < n) h.chain i h.lawful.chain.below (h.coherent.reached i e)

  look_pays : (s : State) (me : ℕ) → me < n → 1 + measure n (looked s me) ≤ measure n s + 1
  look_pays s me below =
      let a : total of_step (update s.steps me (look_of (s.steps me) (s.tags me))) n + of_step (s.steps me) ≡ total of_step s.steps n + of_step (look_of (s.steps me) (s.tags me)) = total_update of_step s.steps me (look_of (s.steps me) (s.tags me)) n below in
      let b = look_step (s.steps me) (s.tags me) in
      omega (arith, a, b)

  makes_pays : (s t : State) (v : Line) (me : ℕ) (e : Event) (answer : Option Line) → me < n → HasValue n fits s v → Makes n s me e answer t → 1 + measure n t ≤ measure n s + cost e
  makes_pays s t v me e answer below h m =
      let y = taken_line s (row_at s me e).carry in
      subst (λ (u : State). 1 + measure n u ≤ measure n s + cost e) (sym m.next)
      (step_pays n s me ((row_at s me e).after y) (row_at s me e).change (cost e) below (valid_below s v h) m.finds (row_pays n me (s.steps me) e y m.allowed))

  done_pays : (s t : State) (v : Line) (me : ℕ) (e : Event) (answer : Option Line) → me < n → HasValue n fits s v → IsDone n s me e answer t → 1 + measure n t ≤ measure n s + cost e
  done_pays s t v me Event.Look answer below h d = subst (λ (u : State). 1 + measure n u ≤ measure n s + 1) (sym d.1) (look_pays s me below)
  done_pays s t v me _ answer below h d = makes_pays s t v me _ answer below h d

  event_pays : (s t : State) (v : Line) (me : ℕ) (e : Event) (o : Outcome) → me < n → HasValue n fits s v → Answers n s me e (Ok o) t → done_in o + measure n t ≤ measure n s + cost e
  event_pays s t v me e (Outcome.Done answer) below h d = done_pays s t v me e answer below h d
  event_pays s t v me e (Outcome.Missed w) below h d = subst (λ (u : State). 0 + measure n u ≤ measure n s + cost e) (sym d.same) (omega (arith))
  event_pays s t v me e Outcome.Busy below h d = absurd d

  -- a run
  pub trail_pays : (s t : State) (v w : Line) (es : List (ℕ × Event)) (done : ℕ) → HasValue n fits s v → All (λ e. e.0 < n) es → Trail n fits s v es done t w → done + measure n t ≤ measure n s + costs es
  trail_pays s t v w [] done h below r = subst (λ (u : State). done + measure n u ≤ measure n s + 0) (sym r.1) (let z = r.0 in omega (arith, z))
  trail_pays s t v w (e ∷ es) done h below r =
      let first = event_pays s r.2 v e.0 e.1 r.0 (All-head (λ (x : ℕ × Event). x.0 < n) e es below) h r.5 in
      let rest = trail_pays r.2 t r.3 w es r.1 r.6 (All-tail (λ (x : ℕ × Event). x.0 < n) e es below) r.8 in
      let z = r.4 in
      omega (arith, first, rest, z)

  -- a run of a list of events, which may end at one that isn't in turn
  pub run_pays : (s t : State) (es : List (ℕ × Event)) (r : Result ℕ ℕ) → All (λ e. e.0 < n) es → RunsTo n fits s es r t → IsPaid n s es r t
  run_pays s t es (Ok done) below h = trail_pays s t h.value h.next es done h.before below h.trail
  run_pays s t es (Err place) below h =
      let made = trail_pays s t h.1.value h.1.next (take place es) h.0 h.1.before (All-take (λ (e : ℕ × Event). e.0 < n) place es below) h.1.trail in
      omega (arith, made)

total_none : {A : Type 0} (c : A → ℕ) (x : A) → c x ≡ 0 → (n : ℕ) → total c (λ _. x) n ≡ 0
total_none c x h zero = refl
total_none c x h (suc n) = let r = total_none c x h n in omega (arith, h, r)

-- on a line that nobody has used nothing is left to do
pub opened_measure : (n : ℕ) (line : Line) → measure n (opened n line) ≡ 0
opened_measure n line =
    let a = total_none of_tag invalid refl n in
    let b = total_none of_step Pending.Idle refl n in
    omega (arith, a, b)
