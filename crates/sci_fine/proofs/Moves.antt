-- Each step of the table keeps the rule.
use Rattle.std.proofs.Common.{◌≡◌, ◌≢◌, ℕ, zero, suc, ◌+◌, ◌<◌, ◌≤◌, ◌-◌, true, eqb, Some, List, [], ◌∷◌, ◌++◌, length, get_or, set, refl, sym, ap, ◌∙◌, subst, ⊎_elim, arith, length-set}
use mathlib.Core.Option.{some, some-injective}
use lib.ListN.{get_elem?}
use lib.Seq.{set-get_or}
use prog.Atomic.{either}
use Rattle.atomic_table.specs.Table.{Act, keeps, homes_after, carried_after, Valid, stepped, Allows}
use Rattle.atomic_table.proofs.Lists as lists
use Rattle.atomic_table.proofs.Lists.{at_set, set_else}
use Rattle.sci_core.specs.declared.lines.Line.{Line}
use Rattle.sci_core.specs.declared.pending.Pending.{Pending}
use Rattle.sci_core.specs.declared.events.Event.{Event}
use Rattle.sci_core.specs.declared.rows.Change.{Change}
use Rattle.sci_core.specs.declared.rows.Carry.{Carry}
use Rattle.sci_core.specs.State.{State, opened, update}
use Rattle.sci_core.specs.Row.{Row}
use Rattle.sci_core.specs.Step as core
use Rattle.sci_core.specs.Step.{look_of, looked, taken_line}
use Rattle.sci_core.specs.Table.{has_row, row_of}
use Rattle.sci_core.specs.Whole.{IsRuled}
use Rattle.sci_core.specs.Answers.{FitsEvent}
use Rattle.sci_core.specs.declared.outcomes.Outcome.{Outcome}
use Rattle.sci_core.proofs.Going.Forms.{made}
use Rattle.sci_core.proofs.Ranges.{RowBelow, row_below}
use Rattle.sci_core.proofs.Sound.{ruled_looked}
use Rattle.sci_fine.specs.declared.views.Terms.{Terms}
use Rattle.sci_fine.specs.declared.views.View.{View}
use Rattle.sci_words.specs.declared.tags.Tag.{Tag}
use Rattle.sci_port.specs.declared.calls.Call.{Call}
use Rattle.sci_port.specs.declared.calls.Call.TheVariants.{Stepped}
use Rattle.sci_port.specs.Solo.{Gives}
use Rattle.sci_port.specs.Runs.{done_by}
use Rattle.sci_fine.specs.Rule.{Shared, lies_at, word_at, slot_in, home_of, IsSpent, Sits, Stands}
use Rattle.sci_fine.specs.Views.{saw}
use Rattle.sci_fine.specs.Steps as steps
use Rattle.sci_fine.specs.Steps.{Seated, place_of, before_of, after_of, HasLinks, Carries, Finds, IsHit, IsSeen, IsLooked, IsLook, load_of, exchanged, loaded_from}
use Rattle.sci_fine.proofs.Elements.{inside, not_none, same_some, update_here, update_else}
use Rattle.sci_core.proofs.Lawfully.{lawful_line}
use Rattle.sci_fine.proofs.Giving.{Goes, goes_as, load_gives, look_gives, missed_gives, done_gives}
use Rattle.sci_port.proofs.Running.{leads_on, done_here, done_else}
use Rattle.sci_fine.proofs.Tables as tables
use Rattle.sci_fine.proofs.Tables.{act_of, carried_is, word_after, place_below}

module _ {K : Type 0} (fits : K → ℕ → List ℕ → Type 0) (t : Terms K) where
  abbrev Ruled : State → Type 0
  Ruled a = IsRuled t.nodes (fits t.keep t.number) a

  -- The views: the seat id goes on from v to w
  module _ (a b : State) (views : List (View K)) (id : ℕ) (v w : View K) (at : get_elem? views id ≡ some v) (live : v.of ≡ Some t) where
    -- a seat that was joined to another is not this one
    apart : (i : ℕ) → IsSpent views i → i ≢ id
    apart i k e = not_none v.of t (ap (λ (u : View K). u.of) (some-injective v k.view (sym at ∙ (ap (get_elem? views) (sym e) ∙ k.at))) ∙ k.of) live

    pub spent_stays : (i : ℕ) → IsSpent views i → IsSpent (set views id w) i
    spent_stays i k = record {
      view = k.view;
      at = set_else views id i w (λ e. not_none v.of t (ap (λ (u : View K). u.of) (some-injective v k.view (sym at ∙ (ap (get_elem? views) (sym e) ∙ k.at))) ∙ k.of) live) ∙ k.at;
      of = k.of;
      pending = k.pending;
    }

    sits_on : (was done : ℕ → List (ℕ × Call)) → w.of ≡ v.of → w.node ≡ v.node → w.next ≡ v.next → w.joined ≡ v.joined → w.logs ≡ v.logs → w.log ≡ done id → w.pending ≡ b.steps id → ((j : ℕ) → j ≢ id → b.steps j ≡ a.steps j) → ((j : ℕ) → j ≢ id → done j ≡ was j)
        → ((j : ℕ) (u : View K) → get_elem? views j ≡ some u → Sits t a was views j u) → (j : ℕ) (u : View K) → get_elem? (set views id w) j ≡ some u → Sits t b done (set views id w) j u
    sits_on was done l₀ l₁ l₂ l₃ l₄ log mine others rest old j u e = ⊎_elim
        (λ (h : (j ≡ id) × (w ≡ u)). let k = old id v at in subst (λ (z : ℕ × View K). Sits t b done (set views id w) z.0 z.1) (λ i. (sym h.0 i, h.1 i)) record {
          seat = λ y g. let s = k.seat y (sym l₀ ∙ g) in (s.0, l₁ ∙ s.1);
          last = λ g. let q = k.last (subst (λ (z : ℕ). 0 < z) l₂ g) in (q.0, l₂ ∙ (q.1 ∙ sym (length-set views id w)));
          step = mine;
          log = λ y g. log;
          joins = λ y g i p q. let m = k.joins y (sym l₀ ∙ g) i (subst (λ (z : ℕ). z ≤ i) l₃ p) q in (spent_stays i m.0, (λ z. get_elem? (l₄ z) (i - l₃ z)) ∙ (m.1 ∙ ap (λ (z : List (ℕ × Call)). some z) (sym (rest i (apart i m.0)))));
        })
        (λ (h : (j ≢ id) × (get_elem? views j ≡ some u)). let k = old j u h.1 in record {
          seat = k.seat;
          last = λ g. ((k.last g).0, (k.last g).1 ∙ sym (length-set views id w));
          step = k.step ∙ sym (others j h.0);
          log = λ y g. k.log y g ∙ sym (rest j h.0);
          joins = λ y g i p q. let m = k.joins y g i p q in (spent_stays i m.0, m.1 ∙ ap (λ (z : List (ℕ × Call)). some z) (sym (rest i (apart i m.0))));
        })
        (at_set views id j w u e)

  -- where a table stands, a live seat is that of its node, one of the line's, in its step
  module _ (s : Shared K) (st : Stands fits t s) (id : ℕ) (me : Seated K) (at : get_elem? s.views id ≡ some me.0) (live : me.0.of ≡ Some t) where
    pub node_is : me.0.node ≡ id
    node_is = ((st.seated id me.0 at).seat t live).1

    pub node_near : me.0.node < t.nodes
    node_near = let here : id < length s.views = inside s.views me.0 id at in let few : length s.views ≤ t.nodes = st.few in let is : me.0.node ≡ id = node_is in omega arith

    pub step_is : st.state.steps me.0.node ≡ me.0.pending
    step_is = ap st.state.steps node_is ∙ sym (st.seated id me.0 at).step

    -- the run, with one more call of the seat's node
    more : Call → List (ℕ × Call)
    more call = st.run ++ (me.0.node, call) ∷ []

    log_here : (call : Call) → me.0.log ++ (length st.run, call) ∷ [] ≡ done_by id (more call)
    unfolding more
    log_here call = ap (λ (l : List (ℕ × Call)). l ++ (length st.run, call) ∷ []) ((st.seated id me.0 at).log t live) ∙ (sym (done_here id st.run call) ∙ ap (λ (k : ℕ). done_by id (st.run ++ (k, call) ∷ [])) (sym node_is))

    log_else : (call : Call) (j : ℕ) → j ≢ id → done_by j (more call) ≡ done_by j st.run
    unfolding more
    log_else call j ne = done_else j me.0.node st.run call (λ e. ne (sym e ∙ node_is))

    -- a row that is made
    hits : (e : Event) (r : Row) → RowBelow t.nodes r → Carries r.carry me.1 → Goes t.nodes (fits t.keep t.number) st.state me.0.node r → (call : Call) → Gives t.nodes (fits t.keep t.number) st.state me.0.node call (made st.state me.0.node r) → (found : ℕ)
        → Stands fits t (stepped s (lies_at (place_of r.change)) (after_of r.change) id me.1 (saw me.0 (length st.run) call (r.after (taken_line st.state r.carry)) (place_of r.change) found) (act_of r.carry (taken_line st.state r.carry)))
    unfolding more
    hits e r inner ok goes call gives found =
        let a = st.state in let x : ℕ = me.0.node in let y : Line = taken_line a r.carry in let b : State = made a x r in
        let w : View K = saw me.0 (length st.run) call (r.after y) (place_of r.change) found in
        let few : length s.views ≤ t.nodes = st.few in let same : length (set s.views id w) ≡ length s.views = length-set s.views id w in
        let far : id < length s.views = inside s.views me.0 id at in
        record {
          state = b;
          lawful = lawful_line t.nodes (fits t.keep t.number) b goes.ruled;
          ruled = goes.ruled;
          fit = st.fit;
          run = more call;
          led = leads_on (Gives t.nodes (fits t.keep t.number)) (opened t.nodes t.opening) st.run a x call b st.led gives;
          beyond = tables.beyond_after t.nodes a r.change r.carry inner.change inner.carry st.beyond;
          wide = length-set s.words (lies_at (place_of r.change)) (after_of r.change) ∙ st.wide;
          roomy = tables.homes_long t.nodes a s.homes st.roomy st.homes r.carry y me.1 ok;
          words = words;
          between = λ i k near low high. tables.between_after s.words (place_of r.change) (after_of r.change) i k low high ∙ st.between i k near low high;
          homes = homes;
          few = omega arith;
          seated = sits_on a b s.views id me.0 w at live (λ i. done_by i st.run) (λ i. done_by i (more call)) refl refl refl refl refl (log_here call)
              (subst (λ (z : ℕ). r.after y ≡ update a.steps x (r.after y) z) node_is (sym (update_here a.steps x (r.after y))))
              (λ j ne. update_else a.steps x (r.after y) j (λ e. ne (e ∙ node_is))) (log_else call) st.seated;
          unseated = λ j l. let is : me.0.node ≡ id = node_is in let gone = st.unseated j (omega arith) in
              (update_else a.steps x (r.after y) j (λ e. absurd (omega arith)) ∙ gone.0, log_else call j (λ e. absurd (omega arith)) ∙ gone.1);
        }
      where
        words : (i : ℕ) → i < suc t.nodes → get_or (set s.words (lies_at (place_of r.change)) (after_of r.change)) (lies_at i) 0 ≡ word_at (made st.state me.0.node r) i
        words zero near = tables.words_after t.nodes st.state s.words r.change st.wide inner.change st.words 0 near
        words (suc j) near = tables.words_after t.nodes st.state s.words r.change st.wide inner.change st.words (suc j) near

        homes : (i : ℕ) → i < suc t.nodes → get_elem? (homes_after s.homes me.1 (act_of r.carry (taken_line st.state r.carry))) i ≡ some (home_of (slot_in (made st.state me.0.node r) i))
        homes zero near = tables.homes_after_row t.nodes st.state s.homes st.roomy st.homes r.carry (taken_line st.state r.carry) me.1 inner.carry ok 0 near
        homes (suc j) near = tables.homes_after_row t.nodes st.state s.homes st.roomy st.homes r.carry (taken_line st.state r.carry) me.1 inner.carry ok (suc j) near

    -- a step that changes no word and no slot: the pending steps go on to f, at this seat alone
    watches : (i word : ℕ) (call : Call) (p : Pending) (f : ℕ → Pending) → Ruled (record st.state { steps = f }) → Gives t.nodes (fits t.keep t.number) st.state me.0.node call (record st.state { steps = f }) → p ≡ f id → ((j : ℕ) → j ≢ id → f j ≡ st.state.steps j)
        → Stands fits t (stepped s (lies_at i) (get_or s.words (lies_at i) 0) id me.1 (saw me.0 (length st.run) call p i word) keeps)
    unfolding more
    watches i word call p f ruled gives mine others =
        let a = st.state in let b : State = record a { steps = f } in let w : View K = saw me.0 (length st.run) call p i word in
        let few : length s.views ≤ t.nodes = st.few in let same : length (set s.views id w) ≡ length s.views = length-set s.views id w in
        subst (λ (ws : List ℕ). Stands fits t record { words = ws; homes = s.homes; views = set s.views id w }) (sym (set-get_or s.words (lies_at i) 0)) record {
          state = b;
          lawful = lawful_line t.nodes (fits t.keep t.number) b ruled;
          ruled = ruled;
          fit = st.fit;
          run = more call;
          led = leads_on (Gives t.nodes (fits t.keep t.number)) (opened t.nodes t.opening) st.run a me.0.node call b st.led gives;
          beyond = st.beyond;
          wide = st.wide;
          roomy = st.roomy;
          words = words;
          between = st.between;
          homes = homes;
          few = omega arith;
          seated = sits_on a b s.views id me.0 w at live (λ i. done_by i st.run) (λ i. done_by i (more call)) refl refl refl refl refl (log_here call) mine others (log_else call) st.seated;
          unseated = λ j far. let here : id < length s.views = inside s.views me.0 id at in let gone = st.unseated j (omega arith) in
              (others j (λ e. absurd (omega arith)) ∙ gone.0, log_else call j (λ e. absurd (omega arith)) ∙ gone.1);
        }
      where
        words : (i : ℕ) → i < suc t.nodes → get_or s.words (lies_at i) 0 ≡ word_at (record st.state { steps = f }) i
        words zero near = st.words 0 near
        words (suc j) near = st.words (suc j) near

        homes : (i : ℕ) → i < suc t.nodes → get_elem? s.homes i ≡ some (home_of (slot_in (record st.state { steps = f }) i))
        homes zero near = st.homes 0 near
        homes (suc j) near = st.homes (suc j) near

    -- a step that changes nothing but the view
    stays : (i word : ℕ) (call : Call) → Gives t.nodes (fits t.keep t.number) st.state me.0.node call st.state → Stands fits t (stepped s (lies_at i) (get_or s.words (lies_at i) 0) id me.1 (saw me.0 (length st.run) call me.0.pending i word) keeps)
    stays i word call gives = watches i word call me.0.pending st.state.steps st.ruled gives (st.seated id me.0 at).step (λ j ne. refl)

    -- what the step found
    abbrev saw_there : (i : ℕ) → i < suc t.nodes → Finds fits t me.0 i (get_or s.words (lies_at i) 0)
    saw_there i near = record { state = st.state; ruled = st.ruled; step = step_is; word = st.words i near }

  -- what a step on the word that lies at the place may leave there, with the act that it takes and what it tells
  abbrev Ends : Shared K → ℕ → Seated K → ℕ → (Seated K → Type 0) → ℕ → Type 0
  Ends s id me place told z = (w : View K) × (act : Act Line) × Valid s.homes me.1 act × Stands fits t (stepped s place z id me.1 w act) × told (w, carried_after me.1 act)

  -- an exchange by a row: one lemma for all of them
  row_kind : (slots id : ℕ) (me : Seated K) (e : Event) → t.nodes ≤ 65535 → me.0.of ≡ Some t → has_row t.nodes me.0.node me.0.pending e ≡ true → FitsEvent (fits t.keep t.number) e
      → HasLinks (row_of me.0.node me.0.pending e).change → Carries (row_of me.0.node me.0.pending e).carry me.1
      → Allows (Stands fits t) slots id me (lies_at (place_of (row_of me.0.node me.0.pending e).change))
      (λ z. either (eqb z (before_of (row_of me.0.node me.0.pending e).change)) (after_of (row_of me.0.node me.0.pending e).change) z)
      (exchanged fits e (before_of (row_of me.0.node me.0.pending e).change) me)
  row_kind slots id me e small live turn fit linked ok s st long at lt =
      let a = st.state in let x : ℕ = me.0.node in let r : Row = row_of x me.0.pending e in let i : ℕ = place_of r.change in let old : ℕ = before_of r.change in let new : ℕ = after_of r.change in
      let found : ℕ = get_or s.words (lies_at i) 0 in let same = step_is s st id me at live in let below : x < t.nodes = node_near s st id me at live in
      let inner : RowBelow t.nodes r = row_below t.nodes a st.ruled.links x below me.0.pending e same in
      let seen : Finds fits t me.0 i found = saw_there s st id me at live i (place_below t.nodes a r.change inner.change) in
      let y : Line = taken_line a r.carry in let k : ℕ = length st.run in
      let done : Call = Stepped e (Outcome.Done (r.answer y)) in let miss : Call = Stepped e (Outcome.Missed found) in
      let w₁ : View K = saw me.0 k done (r.after y) i found in let w₂ : View K = saw me.0 k miss me.0.pending i found in
      lists.exchanged found old new (Ends s id me (lies_at i) (exchanged fits e old me found))
      (λ hit.
      let fd : core.Finds a r.change = tables.finds t.nodes a small st.ruled.links r.change linked (sym seen.word ∙ hit) in
      let go : Goes t.nodes (fits t.keep t.number) a x r = goes_as t.nodes (fits t.keep t.number) a st.ruled x me.0.pending e below same turn fd fit in
      let gives : Gives t.nodes (fits t.keep t.number) a x done (made a x r) = done_gives t.nodes (fits t.keep t.number) a st.ruled x below me.0.pending e same turn fd fit in (
        w₁,
        act_of r.carry y,
        tables.valid t.nodes a s.homes st.roomy st.homes r.carry me.1 inner.carry go.home,
        hits s st id me at live e r inner ok go done gives found,
        (λ u g. subst (λ (u : Terms K). (found ≡ old → IsHit fits u e r me found (w₁, carried_after me.1 (act_of r.carry y))) × (found ≢ old → IsSeen fits u (λ s. miss) i me found (w₁, carried_after me.1 (act_of r.carry y))))
            (same_some t u (sym live ∙ g)) ((λ _. record { finds = seen; there = fd; turn = k; view = refl; hand = carried_is r.carry y me.1 }), (λ ne. absurd (ne hit)))),
      ))
      (λ other. let gives : Gives t.nodes (fits t.keep t.number) a x miss a = missed_gives t.nodes (fits t.keep t.number) a st.ruled x below me.0.pending e same turn found seen.word other in (
        w₂,
        keeps,
        tt,
        stays s st id me at live i found miss gives,
        (λ u g. subst (λ (u : Terms K). (found ≡ old → IsHit fits u e r me found (w₂, me.1)) × (found ≢ old → IsSeen fits u (λ s. miss) i me found (w₂, me.1)))
            (same_some t u (sym live ∙ g)) ((λ e. absurd (other e)), (λ _. record { finds = seen; turn = k; view = refl; hand = refl }))),
      ))

  -- a load
  load_kind : (slots id : ℕ) (me : Seated K) (i : ℕ) → me.0.of ≡ Some t → i < suc t.nodes → Allows (Stands fits t) slots id me (lies_at i) (λ z. z) (loaded_from fits (lies_at i) me)
  load_kind slots id me i live near s st long at lt =
      let found : ℕ = get_or s.words (lies_at i) 0 in let k : ℕ = length st.run in let call : Call = load_of i st.state in let w : View K = saw me.0 k call me.0.pending i found in (
        w,
        keeps,
        tt,
        stays s st id me at live i found call (load_gives t.nodes (fits t.keep t.number) st.state me.0.node i),
        (λ j e u g. subst (λ (z : Terms K × ℕ). IsSeen fits z.0 (load_of z.1) z.1 me found (w, me.1)) (λ l. (same_some t u (sym live ∙ g) l, one_place i j e l)) record { finds = saw_there s st id me at live i near; turn = k; view = refl; hand = refl }),
      )
    where
      one_place : (i j : ℕ) → lies_at i ≡ lies_at j → i ≡ j
      one_place i j e = omega arith

  -- a look at the node's own tag
  look_kind : (slots id : ℕ) (me : Seated K) (call : Tag → Call) → IsLook call → me.0.of ≡ Some t → Allows (Stands fits t) slots id me (lies_at (suc me.0.node)) (λ z. z) (steps.looked fits call me)
  look_kind slots id me call look live s st long at lt =
      let a = st.state in let x : ℕ = me.0.node in let is : x ≡ id = node_is s st id me at live in let near : x < t.nodes = node_near s st id me at live in let same = step_is s st id me at live in
      let p : Pending = look_of me.0.pending (a.tags x) in let found : ℕ = get_or s.words (lies_at (suc x)) 0 in let k : ℕ = length st.run in
      let f : ℕ → Pending = update a.steps x (look_of (a.steps x) (a.tags x)) in
      let w : View K = saw me.0 k (call (a.tags x)) p (suc x) found in (
        w,
        keeps,
        tt,
        watches s st id me at live (suc x) found (call (a.tags x)) p f (ruled_looked t.nodes (fits t.keep t.number) a st.ruled x near) (look_gives t.nodes (fits t.keep t.number) a st.ruled x near call (look (a.tags x)))
            (sym (ap (λ (q : Pending). look_of q (a.tags x)) same) ∙ sym (subst (λ (z : ℕ). f z ≡ look_of (a.steps x) (a.tags x)) is (update_here a.steps x (look_of (a.steps x) (a.tags x)))))
            (λ j ne. update_else a.steps x (look_of (a.steps x) (a.tags x)) j (λ e. ne (e ∙ is))),
        (λ u g. subst (λ (u : Terms K). IsLooked fits u call me found (w, me.1)) (same_some t u (sym live ∙ g)) record { finds = saw_there s st id me at live (suc x) (omega arith); turn = k; view = refl; hand = refl }),
      )

-- The same, where the table's key and the row's parts go by other names
module _ {K : Type 0} (fits : K → ℕ → List ℕ → Type 0) (t key : Terms K) (slots id : ℕ) (me : Seated K) (is : key ≡ t) (small : t.nodes ≤ 65535) (live : me.0.of ≡ Some t) where
  pub exchanges : (e event : Event) (c : Change) (k : Carry) (i place old new : ℕ) → event ≡ e → c ≡ (row_of me.0.node me.0.pending e).change → k ≡ (row_of me.0.node me.0.pending e).carry → has_row t.nodes me.0.node me.0.pending e ≡ true → FitsEvent (fits t.keep t.number) e
      → HasLinks c → Carries k me.1 → i ≡ place_of c → place ≡ lies_at i → old ≡ before_of c → new ≡ after_of c
      → Allows (Stands fits key) slots id me place (λ z. either (eqb z old) new z) (exchanged fits event old me)
  exchanges e event c k i place old new is₀ is₁ is₂ turn fit linked ok here lies before after =
      subst (λ (q : Terms K × Event). Allows (Stands fits q.0) slots id me place (λ z. either (eqb z old) new z) (exchanged fits q.1 old me)) (λ j. (sym is j, sym is₀ j))
      (subst (λ (q : ℕ × ℕ × ℕ). Allows (Stands fits t) slots id me q.0 (λ z. either (eqb z q.1) q.2 z) (exchanged fits e q.1 me))
      (λ j. (sym (lies ∙ ap lies_at (here ∙ ap place_of is₁)) j, sym (before ∙ ap before_of is₁) j, sym (after ∙ ap after_of is₁) j))
      (row_kind fits t slots id me e small live turn fit (subst HasLinks is₁ linked) (subst (λ (z : Carry). Carries z me.1) is₂ ok)))

  pub loads : (i place : ℕ) → i < t.nodes + 1 → place ≡ lies_at i → Allows (Stands fits key) slots id me place (λ z. z) (loaded_from fits place me)
  loads i place near lies = subst (λ (q : Terms K × ℕ). Allows (Stands fits q.0) slots id me q.1 (λ z. z) (loaded_from fits q.1 me)) (λ j. (sym is j, sym lies j)) (load_kind fits t slots id me i live (let k : i < suc t.nodes = omega arith in k))

  pub looks : (call : Tag → Call) → IsLook call → (i place : ℕ) → i ≡ me.0.node + 1 → place ≡ lies_at i → Allows (Stands fits key) slots id me place (λ z. z) (steps.looked fits call me)
  looks call look i place own lies = subst (λ (q : Terms K × ℕ). Allows (Stands fits q.0) slots id me q.1 (λ z. z) (steps.looked fits call me)) (λ j. (sym is j, sym (lies ∙ ap lies_at (let k : i ≡ suc me.0.node = omega arith in k)) j)) (look_kind fits t slots id me call look live)
