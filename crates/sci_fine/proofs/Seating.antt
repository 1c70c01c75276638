-- A line is opened, and seats are split off or joined to the first.
use Rattle.std.proofs.Common.{◌≡◌, ◌≢◌, ℕ, zero, suc, ◌+◌, ◌<◌, ◌≤◌, ◌-◌, Some, None, List, [], ◌∷◌, ◌++◌, length, map, replicate, get_or, set, cond, ltb, refl, sym, ap, ◌∙◌, subst, ⊎_elim, arith, length-set, length-append, get_or-set_same, get_or-set_other}
use Rattle.std.specs.Prelude.{Result, Ok, Err}
use Rattle.std.proofs.lemmas.Bool.Decides.{nat_tests}
use Rattle.std.proofs.lemmas.List.{length-map, length-replicate}
use mathlib.Core.Logic.{dite}
use mathlib.Core.Option.{some, some-injective, some-ne-none}
use native.Mathlib.Decide.{ℕ_discrete}
use lib.ListN.{get_elem?}
use Rattle.atomic_table.specs.Table.{opening, Splits, Joins}
use Rattle.atomic_table.proofs.Lists.{at_set, set_here, set_else, at_longer, at_map}
use Rattle.sci_words.specs.Codes.{tag_code, mem_code}
use Rattle.sci_words.specs.declared.memory.MemState.{MemState}
use Rattle.sci_core.specs.declared.lines.Line.{Line}
use Rattle.sci_core.specs.declared.outcomes.OpenRefusal.{OpenRefusal}
use Rattle.sci_core.specs.declared.pending.Pending.{Pending}
use Rattle.sci_core.specs.State.{opened, invalid, blank, memory_word}
use Rattle.sci_core.specs.Whole.{IsRuled}
use Rattle.sci_core.proofs.Lawfully.{lawful_line}
use Rattle.sci_port.specs.declared.calls.Call.{Call}
use Rattle.sci_core.proofs.Opening.{opened_witness, opened_is_lawful, opened_links}
use Rattle.sci_fine.specs.declared.views.Terms.{Terms}
use Rattle.sci_fine.specs.declared.views.View.{View}
use Rattle.sci_fine.specs.Rule.{Shared, lies_at, word_at, slot_in, home_of, IsSpent, Sits, Stands}
use Rattle.sci_port.specs.Runs.{done_by}
use Rattle.sci_fine.specs.Standings.{IsStanding}
use Rattle.sci_fine.specs.Views.{first_view, new_view, split_view, joined_view, spent_view}
use Rattle.sci_fine.proofs.Elements.{inside, at_end, not_none, same_some}
use Rattle.sci_fine.proofs.Moves.{spent_stays}

-- a line that nobody has used is under the law
abbrev pub opened_ruled : (n : ℕ) (fits : List ℕ → Type 0) (l : Line) → fits l.words → IsRuled n fits (opened n l)
opened_ruled n fits l h = record { witness = opened_witness l; law = opened_is_lawful n l; links = opened_links n l; words = record { memory = refl; tags = λ i. refl }; fit = h }

-- and each of its nodes is Idle
pub idle_standing : (n : ℕ) (fits : List ℕ → Type 0) (l : Line) (x : ℕ) → x < n → fits l.words → IsStanding n fits x Pending.Idle
idle_standing n fits l x below h = record { state = opened n l; ruled = opened_ruled n fits l h; below = below; step = refl }

line_at : (n i : ℕ) (l : Line) → i < n → cond (ltb i n) l blank ≡ l
line_at n i l h = grind (arith, nat_tests)

no_line_at : (n i : ℕ) (l : Line) → n ≤ i → cond (ltb i n) l blank ≡ blank
no_line_at n i l h = grind (arith, nat_tests)

module _ {K : Type 0} (fits : K → ℕ → List ℕ → Type 0) (t : Terms K) where
  one_view : (j : ℕ) (v : View K) → get_elem? (first_view t ∷ []) j ≡ some v → Sits t (opened t.nodes t.opening) (λ j. []) (first_view t ∷ []) j v
  one_view zero v e = subst (λ (u : View K). Sits t (opened t.nodes t.opening) (λ j. []) (first_view t ∷ []) 0 u) (some-injective (first_view t) v e) record {
    seat = λ u h. (sym (same_some t u h), refl);
    last = λ _. (refl, refl);
    step = refl;
    log = λ u h. refl;
    joins = λ u h i p q. absurd (omega arith);
  }
  one_view (suc j) v e = absurd (some-ne-none v (sym e))

  -- the table at the start
  opens_at : (ws : List ℕ) (xs : List Line) → fits t.keep t.number t.opening.words → 0 < t.nodes → length ws ≡ lies_at (suc t.nodes) → length xs ≡ suc t.nodes → get_or ws 0 0 ≡ mem_code (memory_word MemState.Home None)
      → ((i : ℕ) → i < t.nodes → get_or ws (lies_at (suc i)) 0 ≡ tag_code invalid) → ((i k : ℕ) → i < suc t.nodes → 0 < k → k < 8 → get_or ws (lies_at i + k) 0 ≡ tag_code invalid) → ((i : ℕ) → i < suc t.nodes → get_elem? xs i ≡ some t.opening) → Stands fits t (opening ws xs (first_view t))
  opens_at ws xs kept more wide roomy first others between lines = record {
    state = opened t.nodes t.opening;
    lawful = lawful_line t.nodes (fits t.keep t.number) (opened t.nodes t.opening) (opened_ruled t.nodes (fits t.keep t.number) t.opening kept);
    ruled = opened_ruled t.nodes (fits t.keep t.number) t.opening kept;
    fit = kept;
    run = [];
    led = refl;
    beyond = λ i far. (refl, ap (λ (l : Line). Some l) (no_line_at t.nodes i t.opening far));
    wide = wide;
    roomy = simp length-map roomy;
    words = words;
    between = between;
    homes = homes;
    few = omega arith;
    seated = one_view;
    unseated = λ j far. (refl, refl);
  }
    where
      words : (i : ℕ) → i < suc t.nodes → get_or ws (lies_at i) 0 ≡ word_at (opened t.nodes t.opening) i
      words zero near = first
      words (suc i) near = others i (omega arith)

      homes : (i : ℕ) → i < suc t.nodes → get_elem? (map some xs) i ≡ some (home_of (slot_in (opened t.nodes t.opening) i))
      homes zero near = at_map some xs 0 t.opening (lines 0 near)
      homes (suc i) near = at_map some xs (suc i) t.opening (lines (suc i) near) ∙ ap (λ (l : Line). some (some l)) (sym (line_at t.nodes i t.opening (omega arith)))

  -- the views alone change
  reviewed : (s : Shared K) (st : Stands fits t s) (views : List (View K)) → length views ≤ t.nodes → length s.views ≤ length views → ((j : ℕ) (v : View K) → get_elem? views j ≡ some v → Sits t st.state (λ i. done_by i st.run) views j v)
      → Stands fits t record { words = s.words; homes = s.homes; views = views }
  reviewed s st views few more seated = record {
    state = st.state;
    lawful = st.lawful;
    ruled = st.ruled;
    fit = st.fit;
    run = st.run;
    led = st.led;
    beyond = st.beyond;
    wide = st.wide;
    roomy = st.roomy;
    words = st.words;
    between = st.between;
    homes = st.homes;
    few = few;
    seated = seated;
    unseated = λ j far. st.unseated j (omega arith);
  }

  splits : (id : ℕ) (v : View K) → v.of ≡ Some t → v.joined ≡ t.nodes → 0 < v.next → v.next < t.nodes → Splits (Stands fits t) id v (split_view v) (new_view v)
  splits id v live whole some_next below s st at =
      let k = st.seated id v at in let l = k.last some_next in let u : View K = split_view v in let n : View K = new_view v in
      let views : List (View K) = set s.views id u in let all : List (View K) = views ++ n ∷ [] in
      let as_long : length views ≡ length s.views = length-set s.views id u in
      let longer : length all ≡ length views + 1 = length-append views (n ∷ []) in
      let next_is : v.next ≡ length s.views = l.1 in
      let stays : (i : ℕ) → IsSpent s.views i → IsSpent all i = λ i p. let q = spent_stays fits t st.state st.state s.views id v u at live i p in record { view = q.view; at = at_longer views (n ∷ []) i q.view q.at; of = q.of; pending = q.pending } in
      reviewed s st all (omega arith) (omega arith)
      (λ j x e. ⊎_elim
      (λ (h : get_elem? views j ≡ some x). ⊎_elim
      (λ (b : (j ≡ id) × (u ≡ x)). subst (λ (z : ℕ × View K). Sits t st.state (λ i. done_by i st.run) all z.0 z.1) (λ i. (sym b.0 i, b.1 i)) record {
        seat = k.seat;
        last = λ _. (l.0, omega arith);
        step = k.step;
        log = k.log;
        joins = λ y g i p q. let z = k.joins y g i p q in (stays i z.0, z.1);
      })
      (λ (b : (j ≢ id) × (get_elem? s.views j ≡ some x)). let m = st.seated j x b.1 in record {
        seat = m.seat;
        last = λ g. let first = (m.last g).0 in absurd (b.0 (first ∙ sym l.0));
        step = m.step;
        log = m.log;
        joins = λ y g i p q. let z = m.joins y g i p q in (stays i z.0, z.1);
      })
      (at_set s.views id j u x h))
      (λ (h : (j ≡ length views) × (n ≡ x)). let here : j ≡ length views = h.0 in subst (λ (z : View K). Sits t st.state (λ i. done_by i st.run) all j z) h.1 record {
        seat = λ y g. (sym (same_some t y (sym live ∙ g)), omega arith);
        last = λ p. absurd (omega arith);
        step = sym (st.unseated j (omega arith)).0;
        log = λ y g. sym (st.unseated j (omega arith)).1;
        joins = λ y g i p q. absurd (omega (arith, whole));
      })
      (at_end views n x j e))

  joins : (id : ℕ) (v : View K) (other : ℕ) (w : View K) → v.of ≡ Some t → w.of ≡ Some t → w.node + 1 ≡ v.joined → w.pending ≡ Pending.Idle → Joins (Stands fits t) id v other w (joined_view v w) spent_view
  joins id v other w live live' next idle s st at apart at' =
      let k = st.seated id v at in let u : View K = joined_view v w in let gone : View K = spent_view in
      let views : List (View K) = set s.views id u in let all : List (View K) = set views other gone in
      let was : get_elem? s.views other ≡ some w = sym (set_else s.views id other u apart) ∙ at' in let m = st.seated other w was in
      let as_long : length views ≡ length s.views = length-set s.views id u in
      let as_long' : length all ≡ length views = length-set views other gone in
      let few : length s.views ≤ t.nodes = st.few in let there : other < length views = inside views w other at' in
      let node_is : w.node ≡ other = (m.seat t live').1 in
      let stays : (i : ℕ) → IsSpent s.views i → IsSpent all i = λ i p. spent_stays fits t st.state st.state views other w gone at' live' i (spent_stays fits t st.state st.state s.views id v u at live i p) in
      reviewed s st all (omega arith) (omega arith)
      (λ j x e. ⊎_elim
      (λ (a : (j ≡ other) × (gone ≡ x)). subst (λ (z : ℕ × View K). Sits t st.state (λ i. done_by i st.run) all z.0 z.1) (λ i. (sym a.0 i, a.1 i)) record {
        seat = λ y g. absurd (not_none gone.of y refl g);
        last = λ p. absurd (omega arith);
        step = sym idle ∙ m.step;
        log = λ y g. absurd (not_none gone.of y refl g);
        joins = λ y g i p q. absurd (not_none gone.of y refl g);
      })
      (λ (a : (j ≢ other) × (get_elem? views j ≡ some x)). ⊎_elim
      (λ (b : (j ≡ id) × (u ≡ x)). subst (λ (z : ℕ × View K). Sits t st.state (λ i. done_by i st.run) all z.0 z.1) (λ i. (sym b.0 i, b.1 i)) record {
        seat = k.seat;
        last = λ p. ((k.last p).0, (k.last p).1 ∙ (sym as_long ∙ sym as_long'));
        step = k.step;
        log = k.log;
        joins = λ y g i p q. dite (ℕ_discrete i other)
            (λ is. (record { view = gone; at = subst (λ (z : ℕ). get_elem? all z ≡ some gone) (sym is) (set_here views other gone there); of = refl; pending = refl }, subst (λ (z : ℕ). get_elem? (w.log ∷ v.logs) z ≡ some (done_by i st.run)) (let e : 0 ≡ i - w.node = omega arith in e) (ap (λ (z : List (ℕ × Call)). some z) (m.log t live' ∙ ap (λ (z : ℕ). done_by z st.run) (sym is)))))
            (λ ne. let d : i ≢ w.node = λ is. ne (is ∙ node_is) in let z = k.joins y g i (omega arith) q in (stays i z.0, subst (λ (z : ℕ). get_elem? (w.log ∷ v.logs) z ≡ some (done_by i st.run)) (let e : suc (i - v.joined) ≡ i - w.node = omega arith in e) z.1));
      })
      (λ (b : (j ≢ id) × (get_elem? s.views j ≡ some x)). let o = st.seated j x b.1 in record {
        seat = o.seat;
        last = λ p. ((o.last p).0, (o.last p).1 ∙ (sym as_long ∙ sym as_long'));
        step = o.step;
        log = o.log;
        joins = λ y g i p q. let z = o.joins y g i p q in (stays i z.0, z.1);
      })
      (at_set s.views id j u x a.1))
      (at_set views other j gone x e))

all_same : (k x i : ℕ) → i < k → get_or (replicate k x) i 0 ≡ x
all_same zero x i h = absurd (omega arith)
all_same (suc k) x zero h = refl
all_same (suc k) x (suc i) h = all_same k x i (omega arith)

all_at : {A : Type 0} (k : ℕ) (x : A) (i : ℕ) → i < k → get_elem? (replicate k x) i ≡ some x
all_at zero x i h = absurd (omega arith)
all_at (suc k) x zero h = refl
all_at (suc k) x (suc i) h = all_at k x i (omega arith)

-- the words and slots that a line is opened with
pub opens : {K : Type 0} (fits : K → ℕ → List ℕ → Type 0) (t : Terms K) (ws : List ℕ) (xs : List Line) → fits t.keep t.number t.opening.words → 0 < t.nodes
    → ws ≡ set (replicate (lies_at (t.nodes + 1)) (tag_code invalid)) 0 (mem_code (memory_word MemState.Home None)) → xs ≡ replicate (t.nodes + 1) t.opening → Stands fits t (opening ws xs (first_view t))
opens {K} fits t ws xs kept more words slots =
    let m : ℕ = mem_code (memory_word MemState.Home None) in let g : ℕ = tag_code invalid in
    let k : t.nodes + 1 ≡ suc t.nodes = omega arith in let long = length-replicate (lies_at (suc t.nodes)) g in let long' = length-replicate (suc t.nodes) t.opening in
    let rep : ℕ → List ℕ = λ z. set (replicate (lies_at z) g) 0 m in
    subst (λ (z : List ℕ × List Line). Stands fits t (opening z.0 z.1 (first_view t))) (λ i. (sym (words ∙ ap rep k) i, sym (slots ∙ ap (λ (z : ℕ). replicate z t.opening) k) i))
    (opens_at fits t (set (replicate (lies_at (suc t.nodes)) g) 0 m) (replicate (suc t.nodes) t.opening) kept more (length-set (replicate (lies_at (suc t.nodes)) g) 0 m ∙ long) long'
    (get_or-set_same (replicate (lies_at (suc t.nodes)) g) 0 m 0 (omega (arith, long)))
    (λ i near. get_or-set_other (replicate (lies_at (suc t.nodes)) g) 0 (lies_at (suc i)) m 0 (λ e. absurd (omega arith)) ∙ all_same (lies_at (suc t.nodes)) g (lies_at (suc i)) (omega arith))
    (λ i k near low high. get_or-set_other (replicate (lies_at (suc t.nodes)) g) 0 (lies_at i + k) m 0 (λ e. absurd (omega arith)) ∙ all_same (lies_at (suc t.nodes)) g (lies_at i + k) (omega arith)) (λ i near. all_at (suc t.nodes) t.opening i near))

pub splits_as : {K : Type 0} (fits : K → ℕ → List ℕ → Type 0) (t key : Terms K) (id : ℕ) (v : View K) → key ≡ t → v.of ≡ Some t → v.joined ≡ t.nodes → 0 < v.next → v.next < t.nodes → Splits (Stands fits key) id v (split_view v) (new_view v)
splits_as {K} fits t key id v is live whole some_next below = subst (λ (k : Terms K). Splits (Stands fits k) id v (split_view v) (new_view v)) (sym is) (splits fits t id v live whole some_next below)

pub joins_as : {K : Type 0} (fits : K → ℕ → List ℕ → Type 0) (t key : Terms K) (id : ℕ) (v : View K) (other : ℕ) (w : View K) → key ≡ t → v.of ≡ Some t → w.of ≡ Some t → w.node + 1 ≡ v.joined → w.pending ≡ Pending.Idle → Joins (Stands fits key) id v other w (joined_view v w) spent_view
joins_as {K} fits t key id v other w is live live' next idle = subst (λ (k : Terms K). Joins (Stands fits k) id v other w (joined_view v w) spent_view) (sym is) (joins fits t id v other w live live' next idle)

-- the refusal of a number of nodes is neither a line nor the other refusal
pub no_refusal : {A : Type 0} (a : A) → ◌≡◌ {A = Result A OpenRefusal} (Ok a) (Err OpenRefusal.BadNodes) → ⊥
no_refusal a e = cc

pub other_refusal : {A : Type 0} → ◌≡◌ {A = Result A OpenRefusal} (Err OpenRefusal.OutOfMemory) (Err OpenRefusal.BadNodes) → ⊥
other_refusal e = cc
