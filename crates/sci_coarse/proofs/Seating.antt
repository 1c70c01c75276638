-- A line is opened, and seats are split off or joined to the first.
use Rattle.std.proofs.Common.{◌≡◌, ◌≢◌, ℕ, zero, suc, ◌+◌, ◌<◌, ◌≤◌, true, false, Some, None, List, [], ◌∷◌, ◌++◌, length, replicate, get_or, set, refl, sym, ap, ◌∙◌, subst, inl, inr, ⊎_elim, arith, length-set, length-append}
use Rattle.std.specs.Prelude.{Result, Ok, Err}
use Rattle.std.proofs.lemmas.List.{length-replicate}
use mathlib.Core.Logic.{dite}
use mathlib.Core.Option.{some, some-injective, some-ne-none}
use native.Mathlib.Decide.{ℕ_discrete}
use lib.ListN.{get_elem?}
use Rattle.atomic_table.specs.Table.{opening, Splits, Joins}
use Rattle.atomic_table.proofs.Lists.{at_set, set_here, set_else, at_longer}
use Rattle.sci_core.specs.declared.outcomes.OpenRefusal.{OpenRefusal}
use Rattle.sci_core.specs.declared.pending.Pending.{Pending}
use Rattle.sci_core.specs.State.{invalid}
use Rattle.sci_core.specs.Whole.{WholeLine, nodes_of, state_of, opened_whole}
use Rattle.sci_port.specs.Owes.{IsSoundStep}
use Rattle.sci_port.specs.Runs.{done_by}
use Rattle.sci_port.proofs.Running.{own_log, joined_log, joined_else}
use Rattle.sci_coarse.specs.declared.views.Terms.{Terms}
use Rattle.sci_coarse.specs.declared.views.View.{View}
use Rattle.sci_coarse.specs.Rule.{Shared, IsLawfulWhole, IsAtHome, IsOut, IsSpent, Sits, Locked}
use Rattle.sci_coarse.specs.Views.{keeps_of, first_view, new_view, split_view, joined_view, spent_view}
use Rattle.sci_coarse.proofs.Listed.{inside, at_end, clash, not_none, not_true, same_some}
use Rattle.sci_coarse.proofs.Locks.{spent_stays}

pub idle_is_sound : (n : ℕ) (fits : List ℕ → Type 0) → IsSoundStep n fits Pending.Idle
idle_is_sound n fits = record { word = invalid; own = refl; form = (refl, refl); fit = tt }

all_idle : (n i : ℕ) → get_or (replicate n Pending.Idle) i Pending.Idle ≡ Pending.Idle
all_idle zero i = refl
all_idle (suc n) zero = refl
all_idle (suc n) (suc i) = all_idle n i

module _ {K : Type 0} (fits : K → ℕ → List ℕ → Type 0) (t : Terms K) where
  one_view : (w : WholeLine K) → ((j : ℕ) → (state_of w).steps j ≡ Pending.Idle) → (j : ℕ) (v : View K) → get_elem? (first_view t ∷ []) j ≡ some v → Sits t w [] (first_view t ∷ []) j v
  one_view w idle zero v e = subst (λ (u : View K). Sits t w [] (first_view t ∷ []) 0 u) (some-injective (first_view t) v e) record {
    seat = λ u h. (sym (same_some t u h), refl);
    last = λ _. (refl, refl);
    step = sym (idle 0);
    log = λ u h. refl;
    joins = λ u h i p q. absurd (omega arith);
  }
  one_view w idle (suc j) v e = absurd (some-ne-none v (sym e))

  no_holder : (j : ℕ) (v : View K) → get_elem? (first_view t ∷ []) j ≡ some v → v.holds ≡ false
  no_holder zero v e = sym (ap (λ (u : View K). u.holds) (some-injective (first_view t) v e))
  no_holder (suc j) v e = absurd (some-ne-none v (sym e))

  -- the table at the start
  opens_at : (w : WholeLine K) → w ≡ opened_whole t.keep t.number t.nodes t.opening → IsLawfulWhole fits w → fits t.keep t.number t.opening.words → 0 < t.nodes → Locked fits t (opening (0 ∷ []) (w ∷ []) (first_view t))
  opens_at w is lawful fit more =
      let idle : (j : ℕ) → (state_of w).steps j ≡ Pending.Idle = λ j. ap (λ (v : WholeLine K). (state_of v).steps j) is ∙ all_idle t.nodes j in
      record {
        run = [];
        holder = None;
        whole = w;
        ran = λ i. (None, is i);
        fit = fit;
        on = record { keep = ap (λ (v : WholeLine K). v.keep) is; number = ap (λ (v : WholeLine K). v.number) is; nodes = ap (λ (v : WholeLine K). nodes_of v) is ∙ length-replicate t.nodes invalid };
        lawful = lawful;
        wide = refl;
        roomy = refl;
        place = inl record { nobody = refl; free = refl; home = refl; unheld = no_holder };
        few = omega arith;
        seated = one_view w idle;
        unseated = λ j far. (idle j, refl);
      }

  -- the views alone change
  reviewed : (s : Shared K) (st : Locked fits t s) (views : List (View K)) → length views ≤ t.nodes → length s.views ≤ length views → (IsAtHome s st.whole st.holder → IsAtHome record { words = s.words; homes = s.homes; views = views } st.whole st.holder) → (IsOut s st.whole st.holder → IsOut record { words = s.words; homes = s.homes; views = views } st.whole st.holder)
      → ((j : ℕ) (v : View K) → get_elem? views j ≡ some v → Sits t st.whole st.run views j v) → Locked fits t record { words = s.words; homes = s.homes; views = views }
  reviewed s st views few more home out seated = record {
    run = st.run;
    holder = st.holder;
    whole = st.whole;
    ran = st.ran;
    fit = st.fit;
    on = st.on;
    lawful = st.lawful;
    wide = st.wide;
    roomy = st.roomy;
    place = ⊎_elim (λ h. inl (home h)) (λ h. inr (out h)) st.place;
    few = few;
    seated = seated;
    unseated = λ j far. st.unseated j (omega arith);
  }

  splits : (id : ℕ) (v : View K) → v.of ≡ Some t → v.holds ≡ false → 0 < v.next → v.next < t.nodes → v.joined ≡ t.nodes → Splits (Locked fits t) id v (split_view v) (new_view v)
  splits id v live unheld some_next below whole s st at =
      let k = st.seated id v at in let l = k.last some_next in
      let u : View K = split_view v in let n : View K = new_view v in
      let views : List (View K) = set s.views id u in let all : List (View K) = views ++ n ∷ [] in
      let as_long : length views ≡ length s.views = length-set s.views id u in
      let longer : length all ≡ length views + 1 = length-append views (n ∷ []) in
      let next_is : v.next ≡ length s.views = l.1 in
      let near : id < length s.views = inside s.views v id at in
      let held : (j : ℕ) (x : View K) → get_elem? all j ≡ some x → x.holds ≡ true → (j ≢ id) × (get_elem? s.views j ≡ some x) = λ j x e h. ⊎_elim
      (λ (a : get_elem? views j ≡ some x). ⊎_elim
      (λ (b : (j ≡ id) × (u ≡ x)). absurd (clash v.holds (ap (λ (y : View K). y.holds) b.1 ∙ h) unheld))
      (λ (b : (j ≢ id) × (get_elem? s.views j ≡ some x)). b)
      (at_set s.views id j u x a))
      (λ (a : (j ≡ length views) × (n ≡ x)). absurd (clash n.holds (ap (λ (y : View K). y.holds) a.1 ∙ h) refl))
      (at_end views n x j e) in
      let stays : (i : ℕ) → IsSpent s.views i → IsSpent all i = λ i p. let q = spent_stays t s.views id v u at live i p in record { view = q.view; at = at_longer views (n ∷ []) i q.view q.at; of = q.of; unheld = q.unheld; pending = q.pending } in
      reviewed s st all (omega arith) (omega arith)
      (λ home. record { nobody = home.nobody; free = home.free; home = home.home; unheld = λ j x e. not_true x.holds (λ h. clash x.holds h (home.unheld j x (held j x e h).1)) })
      (λ out. record {
        taken = out.taken;
        seat = out.seat;
        view = out.view;
        somebody = out.somebody;
        at = at_longer views (n ∷ []) out.seat out.view (set_else s.views id out.seat u (λ is. clash v.holds (ap (λ (y : View K). y.holds) (some-injective v out.view (sym at ∙ (ap (get_elem? s.views) (sym is) ∙ out.at))) ∙ out.holds) unheld) ∙ out.at);
        holds = out.holds;
        took = out.took;
        alone = λ j x e h. out.alone j x (held j x e h).1 h;
      })
      (λ j x e. ⊎_elim
      (λ (h : get_elem? views j ≡ some x). ⊎_elim
      (λ (b : (j ≡ id) × (u ≡ x)). subst (λ (z : ℕ × View K). Sits t st.whole st.run all z.0 z.1) (λ i. (sym b.0 i, b.1 i)) record {
        seat = k.seat;
        last = λ _. (l.0, omega arith);
        step = k.step;
        log = λ y g. k.log y g;
        joins = λ y g i p q. let o = k.joins y g i p q in (stays i o.0, o.1);
      })
      (λ (b : (j ≢ id) × (get_elem? s.views j ≡ some x)). let m = st.seated j x b.1 in record {
        seat = m.seat;
        last = λ g. let first = (m.last g).0 in absurd (b.0 (first ∙ sym l.0));
        step = m.step;
        log = m.log;
        joins = λ y g i p q. let o = m.joins y g i p q in (stays i o.0, o.1);
      })
      (at_set s.views id j u x h))
      (λ (h : (j ≡ length views) × (n ≡ x)). let here : j ≡ length views = h.0 in subst (λ (z : View K). Sits t st.whole st.run all j z) h.1 record {
        seat = λ y g. (sym (same_some t y (sym live ∙ g)), omega arith);
        last = λ p. absurd (omega arith);
        step = sym (st.unseated j (omega arith)).0;
        log = λ y g. own_log j n.node n.log n.others (let e : v.next ≡ j = omega arith in e) ∙ sym (st.unseated j (omega arith)).1;
        joins = λ y g i p q. absurd (omega arith);
      })
      (at_end views n x j e))

  joins : (id : ℕ) (v : View K) (other : ℕ) (w : View K) → v.of ≡ Some t → v.holds ≡ false → w.of ≡ Some t → w.holds ≡ false → w.node + 1 ≡ v.joined → w.pending ≡ Pending.Idle → Joins (Locked fits t) id v other w (joined_view v w) spent_view
  joins id v other w live unheld live' unheld' next idle s st at apart at' =
      let k = st.seated id v at in let u : View K = joined_view v w in let gone : View K = spent_view in
      let views : List (View K) = set s.views id u in let all : List (View K) = set views other gone in
      let was : get_elem? s.views other ≡ some w = sym (set_else s.views id other u apart) ∙ at' in let m = st.seated other w was in
      let as_long : length views ≡ length s.views = length-set s.views id u in
      let as_long' : length all ≡ length views = length-set views other gone in
      let few : length s.views ≤ t.nodes = st.few in let there : other < length views = inside views w other at' in
      let node_is : w.node ≡ other = (m.seat t live').1 in
      let mine : v.node ≡ id = (k.seat t live).1 in
      let its_log : (i : ℕ) → i ≡ other → keeps_of i u ≡ done_by i st.run = λ i is. subst (λ (z : ℕ). keeps_of z u ≡ done_by z st.run) (node_is ∙ sym is)
      (joined_log w.node v.node v.log w.log v.others (λ e. apart (sym (sym mine ∙ (e ∙ node_is)))) ∙ (sym (own_log other w.node w.log w.others node_is) ∙ (m.log t live' ∙ ap (λ (z : ℕ). done_by z st.run) (sym node_is)))) in
      let held : (j : ℕ) (x : View K) → get_elem? all j ≡ some x → x.holds ≡ true → get_elem? s.views j ≡ some x = λ j x e h. ⊎_elim
      (λ (a : (j ≡ other) × (gone ≡ x)). absurd (clash gone.holds (ap (λ (y : View K). y.holds) a.1 ∙ h) refl))
      (λ (a : (j ≢ other) × (get_elem? views j ≡ some x)). ⊎_elim
      (λ (b : (j ≡ id) × (u ≡ x)). absurd (clash v.holds (ap (λ (y : View K). y.holds) b.1 ∙ h) unheld))
      (λ (b : (j ≢ id) × (get_elem? s.views j ≡ some x)). b.1)
      (at_set s.views id j u x a.1))
      (at_set views other j gone x e) in
      let stays : (i : ℕ) → IsSpent s.views i → IsSpent all i = λ i p. spent_stays t views other w gone at' live' i (spent_stays t s.views id v u at live i p) in
      reviewed s st all (omega arith) (omega arith)
      (λ home. record { nobody = home.nobody; free = home.free; home = home.home; unheld = λ j x e. not_true x.holds (λ h. clash x.holds h (home.unheld j x (held j x e h))) })
      (λ out. record {
        taken = out.taken;
        seat = out.seat;
        view = out.view;
        somebody = out.somebody;
        at = set_else views other out.seat gone (λ is. clash w.holds (ap (λ (y : View K). y.holds) (some-injective w out.view (sym was ∙ (ap (get_elem? s.views) (sym is) ∙ out.at))) ∙ out.holds) unheld')
            ∙ (set_else s.views id out.seat u (λ is. clash v.holds (ap (λ (y : View K). y.holds) (some-injective v out.view (sym at ∙ (ap (get_elem? s.views) (sym is) ∙ out.at))) ∙ out.holds) unheld) ∙ out.at);
        holds = out.holds;
        took = out.took;
        alone = λ j x e h. out.alone j x (held j x e h) h;
      })
      (λ j x e. ⊎_elim
      (λ (a : (j ≡ other) × (gone ≡ x)). subst (λ (z : ℕ × View K). Sits t st.whole st.run all z.0 z.1) (λ i. (sym a.0 i, a.1 i)) record {
        seat = λ y g. absurd (not_none gone.of y refl g);
        last = λ p. absurd (omega arith);
        step = sym idle ∙ m.step;
        log = λ y g. absurd (not_none gone.of y refl g);
        joins = λ y g i p q. absurd (not_none gone.of y refl g);
      })
      (λ (a : (j ≢ other) × (get_elem? views j ≡ some x)). ⊎_elim
      (λ (b : (j ≡ id) × (u ≡ x)). subst (λ (z : ℕ × View K). Sits t st.whole st.run all z.0 z.1) (λ i. (sym b.0 i, b.1 i)) record {
        seat = k.seat;
        last = λ p. ((k.last p).0, (k.last p).1 ∙ (sym as_long ∙ sym as_long'));
        step = k.step;
        log = λ y g. joined_else id w.node v.node v.log w.log v.others (λ is. apart (sym (is ∙ node_is))) ∙ k.log y g;
        joins = λ y g i p q. dite (ℕ_discrete i other)
            (λ is. (record { view = gone; at = subst (λ (z : ℕ). get_elem? all z ≡ some gone) (sym is) (set_here views other gone there); of = refl; unheld = refl; pending = refl }, its_log i is))
            (λ ne. let d : i ≢ w.node = λ is. ne (is ∙ node_is) in let o = k.joins y g i (omega arith) q in (stays i o.0, joined_else i w.node v.node v.log w.log v.others d ∙ o.1));
      })
      (λ (b : (j ≢ id) × (get_elem? s.views j ≡ some x)). let o = st.seated j x b.1 in record {
        seat = o.seat;
        last = λ p. ((o.last p).0, (o.last p).1 ∙ (sym as_long ∙ sym as_long'));
        step = o.step;
        log = o.log;
        joins = λ y g i p q. let z = o.joins y g i p q in (stays i z.0, z.1);
      })
      (at_set s.views id j u x a.1))
      (at_set views other j gone x e))

pub opens : {K : Type 0} (fits : K → ℕ → List ℕ → Type 0) (t : Terms K) (w : WholeLine K) (ws : List ℕ) (xs : List (WholeLine K)) → ws ≡ 0 ∷ [] → xs ≡ w ∷ [] → w ≡ opened_whole t.keep t.number t.nodes t.opening → IsLawfulWhole fits w → fits t.keep t.number t.opening.words → 0 < t.nodes → Locked fits t (opening ws xs (first_view t))
opens {K} fits t w ws xs words slots is lawful fit more = subst (λ (z : List ℕ × List (WholeLine K)). Locked fits t (opening z.0 z.1 (first_view t))) (λ i. (sym words i, sym slots i)) (opens_at fits t w is lawful fit more)

pub splits_as : {K : Type 0} (fits : K → ℕ → List ℕ → Type 0) (t key : Terms K) (id : ℕ) (v : View K) → key ≡ t → v.of ≡ Some t → v.holds ≡ false → 0 < v.next → v.next < t.nodes → v.joined ≡ t.nodes → Splits (Locked fits key) id v (split_view v) (new_view v)
splits_as {K} fits t key id v is live unheld some_next below whole = subst (λ (k : Terms K). Splits (Locked fits k) id v (split_view v) (new_view v)) (sym is) (splits fits t id v live unheld some_next below whole)

pub joins_as : {K : Type 0} (fits : K → ℕ → List ℕ → Type 0) (t key : Terms K) (id : ℕ) (v : View K) (other : ℕ) (w : View K) → key ≡ t → v.of ≡ Some t → v.holds ≡ false → w.of ≡ Some t → w.holds ≡ false → w.node + 1 ≡ v.joined → w.pending ≡ Pending.Idle → Joins (Locked fits key) id v other w (joined_view v w) spent_view
joins_as {K} fits t key id v other w is live unheld live' unheld' next idle = subst (λ (k : Terms K). Joins (Locked fits k) id v other w (joined_view v w) spent_view) (sym is) (joins fits t id v other w live unheld live' unheld' next idle)

-- the refusal of a number of nodes is neither a line nor the other refusal
pub no_refusal : {A : Type 0} (a : A) → ◌≡◌ {A = Result A OpenRefusal} (Ok a) (Err OpenRefusal.BadNodes) → ⊥
no_refusal a e = cc

pub other_refusal : {A : Type 0} → ◌≡◌ {A = Result A OpenRefusal} (Err OpenRefusal.OutOfMemory) (Err OpenRefusal.BadNodes) → ⊥
other_refusal e = cc
