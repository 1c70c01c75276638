-- The take, a take that misses, and the give keep the rule: each is one more step of the run.
use Rattle.std.specs.Bool.{MatchBool}
use Rattle.std.proofs.Common.{◌≡◌, ◌≢◌, ℕ, ◌<◌, true, false, eqb, Option, Some, None, List, [], ◌∷◌, ◌++◌, length, get_or, set, refl, sym, ap, ◌∙◌, subst, inl, inr, ⊎_elim, ◌⊎◌, arith, rules, length-set, get_or-set_same}
use mathlib.Core.Option as maybe
use mathlib.Core.Option.{none, some, some-injective}
use lib.ListN.{get_elem?}
use lib.Seq.{set-get_or}
use prog.Atomic.{either}
use Rattle.atomic_table.specs.Table.{Act, keeps, takes, gives, rest, homes_after, carried_after, Valid, stepped, Allows}
use Rattle.atomic_table.proofs.Lists.{at_set, set_here, set_else, exchanged}
use Rattle.sci_core.specs.Whole.{WholeLine, state_of}
use Rattle.sci_port.specs.declared.calls.Call.{Call}
use Rattle.sci_port.specs.Runs.{done_by, log_of}
use Rattle.sci_port.proofs.Running.{leads_on, done_else, logs_on}
use Rattle.sci_coarse.specs.declared.views.Terms.{Terms}
use Rattle.sci_coarse.specs.declared.views.View.{View}
use Rattle.sci_coarse.specs.declared.views.Entry.{Entry}
use Rattle.sci_coarse.specs.declared.views.Entry.TheVariants.{Took, Missed, Gave}
use Rattle.sci_coarse.specs.Rule.{Shared, IsOn, IsLawfulWhole, IsAtHome, IsOut, IsSpent, Sits, Locked, opened_on}
use Rattle.sci_coarse.specs.Runs.{Calls, Moves}
use Rattle.sci_coarse.specs.Regions.{Seated, Finds, taken, given}
use Rattle.sci_coarse.specs.Views.{keeps_of, took, missed, gave}
use Rattle.sci_coarse.proofs.Calling.{still_after, lawful_after}
use Rattle.sci_coarse.proofs.Listed.{inside, not_true, clash, not_none, same_some}

-- a seat that was joined to another stays so, while a seat that was not has a new view
pub spent_stays : {K : Type 0} (t : Terms K) (views : List (View K)) (id : ℕ) (v u : View K) → get_elem? views id ≡ some v → v.of ≡ Some t → (i : ℕ) → IsSpent views i → IsSpent (set views id u) i
spent_stays t views id v u at live i k = record {
  view = k.view;
  at = set_else views id i u (λ is. not_none v.of t (ap (λ (x : View _). x.of) (some-injective v k.view (sym at ∙ (ap (get_elem? views) (sym is) ∙ k.at))) ∙ k.of) live) ∙ k.at;
  of = k.of;
  unheld = k.unheld;
  pending = k.pending;
}

-- it is another seat than one that was not
spent_else : {K : Type 0} (t : Terms K) (views : List (View K)) (id : ℕ) (v : View K) → get_elem? views id ≡ some v → v.of ≡ Some t → (i : ℕ) → IsSpent views i → i ≡ id → ⊥
spent_else t views id v at live i k is = not_none v.of t (ap (λ (x : View _). x.of) (some-injective v k.view (sym at ∙ (ap (get_elem? views) (sym is) ∙ k.at))) ∙ k.of) live

-- the view of the same seat after one more step, at this place, whatever else changed
pub record IsNext {K : Type 0} (v u : View K) (place : ℕ) (e : Entry) : Type 0 where
  pub of : u.of ≡ v.of
  pub node : u.node ≡ v.node
  pub next : u.next ≡ v.next
  pub joined : u.joined ≡ v.joined
  pub log : u.log ≡ v.log ++ (place, e) ∷ []
  pub others : u.others ≡ v.others

-- what it keeps of any node is what that node did
keeps_on : {K : Type 0} (v u : View K) (id : ℕ) (run : List (ℕ × Entry)) (e : Entry) (i : ℕ) → v.node ≡ id → IsNext v u (length run) e → keeps_of i v ≡ done_by i run → keeps_of i u ≡ done_by i (run ++ (id, e) ∷ [])
keeps_on v u id run e i mine n was = (λ j. log_of i (n.node j) (n.log j) (n.others j)) ∙ (logs_on i v.node v.log v.others run e was ∙ ap (λ (k : ℕ). done_by i (run ++ (k, e) ∷ [])) mine)

module _ {K : Type 0} (fits : K → ℕ → List ℕ → Type 0) (t : Terms K) where
  module _ (s : Shared K) (st : Locked fits t s) (id : ℕ) (v u : View K) (e : Entry) (w : WholeLine K) (at : get_elem? s.views id ≡ some v) (live : v.of ≡ Some t) (next : IsNext v u (length st.run) e) (step : u.pending ≡ (state_of w).steps id) (still : (j : ℕ) → j ≢ id → (state_of w).steps j ≡ (state_of st.whole).steps j) where
    -- one seat has a new view, with the node's step in the whole line w, and its log in the run that has grown
    resits : (j : ℕ) (x : View K) → get_elem? (set s.views id u) j ≡ some x → Sits t w (st.run ++ (id, e) ∷ []) (set s.views id u) j x
    resits j x is_at =
        let all : List (View K) = set s.views id u in let run : List (ℕ × Entry) = st.run ++ (id, e) ∷ [] in
        let o = st.seated id v at in let mine : v.node ≡ id = (o.seat t live).1 in
        let long : length all ≡ length s.views = length-set s.views id u in let same_next = next.next in let same_joined = next.joined in
        let stays : (i : ℕ) → IsSpent s.views i → IsSpent all i = spent_stays t s.views id v u at live in
        ⊎_elim
        (λ (k : (j ≡ id) × (u ≡ x)). subst (λ (z : ℕ × View K). Sits t w run all z.0 z.1) (λ i. (sym k.0 i, k.1 i)) record {
          seat = λ y h. let p = o.seat y (sym next.of ∙ h) in (p.0, next.node ∙ p.1);
          last = λ h. let l = o.last (omega arith) in (l.0, same_next ∙ (l.1 ∙ sym long));
          step = step;
          log = λ y h. keeps_on v u id st.run e id mine next (o.log y (sym next.of ∙ h));
          joins = λ y h i p q. let l = o.joins y (sym next.of ∙ h) i (omega arith) q in (stays i l.0, keeps_on v u id st.run e i mine next l.1);
        })
        (λ (k : (j ≢ id) × (get_elem? s.views j ≡ some x)). let m = st.seated j x k.1 in record {
          seat = m.seat;
          last = λ h. ((m.last h).0, (m.last h).1 ∙ sym long);
          step = m.step ∙ sym (still j k.0);
          log = λ y h. m.log y h ∙ sym (done_else j id st.run e (λ z. k.0 (sym z)));
          joins = λ y h i p q. let l = m.joins y h i p q in (stays i l.0, l.1 ∙ sym (done_else i id st.run e (λ z. spent_else t s.views id v at live i l.0 (sym z))));
        })
        (at_set s.views id j u x is_at)

    -- the table after one more step of the run
    on_step : (words : List ℕ) (homes : List (maybe.Option (WholeLine K))) (holder : Option ℕ) → Moves fits (st.holder, st.whole) id e (holder, w) → IsOn t w → IsLawfulWhole fits w → length words ≡ 1 → length homes ≡ 1
        → IsAtHome record { words = words; homes = homes; views = set s.views id u } w holder ⊎ IsOut record { words = words; homes = homes; views = set s.views id u } w holder
        → Locked fits t record { words = words; homes = homes; views = set s.views id u }
    on_step words homes holder move on lawful wide roomy place =
        let long : length (set s.views id u) ≡ length s.views = length-set s.views id u in
        let few = st.few in let near : id < length s.views = inside s.views v id at in
        record {
          run = st.run ++ (id, e) ∷ [];
          holder = holder;
          whole = w;
          ran = leads_on (Moves fits) (None, opened_on t) st.run (st.holder, st.whole) id e (holder, w) st.ran move;
          fit = st.fit;
          on = on;
          lawful = lawful;
          wide = wide;
          roomy = roomy;
          place = place;
          few = omega arith;
          seated = resits;
          unseated = λ j far. let k = st.unseated j (omega arith) in let apart : j ≢ id = λ z. absurd (omega arith) in (still j apart ∙ k.0, done_else j id st.run e (λ z. apart (sym z)) ∙ k.1);
        }

  abbrev Ends : Shared K → ℕ → Seated K → (Seated K → Type 0) → ℕ → Type 0
  Ends s id me told z = (w : View K) × (act : Act (WholeLine K)) × Valid s.homes me.1 act × Locked fits t (stepped s 0 z id me.1 w act) × told (w, carried_after me.1 act)

  finds : (s : Shared K) (st : Locked fits t s) (id : ℕ) (v : View K) → get_elem? s.views id ≡ some v → v.of ≡ Some t → Finds fits v st.whole
  finds s st id v at live u h =
      let o = st.seated id v at in let is : (u ≡ t) × (v.node ≡ id) = o.seat u h in
      let near : id < length s.views = inside s.views v id at in let few = st.few in let node : v.node ≡ id = is.1 in
      subst (λ (x : Terms K). IsOn x st.whole × IsLawfulWhole fits st.whole × (v.node < x.nodes) × (v.pending ≡ (state_of st.whole).steps v.node)) (sym is.0)
      (st.on, st.lawful, omega arith, o.step ∙ ap (state_of st.whole).steps (sym node))

  -- the lock word was free
  takes_free : (s : Shared K) (st : Locked fits t s) (id : ℕ) (me : Seated K) → get_elem? s.views id ≡ some me.0 → me.0.of ≡ Some t → me.1 ≡ [] → IsAtHome s st.whole st.holder → Ends s id me (taken fits me (get_or s.words 0 0)) 1
  takes_free s st id me at live hand home =
      let w : WholeLine K = st.whole in let k : ℕ = length st.run in let v : View K = took me.0 k w in
      let near : id < length s.views = inside s.views me.0 id at in let one = st.wide in (
        v,
        takes 0 w,
        home.home,
        on_step s st id me.0 v Took w at live record { of = refl; node = refl; next = refl; joined = refl; log = refl; others = refl } (st.seated id me.0 at).step (λ j ne. refl) (set s.words 0 1) (set s.homes 0 none) (Some id) (home.nobody, refl) st.on st.lawful (length-set s.words 0 1 ∙ st.wide) (length-set s.homes 0 none ∙ st.roomy)
            (inr record {
              taken = get_or-set_same s.words 0 1 0 (omega arith);
              seat = id;
              view = v;
              somebody = refl;
              at = set_here s.views id v near;
              holds = refl;
              took = refl;
              alone = λ j u e h. ⊎_elim (λ (k : (j ≡ id) × (v ≡ u)). k.0) (λ (k : (j ≢ id) × (get_elem? s.views j ≡ some u)). absurd (clash u.holds h (home.unheld j u k.1))) (at_set s.views id j v u e);
            }),
        ((λ _. (w, k, refl, (λ i. (0, w) ∷ hand i), finds s st id me.0 at live)), λ ne. absurd (ne home.free)),
      )

  -- the lock word was taken
  takes_taken : (s : Shared K) (st : Locked fits t s) (id : ℕ) (me : Seated K) → get_elem? s.views id ≡ some me.0 → me.0.of ≡ Some t → me.0.holds ≡ false → me.1 ≡ [] → get_or s.words 0 0 ≢ 0 → IsOut s st.whole st.holder → Ends s id me (taken fits me (get_or s.words 0 0)) (get_or s.words 0 0)
  takes_taken s st id me at live unheld hand miss out =
      let k : ℕ = length st.run in let v : View K = missed me.0 k in let few = st.few in
      let apart : out.seat ≢ id = λ is. clash out.view.holds out.holds (ap (λ (x : View K). x.holds) (sym (some-injective me.0 out.view (sym at ∙ (ap (get_elem? s.views) (sym is) ∙ out.at)))) ∙ unheld) in (
        v,
        keeps,
        tt,
        subst (λ (ws : List ℕ). Locked fits t record { words = ws; homes = s.homes; views = set s.views id v }) (sym (set-get_or s.words 0 0))
            (on_step s st id me.0 v Missed st.whole at live record { of = refl; node = refl; next = refl; joined = refl; log = refl; others = refl } (st.seated id me.0 at).step (λ j ne. refl) s.words s.homes st.holder (out.seat, out.somebody, apart, refl) st.on st.lawful st.wide st.roomy
            (inr record {
              taken = out.taken;
              seat = out.seat;
              view = out.view;
              somebody = out.somebody;
              at = set_else s.views id out.seat v apart ∙ out.at;
              holds = out.holds;
              took = out.took;
              alone = λ j u e h. ⊎_elim (λ (k : (j ≡ id) × (v ≡ u)). absurd (clash me.0.holds (ap (λ (x : View K). x.holds) k.1 ∙ h) unheld)) (λ (k : (j ≢ id) × (get_elem? s.views j ≡ some u)). out.alone j u k.1 h) (at_set s.views id j v u e);
            })),
        (
          (λ hit. absurd (miss hit)),
          λ _. (
            k,
            refl,
            hand,
            λ u h.
                let near : out.seat < length s.views = inside s.views out.view out.seat out.at in
                let mine : id < length s.views = inside s.views me.0 id at in
                let nodes : u.nodes ≡ t.nodes = ap (λ (x : Terms K). x.nodes) ((st.seated id me.0 at).seat u h).0 in omega arith,
          ),
        ),
      )

  takes_kind : (slots id : ℕ) (me : Seated K) → me.0.of ≡ Some t → me.0.holds ≡ false → me.1 ≡ [] → Allows (Locked fits t) slots id me 0 (λ z. either (eqb z 0) 1 z) (taken fits me)
  takes_kind slots id me live unheld hand s st long at lt =
      let found : ℕ = get_or s.words 0 0 in
      exchanged found 0 1 (Ends s id me (taken fits me found))
      (λ hit. ⊎_elim (λ (home : IsAtHome s st.whole st.holder). takes_free s st id me at live hand home) (λ (out : IsOut s st.whole st.holder). let one : found ≡ 1 = out.taken in absurd (omega arith)) st.place)
      (λ miss. ⊎_elim (λ (home : IsAtHome s st.whole st.holder). absurd (miss home.free)) (λ (out : IsOut s st.whole st.holder). takes_taken s st id me at live unheld hand miss out) st.place)

  gives_out : (s : Shared K) (st : Locked fits t s) (id : ℕ) (me : Seated K) (call : Call) (x : WholeLine K) → get_elem? s.views id ≡ some me.0 → me.0.of ≡ Some t → id ≡ me.0.node → me.0.holds ≡ true → me.1 ≡ (0, x) ∷ [] → Calls fits me.0.node call st.whole x → IsOut s st.whole st.holder → Ends s id me (given call me) 0
  gives_out s st id me call x at live node holds hand made out =
      let k : ℕ = length st.run in let v : View K = gave me.0 k x call in let one = st.wide in let cell = st.roomy in
      let still : (j : ℕ) → j ≢ id → (state_of x).steps j ≡ (state_of st.whole).steps j = λ j ne. still_after fits me.0.node call st.whole x made j (λ e. ne (e ∙ sym node)) in
      let mine : id ≡ out.seat = out.alone id me.0 at holds in (
        v,
        gives,
        tt,
        subst (λ (c : List (ℕ × WholeLine K)). Locked fits t record { words = set s.words 0 0; homes = homes_after s.homes c gives; views = set s.views id v }) (sym hand)
            (on_step s st id me.0 v (Gave call) x at live record { of = refl; node = refl; next = refl; joined = refl; log = refl; others = refl } (ap (state_of x).steps (sym node)) still (set s.words 0 0) (set s.homes 0 (some x)) None
            (out.somebody ∙ ap (λ (i : ℕ). Some i) (sym mine), refl, subst (λ (i : ℕ). Calls fits i call st.whole x) (sym node) made)
            record { keep = made.same.keep ∙ st.on.keep; number = made.same.number ∙ st.on.number; nodes = made.same.nodes ∙ st.on.nodes }
            (lawful_after fits me.0.node call st.whole x made st.lawful) (length-set s.words 0 0 ∙ st.wide) (length-set s.homes 0 (some x) ∙ st.roomy)
            (inl record {
              nobody = refl;
              free = get_or-set_same s.words 0 0 0 (omega arith);
              home = set_here s.homes 0 (some x) (omega arith);
              unheld = λ j u e. ⊎_elim (λ (k : (j ≡ id) × (v ≡ u)). sym (ap (λ (y : View K). y.holds) k.1)) (λ (k : (j ≢ id) × (get_elem? s.views j ≡ some u)). not_true u.holds (λ h. k.0 (out.alone j u k.1 h ∙ sym mine))) (at_set s.views id j v u e);
            })),
        (x, k, hand, refl, ap rest hand),
      )

  gives_kind : (slots id : ℕ) (me : Seated K) (call : Call) (w x : WholeLine K) → me.0.of ≡ Some t → me.0.holds ≡ true → me.0.take ≡ Some w → me.1 ≡ (0, x) ∷ [] → Calls fits me.0.node call w x → Allows (Locked fits t) slots id me 0 (λ _. 0) (λ _. given call me)
  gives_kind slots id me call w x live holds took hand made s st long at lt = ⊎_elim
      (λ (home : IsAtHome s st.whole st.holder). absurd (clash me.0.holds holds (home.unheld id me.0 at)))
      (λ (out : IsOut s st.whole st.holder).
      let is : id ≡ out.seat = out.alone id me.0 at holds in
      let mine : me.0 ≡ out.view = some-injective me.0 out.view (sym at ∙ (ap (get_elem? s.views) is ∙ out.at)) in
      let was : w ≡ st.whole = same_some w st.whole (sym took ∙ (ap (λ (y : View K). y.take) mine ∙ out.took)) in
      gives_out s st id me call x at live (sym ((st.seated id me.0 at).seat t live).1) holds hand (subst (λ (y : WholeLine K). Calls fits me.0.node call y x) was made) out)
      st.place

pub takes_as : {K : Type 0} (fits : K → ℕ → List ℕ → Type 0) (t key : Terms K) (slots id : ℕ) (me : Seated K) → key ≡ t → me.0.of ≡ Some t → me.0.holds ≡ false → me.1 ≡ [] → Allows (Locked fits key) slots id me 0 (λ z. either (eqb z 0) 1 z) (taken fits me)
takes_as {K} fits t key slots id me is live unheld hand = subst (λ (k : Terms K). Allows (Locked fits k) slots id me 0 (λ z. either (eqb z 0) 1 z) (taken fits me)) (sym is) (takes_kind fits t slots id me live unheld hand)

pub gives_as : {K : Type 0} (fits : K → ℕ → List ℕ → Type 0) (t key : Terms K) (slots id : ℕ) (me : Seated K) (call told : Call) (w x : WholeLine K) → key ≡ t → told ≡ call → me.0.of ≡ Some t → me.0.holds ≡ true → me.0.take ≡ Some w → me.1 ≡ (0, x) ∷ [] → Calls fits me.0.node call w x → Allows (Locked fits key) slots id me 0 (λ _. 0) (λ _. given told me)
gives_as {K} fits t key slots id me call told w x is tells live holds took hand made = subst (λ (z : Terms K × Call). Allows (Locked fits z.0) slots id me 0 (λ _. 0) (λ _. given z.1 me)) (λ i. (sym is i, sym tells i)) (gives_kind fits t slots id me call w x live holds took hand made)

-- what a take came to, by the test of the number that it found
pub took_by : {P Q : Type 0} (found : ℕ) → (found ≡ 0 → P) × (found ≢ 0 → Q) → MatchBool (eqb found 0) P Q
took_by found h = search rules
