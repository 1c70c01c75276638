-- No step of the table can tell what did not happen, whatever kind of step it is.
use Rattle.std.proofs.Common.{◌≡◌, ◌≢◌, ℕ, ◌<◌, Option, Some, None, List, [], ◌∷◌, ◌++◌, length, refl, sym, ap, ◌∙◌, subst, ⊎_elim, arith, length-set}
use mathlib.Core.Logic.{dite}
use mathlib.Core.Option.{some}
use native.Mathlib.Decide.{ℕ_discrete}
use lib.ListN.{get_elem?}
use Rattle.atomic_table.proofs.Lists.{set_here, set_else}
use Rattle.sci_port.specs.Runs.{Leads, done_by}
use Rattle.sci_port.proofs.Running.{before_last, grown, own_log, same_run}
use Rattle.sci_coarse.specs.declared.views.Terms.{Terms}
use Rattle.sci_coarse.specs.declared.views.View.{View}
use Rattle.sci_coarse.specs.declared.views.Entry.{Entry}
use Rattle.sci_coarse.specs.declared.views.Entry.TheVariants.{Took, Missed, Gave}
use Rattle.sci_coarse.specs.Runs.{Point, Moves}
use Rattle.sci_coarse.specs.Rule.{Shared, IsAtHome, IsOut, Locked, opened_on}
use Rattle.sci_coarse.specs.Laws.{AreApart, Adds, IsOneStep, HasOneRun, AppendsSteps, HidesNothing, TakesTruly, MissesTruly}
use Rattle.sci_coarse.proofs.Listed.{inside, not_none, seat_or}

-- who has the lock word after a run
holder_of : Option ℕ → List (ℕ × Entry) → Option ℕ
holder_of h [] = h
holder_of h ((node, Took) ∷ es) = holder_of (Some node) es
holder_of h ((node, Missed) ∷ es) = holder_of h es
holder_of h ((node, Gave call) ∷ es) = holder_of None es

no_more : {A : Type 0} (l : List A) → l ++ [] ≡ l
no_more [] = refl
no_more {A} (x ∷ xs) = ap (λ (l : List A). x ∷ l) (no_more xs)

module _ {K : Type 0} (fits : K → ℕ → List ℕ → Type 0) where
  held : (p : Point K) (run : List (ℕ × Entry)) (q : Point K) → Leads (Moves fits) p run q → q.0 ≡ holder_of p.0 run
  unfolding holder_of
  held p [] q r = ap (λ (z : Point K). z.0) r
  held p ((node, Took) ∷ es) q r = held r.0 es q r.2 ∙ ap (λ (z : Point K). holder_of z.0 es) r.1.1
  held p ((node, Missed) ∷ es) q r = held r.0 es q r.2 ∙ ap (λ (z : Point K). holder_of z.0 es) r.1.3
  held p ((node, Gave call) ∷ es) q r = held r.0 es q r.2 ∙ ap (λ (z : Option ℕ). holder_of z es) r.1.1

  module _ (t : Terms K) (s : Shared K) (a : Locked fits t s) (apart : AreApart t s) where
    -- the logs tell what each node did
    one_log : (b : Locked fits t s) (i : ℕ) → done_by i a.run ≡ done_by i b.run
    one_log b i = seat_or s.views i
        (λ v e. sym ((a.seated i v e).log t (apart i v e)) ∙ (b.seated i v e).log t (apart i v e))
        (λ far. (a.unseated i far).1 ∙ sym (b.unseated i far).1)

    module _ (s2 : Shared K) (b : Locked fits t s2) (id : ℕ) (entries : List (ℕ × Entry)) (added : Adds s s2 id entries) where
      others : (i : ℕ) → i ≢ id → done_by i b.run ≡ done_by i a.run
      others i ne =
          let long : length s2.views ≡ length s.views = ap (λ (l : List (View K)). length l) added.views ∙ length-set s.views id added.after in
          seat_or s.views i
          (λ v is. let same : get_elem? s2.views i ≡ some v = ap (λ (l : List (View K)). get_elem? l i) added.views ∙ (set_else s.views id i added.after ne ∙ is) in sym ((b.seated i v same).log t (apart i v is)) ∙ (a.seated i v is).log t (apart i v is))
          (λ far. (b.unseated i (omega arith)).1 ∙ sym (a.unseated i far).1)

      mine : done_by id b.run ≡ done_by id a.run ++ entries
      mine =
          let v : View K = added.before in let u : View K = added.after in
          let near : id < length s.views = inside s.views v id added.at in
          let here : get_elem? s2.views id ≡ some u = ap (λ (l : List (View K)). get_elem? l id) added.views ∙ set_here s.views id u near in
          let live : v.of ≡ Some t = apart id v added.at in
          let node : v.node ≡ id = ((a.seated id v added.at).seat t live).1 in
          sym ((b.seated id u here).log t (added.of ∙ live)) ∙ (own_log id u.node u.log u.others (added.node ∙ node) ∙ (added.log
          ∙ ap (λ (l : List (ℕ × Entry)). l ++ entries) (sym (own_log id v.node v.log v.others node) ∙ (a.seated id v added.at).log t live)))

    module _ (s2 : Shared K) (b : Locked fits t s2) (id : ℕ) (added : Adds s s2 id []) where
      no_step : b.run ≡ a.run
      no_step = same_run a.run b.run (λ i. dite (ℕ_discrete i id)
          (λ is. ap (λ (z : ℕ). done_by z b.run) is ∙ (mine s2 b id [] added ∙ (no_more (done_by id a.run) ∙ ap (λ (z : ℕ). done_by z a.run) (sym is))))
          (λ ne. others s2 b id [] added i ne))

      same_holder : b.holder ≡ a.holder
      same_holder = held (None, opened_on t) b.run (b.holder, b.whole) b.ran ∙ (ap (λ (r : List (ℕ × Entry)). holder_of None r) no_step ∙ sym (held (None, opened_on t) a.run (a.holder, a.whole) a.ran))

    module _ (s2 : Shared K) (b : Locked fits t s2) (id place : ℕ) (e : Entry) (one : IsOneStep s s2 id place e) where
      appended : b.run ≡ a.run ++ (id, e) ∷ []
      appended = grown id a.run b.run place e (others s2 b id ((place, e) ∷ []) one) (mine s2 b id ((place, e) ∷ []) one)

      -- the point where the step was made, and who had the lock word there
      made_at : (mid : Point K) × (a.holder ≡ mid.0) × Moves fits mid id e (b.holder, b.whole)
      made_at =
          let m = before_last (Moves fits) (None, opened_on t) a.run id e (b.holder, b.whole) (subst (λ (r : List (ℕ × Entry)). Leads (Moves fits) (None, opened_on t) r (b.holder, b.whole)) appended b.ran) in
          (m.0, held (None, opened_on t) a.run (a.holder, a.whole) a.ran ∙ sym (held (None, opened_on t) a.run m.0 m.1), m.2)

  pub one_run : HasOneRun fits
  one_run t s a b apart = same_run b.run a.run (one_log t s a apart b)

  pub appends : AppendsSteps fits
  appends t s s2 a b id place e apart one = appended t s a apart s2 b id place e one

  pub hides_nothing : HidesNothing fits
  hides_nothing t s s2 a b id apart added = (no_step t s a apart s2 b id added, same_holder t s a apart s2 b id added)

  pub takes_truly : TakesTruly fits
  takes_truly t s s2 a b id place apart one =
      let m = made_at t s a apart s2 b id place Took one in let none : a.holder ≡ None = m.1 ∙ m.2.0 in
      ⊎_elim (λ (home : IsAtHome s a.whole a.holder). home.free) (λ (out : IsOut s a.whole a.holder). absurd (not_none a.holder out.seat none out.somebody)) a.place

  pub misses_truly : MissesTruly fits
  misses_truly t s s2 a b id place apart one =
      let m = made_at t s a apart s2 b id place Missed one in let had : a.holder ≡ Some m.2.0 = m.1 ∙ m.2.1 in
      ⊎_elim (λ (home : IsAtHome s a.whole a.holder). absurd (not_none a.holder m.2.0 home.nobody had)) (λ (out : IsOut s a.whole a.holder). out.taken) a.place
