-- A log that grew by one call tells the truth: no step slips a call into the past, and none tells a call that was not made. Where
-- no log grew, nothing was done.
use Rattle.std.proofs.Common.{◌≡◌, ◌≢◌, ℕ, zero, suc, ◌<◌, ◌≤◌, List, [], ◌∷◌, ◌++◌, length, refl, sym, ap, ◌∙◌, subst, arith, length-set}
use mathlib.Core.Logic.{dite}
use native.Mathlib.Decide.{ℕ_discrete}
use mathlib.Core.Option.{some}
use lib.ListN.{get_elem?}
use Rattle.atomic_table.proofs.Lists.{set_here, set_else}
use Rattle.sci_core.specs.declared.events.Event.{Event}
use Rattle.sci_core.specs.declared.outcomes.Outcome.{Outcome}
use Rattle.sci_core.specs.declared.pending.Pending.{Pending}
use Rattle.sci_core.specs.Answers.{Misses}
use Rattle.sci_core.specs.State.{State, opened}
use Rattle.sci_core.specs.Row.{Row}
use Rattle.sci_core.specs.Table.{row_of}
use Rattle.sci_core.specs.Step as core
use Rattle.sci_core.proofs.Ranges.{RowBelow, row_below}
use Rattle.sci_port.specs.declared.calls.Call.{Call}
use Rattle.sci_port.specs.declared.calls.Call.TheVariants.{Stepped}
use Rattle.sci_port.specs.Runs.{Leads, done_by}
use Rattle.sci_port.specs.Solo.{Gives}
use Rattle.sci_port.proofs.Histories.{one_next}
use Rattle.sci_port.proofs.Running.{grown, same_run, before_last, one_end, done_here}
use Rattle.sci_fine.specs.declared.views.Terms.{Terms}
use Rattle.sci_fine.specs.declared.views.View.{View}
use Rattle.sci_fine.specs.Rule.{Shared, Stands, word_at}
use Rattle.sci_fine.specs.Steps.{place_of}
use Rattle.sci_fine.specs.Laws.{AreApart, Adds, IsTrue, IsMiss, HasOneRun, AppendsCalls, HidesNothing, MissesTruly, LogsCalls}
use Rattle.sci_fine.proofs.Elements.{inside}
use Rattle.sci_fine.proofs.Giving.{found_there}
use Rattle.sci_fine.proofs.Tables.{place_below}

-- there is an element at this place, or there is none
seat_or : {A : Type 0} {P : Type 0} (l : List A) (i : ℕ) → ((x : A) → get_elem? l i ≡ some x → P) → (length l ≤ i → P) → P
seat_or [] i f g = g (omega arith)
seat_or (x ∷ xs) zero f g = f x refl
seat_or (x ∷ xs) (suc i) f g = seat_or xs i f (λ far. g (omega arith))

last_same : {A : Type 0} (l : List A) (x y : A) → l ++ x ∷ [] ≡ l ++ y ∷ [] → x ≡ y
last_same [] x y h = cc
last_same (a ∷ rest) x y h = let k : rest ++ x ∷ [] ≡ rest ++ y ∷ [] = cc in last_same rest x y k

no_more : {A : Type 0} (l : List A) → l ++ [] ≡ l
no_more [] = refl
no_more {A} (x ∷ xs) = ap (λ (l : List A). x ∷ l) (no_more xs)

module _ {K : Type 0} (fits : K → ℕ → List ℕ → Type 0) (t : Terms K) (s : Shared K) (before : Stands fits t s) (apart : AreApart t s) where
  -- the logs tell what each node did
  one_log : (b : Stands fits t s) (i : ℕ) → done_by i before.run ≡ done_by i b.run
  one_log b i = seat_or s.views i
      (λ v e. sym ((before.seated i v e).log t (apart i v e)) ∙ (b.seated i v e).log t (apart i v e))
      (λ far. (before.unseated i far).1 ∙ sym (b.unseated i far).1)

  module _ (u : Shared K) (after : Stands fits t u) (id : ℕ) (calls : List (ℕ × Call)) (added : Adds s u id calls) where
    node_is : added.before.node ≡ id
    node_is = ((before.seated id added.before added.at).seat t (apart id added.before added.at)).1

    here : get_elem? u.views id ≡ some added.after
    here = ap (λ (l : List (View K)). get_elem? l id) added.views ∙ set_here s.views id added.after (inside s.views added.before id added.at)

    others : (i : ℕ) → i ≢ id → done_by i after.run ≡ done_by i before.run
    others i ne =
        let long : length u.views ≡ length s.views = ap (λ (l : List (View K)). length l) added.views ∙ length-set s.views id added.after in
        seat_or s.views i
        (λ x e. let f : get_elem? u.views i ≡ some x = ap (λ (l : List (View K)). get_elem? l i) added.views ∙ (set_else s.views id i added.after ne ∙ e) in sym ((after.seated i x f).log t (apart i x e)) ∙ (before.seated i x e).log t (apart i x e))
        (λ far. (after.unseated i (omega arith)).1 ∙ sym (before.unseated i far).1)

    mine : done_by id after.run ≡ done_by id before.run ++ calls
    mine = sym ((after.seated id added.after here).log t (added.of ∙ apart id added.before added.at)) ∙ (added.log ∙ ap (λ (l : List (ℕ × Call)). l ++ calls) ((before.seated id added.before added.at).log t (apart id added.before added.at)))

  module _ (u : Shared K) (after : Stands fits t u) (id turn : ℕ) (call : Call) (added : Adds s u id ((turn, call) ∷ [])) where
    one_more : after.run ≡ before.run ++ (id, call) ∷ []
    one_more = grown id before.run after.run turn call (others u after id ((turn, call) ∷ []) added) (mine u after id ((turn, call) ∷ []) added)

    pub is_true : IsTrue fits t s u before after id turn call
    is_true =
        let n : ℕ = t.nodes in let f : List ℕ → Type 0 = fits t.keep t.number in let o : State = opened t.nodes t.opening in
        let m = before_last (Gives n f) o before.run id call after.state (subst (λ (r : List (ℕ × Call)). Leads (Gives n f) o r after.state) one_more after.led) in
        let same : m.0 ≡ before.state = one_end (Gives n f) (λ p q r node e a b. one_next n f p q r node e a b) o before.run m.0 before.state m.1 before.led in
        let place : (turn, call) ≡ (length before.run, call) = last_same (done_by id before.run) (turn, call) (length before.run, call) (sym (mine u after id ((turn, call) ∷ []) added) ∙ (ap (done_by id) one_more ∙ done_here id before.run call)) in
        record {
          gives = subst (λ (z : State). Gives n f z id call after.state) same m.2;
          run = one_more;
          last = ap (λ (z : ℕ × Call). z.0) place;
        }

  module _ (u : Shared K) (after : Stands fits t u) (id : ℕ) (added : Adds s u id []) where
    no_step : after.run ≡ before.run
    no_step = same_run before.run after.run (λ i. dite (ℕ_discrete i id)
        (λ e. ap (λ (z : ℕ). done_by z after.run) e ∙ (mine u after id [] added ∙ (no_more (done_by id before.run) ∙ ap (λ (z : ℕ). done_by z before.run) (sym e))))
        (λ ne. others u after id [] added i ne))

    no_change : after.state ≡ before.state
    no_change =
        let n : ℕ = t.nodes in let f : List ℕ → Type 0 = fits t.keep t.number in let o : State = opened t.nodes t.opening in
        one_end (Gives n f) (λ p q r node e a b. one_next n f p q r node e a b) o before.run after.state before.state (subst (λ (r : List (ℕ × Call)). Leads (Gives n f) o r after.state) no_step after.led) before.led

-- the word of a row that was missed
missed_word : (n : ℕ) (a : State) (x : ℕ) (p : Pending) (e : Event) (code : ℕ) → a.steps x ≡ p → Misses n a x e code a → (code ≡ word_at a (place_of (row_of x p e).change)) × (core.Finds a (row_of x p e).change → ⊥)
missed_word n a x p e code at m = subst (λ (q : Pending). (code ≡ word_at a (place_of (row_of x q e).change)) × (core.Finds a (row_of x q e).change → ⊥)) at (m.found ∙ found_there a (row_of x (a.steps x) e).change, m.other)

module _ {K : Type 0} (fits : K → ℕ → List ℕ → Type 0) (t : Terms K) (s u : Shared K) (before : Stands fits t s) (after : Stands fits t u) (id turn : ℕ) (e : Event) (code : ℕ) (apart : AreApart t s) (added : Adds s u id ((turn, Stepped e (Outcome.Missed code)) ∷ [])) where
  pub is_miss : IsMiss s before.state added.before e code
  is_miss =
      let a : State = before.state in let v : View K = added.before in let r : Row = row_of v.node v.pending e in
      let is : v.node ≡ id = node_is fits t s before apart u after id ((turn, Stepped e (Outcome.Missed code)) ∷ []) added in
      let near : id < length s.views = inside s.views v id added.at in let few : length s.views ≤ t.nodes = before.few in let below : v.node < t.nodes = omega arith in
      let step : a.steps v.node ≡ v.pending = ap a.steps is ∙ sym (before.seated id v added.at).step in
      let gives = (is_true fits t s before apart u after id turn (Stepped e (Outcome.Missed code)) added).gives in
      let misses : Misses t.nodes a v.node e code after.state = subst (λ (z : ℕ). Misses t.nodes a z e code after.state) (sym is) gives.0 in
      let m = missed_word t.nodes a v.node v.pending e code step (subst (λ (z : State). Misses t.nodes a v.node e code z) misses.same misses) in
      let inner : RowBelow t.nodes r = row_below t.nodes a before.ruled.links v.node below v.pending e step in
      record { found = before.words (place_of r.change) (place_below t.nodes a r.change inner.change) ∙ sym m.0; other = m.1 }

module _ {K : Type 0} (fits : K → ℕ → List ℕ → Type 0) where
  pub one_run : HasOneRun fits
  one_run t s a b apart = same_run b.run a.run (one_log fits t s a apart b)

  pub appends : AppendsCalls fits
  appends t s u before after id turn call apart added = is_true fits t s before apart u after id turn call added

  pub hides_nothing : HidesNothing fits
  hides_nothing t s u before after id apart added = (no_step fits t s before apart u after id added, no_change fits t s before apart u after id added)

  pub misses_truly : MissesTruly fits
  misses_truly t s u before after id turn e code apart added = is_miss fits t s u before after id turn e code apart added

  pub logs_calls : LogsCalls fits
  logs_calls t v call u step = (step.turn, ap (λ (x : View K). x.log) step.view, ap (λ (x : View K). x.steps) step.view)
