-- The calls of a run under the lock word are one legal history.
use Rattle.std.proofs.Common.{◌≡◌, ℕ, None, List, [], ◌∷◌, ap, subst}
use Rattle.std.proofs.lemmas.List.{length-replicate}
use Rattle.sci_core.specs.State.{invalid}
use Rattle.sci_core.specs.Run.{HasValue}
use Rattle.sci_core.specs.Whole.{WholeLine, IsSameLine, nodes_of, state_of}
use Rattle.sci_core.proofs.Lawfully.{opened_value}
use Rattle.sci_port.specs.History.{IsHistory, value_of}
use Rattle.sci_port.specs.Runs.{Leads, done_by}
use Rattle.sci_port.proofs.Running.{same_run}
use Rattle.sci_port.specs.Solo.{Gives}
use Rattle.sci_port.proofs.Histories.{history}
use Rattle.sci_coarse.specs.declared.views.Entry.{Entry}
use Rattle.sci_coarse.specs.declared.views.Entry.TheVariants.{Took, Missed, Gave}
use Rattle.sci_coarse.specs.declared.views.Terms.{Terms}
use Rattle.sci_coarse.specs.Rule.{opened_on}
use Rattle.sci_coarse.specs.Runs.{Calls, Point, Moves, calls_in}

moved : {K : Type 0} (fits : K → ℕ → List ℕ → Type 0) (w x : WholeLine K) → IsSameLine w x → (P : ℕ → (List ℕ → Type 0) → Type 0) → P (nodes_of x) (fits x.keep x.number) → P (nodes_of w) (fits w.keep w.number)
moved fits w x s P h = subst (λ (n : ℕ). P n (fits w.keep w.number)) s.nodes (subst (λ (m : ℕ). P (nodes_of x) (fits w.keep m)) s.number (subst (λ k. P (nodes_of x) (fits k x.number)) s.keep h))

module _ {K : Type 0} (fits : K → ℕ → List ℕ → Type 0) where
  -- the calls lead from one state to the next
  abbrev pub LedFrom : Point K → List (ℕ × Entry) → Point K → Type 0
  LedFrom p run q = Leads (Gives (nodes_of p.1) (fits p.1.keep p.1.number)) (state_of p.1) (calls_in run) (state_of q.1)

  pub led : (p : Point K) (run : List (ℕ × Entry)) (q : Point K) → Leads (Moves fits) p run q → LedFrom p run q
  led p [] q r = ap (λ (z : Point K). state_of z.1) r
  led p ((node, Took) ∷ es) q r = subst (λ (z : Point K). LedFrom z es q) r.1.1 (led r.0 es q r.2)
  led p ((node, Missed) ∷ es) q r = subst (λ (z : Point K). LedFrom z es q) r.1.3 (led r.0 es q r.2)
  led p ((node, Gave call) ∷ es) q r =
      let c : Calls fits node call p.1 r.0.1 = r.1.2 in
      (state_of r.0.1, c.gives, moved fits p.1 r.0.1 c.same (λ n f. Leads (Gives n f) (state_of r.0.1) (calls_in es) (state_of q.1)) (led r.0 es q r.2))

  -- from the line as it was opened
  pub ended : (t : Terms K) (run : List (ℕ × Entry)) (w : WholeLine K) → fits t.keep t.number t.opening.words → Leads (Moves fits) (None, opened_on t) run (None, w) → HasValue t.nodes (fits t.keep t.number) (state_of w) (value_of t.opening (calls_in run)) × IsHistory t.opening (calls_in run) (value_of t.opening (calls_in run))
  ended t run w fit r =
      let count : nodes_of (opened_on t) ≡ t.nodes = length-replicate t.nodes invalid in
      let l : Leads (Gives t.nodes (fits t.keep t.number)) (state_of (opened_on t)) (calls_in run) (state_of w) = subst (λ (n : ℕ). Leads (Gives n (fits t.keep t.number)) (state_of (opened_on t)) (calls_in run) (state_of w)) count (led (None, opened_on t) run (None, w) r) in
      history t.nodes (fits t.keep t.number) (state_of (opened_on t)) t.opening (calls_in run) (state_of w) (opened_value (fits t.keep t.number) t.keep t.number t.nodes t.opening fit) l

  -- where no node took a step, the line is as it was opened
  pub unused : (t : Terms K) (run : List (ℕ × Entry)) (w : WholeLine K) → Leads (Moves fits) (None, opened_on t) run (None, w) → ((i : ℕ) → done_by i run ≡ []) → w ≡ opened_on t
  unused t run w r none = let empty : run ≡ [] = same_run [] run none in ap (λ (z : Point K). z.1) (subst (λ (x : List (ℕ × Entry)). Leads (Moves fits) (None, opened_on t) x (None, w)) empty r)
