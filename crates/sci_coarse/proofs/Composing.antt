-- A take, a call and a give, one after another, are a region.
use Rattle.std.specs.Prelude.{MatchBool}
use Rattle.std.proofs.Common.{◌≡◌, ℕ, ◌<◌, Bool, true, false, Some, List, [], ◌∷◌, refl, sym, ap, ◌∙◌, subst, arith}
use Rattle.sci_core.specs.declared.pending.Pending.{Pending}
use Rattle.sci_core.specs.declared.events.Event.{Event}
use Rattle.sci_core.specs.Answers.{is_allowed}
use Rattle.sci_core.specs.Whole.{WholeLine, nodes_of, state_of}
use Rattle.sci_core.specs.declared.outcomes.Outcome.{Outcome}
use Rattle.sci_port.specs.declared.calls.Call.{Call}
use Rattle.sci_port.specs.declared.calls.Call.TheVariants.{Stepped}
use Rattle.sci_port.specs.Owes.{Owes, TakesRow}
use Rattle.sci_coarse.specs.declared.views.Terms.{Terms}
use Rattle.sci_coarse.specs.declared.views.View.{View}
use Rattle.sci_coarse.specs.Rule.{IsOn}
use Rattle.sci_coarse.specs.Runs.{Calls}
use Rattle.sci_coarse.specs.Regions.{Seated, HasTaken, HasCalled, IsRegion, Came, given}
use Rattle.sci_coarse.specs.Views.{took, gave}
use Rattle.sci_coarse.proofs.Listed.{same_one}
use Rattle.sci_coarse.proofs.Calling.{lawful_after, owed_on}

pub was_taken : (P Q : Type 0) (b : Bool) → MatchBool b P Q → b ≡ true → P
was_taken P Q true h e = h
was_taken P Q false h e = let z : false ≡ true = e in cc

pub was_missed : (P Q : Type 0) (b : Bool) → MatchBool b P Q → b ≡ false → Q
was_missed P Q false h e = h
was_missed P Q true h e = let z : true ≡ false = e in cc

-- a busy step leaves the pending step
pub busy_row : (n me : ℕ) (p : Pending) (e : Event) → TakesRow n me p e Outcome.Busy p
busy_row n me p Event.Look = refl
busy_row n me p _ = refl

module _ {K : Type 0} (fits : K → ℕ → List ℕ → Type 0) (t : Terms K) (node : ℕ) (m m1 : Seated K) (of : m.0.of ≡ Some t) (me : m.0.node ≡ node) (take : HasTaken fits m m1) where
  -- the whole line that was taken
  abbrev w : WholeLine K
  w = take.0

  -- what is in hand after the take
  pub in_hand : (m1.1 ≡ (0, w) ∷ []) × IsOn t w × (node < nodes_of w) × (m.0.pending ≡ (state_of w).steps node)
  in_hand =
      let f = take.4 t of in let nodes : nodes_of w ≡ t.nodes = f.0.nodes in let near : m.0.node < t.nodes = f.2 in let own : m.0.node ≡ node = me in
      (take.3, f.0, omega arith, f.3 ∙ ap (state_of w).steps me)

  pub hand : (v : WholeLine K) × (m1.1 ≡ (0, v) ∷ []) × IsOn t v × (node < nodes_of v)
  hand = (w, in_hand.0, in_hand.1, in_hand.2)

  -- and the step that the seat keeps is the node's on it
  pub hand_in : (p : Pending) → m.0.pending ≡ p → (v : WholeLine K) × (m1.1 ≡ (0, v) ∷ []) × IsOn t v × (node < nodes_of v) × (p ≡ (state_of v).steps node)
  hand_in p is = (w, in_hand.0, in_hand.1, in_hand.2, sym is ∙ in_hand.3)

  pub hand_of : (other : ℕ) → other < t.nodes → (v : WholeLine K) × (m1.1 ≡ (0, v) ∷ []) × (other < nodes_of v)
  hand_of other near = let f = take.4 t of in let nodes : nodes_of w ≡ t.nodes = f.0.nodes in (w, take.3, omega arith)

  pub hand_for : (p : Pending) (e : Event) → m.0.pending ≡ p → is_allowed t.nodes node p e ≡ true → (v : WholeLine K) × (m1.1 ≡ (0, v) ∷ []) × IsOn t v × (node < nodes_of v) × (is_allowed (nodes_of v) node ((state_of v).steps node) e ≡ true)
  hand_for p e is may = (
    w,
    in_hand.0,
    in_hand.1,
    in_hand.2,
    subst (λ (n : ℕ). is_allowed n node ((state_of w).steps node) e ≡ true) (sym in_hand.1.nodes) (subst (λ (q : Pending). is_allowed t.nodes node q e ≡ true) (sym is ∙ in_hand.3) may),
  )

  module _ (call : Call) (m2 : Seated K) (called : HasCalled fits node call m1 m2) where
    abbrev x : WholeLine K
    x = called.1

    pub calls : Calls fits node call w x
    calls = subst (λ (v : WholeLine K). Calls fits node call v x) (same_one m1.1 called.0 w called.2 take.3) called.5

    view : m2.0 ≡ took m.0 take.1 w
    view = called.4 ∙ take.2

    -- what the give asks
    pub still_of : m2.0.of ≡ Some t
    still_of = ap (λ (v : View K). v.of) view ∙ of

    pub still_holds : m2.0.holds ≡ true
    still_holds = ap (λ (v : View K). v.holds) view

    pub to_give : (v : WholeLine K) × (y : WholeLine K) × (m2.0.take ≡ Some v) × (m2.1 ≡ (0, y) ∷ []) × Calls fits m2.0.node call v y
    to_give = (
      w,
      x,
      ap (λ (v : View K). v.take) view,
      called.3,
      subst (λ (i : ℕ). Calls fits i call w x) (sym (ap (λ (v : View K). v.node) view ∙ me)) calls,
    )

    module _ (m3 : Seated K) (give : given call m2 m3) where
      after : m3.0 ≡ gave (took m.0 take.1 w) give.1 x call
      after = give.3 ∙ (ap (λ (y : WholeLine K). gave m2.0 give.1 y call) (same_one m2.1 give.0 x give.2 called.3) ∙ ap (λ (v : View K). gave v give.1 x call) view)

      pub region : IsRegion fits t m.0 call m3.0
      region = record {
        take = w;
        give = x;
        on = (take.4 t of).0;
        lawful = (take.4 t of).1;
        after = lawful_after fits node call w x calls (take.4 t of).1;
        step = (take.4 t of).3;
        calls = subst (λ (i : ℕ). Calls fits i call w x) (sym me) calls;
        taken_at = take.1;
        given_at = give.1;
        view = after;
      }

      -- the seat after
      pub sits : (m3.0.of ≡ Some t) × (m3.0.node ≡ node) × (m3.0.joined ≡ m.0.joined) × (m3.0.holds ≡ false) × (m3.1 ≡ [])
      sits = (ap (λ (v : View K). v.of) after ∙ of, ap (λ (v : View K). v.node) after ∙ me, ap (λ (v : View K). v.joined) after, ap (λ (v : View K). v.holds) after, give.4)

      stands : m3.0.pending ≡ (state_of x).steps node
      stands = ap (λ (v : View K). v.pending) after ∙ ap (state_of x).steps me

      pub owed : Owes t.nodes (fits t.keep t.number) node m.0.pending call m3.0.pending
      owed = subst (λ (p : Pending). Owes t.nodes (fits t.keep t.number) node p call m3.0.pending) (sym in_hand.3)
          (subst (λ (q : Pending). Owes t.nodes (fits t.keep t.number) node ((state_of w).steps node) call q) (sym stands)
          (owed_on fits t w node ((state_of w).steps node) call ((state_of x).steps node) in_hand.1 calls.owes))

      -- a load leaves the step
      pub still : state_of x ≡ state_of w → m3.0.pending ≡ m.0.pending
      still e = stands ∙ ap (λ u. u.steps node) e ∙ sym in_hand.3

      -- the same of the steps that a seat keeps
      pub owing : (p q : Pending) → m3.0.pending ≡ q → m.0.pending ≡ p → Owes t.nodes (fits t.keep t.number) node p call q
      owing p q after_is before_is = subst (λ (x : Pending). Owes t.nodes (fits t.keep t.number) node x call q) before_is (subst (λ (x : Pending). Owes t.nodes (fits t.keep t.number) node m.0.pending call x) after_is owed)

      -- the step that was read in hand
      pub reads : (p : Pending) → ((y : WholeLine K) → m2.1 ≡ (0, y) ∷ [] → p ≡ (state_of y).steps node) → m3.0.pending ≡ p
      reads p h = stands ∙ sym (h x called.3)

-- a step that was not busy
pub came_step : {K : Type 0} (fits : K → ℕ → List ℕ → Type 0) (t : Terms K) (v : View K) (e : Event) (o : Outcome) (u : View K) → IsRegion fits t v (Stepped e o) u → Came fits t v (Stepped e o) u
came_step fits t v e (Outcome.Done answer) u r = r
came_step fits t v e (Outcome.Missed word) u r = r
came_step fits t v e Outcome.Busy u r = absurd r.calls.gives.0
