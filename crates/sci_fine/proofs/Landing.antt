-- What a seat is after a call, where the parts of the call go by the seat's own names.
use Rattle.std.proofs.Common.{◌≡◌, ◌≢◌, ℕ, ◌<◌, true, Option, Some, List, [], map, refl, sym, ap, ◌∙◌, subst}
use Rattle.sci_core.specs.declared.lines.Line.{Line}
use Rattle.sci_core.specs.declared.pending.Pending.{Pending}
use Rattle.sci_core.specs.declared.events.Event.{Event}
use Rattle.sci_core.specs.declared.outcomes.Outcome.{Outcome}
use Rattle.sci_core.specs.Answers.{FitsEvent}
use Rattle.sci_core.specs.Carrying.{hand_of}
use Rattle.sci_core.specs.Row.{Row}
use Rattle.sci_core.specs.State.{State}
use Rattle.sci_core.specs.Step.{taken_line}
use Rattle.sci_core.specs.Table.{has_row, row_of}
use Rattle.sci_port.specs.declared.calls.Call.{Call}
use Rattle.sci_port.specs.declared.calls.Call.TheVariants.{Stepped}
use Rattle.sci_port.specs.Owes.{Owes}
use Rattle.sci_fine.specs.declared.views.Terms.{Terms}
use Rattle.sci_fine.specs.declared.views.View.{View}
use Rattle.sci_fine.specs.Rule.{slot_number}
use Rattle.sci_fine.specs.Standings.{IsStanding}
use Rattle.sci_fine.specs.Steps.{Seated, slots_in, before_of, Took, IsHit, exchanged}
use Rattle.sci_fine.proofs.Carried.{took, took_same}
use Rattle.sci_fine.proofs.Coming.{Comes, comes_missed, comes_done}

-- what the seat keeps of its token, and what the call owes
pub record Sitting {K : Type 0} (fits : K → ℕ → List ℕ → Type 0) (t : Terms K) (x : ℕ) (p : Pending) (call : Call) (u : View K) (ls : List ℕ) (q : Pending) : Type 0 where
  pub of : u.of ≡ Some t
  pub seen : (u.node ≡ x) × (u.pending ≡ q) × (u.joined ≡ t.nodes) × (u.logs ≡ [])
  pub hand : ls ≡ map slot_number (hand_of x q)
  pub owes : Owes t.nodes (fits t.keep t.number) x p call q
  pub standing : IsStanding t.nodes (fits t.keep t.number) x q

pub sits : {K : Type 0} (fits : K → ℕ → List ℕ → Type 0) (t : Terms K) (x : ℕ) (p : Pending) (call : Call) (v u : View K) (ks ls : List ℕ) (q : Pending)
    → v.of ≡ Some t → (v.node ≡ x) × (v.pending ≡ p) × (v.joined ≡ t.nodes) × (v.logs ≡ []) → ks ≡ map slot_number (hand_of x p) → Comes fits t v ks call u ls → u.pending ≡ q → Sitting fits t x p call u ls q
sits {K} fits t x p call v u ks ls q of seen hand c is = record {
  of = c.of ∙ of;
  seen = (c.node ∙ seen.0, is, c.joined ∙ seen.2, c.logs ∙ seen.3);
  hand = c.hand (hand ∙ (λ i. map slot_number (hand_of (sym seen.0 i) (sym seen.1 i)))) ∙ (λ i. map slot_number (hand_of (seen.0 i) (is i)));
  owes = subst (λ (z : ℕ × Pending × Pending). Owes t.nodes (fits t.keep t.number) z.0 z.1 call z.2) (λ i. (seen.0 i, seen.1 i, is i)) c.owes;
  standing = subst (λ (z : ℕ × Pending). IsStanding t.nodes (fits t.keep t.number) z.0 z.1) (λ i. (seen.0 i, is i)) c.standing;
}

-- the row of the token is that of the seat's own names
pub row_there : {K : Type 0} (v w : View K) (x : ℕ) (p : Pending) (e : Event) → w.node ≡ x → w.pending ≡ p → v ≡ w → row_of v.node v.pending e ≡ row_of x p e
row_there {K} v w x p e is₀ is₁ same = λ i. row_of ((ap (λ (v : View K). v.node) same ∙ is₀) i) ((ap (λ (v : View K). v.pending) same ∙ is₁) i) e

module _ {K : Type 0} (fits : K → ℕ → List ℕ → Type 0) (t : Terms K) (x : ℕ) (p : Pending) (e : Event) (m₀ m₁ m₂ : Seated K) (old found : ℕ)
    (is₀ : m₀.0.node ≡ x) (is₁ : m₀.0.pending ≡ p) (of : m₀.0.of ≡ Some t) (below : x < t.nodes) (turn : has_row t.nodes x p e ≡ true) (fit : FitsEvent (fits t.keep t.number) e)
    (same : m₁.0 ≡ m₀.0) (same' : slots_in m₁.1 ≡ slots_in m₀.1) (before : old ≡ before_of (row_of x p e).change)
    (ex : exchanged fits e old m₁ found m₂) where
  of₁ : m₁.0.of ≡ Some t
  of₁ = ap (λ (v : View K). v.of) same ∙ of

  row₁ : row_of m₁.0.node m₁.0.pending e ≡ row_of x p e
  row₁ = row_there m₁.0 m₀.0 x p e is₀ is₁ same

  below₁ : m₁.0.node < t.nodes
  below₁ = subst (λ (z : ℕ). z < t.nodes) (sym (ap (λ (v : View K). v.node) same ∙ is₀)) below

  turn₁ : has_row t.nodes m₁.0.node m₁.0.pending e ≡ true
  turn₁ = subst (λ (z : ℕ × Pending). has_row t.nodes z.0 z.1 e ≡ true) (λ i. (sym (ap (λ (v : View K). v.node) same ∙ is₀) i, sym (ap (λ (v : View K). v.pending) same ∙ is₁) i)) turn

  pub missed : found ≢ old → Comes fits t m₀.0 (slots_in m₀.1) (Stepped e (Outcome.Missed found)) m₂.0 (slots_in m₂.1)
  missed ne = subst (λ (z : View K × List ℕ). Comes fits t z.0 z.1 (Stepped e (Outcome.Missed found)) m₂.0 (slots_in m₂.1)) (λ i. (same i, same' i))
      (comes_missed fits t m₁ m₂ found e ((ex t of₁).1 ne) below₁ turn₁ (λ h. ne (h ∙ (ap (λ (r : Row). before_of r.change) row₁ ∙ sym before))))

  pub missed_step : found ≢ old → m₂.0.pending ≡ p
  missed_step ne = ap (λ (v : View K). v.pending) ((ex t of₁).1 ne).view ∙ (ap (λ (v : View K). v.pending) same ∙ is₁)

  module _ (hit : found ≡ old) where
    made : IsHit fits t e (row_of m₁.0.node m₁.0.pending e) m₁ found m₂
    made = (ex t of₁).0 hit

    abbrev there : State
    there = made.finds.state

    took₁ : Took (row_of m₁.0.node m₁.0.pending e).carry (taken_line there (row_of m₁.0.node m₁.0.pending e).carry) m₂.1
    took₁ = took there (row_of m₁.0.node m₁.0.pending e).carry m₁.1 m₂.1 made.hand

    -- the line that was taken is in hand
    pub taken_there : (y : Line) × Took (row_of x p e).carry y m₂.1
    taken_there = subst (λ (r : Row). (y : Line) × Took r.carry y m₂.1) row₁ (taken_line there (row_of m₁.0.node m₁.0.pending e).carry, took₁)

    pub done : (answer : Option Line) (taken : Line) (m₃ : Seated K) → ((y : Line) → Took (row_of x p e).carry y m₂.1 → taken ≡ y) → answer ≡ (row_of x p e).answer taken → m₃.0 ≡ m₂.0 → slots_in m₃.1 ≡ slots_in m₂.1
        → Comes fits t m₀.0 (slots_in m₀.1) (Stepped e (Outcome.Done answer)) m₃.0 (slots_in m₃.1) × (m₃.0.pending ≡ (row_of x p e).after taken)
    done answer taken m₃ got is same₃ same₃' =
        let r : Row = row_of m₁.0.node m₁.0.pending e in
        let y : Line = taken_line there r.carry in
        let line : taken ≡ y = subst (λ (r : Row). ((y : Line) → Took r.carry y m₂.1 → taken ≡ y)) (sym row₁) got y took₁ in
        let c : Comes fits t m₁.0 (slots_in m₁.1) (Stepped e (Outcome.Done answer)) m₂.0 (slots_in m₂.1) =
        comes_done fits t m₁ m₂ found e made below₁ turn₁ fit answer (is ∙ (λ i. (sym row₁ i).answer (line i))) in (
          subst (λ (z : View K × List ℕ × View K × List ℕ). Comes fits t z.0 z.1 (Stepped e (Outcome.Done answer)) z.2 z.3) (λ i. (same i, same' i, sym same₃ i, sym same₃' i)) c,
          ap (λ (v : View K). v.pending) same₃ ∙ (ap (λ (v : View K). v.pending) made.view ∙ (λ i. (row₁ i).after (sym line i))),
        )

    -- the step after, of the line that was taken
    pub next : (y : Line) → Took (row_of x p e).carry y m₂.1 → IsStanding t.nodes (fits t.keep t.number) x ((row_of x p e).after y)
    next y h =
        let d = done ((row_of x p e).answer y) y m₂ (λ z k. took_same (row_of x p e).carry y z m₂.1 h k) refl refl refl in
        subst (λ (z : ℕ × Pending). IsStanding t.nodes (fits t.keep t.number) z.0 z.1) (λ i. (is₀ i, d.1 i)) d.0.standing
