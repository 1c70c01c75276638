-- The slots in a seat's hand.
use Rattle.std.proofs.Common.{◌≡◌, ℕ, true, List, [], ◌∷◌, map, drop, refl, sym, ap, ◌∙◌, subst}
use Rattle.atomic_table.specs.Table.{rest}
use Rattle.sci_core.specs.declared.lines.Line.{Line}
use Rattle.sci_core.specs.declared.pending.Pending.{Pending}
use Rattle.sci_core.specs.declared.events.Event.{Event}
use Rattle.sci_core.specs.declared.rows.Place.{Place}
use Rattle.sci_core.specs.declared.rows.Carry.{Carry}
use Rattle.sci_core.specs.declared.rows.Carry.TheVariants.{Stays, Takes, Gives}
use Rattle.sci_core.specs.declared.outlines.Motion.{Motion}
use Rattle.sci_core.specs.Stage.{motion_of}
use Rattle.sci_core.specs.Carrying.{hand_of, GivesLast, hand_after}
use Rattle.sci_core.specs.State.{State, blank}
use Rattle.sci_core.specs.Step.{taken_line}
use Rattle.sci_core.specs.Table.{has_row, row_of}
use Rattle.sci_core.proofs.Handing.{hands}
use Rattle.sci_fine.specs.Rule.{slot_number}
use Rattle.sci_fine.specs.Steps.{slots_in, carried_by, Carries, GivesLine, GivesTop, Took}

on_top : (k : ℕ) (c : List (ℕ × Line)) → slots_in c ≡ k ∷ drop 1 (slots_in c) → (x : Line) × (c ≡ (k, x) ∷ rest c)
on_top k [] e = cc
on_top k (x ∷ xs) e = let h : x.0 ≡ k = cc in (x.1, λ i. (h i, x.1) ∷ xs)

-- the slot that is given back is the one taken last
pub gives_there : (carry : Carry) (x : Place) (k : ℕ) (c : List (ℕ × Line)) → motion_of carry ≡ Motion.Gives x → k ≡ slot_number x → GivesTop carry (slots_in c) → (y : Line) × (c ≡ (k, y) ∷ rest c)
gives_there Stays x k c m at fits = absurd (cc)
gives_there (Takes z) x k c m at fits = absurd (cc)
gives_there (Gives z l) x k c m at fits = let h : z ≡ x = cc in subst (λ (k : ℕ). (y : Line) × (c ≡ (k, y) ∷ rest c)) (ap slot_number h ∙ sym at) (on_top (slot_number z) c fits)

-- and then lies there
pub gives_line : (carry : Carry) (x : Place) (k : ℕ) (y : Line) (c : List (ℕ × Line)) → motion_of carry ≡ Motion.Gives x → k ≡ slot_number x → GivesLine carry y → Carries carry ((k, y) ∷ rest c)
gives_line Stays x k y c m at is = tt
gives_line (Takes z) x k y c m at is = tt
gives_line (Gives z l) x k y c m at is = let h : z ≡ x = cc in λ i. ((at ∙ ap slot_number (sym h)) i, is i) ∷ rest c

-- what does not give carries nothing
pub gives_none : (carry : Carry) (c : List (ℕ × Line)) → ((x : Place) → motion_of carry ≡ Motion.Gives x → ⊥) → Carries carry c
gives_none Stays c none = tt
gives_none (Takes x) c none = tt
gives_none (Gives x l) c none = absurd (none x refl)

-- the line on top of a hand
abbrev top_line : List (ℕ × Line) → Line
top_line [] = blank
top_line (x ∷ xs) = x.1

-- what was taken is one line
pub took_same : (c : Carry) (y z : Line) (d : List (ℕ × Line)) → Took c y d → Took c z d → y ≡ z
took_same Stays y z d h k = h ∙ sym k
took_same (Takes x) y z d h k = ap top_line (sym h ∙ k)
took_same (Gives x l) y z d h k = h ∙ sym k

-- the slot that was taken is in hand
pub takes_there : (carry : Carry) (x : Place) (k : ℕ) (y : Line) (c : List (ℕ × Line)) → motion_of carry ≡ Motion.Takes x → k ≡ slot_number x → Took carry y c → c ≡ (k, y) ∷ rest c
takes_there Stays x k y c m at took = absurd (cc)
takes_there (Takes z) x k y c m at took = let h : z ≡ x = cc in took ∙ (λ i. ((ap slot_number h ∙ sym at) i, y) ∷ rest c)
takes_there (Gives z l) x k y c m at took = absurd (cc)

-- what lies there is the line that was taken
pub taken_is : (carry : Carry) (x : Place) (k : ℕ) (y z : Line) (c : List (ℕ × Line)) → motion_of carry ≡ Motion.Takes x → k ≡ slot_number x → Took carry y c → c ≡ (k, z) ∷ rest c → z ≡ y
taken_is carry x k y z c m at took is = ap top_line (sym is ∙ takes_there carry x k y c m at took)

pub takes_none : (carry : Carry) (y : Line) (c : List (ℕ × Line)) → ((x : Place) → motion_of carry ≡ Motion.Takes x → ⊥) → Took carry y c → y ≡ blank
takes_none Stays y c h took = took
takes_none (Takes x) y c h took = absurd (h x refl)
takes_none (Gives x l) y c h took = took

top_of : (x : Place) (h : List Place) → h ≡ x ∷ drop 1 h → map slot_number h ≡ slot_number x ∷ drop 1 (map slot_number h)
top_of x [] e = cc
top_of x (y ∷ ys) e = let h : y ≡ x = cc in λ i. slot_number (h i) ∷ map slot_number ys

gives_numbers : (c : Carry) (h : List Place) → GivesLast c h → GivesTop c (map slot_number h)
gives_numbers Stays h g = tt
gives_numbers (Takes x) h g = tt
gives_numbers (Gives x l) h g = top_of x h g

-- what a row asks of the hand
pub hand_fits : (n me : ℕ) (p : Pending) (e : Event) (ks : List ℕ) → has_row n me p e ≡ true → ks ≡ map slot_number (hand_of me p) → GivesTop (row_of me p e).carry ks
hand_fits n me p e ks turn hand = subst (λ (z : List ℕ). GivesTop (row_of me p e).carry z) (sym hand) (gives_numbers (row_of me p e).carry (hand_of me p) (hands n me p e turn).gives)

rest_slots : (xs : List (ℕ × Line)) → slots_in (rest xs) ≡ drop 1 (slots_in xs)
rest_slots [] = refl
rest_slots (x ∷ xs) = refl

rest_numbers : (h : List Place) → map slot_number (drop 1 h) ≡ drop 1 (map slot_number h)
rest_numbers [] = refl
rest_numbers (x ∷ xs) = refl

hand_next : (c : Carry) (y : Line) (xs : List (ℕ × Line)) (h : List Place) → slots_in xs ≡ map slot_number h → slots_in (carried_by c y xs) ≡ map slot_number (hand_after c h)
hand_next Stays y xs h e = e
hand_next (Takes x) y xs h e = ap (λ (z : List ℕ). slot_number x ∷ z) e
hand_next (Gives x l) y xs h e = rest_slots xs ∙ (ap (drop 1) e ∙ sym (rest_numbers h))

-- the hand after a row is that of the step after
pub hand_then : (n me : ℕ) (p : Pending) (e : Event) (y : Line) (xs : List (ℕ × Line)) → has_row n me p e ≡ true → slots_in xs ≡ map slot_number (hand_of me p) → slots_in (carried_by (row_of me p e).carry y xs) ≡ map slot_number (hand_of me ((row_of me p e).after y))
hand_then n me p e y xs turn hand = hand_next (row_of me p e).carry y xs (hand_of me p) hand ∙ ap (map slot_number) (sym ((hands n me p e turn).after y))

-- what was taken is in hand
pub took : (a : State) (c : Carry) (xs d : List (ℕ × Line)) → d ≡ carried_by c (taken_line a c) xs → Took c (taken_line a c) d
took a Stays xs d e = refl
took a (Takes x) xs d e = e ∙ (λ i. (slot_number x, taken_line a (Takes x)) ∷ sym (ap rest e) i)
took a (Gives x l) xs d e = refl
