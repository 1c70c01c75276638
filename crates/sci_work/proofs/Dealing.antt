-- Hands at one more line, and at one less.
use Rattle.std.proofs.Common.{◌≡◌, ℕ, zero, suc, ◌+◌, ◌<◌, ◌⊎◌, List, [], ◌∷◌, ◌++◌, length, map, inl, inr, refl, sym, ap, subst, ◌∙◌, arith, append-nil, length-append}
use Rattle.std.proofs.lemmas.List.{append_assoc, length-map, map-append}
use Rattle.std.specs.Global.{Vec}
use mathlib.Core.Option.{some, some-injective, some-ne-none}
use lib.ListN.{get_elem?}
use Rattle.atomic_table.proofs.Lists.{at_last, at_longer}
use Rattle.sci_core.specs.declared.keeps.Keeps as keeps
use Rattle.sci_port.specs.KeepsAll.{writes_in}
use Rattle.sci_port.specs.ReceiptList.{ReceiptList}
use Rattle.sci_fine.specs.declared.line.FineLine.{FineLine}
use Rattle.sci_fine.specs.declared.seats.Seat.{Seat}
use Rattle.sci_fine.specs.Seats.{AreIdleFrom, AreNew}
use Rattle.sci_fine.proofs.Elements.{inside, at_end}
use Rattle.sci_fine.proofs.KeptAll.{begins_kept}
use Rattle.sci_work.specs.declared.recording.Recording.{Recording}
use Rattle.sci_work.specs.Hands.{AtEach, HasWrittenNothing, HoldEach, IsHandOf, IsIdleSeat, IsNewHand, IsNewSeat}
use Rattle.sci_work.proofs.Seated.{at_more}

same_tail : {A : Type 0} (x y : A) (xs ys : List A) → x ∷ xs ≡ y ∷ ys → xs ≡ ys
same_tail x y xs ys e = cc

same_head : {A : Type 0} (x y : A) (xs ys : List A) → x ∷ xs ≡ y ∷ ys → x ≡ y
same_head x y xs ys e = cc

module _ {K : Type 0} {g : keeps.Ghosts K} where
  pub no_hand : {recording : Recording} (node : ℕ) (seats : List (Seat K g)) → seats ≡ [] → IsHandOf recording [] node seats
  no_hand {recording = recording} node seats is = subst (λ (z : List (Seat K g)). IsHandOf recording [] node z) (sym is) record { count = refl; each = λ k l s el es. absurd (some-ne-none l (sym el)) }

  -- a seat more, at one more line
  pub hand_more : {recording : Recording} (lines : List (FineLine K)) (l : FineLine K) (node : ℕ) (hand more : List (Seat K g)) (s : Seat K g) → more ≡ hand ++ s ∷ [] → IsHandOf recording lines node hand → IsIdleSeat recording node l s → IsHandOf recording (lines ++ l ∷ []) node more
  hand_more {recording = recording} lines l node hand more s is h idle = subst (λ (z : List (Seat K g)). IsHandOf recording (lines ++ l ∷ []) node z) (sym is) record {
    count = let c : length hand ≡ length lines = h.count in omega (arith, c, length-append hand (s ∷ []), length-append lines (l ∷ []));
    each = λ k m t el es. places k m t (at_end lines l m k el) (at_end hand s t k es);
  }
    where
      places : (k : ℕ) (m : FineLine K) (t : Seat K g) → (get_elem? lines k ≡ some m) ⊎ ((k ≡ length lines) × (l ≡ m)) → (get_elem? hand k ≡ some t) ⊎ ((k ≡ length hand) × (s ≡ t)) → IsIdleSeat recording node m t
      places k m t (inl el) (inl es) = h.each k m t el es
      places k m t (inl el) (inr es) = absurd (let i : k < length lines = inside lines m k el in let e : k ≡ length hand = es.0 in let c : length hand ≡ length lines = h.count in omega (arith, i, e, c))
      places k m t (inr el) (inl es) = absurd (let i : k < length hand = inside hand t k es in let e : k ≡ length lines = el.0 in let c : length hand ≡ length lines = h.count in omega (arith, i, e, c))
      places k m t (inr el) (inr es) = subst (λ (x : FineLine K). IsIdleSeat recording node x t) el.1 (subst (λ (x : Seat K g). IsIdleSeat recording node l x) es.1 idle)

  -- the last seat is that at the last line, and the others are a hand without it
  pub hand_less : {recording : Recording} (lines : List (FineLine K)) (l : FineLine K) (node : ℕ) (seats fewer : List (Seat K g)) (s : Seat K g) → seats ≡ fewer ++ s ∷ [] → IsHandOf recording (lines ++ l ∷ []) node seats → IsHandOf recording lines node fewer × IsIdleSeat recording node l s
  hand_less {recording = recording} lines l node seats fewer s is h =
      let go = subst (λ (z : List (Seat K g)). IsHandOf recording (lines ++ l ∷ []) node z) is h in
      let c : length (fewer ++ s ∷ []) ≡ length (lines ++ l ∷ []) = go.count in
      let count : length fewer ≡ length lines = omega (arith, c, length-append fewer (s ∷ []), length-append lines (l ∷ [])) in (
        record { count = count; each = λ k m t el es. go.each k m t (at_longer lines (l ∷ []) k m el) (at_longer fewer (s ∷ []) k t es) },
        go.each (length fewer) l s (at_last lines l (length fewer) (sym count)) (at_last fewer s (length fewer) refl),
      )

  -- a new line's seats are the nodes', each Idle and with the receipts of all that it did, which is nothing
  pub new_seats : {recording : Recording} (l : FineLine K) (seats : List (Seat K g)) → AreIdleFrom l 0 seats → AreNew seats → AtEach (λ k s. IsIdleSeat recording k l s) seats
  new_seats l seats idle new k s at =
      let i = idle k s at in let n = new k s at in let same : k + 0 ≡ k = omega arith in
      record { of = i.0; node_is = i.1 ∙ same; idle = i.2; kept = λ _. begins_kept s n.0 i.2 n.1 }

  -- so they have written nothing
  pub are_new : (l : FineLine K) (seats : List (Seat K g)) → AtEach (λ k s. IsIdleSeat Recording.All k l s) seats → AreNew seats → AtEach (λ k s. IsNewSeat k l s) seats
  are_new l seats idle new k s at = (idle k s at, ap (λ (r : ReceiptList). writes_in r.list) (new k s at).1)

  pub no_new_hand : (node : ℕ) (seats : List (Seat K g)) → seats ≡ [] → IsNewHand [] node seats
  no_new_hand node seats is = (no_hand node seats is, subst HasWrittenNothing (sym is) (λ k s at. absurd (some-ne-none s (sym at))))

  pub new_hand_more : (lines : List (FineLine K)) (l : FineLine K) (node : ℕ) (hand more : List (Seat K g)) (s : Seat K g) → more ≡ hand ++ s ∷ [] → IsNewHand lines node hand → IsNewSeat node l s → IsNewHand (lines ++ l ∷ []) node more
  new_hand_more lines l node hand more s is h new = (hand_more lines l node hand more s is h.0 new.0, at_more (λ k x. writes_in x.receipts.list ≡ []) hand more s is h.1 new.1)

  abbrev pub held : List (Vec (Seat K g)) → List (List (Seat K g))
  held hands = map (λ (h : Vec (Seat K g)). h.items) hands

  abbrev pub each_alone : List (Seat K g) → List (List (Seat K g))
  each_alone seats = map (λ (s : Seat K g). s ∷ []) seats

  -- one more hand holds the first of the seats that are left
  pub hold_more : (hands more : List (Vec (Seat K g))) (hand : Vec (Seat K g)) (rest fewer all : List (Seat K g)) (s : Seat K g) → more ≡ hands ++ hand ∷ [] → hand.items ≡ s ∷ [] → rest ≡ s ∷ fewer
      → held hands ++ each_alone rest ≡ each_alone all → held more ++ each_alone fewer ≡ each_alone all
  hold_more hands more hand rest fewer all s grown has step was =
      ap (λ (l : List (Vec (Seat K g))). held l ++ each_alone fewer) grown
      ∙ ap (λ (l : List (List (Seat K g))). l ++ each_alone fewer) (map-append (λ (h : Vec (Seat K g)). h.items) hands (hand ∷ []))
      ∙ append_assoc (held hands) (hand.items ∷ []) (each_alone fewer)
      ∙ ap (λ (l : List (Seat K g)). held hands ++ l ∷ each_alone fewer) has
      ∙ ap (λ (l : List (Seat K g)). held hands ++ each_alone l) (sym step)
      ∙ was

  pub hold_all : (hands : List (Vec (Seat K g))) (rest all : List (Seat K g)) → rest ≡ [] → held hands ++ each_alone rest ≡ each_alone all → HoldEach hands all
  hold_all hands rest all none was = sym (append-nil (held hands)) ∙ ap (λ (l : List (Seat K g)). held hands ++ each_alone l) (sym none) ∙ was

  -- and the other way round: one more seat is what the first hand that is left holds
  pub held_more : (seats more : List (Seat K g)) (s : Seat K g) (rest fewer all : List (Vec (Seat K g))) (hand : Vec (Seat K g)) → more ≡ seats ++ s ∷ [] → hand.items ≡ s ∷ [] → rest ≡ hand ∷ fewer
      → held all ≡ each_alone seats ++ held rest → held all ≡ each_alone more ++ held fewer
  held_more seats more s rest fewer all hand grown has step was =
      was
      ∙ ap (λ (l : List (Vec (Seat K g))). each_alone seats ++ held l) step
      ∙ ap (λ (l : List (Seat K g)). each_alone seats ++ l ∷ held fewer) has
      ∙ sym (append_assoc (each_alone seats) ((s ∷ []) ∷ []) (held fewer))
      ∙ ap (λ (l : List (List (Seat K g))). l ++ held fewer) (sym (map-append (λ (x : Seat K g). x ∷ []) seats (s ∷ [])))
      ∙ ap (λ (l : List (Seat K g)). each_alone l ++ held fewer) (sym grown)

  pub held_all : (seats : List (Seat K g)) (rest all : List (Vec (Seat K g))) → rest ≡ [] → held all ≡ each_alone seats ++ held rest → HoldEach all seats
  held_all seats rest all none was = was ∙ ap (λ (l : List (Vec (Seat K g))). each_alone seats ++ held l) none ∙ append-nil (each_alone seats)

  -- there are as many
  pub as_many : (hands : List (Vec (Seat K g))) (seats : List (Seat K g)) → HoldEach hands seats → length seats ≡ length hands
  as_many hands seats hold = sym (length-map seats (λ (s : Seat K g). s ∷ [])) ∙ ap (λ (l : List (List (Seat K g))). length l) (sym hold) ∙ length-map hands (λ (h : Vec (Seat K g)). h.items)

  -- the hand where a seat stands, and the seat that a hand holds
  pub hand_at : (hands : List (Vec (Seat K g))) (seats : List (Seat K g)) → HoldEach hands seats → (k : ℕ) (s : Seat K g) → get_elem? seats k ≡ some s → (h : Vec (Seat K g)) × (get_elem? hands k ≡ some h) × (h.items ≡ s ∷ [])
  hand_at hands [] hold k s at = absurd (some-ne-none s (sym at))
  hand_at [] (t ∷ ts) hold k s at = absurd (let e = hold in cc)
  hand_at (h ∷ hs) (t ∷ ts) hold zero s at = (h, refl, same_head h.items (t ∷ []) (held hs) (each_alone ts) hold ∙ ap (λ (x : Seat K g). x ∷ []) (some-injective t s at))
  hand_at (h ∷ hs) (t ∷ ts) hold (suc k) s at = hand_at hs ts (same_tail h.items (t ∷ []) (held hs) (each_alone ts) hold) k s at

  pub seat_at : (hands : List (Vec (Seat K g))) (seats : List (Seat K g)) → HoldEach hands seats → (k : ℕ) (h : Vec (Seat K g)) → get_elem? hands k ≡ some h → (s : Seat K g) × (get_elem? seats k ≡ some s) × (h.items ≡ s ∷ [])
  seat_at [] seats hold k h at = absurd (some-ne-none h (sym at))
  seat_at (x ∷ xs) [] hold k h at = absurd (let e = hold in cc)
  seat_at (x ∷ xs) (t ∷ ts) hold zero h at = (t, refl, ap (λ (y : Vec (Seat K g)). y.items) (sym (some-injective x h at)) ∙ same_head x.items (t ∷ []) (held xs) (each_alone ts) hold)
  seat_at (x ∷ xs) (t ∷ ts) hold (suc k) h at = seat_at xs ts (same_tail x.items (t ∷ []) (held xs) (each_alone ts) hold) k h at
