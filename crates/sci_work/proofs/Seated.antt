-- Seats, lines and closed lines, by their places in lists.
use Rattle.std.proofs.Common.{◌≡◌, ℕ, zero, suc, ◌+◌, ◌<◌, inl, inr, ⊎_elim, Option, Some, List, [], ◌∷◌, ◌++◌, length, map, get_or, refl, sym, ap, subst, ◌∙◌, arith, length-append, vec_len}
use Rattle.std.proofs.lemmas.Bool.{cases_lt}
use Rattle.std.proofs.lemmas.List.{get_or_append_left, get_or_push}
use Rattle.std.specs.Global.{Vec}
use Rattle.std.specs.Prelude.{All}
use mathlib.Core.Option.{some, some-injective, some-ne-none}
use lib.ListN.{get_elem?}
use Rattle.sci_core.specs.declared.keeps.Keeps as keeps
use Rattle.sci_core.specs.declared.pending.Pending.{Pending}
use Rattle.sci_core.specs.Chain.{IsPath}
use Rattle.sci_core.specs.Closed.{ClosedLine, IsExactClosed}
use Rattle.sci_port.specs.Seated.{step_on}
use Rattle.sci_port.proofs.Seated.{at_place, read_at}
use Rattle.sci_fine.specs.declared.line.FineLine.{FineLine}
use Rattle.sci_fine.specs.declared.seats.Seat.{Seat}
use Rattle.sci_fine.specs.declared.views.Terms.{Terms}
use Rattle.sci_fine.specs.Banks.{AreLines, AreSeatsAt, AreSeatsOf, IsOnePerLine, seated}
use Rattle.sci_fine.proofs.Elements.{inside, at_end}
use Rattle.sci_fine.proofs.KeptBank.{AllKept}
use Rattle.sci_work.specs.declared.recording.Recording.{Recording}
use Rattle.sci_work.specs.Hands.{AtEach, IsHandOf, IsIdleSeat}

-- who stands first is one of the nodes
first_below : (n : ℕ) (forw : ℕ → Option ℕ) (head : ℕ) (from : Option ℕ) (nodes : List ℕ) → IsPath from forw nodes → All (λ i. i < n) nodes → from ≡ Some head → head < n
first_below n forw head from [] path below is = absurd (let e = sym path ∙ is in cc)
first_below n forw head from (x ∷ xs) path below is =
    let same : x ≡ head = (let e = sym path.0 ∙ is in cc) in
    subst (λ (k : ℕ). k < n) same (below 0 0 (omega arith))

pub head_inside : (c : ClosedLine) (head : ℕ) → IsExactClosed c → c.mem.forw ≡ Some head → head < length c.tags
head_inside c head exact is = first_below (length c.tags) _ head c.mem.forw exact.0 exact.1.ending.path exact.1.ending.below is

-- what holds at each place holds at each of a list with one more
pub at_more : {A : Type 0} (P : ℕ → A → Type 0) (xs ys : List A) (x : A) → ys ≡ xs ++ x ∷ [] → AtEach P xs → P (length xs) x → AtEach P ys
at_more P xs ys x is all here k y e =
    ⊎_elim (λ h. all k y h) (λ h. subst (λ (z : ℕ). P z y) (sym h.0) (subst (P (length xs)) h.1 here)) (at_end xs x y k (subst (λ (zs : List _). get_elem? zs k ≡ some y) is e))

-- what holds at each place, counted from somewhere, holds of the first and of the others
pub at_first : {A : Type 0} (P : ℕ → A → Type 0) (xs ys : List A) (x : A) (from : ℕ) → xs ≡ x ∷ ys → AtEach (λ k y. P (k + from) y) xs → P from x × AtEach (λ k y. P (k + (from + 1)) y) ys
at_first P xs ys x from is all =
    let go = subst (λ (zs : List _). AtEach (λ k y. P (k + from) y) zs) is all in
    let first : 0 + from ≡ from = omega arith in (
      subst (λ (z : ℕ). P z x) first (go 0 x refl),
      λ k y e. let next : suc k + from ≡ k + (from + 1) = omega arith in subst (λ (z : ℕ). P z y) next (go (suc k) y e),
    )

-- an element by its index
pub or_at : {A : Type 0} (xs : List A) (k : ℕ) (x d : A) → get_elem? xs k ≡ some x → get_or xs k d ≡ x
or_at [] k x d e = absurd (some-ne-none x (sym e))
or_at (y ∷ ys) zero x d e = some-injective y x e
or_at (y ∷ ys) (suc k) x d e = or_at ys k x d e

-- what holds of each element by its index holds of each of a list with one more
pub or_more : {A : Type 0} (P : ℕ → A → Type 0) (xs ys : List A) (x : A) → ys ≡ xs ++ x ∷ [] → ((k : ℕ) (d : A) → k < length xs → P k (get_or xs k d)) → P (length xs) x → (k : ℕ) (d : A) → k < length ys → P k (get_or ys k d)
or_more {A} P xs ys x is all here k d low = subst (λ (zs : List A). P k (get_or zs k d)) (sym is) (elim (cases_lt k (length xs)) [
  | inl less ↦ subst (λ (y : A). P k y) (sym (get_or_append_left xs (x ∷ []) d k less)) (all k d less)
  | inr from ↦
      let all_of : length (xs ++ x ∷ []) ≡ length xs + 1 = length-append xs (x ∷ []) in
      let low_in : k < length (xs ++ x ∷ []) = subst (λ (zs : List A). k < length zs) is low in
      let same : length xs ≡ k = omega arith in
      subst (λ (y : A). P k y) (sym (get_or_push xs x d k same)) (subst (λ (n : ℕ). P n x) same here)
])

-- how many there are
pub count_of : {A : Type 0} (v : Vec A) → vec_len v ≡ length v.items
count_of v = omega (arith, v.ok)

-- one of the rest has gone over
pub gone_over : (gone more rest left all : ℕ) → gone + rest ≡ all → left + 1 ≡ rest → more ≡ gone + 1 → more + left ≡ all
gone_over gone more rest left all was step grown = omega arith

-- the last of one is the only one
pub only_one : {A : Type 0} (xs fewer : List A) (x : A) → length xs ≡ 1 → xs ≡ fewer ++ x ∷ [] → xs ≡ x ∷ []
only_one xs [] x one is = is
only_one xs (y ∷ ys) x one is = absurd (let f = ap (λ (z : List _). length z) is in let h = length-append ys (x ∷ []) in omega (arith, one, f, h))

module _ {K : Type 0} {g : keeps.Ghosts K} where
  -- one seat is a hand at one line
  pub one_hand : {recording : Recording} (l : FineLine K) (node : ℕ) (s : Seat K g) (seats : List (Seat K g)) → seats ≡ s ∷ [] → IsIdleSeat recording node l s → IsHandOf recording (l ∷ []) node seats
  one_hand {recording = recording} l node s seats is idle = subst (IsHandOf recording (l ∷ []) node) (sym is) record { count = refl; each = places }
    where
      places : (k : ℕ) (m : FineLine K) (t : Seat K g) → get_elem? (l ∷ []) k ≡ some m → get_elem? (s ∷ []) k ≡ some t → IsIdleSeat recording node m t
      places zero m t el es = subst (λ (x : FineLine K). IsIdleSeat recording node x t) (some-injective l m el) (subst (λ (x : Seat K g). IsIdleSeat recording node l x) (some-injective s t es) idle)
      places (suc k) m t el es = absurd (some-ne-none m (sym el))

  -- and a hand at one line has a last seat, which is it
  pub hand_one : {recording : Recording} (l : FineLine K) (node : ℕ) (seats fewer : List (Seat K g)) (s : Seat K g) → IsHandOf recording (l ∷ []) node seats → seats ≡ fewer ++ s ∷ [] → IsIdleSeat recording node l s
  hand_one l node seats [] s hand is = hand.each 0 l s refl (ap (λ (z : List (Seat K g)). get_elem? z 0) is)
  hand_one l node seats (t ∷ ts) s hand is = absurd (let e : length seats ≡ 1 = hand.count in let f = ap (λ (z : List (Seat K g)). length z) is in let h = length-append ts (s ∷ []) in omega (arith, e, f, h))

  module _ (lines : List (FineLine K)) (number : ℕ) (are : AreLines lines) where
    -- a hand is one seat per line, each of the very line in its place
    pub one_per_line : {recording : Recording} (seats : List (Seat K g)) → IsHandOf recording lines number seats → IsOnePerLine lines seats
    one_per_line seats h = record {
      count = h.count;
      node = number;
      each = λ k s at.
          let l = at_place lines k (subst (λ (n : ℕ). k < n) h.count (inside seats s k at)) in
          let i = h.each k l.0 s l.1 at in
          (i.node_is, ap (λ (t : Terms K). t.number) i.of.1 ∙ (are.each k l.0 l.1).number);
    }

    pub seats_of : {recording : Recording} (seats : List (Seat K g)) → IsHandOf recording lines number seats → AreSeatsOf lines seats
    seats_of seats h k l s atl ats = (h.each k l s atl ats).of

    module _ (keep : K) (node : ℕ) (seats : List (Seat K g)) (of : AreSeatsAt keep node lines seats) {recording : Recording} (hand : IsHandOf recording lines number seats) where
      first_seat : (s : Seat K g) × (get_elem? seats 0 ≡ some s)
      first_seat = at_place seats 0 (subst (λ (n : ℕ). 0 < n) (sym hand.count) are.some_are)

      pub node_is : node ≡ number
      node_is = let l = at_place lines 0 are.some_are in let s = first_seat in sym (of.each 0 l.0 s.0 l.1 s.1).node_is ∙ (hand.each 0 l.0 s.0 l.1 s.1).node_is

      pub fact_is : (l : FineLine K) → get_elem? lines 0 ≡ some l → l.terms.keep ≡ keep
      fact_is l at = let s = first_seat in (of.each 0 l s.0 at s.1).fact

    -- its seats have kept all
    pub all_kept : (seats : List (Seat K g)) → IsHandOf Recording.All lines number seats → AllKept seats
    all_kept seats hand k s at = let l = at_place lines k (subst (λ (n : ℕ). k < n) hand.count (inside seats s k at)) in (hand.each k l.0 s l.1 at).kept refl

    -- a bank whose seats are a node's hand is Idle on every line
    pub all_idle : {recording : Recording} (seats : List (Seat K g)) → IsHandOf recording lines number seats → (line : ℕ) → step_on (seated are.keep number lines seats) line ≡ Pending.Idle
    all_idle seats hand line = idle_on seats (λ k s at. let l = at_place lines k (subst (λ (n : ℕ). k < n) hand.count (inside seats s k at)) in (hand.each k l.0 s l.1 at).idle) line
      where
        idle_on : (xs : List (Seat K g)) → ((k : ℕ) (s : Seat K g) → get_elem? xs k ≡ some s → s.standing.pending ≡ Pending.Idle) → (line : ℕ) → get_or (map (λ (s : Seat K g). s.standing.pending) xs) line Pending.Idle ≡ Pending.Idle
        idle_on [] idle line = refl
        idle_on (x ∷ xs) idle zero = idle 0 x refl
        idle_on (x ∷ xs) idle (suc k) = idle_on xs (λ j s at. idle (suc j) s at) k

  -- and the other way round
  pub hand_again : {recording : Recording} (lines : List (FineLine K)) (number : ℕ) (keep : K) (seats : List (Seat K g)) → AreSeatsAt keep number lines seats → ((line : ℕ) → step_on (seated keep number lines seats) line ≡ Pending.Idle) → (recording ≡ Recording.All → AllKept seats) → IsHandOf recording lines number seats
  hand_again lines number keep seats of idle kept = record {
    count = of.count;
    each = λ k l s atl ats. let i = of.each k l s atl ats in record { of = i.of; node_is = i.node_is; idle = sym (read_at (λ (x : Seat K g). x.standing.pending) seats k s Pending.Idle ats) ∙ idle k; kept = λ all. kept all k s ats };
  }
