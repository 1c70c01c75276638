-- A node's seats at lines of a memory, and a call on one of them.
use Rattle.std.proofs.Common.{◌≡◌, ◌≢◌, ⊎_elim, ℕ, ◌<◌, List, map, length, get_or, set, true, sym, ap, subst, ◌∙◌}
use Rattle.std.proofs.lemmas.List.{get_or_default, length-set, length-map}
use mathlib.Core.Option.{some}
use lib.ListN.{get_elem?}
use Rattle.sci_port.proofs.Elements.{at_index, at_set}
use Rattle.sci_core.specs.declared.events.Event.{Event}
use Rattle.sci_core.specs.Answers.{is_allowed}
use Rattle.sci_core.specs.declared.pending.Pending.{Pending}
use Rattle.sci_port.specs.declared.calls.Call.{Call}
use Rattle.sci_port.specs.Owes.{Owes}
use Rattle.sci_port.specs.Seated.{CallsOn}
use Rattle.sci_port.specs.SeatBanks.{AreLines, AreSeatsAt, AreSeatsOf, IsOnePerLine, IsSeatAt, IsShared, LineTerms, MakesCall, Seating, seated}
use Rattle.sci_port.proofs.Seated.{at_place, read_at, calls_on}

module _ {K L S : Type 0} {terms : L → LineTerms K} {seating : S → Seating K} (lines : List L) (seats : List S) (are : AreLines terms lines) (one : IsOnePerLine seating lines seats) where
  pub first_fact : (d l : L) → l ≡ get_or lines 0 d → (terms l).keep ≡ are.keep
  first_fact d l is = (are.each 0 l (at_index lines 0 l are.some_are (is ∙ get_or_default lines 0 d l are.some_are))).fact

  pub first_node : (d s : S) → s ≡ get_or seats 0 d → (seating s).node ≡ one.node
  first_node d s is = let near : 0 < length seats = subst (λ (n : ℕ). 0 < n) (sym one.count) are.some_are in (one.each 0 s (at_index seats 0 s near (is ∙ get_or_default seats 0 d s near))).0

  -- such seats, each of the very line in its place, are a node's seats at the lines
  pub sit_at : (is_seat : L → S → Type 0) → AreSeatsOf is_seat lines seats → (keep : K) (node : ℕ) → keep ≡ are.keep → node ≡ one.node → AreSeatsAt terms seating is_seat keep node lines seats
  sit_at is_seat of keep node fact mine = record {
    some_are = are.some_are;
    few = are.few;
    count = one.count;
    each = λ k l s atl ats. record { of = of k l s atl ats; number = (are.each k l atl).number; fact = (are.each k l atl).fact ∙ sym fact; node_is = (one.each k s ats).0 ∙ sym mine };
  }

module _ {K L S : Type 0} {fits : K → ℕ → List ℕ → Type 0} {terms : L → LineTerms K} {seating : S → Seating K} {is_seat : L → S → Type 0} {makes : S → Call → S → Type 0} (laws : IsShared fits terms seating is_seat makes)
    {keep : K} {node : ℕ} {lines : List L} {seats : List S} (are : AreSeatsAt terms seating is_seat keep node lines seats) (line : ℕ) (within : line < length (map (λ (l : L). (terms l).nodes) lines)) where
  pub inside : line < length lines
  inside = subst (λ (n : ℕ). line < n) (length-map lines (λ (l : L). (terms l).nodes)) within

  pub near : line < length seats
  near = subst (λ (n : ℕ). line < n) (sym are.count) inside

  -- the node is one of each line's
  pub node_below : node < get_or (map (λ (l : L). (terms l).nodes) lines) line 0
  node_below =
      let l = at_place lines line inside in
      let s = at_place seats line near in
      let sits = are.each line l.0 s.0 l.1 s.1 in
      subst (λ (n : ℕ). node < n) (sym (read_at (λ (x : L). (terms x).nodes) lines line l.0 0 l.1))
      (subst (λ (n : ℕ). n < (terms l.0).nodes) sits.node_is (laws.below l.0 s.0 sits.of))

  module _ (i : ℕ) (d l : L) (il : i ≡ line) (atl : l ≡ get_or lines i d) where
    line_at : get_elem? lines line ≡ some l
    line_at = at_index lines line l inside (subst (λ (k : ℕ). l ≡ get_or lines k d) il atl ∙ get_or_default lines line d l inside)

    pub nodes_is : (terms l).nodes ≡ get_or (map (λ (x : L). (terms x).nodes) lines) line 0
    nodes_is = sym (read_at (λ (x : L). (terms x).nodes) lines line l 0 line_at)

    pub number_is : (terms l).number ≡ line
    number_is = let s = at_place seats line near in (are.each line l s.0 line_at s.1).number

  module _ (j : ℕ) (d x : S) (jl : j ≡ line) (atx : x ≡ get_or seats j d) where
    seat_at : get_elem? seats line ≡ some x
    seat_at = at_index seats line x near (subst (λ (k : ℕ). x ≡ get_or seats k d) jl atx ∙ get_or_default seats line d x near)

    a_line : (l : L) × (get_elem? lines line ≡ some l)
    a_line = at_place lines line inside

    sits : IsSeatAt terms seating is_seat keep node line a_line.0 x
    sits = are.each line a_line.0 x a_line.1 seat_at

    on_terms : (seating x).terms ≡ terms a_line.0
    on_terms = laws.same_terms a_line.0 x sits.of

    nodes_here : (seating x).terms.nodes ≡ get_or (map (λ (l : L). (terms l).nodes) lines) line 0
    nodes_here = ap (λ (t : LineTerms K). t.nodes) on_terms ∙ sym (read_at (λ (l : L). (terms l).nodes) lines line a_line.0 0 a_line.1)

    fact_here : (seating x).terms.keep ≡ keep
    fact_here = ap (λ (t : LineTerms K). t.keep) on_terms ∙ sits.fact

    number_here : (seating x).terms.number ≡ line
    number_here = ap (λ (t : LineTerms K). t.number) on_terms ∙ sits.number

    -- what is so of the seat's line, node and fact is so of the bank's
    pub here : (P : ℕ → K → ℕ → ℕ → Type 0) → P (seating x).terms.nodes (seating x).terms.keep (seating x).terms.number (seating x).node → P (get_or (map (λ (l : L). (terms l).nodes) lines) line 0) keep line node
    here P p =
        subst (λ (m : ℕ). P (get_or (map (λ (l : L). (terms l).nodes) lines) line 0) keep line m) sits.node_is
        (subst (λ (k : ℕ). P (get_or (map (λ (l : L). (terms l).nodes) lines) line 0) keep k (seating x).node) number_here
        (subst (λ (k : K). P (get_or (map (λ (l : L). (terms l).nodes) lines) line 0) k (seating x).terms.number (seating x).node) fact_here
        (subst (λ (n : ℕ). P n (seating x).terms.keep (seating x).terms.number (seating x).node) nodes_here p)))

    -- and the other way round
    pub there : (P : ℕ → K → ℕ → ℕ → Type 0) → P (get_or (map (λ (l : L). (terms l).nodes) lines) line 0) keep line node → P (seating x).terms.nodes (seating x).terms.keep (seating x).terms.number (seating x).node
    there P p =
        subst (λ (n : ℕ). P n (seating x).terms.keep (seating x).terms.number (seating x).node) (sym nodes_here)
        (subst (λ (k : K). P (get_or (map (λ (l : L). (terms l).nodes) lines) line 0) k (seating x).terms.number (seating x).node) (sym fact_here)
        (subst (λ (k : ℕ). P (get_or (map (λ (l : L). (terms l).nodes) lines) line 0) keep k (seating x).node) (sym number_here)
        (subst (λ (m : ℕ). P (get_or (map (λ (l : L). (terms l).nodes) lines) line 0) keep line m) (sym sits.node_is) p)))

    pub step_here : (seating x).pending ≡ get_or (map (λ (s : S). (seating s).pending) seats) line Pending.Idle
    step_here = sym (read_at (λ (s : S). (seating s).pending) seats line x Pending.Idle seat_at)

    pub of_line : (i : ℕ) (e l : L) → i ≡ line → l ≡ get_or lines i e → is_seat l x
    of_line i e l il atl = (are.each line l x (line_at i e l il atl) seat_at).of

    -- what the node's pending step allows, the seat's does
    pub allowed_there : (e : Event) → is_allowed (get_or (map (λ (l : L). (terms l).nodes) lines) line 0) node (get_or (map (λ (s : S). (seating s).pending) seats) line Pending.Idle) e ≡ true
        → is_allowed (seating x).terms.nodes (seating x).node (seating x).pending e ≡ true
    allowed_there e h = there (λ n k m me. is_allowed n me (seating x).pending e ≡ true) (subst (λ (p : Pending). is_allowed (get_or (map (λ (l : L). (terms l).nodes) lines) line 0) node p e ≡ true) (sym step_here) h)

    module _ (call : Call) (y : S) (made : makes x call y) (after : List S) (back : after ≡ set seats j y) where
      back_here : after ≡ set seats line y
      back_here = back ∙ ap (λ (k : ℕ). set seats k y) jl

      -- which is what the bank gives
      pub gives : MakesCall makes seats line call after × CallsOn fits (seated terms seating keep node lines seats) line call (seated terms seating keep node lines after)
      gives = (
        record { seat = x; later = y; at = seat_at; made = made; seats = back_here },
        calls_on fits (λ (s : S). (seating s).pending) keep node (map (λ (l : L). (terms l).nodes) lines) seats line call x y near seat_at (here (λ n k m me. Owes n (fits k m) me (seating x).pending call (seating y).pending) (laws.owes x call y made)) after back_here,
      )

      -- the seat that made the call is the node's seat there as before
      still : (l : L) → IsSeatAt terms seating is_seat keep node line l x → IsSeatAt terms seating is_seat keep node line l y
      still l s = record { of = laws.stays l x call y s.of made; number = s.number; fact = s.fact; node_is = laws.same_node x call y made ∙ s.node_is }

      each_after : (k : ℕ) (l : L) (s : S) → get_elem? lines k ≡ some l → get_elem? (set seats line y) k ≡ some s → IsSeatAt terms seating is_seat keep node k l s
      each_after k l s kl ks = ⊎_elim
          (λ (h : (k ≡ line) × (y ≡ s)).
          let l_here : get_elem? lines line ≡ some l = subst (λ (n : ℕ). get_elem? lines n ≡ some l) h.0 kl in
          subst (λ (n : ℕ). IsSeatAt terms seating is_seat keep node n l s) (sym h.0) (subst (λ (z : S). IsSeatAt terms seating is_seat keep node line l z) h.1 (still l (are.each line l x l_here seat_at))))
          (λ (h : (k ≢ line) × (get_elem? seats k ≡ some s)). are.each k l s kl h.1)
          (at_set seats line k y s ks)

      pub sit_after : AreSeatsAt terms seating is_seat keep node lines after
      sit_after = record {
        some_are = are.some_are;
        few = are.few;
        count = ap (λ (l : List S). length l) back_here ∙ length-set seats line y ∙ are.count;
        each = λ k l s kl ks. each_after k l s kl (subst (λ (m : List S). get_elem? m k ≡ some s) back_here ks);
      }
