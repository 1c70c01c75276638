-- The receipts of seats that have kept all are one history, whole; and how they are moved out of the seats.
use Rattle.std.proofs.Common.{◌≡◌, ℕ, zero, suc, ◌+◌, ◌<◌, ◌≤◌, true, Option, Some, None, List, [], ◌∷◌, ◌++◌, All, length, map, reverse, get_or, take, drop, append-nil, vec_items, refl, sym, ap, ◌∙◌, subst, arith}
use Rattle.std.proofs.lemmas.List.{reverse-append}
use Rattle.std.specs.Global.{Vec}
use mathlib.Core.Logic.{dite}
use mathlib.Core.Option.{some}
use native.Mathlib.Decide.{ℕ_discrete}
use lib.ListN.{get_elem?}
use Rattle.sci_core.specs.declared.keeps.Keeps as keeps
use Rattle.sci_core.specs.declared.lines.Line.{Line}
use Rattle.sci_core.specs.declared.events.Event.{Event}
use Rattle.sci_core.specs.declared.outcomes.Outcome.{Outcome}
use Rattle.sci_core.specs.declared.pending.Pending.{Pending}
use Rattle.sci_core.specs.declared.receipts.Receipt.{Receipt}
use Rattle.sci_core.specs.Closed.{ClosedLine}
use Rattle.sci_core.specs.Run.{HasValue}
use Rattle.sci_core.specs.State.{State, invalid, opened, blank}
use Rattle.sci_core.specs.Whole.{nodes_of, state_of}
use Rattle.sci_core.proofs.Lawfully.{opened_value}
use Rattle.sci_core.proofs.States.{opened_state}
use Rattle.std.proofs.lemmas.List.{length-replicate}
use Rattle.sci_port.specs.declared.calls.Call.{Call}
use Rattle.sci_port.specs.declared.calls.Call.TheVariants.{Own, MemWas, TagWas, Stepped}
use Rattle.sci_port.specs.KeepsTo.{KeepsTo, apart, keeps_told}
use Rattle.sci_port.specs.Readying.{Readying, Readies}
use Rattle.sci_port.specs.Readying.Readying.{Aimed, Reserved}
use Rattle.sci_port.specs.ReceiptList.{AreReceiptsOf, ReceiptList, Receives}
use Rattle.sci_port.specs.Receipts.{IsWhole}
use Rattle.sci_port.specs.Runs.{Leads, done_from, done_by}
use Rattle.sci_port.specs.Shown.{calls_by, shown_in, told_in}
use Rattle.sci_port.specs.Solo.{Gives}
use Rattle.sci_port.proofs.Counted.{run_whole}
use Rattle.sci_port.proofs.Picked.{same_shown}
use Rattle.sci_port.proofs.Receiving.{receipts_none, receipts_on}
use Rattle.sci_port.proofs.Running.{else_from, here_from, nil_cons}
use Rattle.sci_port.proofs.Seated.{read_at}
use Rattle.sci_port.proofs.Told.{loosened, told_of, told_shown}
use Rattle.sci_coarse.specs.declared.seats.Seat.{Seat}
use Rattle.sci_coarse.specs.declared.views.Entry.{Entry}
use Rattle.sci_coarse.specs.declared.views.Entry.TheVariants.{Took, Missed, Gave}
use Rattle.sci_coarse.specs.declared.views.Terms.{Terms}
use Rattle.sci_coarse.specs.declared.views.View.{View}
use Rattle.sci_coarse.specs.Ends.{IsEnd}
use Rattle.sci_coarse.specs.Kept.{BeginsKept, HasKeptAll, IsFinished, StaysKept, StaysKeptReadied, list_at, lists_of}
use Rattle.sci_coarse.specs.Regions.{IsMiss, IsRegion}
use Rattle.sci_coarse.specs.Rule.{opened_on}
use Rattle.sci_coarse.specs.Runs.{calls_in}
use Rattle.sci_coarse.specs.Seats.{HasMade}
use Rattle.sci_coarse.proofs.Histories.{led}
use Rattle.sci_coarse.proofs.Listed.{all_each, seat_or}

get_far : {A : Type 0} (l : List A) (i : ℕ) (d : A) → length l ≤ i → get_or l i d ≡ d
get_far [] i d h = refl
get_far (x ∷ xs) zero d h = absurd (omega arith)
get_far (x ∷ xs) (suc i) d h = get_far xs i d (omega arith)

pub no_length : {A : Type 0} (l : List A) → length l ≡ 0 → l ≡ []
no_length [] e = refl
no_length (x ∷ xs) e = absurd (omega arith)

-- the call that a step of the lock word tells
abbrev told_call : Entry → Option Call
told_call (Gave call) = Some call
told_call Took = None
told_call Missed = None

as_calls : (es : List (ℕ × Entry)) → calls_in es ≡ calls_by told_call es
as_calls [] = refl
as_calls ((node, Gave call) ∷ es) = ap (λ (l : List (ℕ × Call)). (node, call) ∷ l) (as_calls es)
as_calls ((node, Took) ∷ es) = as_calls es
as_calls ((node, Missed) ∷ es) = as_calls es

-- a node's calls show the same in the run and in its log
same_calls : (run : List (ℕ × Entry)) (j : ℕ) (k : Line) → shown_in k (done_by j (calls_in run)) ≡ shown_in k (calls_in (done_by j run))
same_calls run j k = ap (λ (l : List (ℕ × Call)). shown_in k (done_by j l)) (as_calls run) ∙ (same_shown told_call run j k 0 0 ∙ ap (λ (l : List (ℕ × Call)). shown_in k l) (sym (as_calls (done_by j run))))

-- who took no step made no call
fewer : (q i : ℕ) (e : ℕ × Entry) (es : List (ℕ × Entry)) → done_from q i (e ∷ es) ≡ [] → (e.0 ≡ i → ⊥) × (done_from (q + 1) i es ≡ [])
fewer q i e es none =
    let other : e.0 ≡ i → ⊥ = λ is. nil_cons (q, e.1) (done_from (q + 1) i es) (sym none ∙ here_from q i e es is) in
    (other, sym (else_from q i e es other) ∙ none)

no_calls : (p q i : ℕ) (run : List (ℕ × Entry)) → done_from q i run ≡ [] → done_from p i (calls_in run) ≡ []
no_calls p q i [] none = refl
no_calls p q i ((node, Gave call) ∷ es) none = let f = fewer q i (node, Gave call) es none in else_from p i (node, call) (calls_in es) f.0 ∙ no_calls (p + 1) (q + 1) i es f.1
no_calls p q i ((node, Took) ∷ es) none = no_calls p (q + 1) i es (fewer q i (node, Took) es none).1
no_calls p q i ((node, Missed) ∷ es) none = no_calls p (q + 1) i es (fewer q i (node, Missed) es none).1

module _ {K : Type 0} {g : keeps.Ghosts K} where
  -- the receipts of a seat that has kept all keep to what the calls in its log showed
  kept_shown : (s : Seat K g) → HasKeptAll s → KeepsTo s.receipts.list (shown_in blank (calls_in s.token.me.0.log))
  kept_shown s a =
      let log = calls_in s.token.me.0.log in
      subst (KeepsTo s.receipts.list) (told_shown blank log) (loosened s.receipts.list (told_in blank log) (told_of s.receipts.list (told_in blank log) a.keeps))

  module _ (fits : K → ℕ → List ℕ → Type 0) (t : Terms K) (seats : List (Seat K g)) (c : ClosedLine) (count : length seats ≡ t.nodes) (e : IsEnd fits t seats c) where
    each_keeps : All (λ (s : Seat K g). HasKeptAll s) seats → (j : ℕ) → KeepsTo (get_or (lists_of seats) j []) (shown_in blank (done_by j (calls_in e.run)))
    each_keeps all j = seat_or seats j
        (λ s at. subst (λ (z : List Receipt × List Receipt). KeepsTo z.0 z.1) (λ i. (sym (read_at (λ (x : Seat K g). x.receipts.list) seats j s [] at) i, (ap (λ (l : List (ℕ × Entry)). shown_in blank (calls_in l)) (e.logs j s at) ∙ sym (same_calls e.run j blank)) i))
        (kept_shown s (all_each (λ (x : Seat K g). HasKeptAll x) seats all j s at)))
        (λ far. subst (λ (z : List Receipt × List (ℕ × Call)). KeepsTo z.0 (shown_in blank z.1)) (λ i. (sym (get_far (lists_of seats) j [] (subst (λ (n : ℕ). n ≤ j) (sym (length-lists seats)) far)) i, sym (no_calls 0 0 j e.run (e.nobody j (omega (arith, count, far)))) i)) tt)
      where
        length-lists : (l : List (Seat K g)) → length (lists_of l) ≡ length l
        length-lists [] = refl
        length-lists (x ∷ xs) = ap suc (length-lists xs)

    is_whole : All (λ (s : Seat K g). HasKeptAll s) seats → IsWhole t.nodes t.opening e.value (λ j. get_or (lists_of seats) j [])
    is_whole all =
        let n : ℕ = t.nodes in let f : List ℕ → Type 0 = fits t.keep t.number in
        let opens = opened_state t.keep t.number n t.opening in
        let opening : HasValue n f (opened n t.opening) t.opening = subst (λ (s : State). HasValue n f s t.opening) opens (opened_value f t.keep t.number n t.opening e.fit) in
        let nodes : nodes_of (opened_on t) ≡ n = length-replicate n invalid in
        let leads : Leads (Gives n f) (opened n t.opening) (calls_in e.run) (state_of e.whole) =
        subst (λ (s : State). Leads (Gives n f) s (calls_in e.run) (state_of e.whole)) opens
        (subst (λ (m : ℕ). Leads (Gives m f) (state_of (opened_on t)) (calls_in e.run) (state_of e.whole)) nodes (led fits (None, opened_on t) e.run (None, e.whole) e.ran)) in
        subst (λ (v : Line). IsWhole n t.opening v (λ j. get_or (lists_of seats) j [])) (sym e.history.last)
        (run_whole n f t.opening (calls_in e.run) (state_of e.whole) (λ j. get_or (lists_of seats) j []) opening leads (λ i far. no_calls 0 0 i e.run (e.nobody i far)) (each_keeps all))

    pub finishes : (lists : List (List Receipt)) → lists ≡ lists_of seats → IsFinished fits t seats c lists
    finishes lists are = record {
      end = e;
      own = are;
      whole = λ all. subst (λ (l : List (List Receipt)). IsWhole t.nodes t.opening e.value (λ j. list_at l j)) (sym are) (is_whole all);
    }

-- a list that stays keeps to the same
same_list : (log : List (ℕ × Call)) (p : Pending) (s t : ReceiptList) → t.list ≡ s.list → AreReceiptsOf log p s → AreReceiptsOf log p t
same_list log p s t same h = record {
  keeps = subst (λ (l : List Receipt). keeps_told l (told_in blank log) ≡ true) (sym same) h.keeps;
  lone = subst (λ (l : List Receipt). apart l ≡ true) (sym same) h.lone;
  kept = h.kept;
}

readied_list : (r : Readying) (s t : ReceiptList) → Readies r s t → t.list ≡ s.list
readied_list (Reserved n ok) s t h = h.list
readied_list (Aimed passing) s t h = h.list

-- the calls behind others
calls_behind : (es fs : List (ℕ × Entry)) → calls_in (es ++ fs) ≡ calls_in es ++ calls_in fs
calls_behind [] fs = refl
calls_behind ((node, Gave call) ∷ es) fs = ap (λ (l : List (ℕ × Call)). (node, call) ∷ l) (calls_behind es fs)
calls_behind ((node, Took) ∷ es) fs = calls_behind es fs
calls_behind ((node, Missed) ∷ es) fs = calls_behind es fs

busy_leaves : (p : Pending) (e : Event) (s t : ReceiptList) → Receives p (Stepped e Outcome.Busy) s t → t ≡ s
busy_leaves p Event.Unhold s t h = h
busy_leaves p Event.Settle s t h = h
busy_leaves p (Event.Written (Some words)) s t h = h
busy_leaves p (Event.Written None) s t h = h
busy_leaves p _ s t h = h

module _ {K : Type 0} {g : keeps.Ghosts K} (s : Seat K g) where
  pub begins_kept : BeginsKept s
  begins_kept none idle new = subst (λ (z : List (ℕ × Entry) × Pending). AreReceiptsOf (calls_in z.0) z.1 s.receipts) (λ i. (sym none.0 i, sym idle i)) (receipts_none Pending.Idle s.receipts (ap (λ (l : ReceiptList). l.list) new) refl)

  pub stays_readied : StaysKeptReadied s
  stays_readied r t made h = subst (λ (z : List (ℕ × Entry) × Pending). AreReceiptsOf (calls_in z.0) z.1 t.receipts) (λ i. (sym (ap (λ z. z.me.0.log) made.token) i, sym (ap (λ z. z.pending) made.standing) i)) (same_list (calls_in s.token.me.0.log) s.standing.pending s.receipts t.receipts (readied_list r s.receipts t.receipts made.receipts) h)

  module _ (fits : K → ℕ → List ℕ → Type 0) (t : Seat K g) where
    -- a miss leaves all
    missed_kept : IsMiss s.standing.terms s.token.me.0 t.token.me.0 → t.receipts ≡ s.receipts → HasKeptAll s → HasKeptAll t
    missed_kept miss same h =
        let log : calls_in t.token.me.0.log ≡ calls_in s.token.me.0.log = ap (λ (v : View K). calls_in v.log) miss.1 ∙ (calls_behind s.token.me.0.log ((miss.0, Missed) ∷ []) ∙ append-nil (calls_in s.token.me.0.log)) in
        let step : t.standing.pending ≡ s.standing.pending = sym t.seen.1 ∙ (ap (λ (v : View K). v.pending) miss.1 ∙ s.seen.1) in
        subst (λ (z : List (ℕ × Call) × Pending × ReceiptList). AreReceiptsOf z.0 z.1 z.2) (λ i. (sym log i, sym step i, sym same i)) h

    -- a region adds its call
    region_kept : (call : Call) → IsRegion fits s.standing.terms s.token.me.0 call t.token.me.0 → HasMade fits s call t → Receives s.standing.pending call s.receipts t.receipts → HasKeptAll s → HasKeptAll t
    region_kept call region made received h =
        let u = s.standing.terms in let p = s.standing.pending in let q = t.standing.pending in
        let log : calls_in t.token.me.0.log ≡ calls_in s.token.me.0.log ++ (region.given_at, call) ∷ [] =
        ap (λ (v : View K). calls_in v.log) region.view ∙ (calls_behind (s.token.me.0.log ++ (region.taken_at, Took) ∷ []) ((region.given_at, Gave call) ∷ [])
        ∙ ap (λ (l : List (ℕ × Call)). l ++ (region.given_at, call) ∷ []) (calls_behind s.token.me.0.log ((region.taken_at, Took) ∷ []) ∙ append-nil (calls_in s.token.me.0.log))) in
        subst (λ (l : List (ℕ × Call)). AreReceiptsOf l q t.receipts) (sym log)
        (receipts_on u.nodes (fits u.keep u.number) s.node p q (calls_in s.token.me.0.log) region.given_at call s.receipts t.receipts made.owes received h)

  pub stays_kept : (fits : K → ℕ → List ℕ → Type 0) → StaysKept fits s
  stays_kept fits (Own None) t made received room h = missed_kept fits t made.came (received.kept room) h
  stays_kept fits (MemWas None) t made received room h = missed_kept fits t made.came (received.kept room) h
  stays_kept fits (TagWas node None) t made received room h = missed_kept fits t made.came (received.kept room) h
  stays_kept fits (Stepped e Outcome.Busy) t made received room h = missed_kept fits t made.came (busy_leaves s.standing.pending e s.receipts t.receipts (received.kept room)) h
  stays_kept fits (Own (Some x)) t made received room h = region_kept fits t (Own (Some x)) made.came made (received.kept room) h
  stays_kept fits (MemWas (Some x)) t made received room h = region_kept fits t (MemWas (Some x)) made.came made (received.kept room) h
  stays_kept fits (TagWas node (Some x)) t made received room h = region_kept fits t (TagWas node (Some x)) made.came made (received.kept room) h
  stays_kept fits (Stepped e (Outcome.Done x)) t made received room h = region_kept fits t (Stepped e (Outcome.Done x)) made.came made (received.kept room) h
  stays_kept fits (Stepped e (Outcome.Missed x)) t made received room h = region_kept fits t (Stepped e (Outcome.Missed x)) made.came made (received.kept room) h

-- receipts that were moved out, the last seat's first
abbrev pub moved_out : List (Vec Receipt) → List (List Receipt)
moved_out lists = map (λ (v : Vec Receipt). vec_items v) (reverse lists)

pub moved_more : (lists more : List (Vec Receipt)) (v : Vec Receipt) → more ≡ lists ++ v ∷ [] → moved_out more ≡ vec_items v ∷ moved_out lists
moved_more lists more v grown = ap moved_out grown ∙ ap (λ (l : List (Vec Receipt)). map (λ (v : Vec Receipt). vec_items v) l) (reverse-append lists (v ∷ []))

module _ {K : Type 0} {g : keeps.Ghosts K} where
  -- the first seat is put aside
  pub lists_first : (s : Seat K g) (seats others : List (Seat K g)) (lists : List (Vec Receipt)) → 0 < length seats → s ≡ get_or seats 0 s → others ≡ take 0 seats ++ drop 1 seats → lists ≡ [] → s.receipts.list ∷ (lists_of others ++ moved_out lists) ≡ lists_of seats
  lists_first s [] others lists some_seat first rest none = absurd (omega arith)
  lists_first s (x ∷ xs) others lists some_seat first rest none = (λ i. (first i).receipts.list ∷ (lists_of (rest i) ++ moved_out (none i))) ∙ ap (λ (l : List (List Receipt)). x.receipts.list ∷ l) (append-nil (lists_of xs))

  lists_snoc : (fewer : List (Seat K g)) (s : Seat K g) (ls : List (List Receipt)) → lists_of fewer ++ (s.receipts.list ∷ ls) ≡ lists_of (fewer ++ s ∷ []) ++ ls
  lists_snoc [] s ls = refl
  lists_snoc (x ∷ xs) s ls = ap (λ (l : List (List Receipt)). x.receipts.list ∷ l) (lists_snoc xs s ls)

  -- the last seat's are moved out
  pub lists_last : (seats fewer : List (Seat K g)) (s : Seat K g) (lists more : List (Vec Receipt)) (v : Vec Receipt) → seats ≡ fewer ++ s ∷ [] → more ≡ lists ++ v ∷ [] → vec_items v ≡ s.receipts.list → lists_of fewer ++ moved_out more ≡ lists_of seats ++ moved_out lists
  lists_last seats fewer s lists more v all grown same =
      ap (λ (l : List (List Receipt)). lists_of fewer ++ l) (moved_more lists more v grown ∙ ap (λ (l : List Receipt). l ∷ moved_out lists) same)
      ∙ (lists_snoc fewer s (moved_out lists) ∙ ap (λ (l : List (Seat K g)). lists_of l ++ moved_out lists) (sym all))
