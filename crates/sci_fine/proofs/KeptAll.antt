-- The receipts of seats that have kept all are one history, whole; and how they are moved out of the seats.
use Rattle.std.proofs.Common.{◌≡◌, ℕ, zero, suc, ◌+◌, ◌<◌, ◌≤◌, true, List, [], ◌∷◌, ◌++◌, All, length, map, reverse, get_or, take, drop, append-nil, vec_items, refl, sym, ap, ◌∙◌, subst, arith}
use Rattle.std.proofs.lemmas.List.{length-map, reverse-append}
use Rattle.std.proofs.lemmas.List.Elements.{All-head, All-tail}
use Rattle.std.specs.Global.{Vec}
use Rattle.sci_core.specs.declared.keeps.Keeps as keeps
use Rattle.sci_core.specs.declared.lines.Line.{Line}
use Rattle.sci_core.specs.declared.pending.Pending.{Pending}
use Rattle.sci_core.specs.declared.receipts.Receipt.{Receipt}
use Rattle.sci_core.specs.Closed.{ClosedLine}
use Rattle.sci_core.specs.State.{opened, blank}
use Rattle.sci_core.proofs.Lawfully.{ruled_value}
use Rattle.sci_port.specs.declared.calls.Call.{Call}
use Rattle.sci_port.specs.KeepsTo.{KeepsTo, apart, keeps_told}
use Rattle.sci_port.specs.Readying.{Readying, Readies}
use Rattle.sci_port.specs.Readying.Readying.{Aimed, Reserved}
use Rattle.sci_port.specs.ReceiptList.{AreReceiptsOf, ReceiptList}
use Rattle.sci_port.specs.Receipts.{IsWhole}
use Rattle.sci_port.specs.Shown.{shown_in, told_in}
use Rattle.sci_port.proofs.Counted.{run_whole}
use Rattle.sci_port.proofs.Receiving.{receipts_none, receipts_on}
use Rattle.sci_port.proofs.Told.{loosened, told_of, told_shown}
use Rattle.sci_fine.specs.declared.seats.Seat.{Seat}
use Rattle.sci_fine.specs.declared.views.Terms.{Terms}
use Rattle.sci_fine.specs.declared.views.View.{View}
use Rattle.sci_fine.specs.Ends.{IsEnd}
use Rattle.sci_fine.specs.Kept.{BeginsKept, HasKeptAll, IsFinished, StaysKept, StaysKeptReadied, list_at, lists_of}
use Rattle.sci_fine.specs.Seats.{logs_of}
use Rattle.sci_fine.proofs.Seating.{opened_ruled}

get_far : {A : Type 0} (l : List A) (i : ℕ) (d : A) → length l ≤ i → get_or l i d ≡ d
get_far [] i d h = refl
get_far (x ∷ xs) zero d h = absurd (omega arith)
get_far (x ∷ xs) (suc i) d h = get_far xs i d (omega arith)

module _ {K : Type 0} {g : keeps.Ghosts K} where
  -- each list keeps to what the calls of its node showed
  each_keeps : (seats : List (Seat K g)) → All (λ (s : Seat K g). HasKeptAll s) seats → (j : ℕ) → KeepsTo (get_or (lists_of seats) j []) (shown_in blank (get_or (logs_of seats) j []))
  each_keeps [] all j = tt
  each_keeps (s ∷ ss) all zero =
      let log = s.token.me.0.log in let a : AreReceiptsOf log s.standing.pending s.receipts = All-head (λ (x : Seat K g). HasKeptAll x) s ss all in
      subst (KeepsTo s.receipts.list) (told_shown blank log) (loosened s.receipts.list (told_in blank log) (told_of s.receipts.list (told_in blank log) a.keeps))
  each_keeps (s ∷ ss) all (suc j) = each_keeps ss (All-tail (λ (x : Seat K g). HasKeptAll x) s ss all) j

  pub finishes : (fits : K → ℕ → List ℕ → Type 0) (t : Terms K) (seats : List (Seat K g)) (c : ClosedLine) (lists : List (List Receipt)) → length seats ≡ t.nodes → lists ≡ lists_of seats → IsEnd fits t (logs_of seats) c → IsFinished fits t seats c lists
  finishes fits t seats c lists count are e =
      let n : ℕ = t.nodes in
      let opening = ruled_value n (fits t.keep t.number) (opened n t.opening) (opened_ruled n (fits t.keep t.number) t.opening e.fit) in
      let long : length (logs_of seats) ≡ n = length-map _ _ ∙ count in
      let whole : All (λ (s : Seat K g). HasKeptAll s) seats → IsWhole n t.opening e.value (λ j. get_or lists j []) = λ all.
      subst (λ (v : Line). IsWhole n t.opening v (λ j. get_or lists j [])) (sym e.history.last)
      (run_whole n (fits t.keep t.number) t.opening e.ran.run e.state (λ j. get_or lists j []) opening e.ran.led
      (λ i far. e.ran.each i ∙ get_far (logs_of seats) i [] (omega (arith, long)))
      (λ j. subst (λ (z : List (List Receipt) × List (ℕ × Call)). KeepsTo (get_or z.0 j []) (shown_in blank z.1)) (λ i. (sym are i, sym (e.ran.each j) i)) (each_keeps seats all j))) in
      record { end = e; own = are; whole = whole }

-- a list that stays keeps to the same
same_list : (log : List (ℕ × Call)) (p : Pending) (s t : ReceiptList) → t.list ≡ s.list → AreReceiptsOf log p s → AreReceiptsOf log p t
same_list log p s t same h = record {
  keeps = subst (λ (l : List Receipt). keeps_told l (told_in blank log) ≡ true) (sym same) h.keeps;
  lone = subst (λ (l : List Receipt). apart l ≡ true) (sym same) h.lone;
  kept = h.kept;
}

readied_list : (r : Readying) (s t : ReceiptList) → Readies r s t → t.list ≡ s.list
readied_list (Reserved n ok) s t h = h.list
readied_list (Aimed passing) s t h = h.list

module _ {K : Type 0} {g : keeps.Ghosts K} (s : Seat K g) where
  pub begins_kept : BeginsKept s
  begins_kept none idle new = subst (λ (z : List (ℕ × Call) × Pending). AreReceiptsOf z.0 z.1 s.receipts) (λ i. (sym none.1 i, sym idle i)) (receipts_none Pending.Idle s.receipts (ap (λ (l : ReceiptList). l.list) new) refl)

  pub stays_kept : (fits : K → ℕ → List ℕ → Type 0) → StaysKept fits s
  stays_kept fits call t made received room h =
      let p = s.standing.pending in let q = t.standing.pending in let u = s.standing.terms in
      subst (λ (l : List (ℕ × Call)). AreReceiptsOf l q t.receipts) (sym (ap (λ (v : View K). v.log) made.came.view))
      (receipts_on u.nodes (fits u.keep u.number) s.standing.node p q s.token.me.0.log made.came.turn call s.receipts t.receipts made.owes (received.kept room) h)

  pub stays_readied : StaysKeptReadied s
  stays_readied r t made h = subst (λ (z : List (ℕ × Call) × Pending). AreReceiptsOf z.0 z.1 t.receipts) (λ i. (sym (ap (λ z. z.me.0.log) made.token) i, sym (ap (λ z. z.pending) made.standing) i)) (same_list s.token.me.0.log s.standing.pending s.receipts t.receipts (readied_list r s.receipts t.receipts made.receipts) h)

-- receipts that were moved out, the last seat's first
abbrev pub moved_out : List (Vec Receipt) → List (List Receipt)
moved_out lists = map (λ (v : Vec Receipt). vec_items v) (reverse lists)

pub moved_more : (lists more : List (Vec Receipt)) (v : Vec Receipt) → more ≡ lists ++ v ∷ [] → moved_out more ≡ vec_items v ∷ moved_out lists
moved_more lists more v grown = ap moved_out grown ∙ ap (λ (l : List (Vec Receipt)). map (λ (v : Vec Receipt). vec_items v) l) (reverse-append lists (v ∷ []))

module _ {K : Type 0} {g : keeps.Ghosts K} where
  -- the first seat is put aside
  pub lists_first : (s : Seat K g) (seats others : List (Seat K g)) (lists : List (Vec Receipt)) → 0 < length seats → s ≡ get_or seats 0 s → others ≡ take 0 seats ++ drop 1 seats → lists ≡ [] → s.receipts.list ∷ (lists_of others ++ moved_out lists) ≡ lists_of seats
  lists_first s [] others lists some_seat first rest none = absurd (omega arith)
  lists_first s (x ∷ xs) others lists some_seat first rest none = (λ i. (first i).receipts.list ∷ (lists_of (rest i) ++ moved_out (none i))) ∙ ap (λ (l : List (List Receipt)). x.receipts.list ∷ l) (append-nil (lists_of xs))

  lists_snoc : (fewer : List (Seat K g)) (s : Seat K g) (ls : List (List Receipt)) → lists_of fewer ++ (s.receipts.list ∷ ls) ≡ lists_of (fewer ++ s ∷ []) ++ ls
  lists_snoc [] s ls = refl
  lists_snoc (x ∷ xs) s ls = ap (λ (l : List (List Receipt)). x.receipts.list ∷ l) (lists_snoc xs s ls)

  -- the last seat's are moved out
  pub lists_last : (seats fewer : List (Seat K g)) (s : Seat K g) (lists more : List (Vec Receipt)) (v : Vec Receipt) → seats ≡ fewer ++ s ∷ [] → more ≡ lists ++ v ∷ [] → vec_items v ≡ s.receipts.list → lists_of fewer ++ moved_out more ≡ lists_of seats ++ moved_out lists
  lists_last seats fewer s lists more v all grown same =
      ap (λ (l : List (List Receipt)). lists_of fewer ++ l) (moved_more lists more v grown ∙ ap (λ (l : List Receipt). l ∷ moved_out lists) same)
      ∙ (lists_snoc fewer s (moved_out lists) ∙ ap (λ (l : List (Seat K g)). lists_of l ++ moved_out lists) (sym all))
