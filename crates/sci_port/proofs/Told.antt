-- Receipts that keep to what a node's calls told: one more, the last of them, a Passed, replaced; and so to what they showed.
use Rattle.std.proofs.Common.{◌≡◌, ℕ, Bool, true, false, ◌&&◌, ◌||◌, not, Some, None, List, [], ◌∷◌, ◌++◌, map, refl, sym, ap, ◌∙◌, inl, inr, ⊎_elim}
use Rattle.sci_core.specs.declared.lines.Line.{Line}
use Rattle.sci_core.specs.declared.events.Event.{Event}
use Rattle.sci_core.specs.declared.outcomes.Outcome.{Outcome}
use Rattle.sci_core.specs.declared.receipts.Receipt.{Receipt}
use Rattle.sci_core.specs.declared.receipts.Receipt.TheVariants.{Read, Passed, Wrote}
use Rattle.sci_core.specs.Legal.{is_write}
use Rattle.sci_port.specs.declared.calls.Call.{Call}
use Rattle.sci_port.specs.declared.calls.Call.TheVariants.{Own, MemWas, TagWas, Stepped}
use Rattle.sci_port.specs.KeepsTo.{as_read, apart, is_passed, is_same, keeps_told, KeepsTo, KeepsTold, IsKeptAs}
use Rattle.sci_port.specs.ReceiptList.{last_passed}
use Rattle.sci_port.specs.Shown.{kept_after, shown_by, shown_in, told_by, told_in}
use Rattle.sci_port.proofs.Elements.{clash}
use Rattle.sci_port.proofs.Tested.{and_true, both, either, or_first, or_second, receipts_are, receipts_same}

-- what is read is not passed
read_again : (r : Receipt) → as_read (as_read r) ≡ as_read r
read_again (Read words stamp) = refl
read_again (Passed words stamp) = refl
read_again (Wrote before words stamp) = refl

never_passed : (r : Receipt) → is_passed (as_read r) ≡ false
never_passed (Read words stamp) = refl
never_passed (Passed words stamp) = refl
never_passed (Wrote before words stamp) = refl

passed_is_read : (r : Receipt) → is_passed r ≡ true → is_write (as_read r) ≡ false
passed_is_read (Passed words stamp) h = refl
passed_is_read (Read words stamp) h = refl
passed_is_read (Wrote before words stamp) h = absurd (clash false h refl)

-- what was kept as passed was only passed
was_passed : (r n : Receipt) → IsKeptAs r n → is_passed r ≡ true → is_passed n ≡ true
was_passed r n (inl e) h = sym (ap is_passed e) ∙ h
was_passed r n (inr e) h = absurd (clash (is_passed r) h (ap is_passed e ∙ never_passed n))

-- one more
pub told_more : (rs ns : List Receipt) (r n : Receipt) → KeepsTold rs ns → IsKeptAs r n → KeepsTold (rs ++ r ∷ []) (ns ++ n ∷ [])
told_more [] [] r n k is = inl (is, tt)
told_more [] (m ∷ ns) r n k is = absurd k
told_more (x ∷ rs) [] r n k is = absurd k
told_more (x ∷ rs) (m ∷ ns) r n k is = ⊎_elim (λ h. inl (h.0, told_more rs ns r n h.1 is)) (λ h. inr (h.0, h.1, told_more (x ∷ rs) ns r n h.2 is)) k

-- the last, a Passed, gives way to one that was passed later
pub told_later : (rs ns : List Receipt) (l r n : Receipt) → is_passed l ≡ true → is_passed r ≡ true → KeepsTold (rs ++ l ∷ []) ns → IsKeptAs r n → KeepsTold (rs ++ r ∷ []) (ns ++ n ∷ [])
told_later [] [] l r n was passed k is = absurd k
told_later [] (m ∷ []) l r n was passed k is = ⊎_elim
    (λ h. inr (passed, was_passed l m h.0 was, inl (is, tt)))
    (λ h. absurd h.2) k
told_later [] (m ∷ o ∷ ns) l r n was passed k is = ⊎_elim
    (λ h. absurd h.1)
    (λ h. inr (passed, h.1, told_later [] (o ∷ ns) l r n was passed h.2 is)) k
told_later (x ∷ rs) [] l r n was passed k is = absurd k
told_later (x ∷ rs) (m ∷ ns) l r n was passed k is = ⊎_elim
    (λ h. inl (h.0, told_later rs ns l r n was passed h.1 is))
    (λ h. inr (h.0, h.1, told_later (x ∷ rs) ns l r n was passed h.2 is)) k

kept_read : (r n : Receipt) → IsKeptAs r n → as_read r ≡ as_read n
kept_read r n (inl e) = ap as_read e
kept_read r n (inr e) = ap as_read e ∙ read_again n

-- what keeps to what was told keeps to what was shown
pub loosened : (rs ns : List Receipt) → KeepsTold rs ns → KeepsTo rs (map as_read ns)
loosened [] [] k = tt
loosened [] (n ∷ ns) k = absurd k
loosened (r ∷ rs) [] k = absurd k
loosened (r ∷ rs) (n ∷ ns) k = ⊎_elim
    (λ h. inl (kept_read r n h.0, loosened rs ns h.1))
    (λ h. inr (h.0, passed_is_read n h.1, loosened (r ∷ rs) ns h.2)) k

reads : (k : Line) (call : Call) → map as_read (told_by k call) ≡ shown_by k call
reads k (Stepped Event.Unhold (Outcome.Done (Some line))) = refl
reads k (Stepped Event.Settle (Outcome.Done (Some line))) = refl
reads k (Stepped (Event.Written (Some words)) (Outcome.Done answer)) = refl
reads k (Stepped (Event.Written None) (Outcome.Done answer)) = refl
reads k (Stepped _ (Outcome.Done None)) = refl
reads k (Stepped _ (Outcome.Done (Some line))) = refl
reads k (Stepped Event.Unhold (Outcome.Missed code)) = refl
reads k (Stepped Event.Settle (Outcome.Missed code)) = refl
reads k (Stepped (Event.Written (Some words)) (Outcome.Missed code)) = refl
reads k (Stepped (Event.Written None) (Outcome.Missed code)) = refl
reads k (Stepped _ (Outcome.Missed code)) = refl
reads k (Stepped Event.Unhold Outcome.Busy) = refl
reads k (Stepped Event.Settle Outcome.Busy) = refl
reads k (Stepped (Event.Written (Some words)) Outcome.Busy) = refl
reads k (Stepped (Event.Written None) Outcome.Busy) = refl
reads k (Stepped _ Outcome.Busy) = refl
reads k (Own answer) = refl
reads k (MemWas answer) = refl
reads k (TagWas node answer) = refl

both_read : (xs ys : List Receipt) → map as_read (xs ++ ys) ≡ map as_read xs ++ map as_read ys
both_read [] ys = refl
both_read (x ∷ xs) ys = ap (λ (l : List Receipt). as_read x ∷ l) (both_read xs ys)

pub told_shown : (k : Line) (log : List (ℕ × Call)) → map as_read (told_in k log) ≡ shown_in k log
told_shown k [] = refl
told_shown k (c ∷ cs) = both_read (told_by k c.1) (told_in (kept_after k c.1) cs) ∙ (λ i. reads k c.1 i ++ told_shown (kept_after k c.1) cs i)

-- the test and the relation
kept_of : (r n : Receipt) → (is_same r n || is_same r (as_read n)) ≡ true → IsKeptAs r n
kept_of r n h = ⊎_elim (λ k. inl (receipts_are r n k)) (λ k. inr (receipts_are r (as_read n) k)) (either (is_same r n) (is_same r (as_read n)) h)

of_kept : (r n : Receipt) → IsKeptAs r n → (is_same r n || is_same r (as_read n)) ≡ true
of_kept r n (inl e) = or_first (is_same r n) (is_same r (as_read n)) (ap (λ (z : Receipt). is_same r z) (sym e) ∙ receipts_same r)
of_kept r n (inr e) = or_second (is_same r n) (is_same r (as_read n)) (ap (λ (z : Receipt). is_same r z) (sym e) ∙ receipts_same r)

pub told_of : (rs ns : List Receipt) → keeps_told rs ns ≡ true → KeepsTold rs ns
told_of [] [] h = tt
told_of [] (n ∷ ns) h = absurd (clash false h refl)
told_of (r ∷ rs) [] h = absurd (clash false h refl)
told_of (r ∷ rs) (n ∷ ns) h = ⊎_elim
    (λ k. let m = both (is_same r n || is_same r (as_read n)) (keeps_told rs ns) k in inl (kept_of r n m.0, told_of rs ns m.1))
    (λ k. let m = both (is_passed r) (is_passed n && keeps_told (r ∷ rs) ns) k in let o = both (is_passed n) (keeps_told (r ∷ rs) ns) m.1 in inr (m.0, o.0, told_of (r ∷ rs) ns o.1))
    (either ((is_same r n || is_same r (as_read n)) && keeps_told rs ns) (is_passed r && (is_passed n && keeps_told (r ∷ rs) ns)) h)

pub of_told : (rs ns : List Receipt) → KeepsTold rs ns → keeps_told rs ns ≡ true
of_told [] [] k = refl
of_told [] (n ∷ ns) k = absurd k
of_told (r ∷ rs) [] k = absurd k
of_told (r ∷ rs) (n ∷ ns) k = ⊎_elim
    (λ h. or_first ((is_same r n || is_same r (as_read n)) && keeps_told rs ns) (is_passed r && (is_passed n && keeps_told (r ∷ rs) ns)) (and_true (is_same r n || is_same r (as_read n)) (keeps_told rs ns) (of_kept r n h.0) (of_told rs ns h.1)))
    (λ h. or_second ((is_same r n || is_same r (as_read n)) && keeps_told rs ns) (is_passed r && (is_passed n && keeps_told (r ∷ rs) ns)) (and_true (is_passed r) (is_passed n && keeps_told (r ∷ rs) ns) h.0 (and_true (is_passed n) (keeps_told (r ∷ rs) ns) h.1 (of_told (r ∷ rs) ns h.2))))
    k

-- no two Passed stand together, with one more behind
not_both : (a b : Bool) → (a && b) ≡ false → not (a && b) ≡ true
not_both a b h = ap not h

pub apart_more : (rs : List Receipt) (r : Receipt) → apart rs ≡ true → (last_passed rs && is_passed r) ≡ false → apart (rs ++ r ∷ []) ≡ true
apart_more [] r h k = refl
apart_more (x ∷ []) r h k = and_true (not (is_passed x && is_passed r)) true (not_both (is_passed x) (is_passed r) k) refl
apart_more (x ∷ y ∷ rs) r h k =
    let m = both (not (is_passed x && is_passed y)) (apart (y ∷ rs)) h in
    and_true (not (is_passed x && is_passed y)) (apart (y ∷ (rs ++ r ∷ []))) m.0 (apart_more (y ∷ rs) r m.1 k)

-- and with another Passed in the place of the last
pub apart_later : (rs : List Receipt) (l r : Receipt) → is_passed l ≡ true → is_passed r ≡ true → apart (rs ++ l ∷ []) ≡ true → apart (rs ++ r ∷ []) ≡ true
apart_later [] l r was passed h = refl
apart_later (x ∷ []) l r was passed h =
    and_true (not (is_passed x && is_passed r)) true (ap (λ (b : Bool). not (is_passed x && b)) (passed ∙ sym was) ∙ (both (not (is_passed x && is_passed l)) true h).0) refl
apart_later (x ∷ y ∷ rs) l r was passed h =
    let m = both (not (is_passed x && is_passed y)) (apart (y ∷ (rs ++ l ∷ []))) h in
    and_true (not (is_passed x && is_passed y)) (apart (y ∷ (rs ++ r ∷ []))) m.0 (apart_later (y ∷ rs) l r was passed m.1)

pub and_false : (a b : Bool) → b ≡ false → (a && b) ≡ false
and_false true b h = h
and_false false b h = refl

pub false_and : (a b : Bool) → a ≡ false → (a && b) ≡ false
false_and true b h = absurd (clash true refl h)
false_and false b h = refl
