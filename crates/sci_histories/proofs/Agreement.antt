-- What a whole table tells of the words.
use Rattle.std.proofs.Common.{◌≡◌, ◌≢◌, inl, inr, ℕ, ◌+◌, ◌-◌, ◌==◌, ◌≤◌, Bool, true, false, Option, Some, None, is_some, List, [], get_or, refl, sym, ap, subst, ◌∙◌, arith, eqb-true}
use Rattle.std.proofs.lemmas.Bool.{cases_Bool}
use mathlib.Core.Option.{some}
use Rattle.sci_core.specs.declared.receipts.Receipt.{Receipt}
use Rattle.sci_core.specs.declared.receipts.Receipt.TheVariants.{Read, Passed, Wrote}
use Rattle.sci_dump.specs.Rules.{Decides}
use Rattle.sci_histories.specs.Each.{Each}
use Rattle.sci_histories.specs.Histories.{LineReceipts}
use Rattle.sci_histories.specs.Rules.{Agrees, IsHistoryOf, KeepsAgreed, KeepsWithin, IsWithin}
use Rattle.sci_histories.specs.Table.{WritesAs, slot, IsTable, found, AgreesIn, AllAgree}
use Rattle.sci_histories.proofs.Places.{get_elem, element, some_value, each_receipt, each_list}

abbrev words_of : Option (List ℕ) → List ℕ
words_of (Some w) = w
words_of None = []

at_first : (h : LineReceipts) (words : List (Option (List ℕ))) → found h words h.opening.stamp ≡ Some h.opening.words
at_first h words = let e : (h.opening.stamp == h.opening.stamp) ≡ true = (grind arith) in rw e refl

found_first : (h : LineReceipts) (words : List (Option (List ℕ))) (stamp : ℕ) → (stamp == h.opening.stamp) ≡ true → found h words stamp ≡ Some h.opening.words
found_first h words stamp e = rw e refl

found_later : (h : LineReceipts) (words : List (Option (List ℕ))) (stamp : ℕ) → (stamp == h.opening.stamp) ≡ false → found h words stamp ≡ get_or words (slot h stamp) None
found_later h words stamp e = rw e refl

shows : (h : LineReceipts) (words : List (Option (List ℕ))) (history : ℕ → List ℕ) (r : Receipt) → ((s : ℕ) (w : List ℕ) → found h words s ≡ Some w → history s ≡ w) → AgreesIn h words r → Agrees history r
shows h words history (Read now stamp) f a = f stamp now a
shows h words history (Passed now stamp) f a = f stamp now a
shows h words history (Wrote before now stamp) f a = (f (stamp - 1) before a.0, f stamp now a.1)

pub table_history : (h : LineReceipts) (words : List (Option (List ℕ))) → AllAgree h words → KeepsAgreed h
table_history h words a =
    let history : ℕ → List ℕ = λ s. words_of (found h words s) in
    let f : (s : ℕ) (w : List ℕ) → found h words s ≡ Some w → history s ≡ w = λ s w e. ap words_of e in (
      history,
      record {
        first = f h.opening.stamp h.opening.words (at_first h words);
        last = f h.closing.stamp h.closing.words a.last;
        shown = λ j p r e. shows h words history r f (a.each j p r e);
      },
    )

-- a history shows what the writes write
wrote : (history : ℕ → List ℕ) (stamp : ℕ) (w : List ℕ) (r : Receipt) → WritesAs stamp w r → Agrees history r → history stamp ≡ w
wrote history stamp w (Wrote before now s) is a = ap history (sym is.0) ∙ (a.1 ∙ is.1)
wrote history stamp w (Read now s) is a = absurd is
wrote history stamp w (Passed now s) is a = absurd is

module _ (h : LineReceipts) (n : ℕ) (words : List (Option (List ℕ))) (twice : Bool) (t : IsTable h n 0 words twice) (full : Each (λ x. is_some x ≡ true) words) (within : KeepsWithin h)
    (history : ℕ → List ℕ) (is : IsHistoryOf h history) where
  in_table : (s : ℕ) → h.opening.stamp ≤ s → s ≤ h.closing.stamp → found h words s ≡ Some (history s)
  in_table s above below = elim (cases_Bool (s == h.opening.stamp)) [
    | inl e ↦ found_first h words s e ∙ ap (λ (w : List ℕ). Some w) (sym (ap history (eqb-true s h.opening.stamp e) ∙ is.first))
    | inr ne ↦
        let other : s ≢ h.opening.stamp = (λ e. grind (arith, e, ne)) in
        let l = t.long in
        let x = element words (slot h s) (omega (arith, above, below, other, l)) in
        let v = some_value x.0 (full (slot h s) x.0 x.1) in
        let c = t.came (slot h s) v.0 (x.1 ∙ ap some v.1) in
        let back : h.opening.stamp + 1 + slot h s ≡ s = omega (arith, above, other) in
        let w : history s ≡ v.0 = wrote history s v.0 c.2 (subst (λ (z : ℕ). WritesAs z v.0 c.2) back c.5) (is.shown c.0 c.1 c.2 c.4) in
        found_later h words s ne ∙ (get_elem words (slot h s) x.0 None x.1 ∙ (v.1 ∙ ap (λ (z : List ℕ). Some z) (sym w)))
  ]

  agrees : (r : Receipt) → IsWithin h.opening.stamp h.closing.stamp r → Agrees history r → AgreesIn h words r
  agrees (Read now stamp) w a = in_table stamp w.0 w.1 ∙ ap (λ (z : List ℕ). Some z) a
  agrees (Passed now stamp) w a = in_table stamp w.0 w.1 ∙ ap (λ (z : List ℕ). Some z) a
  agrees (Wrote before now stamp) w a =
      let b = w.0 in let d = w.1 in
      (in_table (stamp - 1) (omega arith) (omega arith) ∙ ap (λ (z : List ℕ). Some z) a.0, in_table stamp (omega arith) w.1 ∙ ap (λ (z : List ℕ). Some z) a.1)

  pub history_agrees : AllAgree h words
  history_agrees = record {
    last = in_table h.closing.stamp within.0 (omega arith) ∙ ap (λ (z : List ℕ). Some z) is.last;
    each = λ j p r e. agrees r (within.1 j p r e) (is.shown j p r e);
  }

pub all_agree : (h : LineReceipts) (words : List (Option (List ℕ))) (b : Bool) → found h words h.closing.stamp ≡ Some h.closing.words → Decides b (Each (Each (AgreesIn h words)) h.lists) → Decides b (AllAgree h words)
all_agree h words true last each = record { last = last; each = each_receipt (AgreesIn h words) h each }
all_agree h words false last never = λ a. never (each_list (AgreesIn h words) h a.each)
