-- The rules together are a legal history.
use Rattle.std.proofs.Common.{◌≡◌, inl, inr, Option, Some, None, ℕ, zero, suc, ◌+◌, ◌-◌, ◌<◌, List, [], ◌∷◌, length, slice_index_or, sym, ap, subst, ◌∙◌, arith}
use Rattle.std.specs.Option.{MatchOption}
use Rattle.std.proofs.lemmas.Bool.{cases_lt}
use Rattle.sci_core.specs.declared.receipts.Receipt.{Receipt}
use Rattle.sci_core.specs.declared.receipts.Receipt.TheVariants.{Read, Passed, Wrote}
use Rattle.sci_core.specs.Legal.{IsShown}
use Rattle.sci_histories.specs.Histories.{LineReceipts}
use Rattle.sci_histories.specs.declared.rules.Rule.{Rule}
use Rattle.sci_histories.specs.declared.rules.Rule.TheVariants.{Within, Ordered, Written, Once, Agreed}
use Rattle.sci_histories.specs.Rules.{IsWithin, KeepsWithin, KeepsOrdered, KeepsWritten, KeepsOnce, Agrees, KeepsAgreed, BreaksFirst, IsLegalLine, AreLegal}
use Rattle.sci_histories.specs.Table.{BreaksOf}

shown : (history : ℕ → List ℕ) (first last : ℕ) (r : Receipt) → IsWithin first last r → Agrees history r → IsShown history first last r
shown history first last (Read words stamp) w a = (w.0, w.1, a)
shown history first last (Passed words stamp) w a = (w.0, w.1, a)
shown history first last (Wrote before words stamp) w a =
    let b = w.0 in let d = w.1 in
    let is : stamp ≡ (stamp - 1) + 1 = omega arith in
    (stamp - 1, is, omega arith, omega arith, a.0, ap history (sym is) ∙ a.1)

pub legal : (h : LineReceipts) → KeepsWithin h → KeepsOrdered h → KeepsWritten h → KeepsOnce h → KeepsAgreed h → IsLegalLine h
legal h within ordered written once agreed = record {
  history = agreed.0;
  rises = within.0;
  first = agreed.1.first;
  last = agreed.1.last;
  shown = λ j p r e. shown agreed.0 h.opening.stamp h.closing.stamp r (within.1 j p r e) (agreed.1.shown j p r e);
  ordered = ordered;
  written = written;
  once = once;
}

within_shown : (history : ℕ → List ℕ) (first last : ℕ) (r : Receipt) → IsShown history first last r → IsWithin first last r
within_shown history first last (Read words stamp) s = (s.0, s.1)
within_shown history first last (Passed words stamp) s = (s.0, s.1)
within_shown history first last (Wrote before words stamp) s = let a = s.1 in let b = s.2 in let d = s.3 in (omega arith, omega arith)

agrees_shown : (history : ℕ → List ℕ) (first last : ℕ) (r : Receipt) → IsShown history first last r → Agrees history r
agrees_shown history first last (Read words stamp) s = s.2
agrees_shown history first last (Passed words stamp) s = s.2
agrees_shown history first last (Wrote before words stamp) s =
    let a = s.1 in
    let below : stamp - 1 ≡ s.0 = omega arith in
    (ap history below ∙ s.4, ap history a ∙ s.5)

pub not_legal : (rule : Rule) (h : LineReceipts) → BreaksFirst rule h → IsLegalLine h → ⊥
not_legal Within h b l = b (l.rises, λ j p r e. within_shown l.history h.opening.stamp h.closing.stamp r (l.shown j p r e))
not_legal Ordered h b l = b.1 l.ordered
not_legal Written h b l = b.2 l.written
not_legal Once h b l = b.3 l.once
not_legal Agreed h b l = b.4 (l.history, record { first = l.first; last = l.last; shown = λ j p r e. agrees_shown l.history h.opening.stamp h.closing.stamp r (l.shown j p r e) })

read_any : (hs : List LineReceipts) (i : ℕ) (h d : LineReceipts) → i < length hs → h ≡ slice_index_or hs i h → h ≡ slice_index_or hs i d
read_any [] i h d lt e = absurd (omega arith)
read_any (x ∷ xs) zero h d lt e = e
read_any (x ∷ xs) (suc i) h d lt e = read_any xs i h d (omega arith) e

pub not_all_legal : (hs : List LineReceipts) (i : ℕ) (h : LineReceipts) (rule : Rule) → i < length hs → h ≡ slice_index_or hs i h → BreaksFirst rule h → AreLegal hs → ⊥
not_all_legal hs i h rule lt is b all = not_legal rule h b (subst IsLegalLine (sym is) (all i h lt))

pub legal_more : (hs : List LineReceipts) (i : ℕ) (h : LineReceipts) → i < length hs → h ≡ slice_index_or hs i h → IsLegalLine h → ((k : ℕ) (d : LineReceipts) → k < i → IsLegalLine (slice_index_or hs k d))
    → (k : ℕ) (d : LineReceipts) → k < i + 1 → IsLegalLine (slice_index_or hs k d)
legal_more hs i h lt is here old k d near = elim (cases_lt k i) [
  | inl l ↦ old k d l
  | inr g ↦ let e : i ≡ k = omega arith in subst (λ (z : ℕ). IsLegalLine (slice_index_or hs z d)) e (subst IsLegalLine (read_any hs i h d lt is) here)
]

pub breaks_at : (hs : List LineReceipts) (i : ℕ) (h : LineReceipts) (rule : Rule) → i < length hs → h ≡ slice_index_or hs i h → BreaksFirst rule h → (d : LineReceipts) → BreaksFirst rule (slice_index_or hs i d)
breaks_at hs i h rule lt is b d = subst (BreaksFirst rule) (read_any hs i h d lt is) b

pub first_of : (h : LineReceipts) (broken : Option Rule) → KeepsWithin h → KeepsOrdered h → MatchOption broken (KeepsWritten h × KeepsOnce h × KeepsAgreed h) (λ rule. BreaksOf rule h) → MatchOption broken (IsLegalLine h) (λ rule. BreaksFirst rule h)
first_of h None within ordered rest = legal h within ordered rest.0 rest.1 rest.2
first_of h (Some Within) within ordered b = absurd b
first_of h (Some Ordered) within ordered b = absurd b
first_of h (Some Written) within ordered b = (within, ordered, b)
first_of h (Some Once) within ordered b = (within, ordered, b.0, b.1)
first_of h (Some Agreed) within ordered b = (within, ordered, b.0, b.1, b.2)
