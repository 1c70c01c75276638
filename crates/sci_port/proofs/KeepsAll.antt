-- Receipts that stay in their list, and work of which they keep all, one piece after another.
use Rattle.std.proofs.Common.{◌≡◌, ◌⊎◌, inl, inr, ⊎_elim, ℕ, ◌+◌, Bool, true, false, Some, None, List, [], ◌∷◌, ◌++◌, refl, sym, ap, subst, ◌∙◌, append-nil}
use Rattle.std.proofs.lemmas.List.{append_assoc}
use Rattle.sci_core.specs.declared.events.Event.{Event}
use Rattle.sci_core.specs.declared.lines.Line.{Line}
use Rattle.sci_core.specs.declared.outcomes.Outcome.{Outcome}
use Rattle.sci_core.specs.declared.pending.Pending.{Pending}
use Rattle.sci_core.specs.declared.receipts.Receipt.{Receipt}
use Rattle.sci_core.specs.declared.receipts.Receipt.TheVariants.{Read, Passed, Wrote}
use Rattle.sci_port.specs.declared.calls.Call.{Call}
use Rattle.sci_port.specs.declared.calls.Call.TheVariants.{MemWas, Own, Stepped, TagWas}
use Rattle.sci_port.specs.KeepsAll.{Extends, HasBehind, HasInPlace, IsReadied, KeepsAll, RoomyChain, as_it_was, keeps_call, keeps_none, keeps_ready, readied_on, writes_in}
use Rattle.sci_port.specs.KeepsTo.{is_passed}
use Rattle.sci_port.specs.Readying.{Readying}
use Rattle.sci_port.specs.ReceiptList.{Appends, ReceiptList, Receives, Replaces, Settles, Writes, last_passed}

-- the writes among two lists
pub writes_both : (a b : List Receipt) → writes_in (a ++ b) ≡ writes_in a ++ writes_in b
writes_both [] b = refl
writes_both (Read words stamp ∷ a) b = writes_both a b
writes_both (Passed words stamp ∷ a) b = writes_both a b
writes_both (Wrote before words stamp ∷ a) b = ap (λ (l : List Receipt). Wrote before words stamp ∷ l) (writes_both a b)

-- where two lists make one that ends with a receipt, the second is empty, or ends with it
abbrev EndsIn : List Receipt → List Receipt → List Receipt → Receipt → Type 0
EndsIn a m front last = ((m ≡ []) × (a ≡ front ++ last ∷ [])) ⊎ ((more : List Receipt) × (m ≡ more ++ last ∷ []) × (front ≡ a ++ more))

ends_in : (a m front : List Receipt) (last : Receipt) → a ++ m ≡ front ++ last ∷ [] → EndsIn a m front last
ends_in [] m front last e = inr (front, e, refl)
ends_in (x ∷ []) [] [] last e = inl (refl, e)
ends_in (x ∷ []) (y ∷ m) [] last e = absurd (let z : y ∷ m ≡ [] = cc in cc)
ends_in (x ∷ y ∷ a) m [] last e = absurd (let z : y ∷ (a ++ m) ≡ [] = cc in cc)
ends_in (x ∷ a) m (y ∷ front) last e =
    let tail : a ++ m ≡ front ++ last ∷ [] = cc in
    let head : x ≡ y = cc in
    ⊎_elim (λ h. inl (h.0, (λ i. head i ∷ h.1 i))) (λ h. inr (h.0, h.1, (λ i. sym head i ∷ h.2 i))) (ends_in a m front last tail)

-- a list extends itself
pub extends_none : (a : List Receipt) → Extends a a
extends_none a = inl (record { more = []; is = sym (append-nil a) })

-- more behind it extends it
pub extends_more : (a m : List Receipt) → Extends a (a ++ m)
extends_more a m = inl (record { more = m; is = refl })

-- so does another Passed in the place of one at its end
pub extends_replaced : (a : List Receipt) (last r : Receipt) → is_passed last ≡ true → is_passed r ≡ true → Extends (a ++ last ∷ []) (a ++ r ∷ [])
extends_replaced a last r was by = inr (record { front = a; last = last; by = r; more = []; was = refl; was_passed = was; is_passed_by = by; is = refl })

-- and what extends an extension
module _ {a b c : List Receipt} where
  behind_behind : HasBehind a b → HasBehind b c → Extends a c
  behind_behind h k = inl (record { more = h.more ++ k.more; is = k.is ∙ ap (λ (l : List Receipt). l ++ k.more) h.is ∙ append_assoc a h.more k.more })

  behind_in_place : HasBehind a b → HasInPlace b c → Extends a c
  behind_in_place h k = ⊎_elim
      (λ e. inr (record {
        front = k.front;
        last = k.last;
        by = k.by;
        more = k.more;
        was = e.1;
        was_passed = k.was_passed;
        is_passed_by = k.is_passed_by;
        is = k.is;
      }))
      (λ e. inl (record { more = e.0 ++ k.by ∷ k.more; is = k.is ∙ ap (λ (l : List Receipt). l ++ k.by ∷ k.more) e.2 ∙ append_assoc a e.0 (k.by ∷ k.more) }))
      (ends_in a h.more k.front k.last (sym h.is ∙ k.was))

  in_place_behind : HasInPlace a b → HasBehind b c → Extends a c
  in_place_behind h k = inr (record {
    front = h.front;
    last = h.last;
    by = h.by;
    more = h.more ++ k.more;
    was = h.was;
    was_passed = h.was_passed;
    is_passed_by = h.is_passed_by;
    is = k.is ∙ ap (λ (l : List Receipt). l ++ k.more) h.is ∙ append_assoc h.front (h.by ∷ h.more) k.more;
  })

  -- the Passed that is replaced now is the one that took the place before, or stands behind it
  replaced_again : (h : HasInPlace a b) (k : HasInPlace b c) (between : List Receipt) → h.by ∷ h.more ≡ between ++ k.last ∷ [] → k.front ≡ h.front ++ between → Extends a c
  replaced_again h k [] e f = inr (record {
    front = h.front;
    last = h.last;
    by = k.by;
    more = k.more;
    was = h.was;
    was_passed = h.was_passed;
    is_passed_by = k.is_passed_by;
    is = k.is ∙ ap (λ (l : List Receipt). l ++ k.by ∷ k.more) (f ∙ append-nil h.front);
  })
  replaced_again h k (r ∷ between) e f = inr (record {
    front = h.front;
    last = h.last;
    by = r;
    more = between ++ k.by ∷ k.more;
    was = h.was;
    was_passed = h.was_passed;
    is_passed_by = let same : h.by ≡ r = cc in ap is_passed (sym same) ∙ h.is_passed_by;
    is = k.is ∙ ap (λ (l : List Receipt). l ++ k.by ∷ k.more) f ∙ append_assoc h.front (r ∷ between) (k.by ∷ k.more);
  })

  in_place_in_place : HasInPlace a b → HasInPlace b c → Extends a c
  in_place_in_place h k = ⊎_elim
      (λ e. absurd (let none = e.0 in cc))
      (λ e. replaced_again h k e.0 e.1 e.2)
      (ends_in h.front (h.by ∷ h.more) k.front k.last (sym h.is ∙ k.was))

  pub extends_then : Extends a b → Extends b c → Extends a c
  extends_then (inl h) (inl k) = behind_behind h k
  extends_then (inl h) (inr k) = behind_in_place h k
  extends_then (inr h) (inl k) = in_place_behind h k
  extends_then (inr h) (inr k) = in_place_in_place h k

-- the same list extends
pub extends_same : (a b : List Receipt) → b ≡ a → Extends a b
extends_same a b e = subst (λ (l : List Receipt). Extends a l) (sym e) (extends_none a)

-- a call leaves what stood in a list there
module _ (s t : ReceiptList) where
  abbrev Further : Type 0
  Further = Extends s.list t.list

  same_further : t ≡ s → Further
  same_further e = extends_same s.list t.list (ap (λ (z : ReceiptList). z.list) e)

  appended_further : (r : Receipt) → Appends s r t → Further
  appended_further r a = subst (λ (l : List Receipt). Extends s.list l) (sym a.list) (extends_more s.list (r ∷ []))

  replaced_further : (r : Receipt) → is_passed r ≡ true → Replaces s r t → Further
  replaced_further r by a = subst (λ (z : List Receipt × List Receipt). Extends z.0 z.1) (λ i. (sym a.was i, sym a.list i)) (extends_replaced a.before a.last r a.passed by)

  settled_further : (passing last : Bool) (line : Line) → Settles passing last s line t → Further
  settled_further false last line a = appended_further (Read line.words line.stamp) a
  settled_further true false line a = appended_further (Passed line.words line.stamp) a
  settled_further true true line a = replaced_further (Passed line.words line.stamp) refl a

  written_further : (p : Pending) (words : List ℕ) → Writes p words s t → Further
  written_further (Pending.Purging line seen) words a = appended_further (Wrote line.words words (line.stamp + 1)) a
  written_further _ words a = same_further a

  pub received_extends : (p : Pending) (call : Call) → Receives p call s t → Further
  received_extends p (Stepped Event.Unhold (Outcome.Done (Some line))) r = appended_further (Read line.words line.stamp) r
  received_extends p (Stepped Event.Settle (Outcome.Done (Some line))) r = settled_further s.passing (last_passed s.list) line r
  received_extends p (Stepped (Event.Written (Some words)) (Outcome.Done answer)) r = written_further p words r
  received_extends p (Stepped (Event.Written None) (Outcome.Done answer)) r = same_further r
  received_extends p (Stepped _ (Outcome.Done None)) r = same_further r
  received_extends p (Stepped _ (Outcome.Done (Some line))) r = same_further r
  received_extends p (Stepped Event.Unhold (Outcome.Missed code)) r = same_further r
  received_extends p (Stepped Event.Settle (Outcome.Missed code)) r = same_further r
  received_extends p (Stepped (Event.Written (Some words)) (Outcome.Missed code)) r = same_further r
  received_extends p (Stepped (Event.Written None) (Outcome.Missed code)) r = same_further r
  received_extends p (Stepped _ (Outcome.Missed code)) r = same_further r
  received_extends p (Stepped Event.Unhold Outcome.Busy) r = same_further r
  received_extends p (Stepped Event.Settle Outcome.Busy) r = same_further r
  received_extends p (Stepped (Event.Written (Some words)) Outcome.Busy) r = same_further r
  received_extends p (Stepped (Event.Written None) Outcome.Busy) r = same_further r
  received_extends p (Stepped _ Outcome.Busy) r = same_further r
  received_extends p (Own answer) r = same_further r
  received_extends p (MemWas answer) r = same_further r
  received_extends p (TagWas node answer) r = same_further r

module _ {U : Type 0} {readies : U → ℕ → Readying → U → Type 0} where
  -- readied, and once more
  pub readied_then : {u v w : U} → IsReadied readies u v → IsReadied readies v w → IsReadied readies u w
  readied_then as_it_was h = h
  readied_then (readied_on line r first rest) h = readied_on line r first (readied_then rest h)

  -- readied once
  pub readied_once : {u v : U} (line : ℕ) (r : Readying) → readies u line r v → IsReadied readies u v
  readied_once line r h = readied_on line r h as_it_was

  module _ {gives : U → ℕ → Call → U → Type 0} {receipts : U → ℕ → ReceiptList} where
    -- one piece of work after another
    pub keeps_then : {u v w : U} → KeepsAll gives readies receipts u v → KeepsAll gives readies receipts v w → KeepsAll gives readies receipts u w
    keeps_then keeps_none h = h
    keeps_then (keeps_call line call given room rest) h = keeps_call line call given room (keeps_then rest h)
    keeps_then (keeps_ready line r readied rest) h = keeps_ready line r readied (keeps_then rest h)

    -- what readies the receipts
    pub readied_keeps : {u v : U} → IsReadied readies u v → KeepsAll gives readies receipts u v
    readied_keeps as_it_was = keeps_none
    readied_keeps (readied_on line r readied rest) = keeps_ready line r readied (readied_keeps rest)

    -- calls on one line
    pub chain_keeps : (line : ℕ) (u v : U) (calls : List Call) → RoomyChain (λ s call t. gives s line call t) (λ s. receipts s line) u calls v → KeepsAll gives readies receipts u v
    chain_keeps line u v [] h = subst (λ (w : U). KeepsAll gives readies receipts u w) (sym h) keeps_none
    chain_keeps line u v (c ∷ cs) (mid, given, room, rest) = keeps_call line c given room (chain_keeps line mid v cs rest)
