-- One more receipt in the table, and what the whole table tells.
use Rattle.std.proofs.Common.{◌≡◌, ◌⊎◌, inl, inr, ⊎_elim, ℕ, ◌+◌, ◌-◌, ◌<◌, ◌≤◌, ◌||◌, Bool, true, false, Option, Some, None, is_some, List, length, get_or, set, replicate, refl, sym, ap, subst, ◌∙◌, arith}
use Rattle.std.proofs.lemmas.Bool.{cases_lt}
use Rattle.std.proofs.lemmas.List.{length-set, length-replicate}
use mathlib.Core.Logic.{dite}
use mathlib.Core.Option.{some, some-injective}
use native.Mathlib.Decide.{ℕ_discrete}
use lib.ListN.{get_elem?}
use Rattle.sci_core.specs.declared.lines.Line.{Line}
use Rattle.sci_core.specs.declared.receipts.Receipt.{Receipt}
use Rattle.sci_core.specs.declared.receipts.Receipt.TheVariants.{Read, Passed, Wrote}
use Rattle.sci_core.specs.Legal.{stamp_of, is_write}
use Rattle.sci_port.proofs.Elements.{inside, at_set, clash}
use Rattle.sci_histories.specs.Each.{Each}
use Rattle.sci_histories.specs.Histories.{LineReceipts, of_node}
use Rattle.sci_histories.specs.Rules.{IsWithin, KeepsWithin, KeepsOnce, KeepsWritten}
use Rattle.sci_histories.specs.Table.{IsEarlier, IsFull, slot, IsTable, IsNoted}
use Rattle.sci_histories.proofs.Places.{element, elem_or, node_below, set_here, set_else, full_of, not_full, none_full, some_value, writes_as}

nothing_earlier : (j p : ℕ) → IsEarlier 0 0 j p → ⊥
nothing_earlier j p (inl lt) = absurd (omega arith)
nothing_earlier j p (inr e) = let b = e.1 in absurd (omega arith)

pub table_none : (h : LineReceipts) (n : ℕ) → n ≡ h.closing.stamp - h.opening.stamp → IsTable h 0 0 (replicate n None) false
table_none h n is = record {
  long = length-replicate n None ∙ is;
  seen = λ j p r e at w. absurd (nothing_earlier j p e);
  came = λ k w e. absurd (none_full n k w e);
  again = λ t. absurd (clash false t refl);
  apart = λ t i j p q r s e f. absurd (nothing_earlier i p e);
}

abbrev IsHere : ℕ → ℕ → ℕ → ℕ → Type 0
IsHere node place j p = (j ≡ node) × (p ≡ place)

still_earlier : (node place j p : ℕ) → IsEarlier node place j p → IsEarlier node (place + 1) j p
still_earlier node place j p (inl lt) = inl lt
still_earlier node place j p (inr e) = let b = e.1 in inr (e.0, omega arith)

earlier_or_here : (node place j p : ℕ) → IsEarlier node (place + 1) j p → IsEarlier node place j p ⊎ IsHere node place j p
earlier_or_here node place j p (inl lt) = inl (inl lt)
earlier_or_here node place j p (inr e) = let b = e.1 in elim (cases_lt p place) [
  | inl lt ↦ inl (inr (e.0, lt))
  | inr ge ↦ inr (e.0, omega arith)
]

not_here : (node place j p : ℕ) → IsEarlier node place j p → (j ≡ node) × (p ≡ place) → ⊥
not_here node place j p (inl lt) is = let a = is.0 in absurd (omega arith)
not_here node place j p (inr e) is = let a = is.1 in let b = e.1 in absurd (omega arith)

at_here : (h : LineReceipts) (node place j p : ℕ) (r s : Receipt) → get_elem? (of_node h node) place ≡ some r → IsHere node place j p → get_elem? (of_node h j) p ≡ some s → r ≡ s
at_here h node place j p r s at is e =
    let a = is.0 in let b = is.1 in
    some-injective r s (sym at ∙ ((λ i. get_elem? (of_node h (sym a i)) (sym b i)) ∙ e))

-- a receipt that isn't a write
pub table_same : (h : LineReceipts) (node place : ℕ) (r : Receipt) (words : List (Option (List ℕ))) (twice : Bool) → get_elem? (of_node h node) place ≡ some r → is_write r ≡ false
    → IsTable h node place words twice → IsTable h node (place + 1) words twice
table_same h node place r words twice at other t =
    let never : (j p : ℕ) (s : Receipt) → IsHere node place j p → get_elem? (of_node h j) p ≡ some s → is_write s ≡ true → ⊥ =
    λ j p s is e w. clash (is_write s) w (ap is_write (sym (at_here h node place j p r s at is e)) ∙ other) in
    record {
      long = t.long;
      seen = λ j p s e f w. ⊎_elim (λ old. t.seen j p s old f w) (λ is. absurd (never j p s is f w)) (earlier_or_here node place j p e);
      came = λ k w e. let c = t.came k w e in (c.0, c.1, c.2, still_earlier node place c.0 c.1 c.3, c.4, c.5);
      again = t.again;
      apart = λ tw i j p q s u e f a b ws wu same. ⊎_elim
          (λ old. ⊎_elim (λ too. t.apart tw i j p q s u old too a b ws wu same) (λ is. absurd (never j q u is b wu)) (earlier_or_here node place j q f))
          (λ is. absurd (never i p s is a ws))
          (earlier_or_here node place i p e);
    }

or_false : (a b : Bool) → (a || b) ≡ false → (a ≡ false) × (b ≡ false)
or_false false false h = (refl, refl)
or_false true b h = absurd (cc)
or_false false true h = absurd (cc)

or_true : (a b : Bool) → (a || b) ≡ true → (a ≡ true) ⊎ (b ≡ true)
or_true true b h = inl refl
or_true false true h = inr refl
or_true false false h = absurd (cc)

module _ (h : LineReceipts) (within : KeepsWithin h) (node place : ℕ) (before now : List ℕ) (stamp : ℕ) (words : List (Option (List ℕ))) (twice stood : Bool)
    (at : get_elem? (of_node h node) place ≡ some (Wrote before now stamp)) (t : IsTable h node place words twice) (is_stood : stood ≡ is_some (get_or words (slot h stamp) None)) where
  place_of : slot h stamp < length words
  place_of = let w = within.1 node place (Wrote before now stamp) at in let a = w.0 in let b = w.1 in let l = t.long in omega arith

  stamp_back : h.opening.stamp + 1 + slot h stamp ≡ stamp
  stamp_back = let w = within.1 node place (Wrote before now stamp) at in let a = w.0 in omega arith

  abbrev more : List (Option (List ℕ))
  more = set words (slot h stamp) (Some now)

  still_full : (k : ℕ) → IsFull words k → IsFull more k
  still_full k f = dite (ℕ_discrete k (slot h stamp))
      (λ e. (now, ap (get_elem? more) e ∙ set_here words (slot h stamp) (Some now) place_of))
      (λ ne. (f.0, set_else words (slot h stamp) k (Some now) ne ∙ f.1))

  same_here : (j p : ℕ) (s : Receipt) → IsHere node place j p → get_elem? (of_node h j) p ≡ some s → Wrote before now stamp ≡ s
  same_here j p s is e = at_here h node place j p (Wrote before now stamp) s at is e

  -- a write before it with its stamp
  stood_full : (s : Receipt) (j p : ℕ) → IsEarlier node place j p → get_elem? (of_node h j) p ≡ some s → is_write s ≡ true → stamp ≡ stamp_of s → stood ≡ false → ⊥
  stood_full s j p e f w same none = not_full words (slot h stamp) (sym is_stood ∙ none) (subst (λ (x : ℕ). IsFull words (slot h x)) (sym same) (t.seen j p s e f w))

  twice_more : (twice || stood) ≡ true → KeepsOnce h → ⊥
  twice_more is once = ⊎_elim
      (λ old. t.again old once)
      (λ st.
      let f = full_of words (slot h stamp) (sym is_stood ∙ st) in
      let c = t.came (slot h stamp) f.0 f.1 in
      let w = writes_as (h.opening.stamp + 1 + slot h stamp) f.0 c.2 c.5 in
      let same : stamp_of c.2 ≡ stamp = w.1 ∙ stamp_back in
      not_here node place c.0 c.1 c.3 (once c.0 node c.1 place c.2 (Wrote before now stamp) c.4 at w.0 refl same))
      (or_true twice stood is)

  pub table_noted : IsTable h node (place + 1) more (twice || stood)
  table_noted = record {
    long = length-set words (slot h stamp) (Some now) ∙ t.long;
    seen = λ j p s e f w. ⊎_elim
        (λ old. still_full (slot h (stamp_of s)) (t.seen j p s old f w))
        (λ is. (now, ap (λ (x : Receipt). get_elem? more (slot h (stamp_of x))) (sym (same_here j p s is f)) ∙ set_here words (slot h stamp) (Some now) place_of))
        (earlier_or_here node place j p e);
    came = λ k w e. ⊎_elim
        (λ new. (node, place, Wrote before now stamp, inr (refl, omega arith), at, ((let a : k ≡ slot h stamp = new.0 in let b = stamp_back in omega arith), (let i = new.1 in cc))))
        (λ old. let c = t.came k w old.1 in (c.0, c.1, c.2, still_earlier node place c.0 c.1 c.3, c.4, c.5))
        (at_set words (slot h stamp) k (Some now) (Some w) e);
    again = twice_more;
    apart = λ tw i j p q s u e f a b ws wu same. let none = or_false twice stood tw in ⊎_elim
        (λ old. ⊎_elim
        (λ too. t.apart none.0 i j p q s u old too a b ws wu same)
        (λ is. absurd (stood_full s i p old a ws (ap stamp_of (same_here j q u is b) ∙ sym same) none.1))
        (earlier_or_here node place j q f))
        (λ is. ⊎_elim
        (λ too. absurd (stood_full u j q too b wu (ap stamp_of (same_here i p s is a) ∙ same) none.1))
        (λ also. (is.0 ∙ sym also.0, is.1 ∙ sym also.1))
        (earlier_or_here node place j q f))
        (earlier_or_here node place i p e);
  }

or_none : (a b : Bool) → b ≡ false → (a || b) ≡ a
or_none true b h = refl
or_none false b h = h

kept : (h : LineReceipts) (node place : ℕ) (r : Receipt) (old new : List (Option (List ℕ))) (twice stood : Bool) → get_elem? (of_node h node) place ≡ some r → is_write r ≡ false → new ≡ old → stood ≡ false
    → IsTable h node place old twice → IsTable h node (place + 1) new (twice || stood)
kept h node place r old new twice stood at other same none t =
    let a = table_same h node place r old twice at other t in
    let b = subst (λ (ws : List (Option (List ℕ))). IsTable h node (place + 1) ws twice) (sym same) a in
    subst (λ (x : Bool). IsTable h node (place + 1) new x) (sym (or_none twice stood none)) b

pub table_more : (h : LineReceipts) (node place : ℕ) (r : Receipt) (old new : List (Option (List ℕ))) (twice stood : Bool) → KeepsWithin h → get_elem? (of_node h node) place ≡ some r
    → IsNoted h.opening.stamp r old new stood → IsTable h node place old twice → IsTable h node (place + 1) new (twice || stood)
table_more h node place (Wrote before now stamp) old new twice stood within at n t =
    subst (λ (ws : List (Option (List ℕ))). IsTable h node (place + 1) ws (twice || stood)) (sym n.0) (table_noted h within node place before now stamp old twice stood at t n.1)
table_more h node place (Read now stamp) old new twice stood within at n t = kept h node place (Read now stamp) old new twice stood at refl n.0 n.1 t
table_more h node place (Passed now stamp) old new twice stood within at n t = kept h node place (Passed now stamp) old new twice stood at refl n.0 n.1 t

ends : (h : LineReceipts) (node place j p : ℕ) (r : Receipt) → length (of_node h node) ≤ place → IsEarlier (node + 1) 0 j p → get_elem? (of_node h j) p ≡ some r → IsEarlier node place j p
ends h node place j p r far (inr e) f = let b = e.1 in absurd (omega arith)
ends h node place j p r far (inl lt) f = elim (cases_lt j node) [
  | inl l ↦ inl l
  | inr ge ↦
      let is : j ≡ node = omega arith in
      let near = inside (of_node h j) r p f in
      let long : length (of_node h j) ≡ length (of_node h node) = ap (λ (x : ℕ). length (of_node h x)) is in
      inr (is, omega arith)
]

passed : (node place j p : ℕ) → IsEarlier node place j p → IsEarlier (node + 1) 0 j p
passed node place j p (inl lt) = inl (omega arith)
passed node place j p (inr e) = let a = e.0 in inl (omega arith)

-- the same of a node's list as the code reads it
here_in : (h : LineReceipts) (node place : ℕ) (rs : List Receipt) (d : Receipt) → rs ≡ of_node h node → place < length rs → get_elem? (of_node h node) place ≡ some (get_or rs place d)
here_in h node place rs d is lt = ap (λ (l : List Receipt). get_elem? l place) (sym is) ∙ elem_or rs place d lt

pub noted_within : (h : LineReceipts) (node place : ℕ) (rs : List Receipt) (d : Receipt) (words : List (Option (List ℕ))) (twice : Bool) (o : Line) → o ≡ h.opening → rs ≡ of_node h node → place < length rs
    → KeepsWithin h → IsTable h node place words twice → IsWithin o.stamp (o.stamp + length words) (get_or rs place d)
noted_within h node place rs d words twice o first is lt within t =
    let w = within.1 node place (get_or rs place d) (here_in h node place rs d is lt) in
    let l = t.long in let r = within.0 in
    let e : h.closing.stamp ≡ h.opening.stamp + length words = omega arith in
    subst (λ (x : Line). IsWithin x.stamp (x.stamp + length words) (get_or rs place d)) (sym first) (subst (λ (m : ℕ). IsWithin h.opening.stamp m (get_or rs place d)) e w)

pub noted_more : (h : LineReceipts) (node place : ℕ) (rs : List Receipt) (d : Receipt) (old new : List (Option (List ℕ))) (twice stood next : Bool) (o : Line) → o ≡ h.opening → rs ≡ of_node h node → place < length rs
    → KeepsWithin h → IsNoted o.stamp (get_or rs place d) old new stood → next ≡ (twice || stood) → IsTable h node place old twice → IsTable h node (place + 1) new next
noted_more h node place rs d old new twice stood next o first is lt within n both t =
    subst (λ (x : Bool). IsTable h node (place + 1) new x) (sym both)
    (table_more h node place (get_or rs place d) old new twice stood within (here_in h node place rs d is lt) (subst (λ (x : Line). IsNoted x.stamp (get_or rs place d) old new stood) first n) t)

-- a list at its end
pub table_next : (h : LineReceipts) (node place : ℕ) (words : List (Option (List ℕ))) (twice : Bool) → length (of_node h node) ≤ place → IsTable h node place words twice → IsTable h (node + 1) 0 words twice
table_next h node place words twice far t =
    let back : (j p : ℕ) (r : Receipt) → IsEarlier (node + 1) 0 j p → get_elem? (of_node h j) p ≡ some r → IsEarlier node place j p = λ j p r e f. ends h node place j p r far e f in
    record {
      long = t.long;
      seen = λ j p r e f w. t.seen j p r (back j p r e f) f w;
      came = λ k w e. let c = t.came k w e in (c.0, c.1, c.2, passed node place c.0 c.1 c.3, c.4, c.5);
      again = t.again;
      apart = λ tw i j p q r s e f a b. t.apart tw i j p q r s (back i p r e a) (back j q s f b) a b;
    }

-- the whole table
module _ (h : LineReceipts) (n : ℕ) (words : List (Option (List ℕ))) (twice : Bool) (far : length h.lists ≤ n) (t : IsTable h n 0 words twice) where
  all_earlier : (j p : ℕ) (r : Receipt) → get_elem? (of_node h j) p ≡ some r → IsEarlier n 0 j p
  all_earlier j p r e = let lt = node_below h.lists j p r e in inl (omega arith)

  pub written_full : KeepsWritten h → Each (λ x. is_some x ≡ true) words
  written_full keeps k x e =
      let lt = inside words x k e in let l = t.long in
      let w = keeps (h.opening.stamp + k) (omega arith) (omega arith) in
      let f = t.seen w.0 w.1 w.2 (all_earlier w.0 w.1 w.2 w.3) w.3 w.4 in
      let s = w.5 in
      let same : slot h (stamp_of w.2) ≡ k = omega arith in
      let is : x ≡ Some f.0 = some-injective x (Some f.0) (sym e ∙ (ap (get_elem? words) (sym same) ∙ f.1)) in
      ap is_some is

  pub full_written : Each (λ x. is_some x ≡ true) words → KeepsWritten h
  full_written full k a b =
      let l = t.long in
      let x = element words (k - h.opening.stamp) (omega arith) in
      let v = some_value x.0 (full (k - h.opening.stamp) x.0 x.1) in
      let c = t.came (k - h.opening.stamp) v.0 (x.1 ∙ ap some v.1) in
      let w = writes_as (h.opening.stamp + 1 + (k - h.opening.stamp)) v.0 c.2 c.5 in
      (c.0, c.1, c.2, c.4, w.0, w.1 ∙ (omega arith))

  pub once : twice ≡ false → KeepsOnce h
  once none i j p q r s e f = t.apart none i j p q r s (all_earlier i p r e) (all_earlier j q s f) e f

pub noted_end : (h : LineReceipts) (node place : ℕ) (rs : List Receipt) (words : List (Option (List ℕ))) (twice : Bool) → rs ≡ of_node h node → length rs ≤ place → IsTable h node place words twice → IsTable h (node + 1) 0 words twice
noted_end h node place rs words twice is far t = table_next h node place words twice (let e : length rs ≡ length (of_node h node) = ap (λ (l : List Receipt). length l) is in omega arith) t
