-- The entries along the forward links of a closed line, and the list lines of closed lines.
use Rattle.std.proofs.Common.{◌≡◌, ℕ, ◌+◌, ◌≤◌, Option, Some, None, List, [], ◌∷◌, ◌++◌, length, map, refl, sym, ap, ◌∙◌, subst, arith, append_assoc, append-nil, length-append}
use Rattle.std.proofs.lemmas.List.{map-append}
use Rattle.sci_words.specs.declared.tags.Tag.{Tag}
use Rattle.sci_core.specs.Closed.{ClosedLine}
use Rattle.sci_dump.specs.Rules.{tag, KeepsEnding}
use Rattle.sci_dump.proofs.Walks.{IsWalk, walk_push, walk_ended, walk_full}
use Rattle.sci_serve.specs.Verdicts.{entry, IsListOf, AreListsOf}

-- the entries so far are those of a walk over k nodes, which has come to this link
pub record Listed (c : ClosedLine) (entries : List (ℕ × Tag)) (k : ℕ) (next : Option ℕ) : Type 0 where
  pub front : List ℕ
  pub long : length front ≡ k
  pub walk : IsWalk c.mem.forw (λ i. (tag c i).forw) front next
  pub are : entries ≡ map (entry c) front

pub listed_start : (c : ClosedLine) → Listed c [] 0 c.mem.forw
listed_start c = record { front = []; long = refl; walk = refl; are = refl }

pub listed_more : (c : ClosedLine) (entries : List (ℕ × Tag)) (k x : ℕ) → Listed c entries k (Some x) → Listed c (entries ++ (x, tag c x) ∷ []) (k + 1) (tag c x).forw
listed_more c entries k x l = record {
  front = l.front ++ x ∷ [];
  long = omega (arith, length-append l.front (x ∷ []), l.long);
  walk = walk_push (λ i. (tag c i).forw) l.front c.mem.forw x l.walk;
  are = ap (λ (es : List (ℕ × Tag)). es ++ (x, tag c x) ∷ []) l.are ∙ sym (map-append (entry c) l.front (x ∷ []));
}

pub listed_end : (c : ClosedLine) (entries : List (ℕ × Tag)) (k : ℕ) → Listed c entries k None → (nodes : List ℕ) → KeepsEnding c nodes → entries ≡ map (entry c) nodes
listed_end c entries k l nodes e = l.are ∙ sym (ap (map (entry c)) (walk_ended (λ i. (tag c i).forw) l.front c.mem.forw nodes l.walk e.path))

pub listed_full : (c : ClosedLine) (entries : List (ℕ × Tag)) (k : ℕ) (next : Option ℕ) → length c.tags ≤ k → Listed c entries k next → (nodes : List ℕ) → KeepsEnding c nodes → entries ≡ map (entry c) nodes
listed_full c entries k next le l nodes e =
    l.are ∙ sym (ap (map (entry c)) (walk_full (length c.tags) c.mem (tag c) l.front next nodes (omega (arith, le, l.long)) l.walk e))

-- one more list line
pub lists_more : (number at : ℕ) (cs : List ClosedLine) (c : ClosedLine) (lists first : List ℕ) → at ≡ number + length cs → AreListsOf number cs lists → IsListOf at c first → AreListsOf number (cs ++ c ∷ []) (lists ++ first)
unfolding AreListsOf
lists_more number at [] c lists first is l i =
    let e : at ≡ number = omega (arith, is) in
    (first, [], subst (λ (n : ℕ). IsListOf n c first) e i, refl, ap (λ (xs : List ℕ). xs ++ first) l ∙ sym (append-nil first))
lists_more number at (d ∷ ds) c lists first is (head, rest, listed, more, whole) i =
    (head, rest ++ first, listed, lists_more (number + 1) at ds c rest first (omega (arith, is)) more i, ap (λ (xs : List ℕ). xs ++ first) whole ∙ append_assoc head rest first)
