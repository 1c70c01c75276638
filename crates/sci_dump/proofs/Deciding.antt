-- From what each node keeps to the rules of a line.
use Rattle.std.proofs.Common.{◌≡◌, ◌≢◌, ◌⊎◌, ◌↔◌, ℕ, ◌+◌, ◌<◌, ◌≤◌, Bool, true, false, not, Option, Some, None, List, [], ◌∷◌, length, Contains, get_or, All, is_some, zero, suc, refl, sym, ◌∙◌, subst, arith, inl, inr}
use Rattle.std.proofs.lemmas.Bool.{cases_lt}
use Rattle.sci_words.specs.declared.tags.Kind.{Kind}
use Rattle.sci_words.specs.declared.tags.Tag.{Tag}
use Rattle.sci_words.specs.declared.memory.MemState.{MemState}
use Rattle.sci_core.specs.declared.lines.Line.{Line}
use Rattle.sci_core.specs.Closed.{ClosedLine, IsExactClosed}
use Rattle.sci_core.specs.Exact.{is_closed_kind}
use Rattle.sci_core.proofs.ReadBack.Chain.{path_unique}
use Rattle.sci_core.proofs.ReadBack.Elements.{contains_none, contains_head}
use Rattle.sci_dump.specs.declared.checking.Rule.{Rule}
use Rattle.sci_dump.specs.declared.checking.Rule.TheVariants.{Settled, Ending, Listed, Linked, Suited, Equal}
use Rattle.sci_dump.proofs.Walks.{Walked, walked_end, walked_long}
use Rattle.sci_dump.specs.Rules.{tag, line, Decides, Ends, KeepsSettled, KeepsEnding, KeepsListed, KeepsLinked, KeepsSuited, KeepsEqual, BreaksFirst}

pub each_more : (P : ℕ → Type 0) (k : ℕ) → ((i : ℕ) → i < k → P i) → P k → (i : ℕ) → i < k + 1 → P i
each_more P k h p i lt = elim (cases_lt i k) [
  | inl l ↦ h i l
  | inr g ↦ let e : k ≡ i = omega arith in subst P e p
]

abbrev pub IsSettledTag : Tag → Type 0
IsSettledTag t = (t.held ≡ false) × (is_closed_kind t.kind ≡ true)

pub settled : (c : ClosedLine) → c.mem.lent ≡ false → ((i : ℕ) → i < length c.tags → IsSettledTag (tag c i)) → KeepsSettled c
settled c lent each = record { not_lent = lent; not_held = λ i lt. (each i lt).0; kinds = λ i lt. (each i lt).1 }

-- rule C3 at a node
abbrev pub IsListed : ClosedLine → ℕ → Type 0
IsListed c i = (nodes : List ℕ) → KeepsEnding c nodes → ((tag c i).kind ≢ Kind.Invalid) ↔ Contains nodes i

pub listed : (c : ClosedLine) → ((i : ℕ) → i < length c.tags → IsListed c i) → (nodes : List ℕ) → KeepsEnding c nodes → KeepsListed c nodes
listed c each nodes e i lt = each i lt nodes e

-- rule C4 behind a node
abbrev pub IsLinkedOn : ClosedLine → ℕ → Type 0
IsLinkedOn c a = (b : ℕ) → (tag c a).kind ≢ Kind.Invalid → (tag c a).forw ≡ Some b → ((tag c b).kind ≡ Kind.Valid) × ((tag c b).back ≡ Some a)

below_at : (xs : List ℕ) (n q : ℕ) → All (λ i. i < n) xs → Contains xs q → q < n
below_at xs n q below c = subst (λ (x : ℕ). x < n) c.2 (below c.0 q c.1)

pub is_node : (c : ClosedLine) (nodes : List ℕ) → KeepsEnding c nodes → (i : ℕ) → Contains nodes i → i < length c.tags
is_node c nodes e i h = below_at nodes (length c.tags) i e.below h

pub linked : (c : ClosedLine) → ((h : ℕ) → c.mem.forw ≡ Some h → ((tag c h).kind ≡ Kind.Fresh) ⊎ ((tag c h).kind ≡ Kind.Dirty)) → ((i : ℕ) → i < length c.tags → IsLinkedOn c i)
    → (nodes : List ℕ) → KeepsEnding c nodes → KeepsListed c nodes → KeepsLinked c nodes
linked c first each nodes e l = record {
  first = first;
  later = λ a b h f. let lt = is_node c nodes e a h in each a lt b ((l a lt).1 h) f;
}

no_link : (f : Option ℕ) (x : ℕ) → f ≡ Some x → f ≡ None → ⊥
no_link f x p q = grind (arith, p, q)

-- the entry at the head, and where there is none
pub head_suits : (c : ClosedLine) (h : ℕ) (t : Tag) → t ≡ tag c h → c.mem.forw ≡ Some h → (t.kind ≡ Kind.Fresh) ⊎ (t.kind ≡ Kind.Dirty)
    → (x : ℕ) → c.mem.forw ≡ Some x → ((tag c x).kind ≡ Kind.Fresh) ⊎ ((tag c x).kind ≡ Kind.Dirty)
head_suits c h t at is right x other =
    let same : h ≡ x = grind (arith, is, other) in
    subst (λ (n : ℕ). ((tag c n).kind ≡ Kind.Fresh) ⊎ ((tag c n).kind ≡ Kind.Dirty)) same (subst (λ (y : Tag). (y.kind ≡ Kind.Fresh) ⊎ (y.kind ≡ Kind.Dirty)) at right)

pub none_suits : (c : ClosedLine) → c.mem.forw ≡ None → (x : ℕ) → c.mem.forw ≡ Some x → ((tag c x).kind ≡ Kind.Fresh) ⊎ ((tag c x).kind ≡ Kind.Dirty)
none_suits c none x some = absurd (no_link c.mem.forw x some none)

-- rule C5 at a node
abbrev pub IsSuitedTag : MemState → Tag → Type 0
IsSuitedTag s t = (t.kind ≡ Kind.Fresh → s ≡ MemState.Fresh) × (t.kind ≡ Kind.Dirty → s ≡ MemState.Gone)

pub suited : (c : ClosedLine) → ((i : ℕ) → i < length c.tags → IsSuitedTag c.mem.state (tag c i)) → (nodes : List ℕ) → KeepsEnding c nodes → KeepsSuited c nodes
suited c each nodes e = record {
  fresh = λ i h k. (each i (is_node c nodes e i h)).0 k;
  dirty = λ i h k. (each i (is_node c nodes e i h)).1 k;
}

-- rule C6 at a node
abbrev pub IsSharedBy : ClosedLine → Line → ℕ → Type 0
IsSharedBy c shared i = (tag c i).kind ≢ Kind.Invalid → line c i ≡ shared

pub invalid_shared : (c : ClosedLine) (i : ℕ) (t : Tag) (shared : Line) → t ≡ tag c i → (t.kind ≢ Kind.Invalid → ⊥) → IsSharedBy c shared i
invalid_shared c i t shared at other sharer = absurd (other (subst (λ (y : Tag). y.kind ≢ Kind.Invalid) (sym at) sharer))

pub equal : (c : ClosedLine) (shared : Line) → (c.mem.state ≢ MemState.Gone → shared ≡ c.memory) → ((i : ℕ) → i < length c.tags → IsSharedBy c shared i)
    → (nodes : List ℕ) → KeepsEnding c nodes → KeepsListed c nodes → KeepsEqual c nodes
equal c shared home each nodes e l =
    let at : (i : ℕ) → Contains nodes i → line c i ≡ shared = λ i h. let lt = is_node c nodes e i h in each i lt ((l i lt).1 h) in
    record { sharers = λ i j h k. at i h ∙ sym (at j k); of_memory = λ i h g. at i h ∙ home g }

pub none_equal : (c : ClosedLine) → c.mem.forw ≡ None → (nodes : List ℕ) → KeepsEnding c nodes → KeepsEqual c nodes
none_equal c none [] e = record { sharers = λ i j h k. absurd (contains_none i h); of_memory = λ i h g. absurd (contains_none i h) }
none_equal c none (x ∷ xs) e = absurd (no_link c.mem.forw x e.path.0 none)

-- the head is on the chain
pub head_on : (c : ClosedLine) (h : ℕ) → c.mem.forw ≡ Some h → (nodes : List ℕ) → KeepsEnding c nodes → Contains nodes h
head_on c h some [] e = absurd (no_link c.mem.forw h some e.path)
head_on c h some (x ∷ xs) e = let p = e.path.0 in let same : x ≡ h = grind (arith, p, some) in subst (λ (q : ℕ). Contains (x ∷ xs) q) same (contains_head x xs)

-- a line that breaks a rule isn't exact
one_chain : (c : ClosedLine) (xs ys : List ℕ) → KeepsEnding c xs → KeepsEnding c ys → xs ≡ ys
one_chain c xs ys e f = path_unique (λ i. (tag c i).forw) xs ys c.mem.forw e.path f.path

pub not_exact : (rule : Rule) (c : ClosedLine) → BreaksFirst rule c → IsExactClosed c → ⊥
not_exact Settled c b x = b x.1.settled
not_exact Ending c b x = b.1 x.0 x.1.ending
not_exact Listed c b x = b.3 (subst (λ (l : List ℕ). KeepsListed c l) (one_chain c x.0 b.1 x.1.ending b.2) x.1.lists)
not_exact Linked c b x = b.4 (subst (λ (l : List ℕ). KeepsLinked c l) (one_chain c x.0 b.1 x.1.ending b.2) x.1.linked)
not_exact Suited c b x = b.5 (subst (λ (l : List ℕ). KeepsSuited c l) (one_chain c x.0 b.1 x.1.ending b.2) x.1.suits)
not_exact Equal c b x = b.6 (subst (λ (l : List ℕ). KeepsEqual c l) (one_chain c x.0 b.1 x.1.ending b.2) x.1.equal)

yes : (b : Bool) → false ≡ not b → b ≡ true
yes true h = refl
yes false h = absurd (cc)

no : (b : Bool) → true ≡ not b → b ≡ false
no true h = absurd (cc)
no false h = refl

-- rule C2 once all nodes are walked
pub ends_or_not : (c : ClosedLine) (k : ℕ) (next : Option ℕ) (b : Bool) → length c.tags ≤ k → is_some next ≡ not b → Walked (length c.tags) (λ i. (tag c i).forw) c.mem.forw k next → Decides b (Ends c)
ends_or_not c k None b le is w = subst (λ (x : Bool). Decides x (Ends c)) (sym (yes b is)) (walked_end (length c.tags) c.mem (tag c) k w)
ends_or_not c k (Some x) b le is w = subst (λ (x : Bool). Decides x (Ends c)) (sym (no b is)) (λ e. walked_long (length c.tags) c.mem (tag c) k x le w e.0 e.1)

pub same_default : {X : Type 0} (xs : List X) (i : ℕ) (x y : X) → i < length xs → get_or xs i x ≡ get_or xs i y
same_default [] i x y lt = absurd (omega arith)
same_default (z ∷ zs) zero x y lt = refl
same_default (z ∷ zs) (suc i) x y lt = same_default zs i x y (omega arith)

-- an entry whose next one isn't linked back
pub not_linked : (c : ClosedLine) (a b : ℕ) (t u : Tag) → t ≡ tag c a → u ≡ tag c b → a < length c.tags → t.kind ≢ Kind.Invalid → t.forw ≡ Some b → ((u.kind ≡ Kind.Valid) × (u.back ≡ Some a) → ⊥)
    → (nodes : List ℕ) → KeepsEnding c nodes → KeepsListed c nodes → KeepsLinked c nodes → ⊥
not_linked c a b t u at next_at lt sharer next wrong nodes e l k =
    let on : Contains nodes a = (l a lt).0 (subst (λ (x : Tag). x.kind ≢ Kind.Invalid) at sharer) in
    let link : (tag c a).forw ≡ Some b = subst (λ (x : Tag). x.forw ≡ Some b) at next in
    wrong (subst (λ (x : Tag). (x.kind ≡ Kind.Valid) × (x.back ≡ Some a)) (sym next_at) (k.later a b on link))

-- a node whose line isn't the head's
pub not_equal : (c : ClosedLine) (a h : ℕ) (t : Tag) (l shared : Line) → t ≡ tag c a → l ≡ line c a → shared ≡ line c h → c.mem.forw ≡ Some h → a < length c.tags → t.kind ≢ Kind.Invalid → (l ≡ shared → ⊥)
    → (nodes : List ℕ) → KeepsEnding c nodes → KeepsListed c nodes → KeepsEqual c nodes → ⊥
not_equal c a h t l shared at line_at head_at head lt sharer wrong nodes e s k =
    let on : Contains nodes a = (s a lt).0 (subst (λ (x : Tag). x.kind ≢ Kind.Invalid) at sharer) in
    wrong (line_at ∙ (k.sharers a h on (head_on c h head nodes e) ∙ sym head_at))

pub breaks_ending : (c : ClosedLine) → KeepsSettled c → (Ends c → ⊥) → BreaksFirst Ending c
breaks_ending c s n = (s, λ nodes e. n (nodes, e))

pub breaks_listed : (c : ClosedLine) → KeepsSettled c → Ends c → ((nodes : List ℕ) → KeepsEnding c nodes → KeepsListed c nodes → ⊥) → BreaksFirst Listed c
breaks_listed c s e n = (s, e.0, e.1, n e.0 e.1)

pub breaks_linked : (c : ClosedLine) → KeepsSettled c → Ends c → ((nodes : List ℕ) → KeepsEnding c nodes → KeepsListed c nodes) → ((nodes : List ℕ) → KeepsEnding c nodes → KeepsListed c nodes → KeepsLinked c nodes → ⊥) → BreaksFirst Linked c
breaks_linked c s e l n = let k = l e.0 e.1 in (s, e.0, e.1, k, n e.0 e.1 k)

pub breaks_suited : (c : ClosedLine) → KeepsSettled c → Ends c → ((nodes : List ℕ) → KeepsEnding c nodes → KeepsListed c nodes) → ((nodes : List ℕ) → KeepsEnding c nodes → KeepsListed c nodes → KeepsLinked c nodes)
    → ((nodes : List ℕ) → KeepsEnding c nodes → KeepsListed c nodes → KeepsSuited c nodes → ⊥) → BreaksFirst Suited c
breaks_suited c s e l b n = let k = l e.0 e.1 in (s, e.0, e.1, k, b e.0 e.1 k, n e.0 e.1 k)

pub breaks_equal : (c : ClosedLine) → KeepsSettled c → Ends c → ((nodes : List ℕ) → KeepsEnding c nodes → KeepsListed c nodes) → ((nodes : List ℕ) → KeepsEnding c nodes → KeepsListed c nodes → KeepsLinked c nodes)
    → ((nodes : List ℕ) → KeepsEnding c nodes → KeepsListed c nodes → KeepsSuited c nodes) → ((nodes : List ℕ) → KeepsEnding c nodes → KeepsListed c nodes → KeepsEqual c nodes → ⊥) → BreaksFirst Equal c
breaks_equal c s e l b m n = let k = l e.0 e.1 in (s, e.0, e.1, k, b e.0 e.1 k, m e.0 e.1 k, n e.0 e.1 k)

pub exact_line : (c : ClosedLine) → KeepsSettled c → Ends c → ((nodes : List ℕ) → KeepsEnding c nodes → KeepsListed c nodes) → ((nodes : List ℕ) → KeepsEnding c nodes → KeepsListed c nodes → KeepsLinked c nodes)
    → ((nodes : List ℕ) → KeepsEnding c nodes → KeepsListed c nodes → KeepsSuited c nodes) → ((nodes : List ℕ) → KeepsEnding c nodes → KeepsListed c nodes → KeepsEqual c nodes) → IsExactClosed c
exact_line c s e l b m q = let k = l e.0 e.1 in (e.0, record { settled = s; ending = e.1; lists = k; linked = b e.0 e.1 k; suits = m e.0 e.1 k; equal = q e.0 e.1 k })

-- the first line that isn't exact
pub not_all_exact : (cs : List ClosedLine) (number : ℕ) (c : ClosedLine) (rule : Rule) → number < length cs → c ≡ get_or cs number c → BreaksFirst rule c → ((k : ℕ) (d : ClosedLine) → k < length cs → IsExactClosed (get_or cs k d)) → ⊥
not_all_exact cs number c rule lt at b all = not_exact rule c b (subst IsExactClosed (sym at) (all number c lt))

pub exact_more : (cs : List ClosedLine) (number : ℕ) (c : ClosedLine) → number < length cs → c ≡ get_or cs number c → IsExactClosed c
    → ((i : ℕ) (d : ClosedLine) → i < number → IsExactClosed (get_or cs i d)) → (i : ℕ) (d : ClosedLine) → i < number + 1 → IsExactClosed (get_or cs i d)
exact_more cs number c lt at x before i d l =
    each_more (λ j. IsExactClosed (get_or cs j d)) number (λ j h. before j d h) (subst IsExactClosed (at ∙ same_default cs number c d lt) x) i l

pub sharer_listed : (c : ClosedLine) (i : ℕ) (t : Tag) (b : Bool) → t ≡ tag c i → t.kind ≢ Kind.Invalid → ((nodes : List ℕ) → KeepsEnding c nodes → Decides b (Contains nodes i))
    → (nodes : List ℕ) → KeepsEnding c nodes → Decides b (((tag c i).kind ≢ Kind.Invalid) ↔ Contains nodes i)
sharer_listed c i t true at sharer h nodes e = ((λ s. h nodes e), (λ k. subst (λ (x : Tag). x.kind ≢ Kind.Invalid) at sharer))
sharer_listed c i t false at sharer h nodes e = λ both. h nodes e (both.0 (subst (λ (x : Tag). x.kind ≢ Kind.Invalid) at sharer))

pub other_listed : (c : ClosedLine) (i : ℕ) (t : Tag) (b : Bool) → t ≡ tag c i → (t.kind ≢ Kind.Invalid → ⊥) → ((nodes : List ℕ) → KeepsEnding c nodes → Decides b (Contains nodes i))
    → (nodes : List ℕ) → KeepsEnding c nodes → Decides (not b) (((tag c i).kind ≢ Kind.Invalid) ↔ Contains nodes i)
other_listed c i t true at other h nodes e = λ both. other (subst (λ (x : Tag). x.kind ≢ Kind.Invalid) (sym at) (both.1 (h nodes e)))
other_listed c i t false at other h nodes e = ((λ s. absurd (other (subst (λ (x : Tag). x.kind ≢ Kind.Invalid) (sym at) s))), (λ k. absurd (h nodes e k)))

pub not_listed : (c : ClosedLine) (i : ℕ) → i < length c.tags → (nodes : List ℕ) → (((tag c i).kind ≢ Kind.Invalid) ↔ Contains nodes i → ⊥) → KeepsListed c nodes → ⊥
not_listed c i lt nodes wrong l = wrong (l i lt)

pub linked_on : (c : ClosedLine) (a b : ℕ) (t u : Tag) → t ≡ tag c a → u ≡ tag c b → t.forw ≡ Some b → (u.kind ≡ Kind.Valid) × (u.back ≡ Some a) → IsLinkedOn c a
linked_on c a b t u at next_at next right x sharer f =
    let first : (tag c a).forw ≡ Some b = subst (λ (y : Tag). y.forw ≡ Some b) at next in
    let same : b ≡ x = grind (arith, first, f) in
    subst (λ (n : ℕ). ((tag c n).kind ≡ Kind.Valid) × ((tag c n).back ≡ Some a)) same (subst (λ (y : Tag). (y.kind ≡ Kind.Valid) × (y.back ≡ Some a)) next_at right)

pub invalid_on : (c : ClosedLine) (a : ℕ) (t : Tag) → t ≡ tag c a → (t.kind ≢ Kind.Invalid → ⊥) → IsLinkedOn c a
invalid_on c a t at other x sharer f = absurd (other (subst (λ (y : Tag). y.kind ≢ Kind.Invalid) (sym at) sharer))

pub last_on : (c : ClosedLine) (a : ℕ) (t : Tag) → t ≡ tag c a → t.forw ≡ None → IsLinkedOn c a
last_on c a t at none x sharer f = absurd (no_link (tag c a).forw x f (subst (λ (y : Tag). y.forw ≡ None) at none))
