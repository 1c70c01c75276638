-- The calls of a desk over banks, on its lists.
use Rattle.std.proofs.Common.{◌≡◌, ◌∙◌, ℕ, zero, suc, ◌+◌, ◌<◌, Bool, true, false, ◌&&◌, List, [], ◌∷◌, Option, Some, None, IfSome, is_some, Ok, length, get_or, set, refl, sym, ap, subst, arith, inl, inr}
use Rattle.std.proofs.lemmas.Bool.{cases_eq, cases_lt}
use Rattle.std.proofs.lemmas.Bool.Decides.{nat_tests}
use Rattle.std.proofs.lemmas.List.{get_or-set_same, get_or-set_other, get_or_read, set-get_or, length-set}
use Rattle.std.proofs.lemmas.Option.{slice_get_read}
use Rattle.std.specs.List.{slice_get}
use Rattle.sci_coarse.proofs.Listed.{same_some}
use Rattle.sci_words.specs.Tag.{link_below}
use Rattle.sci_words.specs.declared.memory.Mem.{Mem}
use Rattle.sci_words.specs.declared.tags.Tag.{Tag}
use Rattle.sci_core.specs.declared.pending.Pending.{Pending}
use Rattle.sci_port.specs.Banks.{BankWay}
use Rattle.sci_core.specs.WellFormed.{IsMem, IsTag}
use Rattle.sci_port.specs.declared.calls.Call.{Call}
use Rattle.sci_ops.specs.declared.answers.Turn.{Turn}
use Rattle.sci_cache.specs.Nodes.{IsSameNode, NodeState, TurnsBy, node_with}
use Rattle.sci_cache.specs.declared.requests.Request.{Request}
use Rattle.sci_script.specs.BankDesks.{Banked, IsBanked, IsBankOf, AreBanksOf, Asks, TurnsNode, banked, banked_is_open, node_at}
use Rattle.sci_script.specs.Nodes.{AreNodesOf, IsNodeOf}
use Rattle.sci_script.specs.Unused.{no_node}

-- what is true of each element stays so where one is set of which it is true
each_set : {A : Type 0} (P : ℕ → A → Type 0) (xs : List A) (i : ℕ) (y : A) → ((j : ℕ) (b : A) → slice_get xs j ≡ Some b → P j b) → P i y → (j : ℕ) (b : A) → slice_get (set xs i y) j ≡ Some b → P j b
each_set P [] i y h p j b e = h j b e
each_set P (x ∷ xs) zero y h p zero b e = subst (λ c. P zero c) (let z = e in cc) p
each_set P (x ∷ xs) zero y h p (suc j) b e = h (suc j) b e
each_set P (x ∷ xs) (suc i) y h p zero b e = h zero b e
each_set P (x ∷ xs) (suc i) y h p (suc j) b e = each_set (λ k c. P (suc k) c) xs i y (λ k c f. h (suc k) c f) p j b e

pub nodes_set : (lines : ℕ) (nodes : List NodeState) (i : ℕ) (m : NodeState) → AreNodesOf lines nodes → i < length nodes → IsNodeOf lines i m → AreNodesOf lines (set nodes i m)
nodes_set lines nodes i m h lt is = λ k d below.
    elim (cases_eq k i) [
      | inl e ↦ subst (λ (j : ℕ). IsNodeOf lines j (get_or (set nodes i m) j d)) (sym e) (subst (λ (n : NodeState). IsNodeOf lines i n) (sym (get_or-set_same nodes i m d lt)) is)
      | inr other ↦ subst (λ (n : NodeState). IsNodeOf lines k n) (sym (get_or-set_other nodes i k m d other)) (h k d (subst (λ (n : ℕ). k < n) (length-set nodes i m) below))
    ]

-- the same node stays that of its number
pub still_node : (lines k : ℕ) (n m : NodeState) → IsNodeOf lines k n → IsSameNode n m → IsNodeOf lines k m
still_node lines k n m is same = (same.id ∙ is.0, same.lines ∙ is.1, same.keeps ∙ is.2)

-- the node of a place, as it was read
pub node_read : (lines : ℕ) (nodes : List NodeState) → AreNodesOf lines nodes → (i : ℕ) (n : NodeState) → i < length nodes → n ≡ get_or nodes i n → IsNodeOf lines i n
node_read lines nodes h i n lt found = subst (λ (k : NodeState). IsNodeOf lines i k) (sym found) (h i n lt)

pub still_nodes : (lines : ℕ) (nodes : List NodeState) (i : ℕ) (n m : NodeState) → AreNodesOf lines nodes → i < length nodes → n ≡ get_or nodes i n → IsSameNode n m → AreNodesOf lines (set nodes i m)
still_nodes lines nodes i n m h lt found same = nodes_set lines nodes i m h lt (still_node lines i n m (node_read lines nodes h i n lt found) same)

pub node_found : {B : Type 0} (way : B → BankWay) (nodes_on : B → ℕ → ℕ) (fits : B → ℕ → List ℕ → Type 0) (s : Banked B) → IsBanked way nodes_on fits s → (i : ℕ) (n : NodeState) → i < s.size.nodes → n ≡ get_or s.nodes i n → IsNodeOf s.size.lines i n
node_found way nodes_on fits s h i n lt found = node_read s.size.lines s.nodes h.nodes_are i n (omega (arith, h.count, lt)) found

pub open_found : {B : Type 0} (v s : Banked B) → v ≡ s → (i node : ℕ) (n : NodeState) → i ≡ node → i < length v.nodes → n ≡ get_or v.nodes i n → banked_is_open s node ≡ true → is_some n.call ≡ true
open_found {B} v s is i node n place lt found here =
    let at : banked_is_open v i ≡ true = subst (λ (k : ℕ). banked_is_open v k ≡ true) (sym place) (subst (λ (x : Banked B). banked_is_open x node ≡ true) (sym is) here) in
    subst (λ (k : NodeState). is_some k.call ≡ true) (sym (get_or_read v.nodes i n lt found no_node)) at

-- a node that begins a call, and one that begins none, over a bank that stays as it is
module _ {B : Type 0} (v s : Banked B) (is : v ≡ s) (i : ℕ) (b after : B) (read : b ≡ get_or v.banks i b) (kept : after ≡ b) (n m : NodeState) (found : n ≡ get_or v.nodes i n) where
  same_banks : set v.banks i after ≡ v.banks
  same_banks = ap (λ (k : B). set v.banks i k) (kept ∙ read) ∙ set-get_or v.banks i b

  pub begun_here : (node : ℕ) (request : Request) → i ≡ node → i < length v.nodes → m ≡ node_with n request
      → banked v.size (set v.banks i after) (set v.nodes i m) ≡ record s { nodes = set s.nodes node (node_with (node_at s node) request) }
  begun_here node request place lt begun =
      let now : m ≡ node_with (node_at v i) request = begun ∙ ap (λ (k : NodeState). node_with k request) (get_or_read v.nodes i n lt found no_node) in
      subst (λ (x : Banked B). banked v.size (set v.banks i after) (set v.nodes i m) ≡ record x { nodes = set x.nodes node (node_with (node_at x node) request) }) is
      (subst (λ (k : ℕ). banked v.size (set v.banks i after) (set v.nodes i m) ≡ banked v.size v.banks (set v.nodes k (node_with (node_at v k) request))) place
      (ap (λ (bs : List B). banked v.size bs (set v.nodes i m)) same_banks ∙ ap (λ (k : NodeState). banked v.size v.banks (set v.nodes i k)) now))

  pub same_here : m ≡ n → banked v.size (set v.banks i after) (set v.nodes i m) ≡ s
  same_here same =
      ap (λ (bs : List B). banked v.size bs (set v.nodes i m)) same_banks
      ∙ ap (λ (k : NodeState). banked v.size v.banks (set v.nodes i k)) (same ∙ found) ∙ ap (λ (ns : List NodeState). banked v.size v.banks ns) (set-get_or v.nodes i n) ∙ is

-- the bank of a node, as it was read and as it is set
module _ {B K : Type 0} (way : B → BankWay) (nodes_on : B → ℕ → ℕ) (keep : B → K) (fits : K → ℕ → List ℕ → Type 0) (s : Banked B) (h : IsBanked way nodes_on (λ b line words. fits (keep b) line words) s) (node : ℕ) (b : B) (lt : node < s.size.nodes)
    (read : b ≡ get_or s.banks node b) where
  pub at : slice_get s.banks node ≡ Some b
  at = slice_get_read s.banks s.size.nodes node b (sym h.banks_are.count) lt read

  pub bank : IsBankOf way nodes_on (λ x line words. fits (keep x) line words) s.size node b
  bank = h.banks_are.each node b at

  module _ (after : B) (same_way : way after ≡ way b) (same_nodes : (line : ℕ) → nodes_on after line ≡ nodes_on b line) (same_fact : keep after ≡ keep b) where
    pub banks_set : AreBanksOf way nodes_on (λ x line words. fits (keep x) line words) s.size (set s.banks node after)
    banks_set =
        let is : IsBankOf way nodes_on (λ x line words. fits (keep x) line words) s.size node after = record {
          node_is = ap (λ (w : BankWay). w.node) same_way ∙ bank.node_is;
          lines_are = ap (λ (w : BankWay). w.lines) same_way ∙ bank.lines_are;
          nodes_are = λ line l. same_nodes line ∙ bank.nodes_are line l;
          any = λ line words. subst (λ (k : K). fits k line words) (sym same_fact) (bank.any line words);
        } in
        record {
          count = length-set s.banks node after ∙ h.banks_are.count;
          each = each_set (λ k x. IsBankOf way nodes_on (λ y line words. fits (keep y) line words) s.size k x) s.banks node after h.banks_are.each is;
        }

    pub banked_set : IsBanked way nodes_on (λ x line words. fits (keep x) line words) (banked s.size (set s.banks node after) s.nodes)
    banked_set = record { some_are = h.some_are; banks_are = banks_set; count = h.count; nodes_are = h.nodes_are }

    pub turned_set : (n m : NodeState) → n ≡ get_or s.nodes node n → IsSameNode n m → IsBanked way nodes_on (λ x line words. fits (keep x) line words) (banked s.size (set s.banks node after) (set s.nodes node m))
    turned_set n m found same =
        let below : node < length s.nodes = omega (arith, h.count, lt) in
        record {
          some_are = h.some_are;
          banks_are = banks_set;
          count = length-set s.nodes node m ∙ h.count;
          nodes_are = nodes_set s.size.lines s.nodes node m h.nodes_are below (still_node s.size.lines node n m (node_read s.size.lines s.nodes h.nodes_are node n below found) same);
        }

module _ {B : Type 0} (gives : B → ℕ → Call → B → Type 0) (step : B → ℕ → Pending) (v s : Banked B) (is : v ≡ s) where
  pub asks : (node line : ℕ) (call : Call) (b after : B) → slice_get v.banks node ≡ Some b → gives b line call after → Asks gives step s node line call (banked v.size (set v.banks node after) v.nodes)
  asks node line call b after at made =
      subst (λ (x : Banked B). Asks gives step x node line call (banked v.size (set v.banks node after) v.nodes)) is
      record { bank = b; after = after; at = at; made = made; desk = refl }

  pub turns_node : (i node : ℕ) (shown : Turn) (b after : B) (n m : NodeState) → i ≡ node → slice_get v.banks i ≡ Some b → n ≡ node_at v i → TurnsBy gives step n n.call b (Ok shown) after m
      → TurnsNode gives step s node shown (banked v.size (set v.banks i after) (set v.nodes i m))
  turns_node i node shown b after n m place at found turns =
      let t = banked v.size (set v.banks i after) (set v.nodes i m) in
      subst (λ (x : Banked B). TurnsNode gives step x node shown t) is
      (subst (λ (k : ℕ). TurnsNode gives step v k shown t) place
      record {
        bank = b;
        after = after;
        later = m;
        at = at;
        turns = subst (λ (k : NodeState). TurnsBy gives step k k.call b (Ok shown) after m) found turns;
        desk = refl;
      })

-- a link below the number of nodes that a line has
link_is_below : (n k : ℕ) (link : Option ℕ) → n ≡ k → link_below n link ≡ true → IfSome link (λ x. x < k)
link_is_below n k None e h = tt
link_is_below n k (Some x) e h = grind (arith, nat_tests)

first_holds : (a b : Bool) → a && b ≡ true → a ≡ true
first_holds true b h = refl
first_holds false b h = h

pub mem_link : (n k : ℕ) (answer : Option Mem) → n ≡ k → IfSome answer (λ (m : Mem). IsMem n m) → IfSome answer (λ m. IfSome m.forw (λ x. x < k))
mem_link n k None e h = tt
mem_link n k (Some m) e h = link_is_below n k m.forw e h.1

pub tag_link : (n k : ℕ) (answer : Option Tag) → n ≡ k → IfSome answer (λ (t : Tag). IsTag n t) → IfSome answer (λ t. IfSome t.forw (λ x. x < k))
tag_link n k None e h = tt
tag_link n k (Some t) e h = link_is_below n k t.forw e (first_holds (link_below n t.forw) (link_below n t.back) h.1)

-- what is true of the first elements, and of the next, is true of one more
pub one_more : {A : Type 0} (P : ℕ → A → Type 0) (xs : List A) (n i : ℕ) (x : A) → i ≡ n → n < length xs → x ≡ get_or xs i x → P n x → ((k : ℕ) (a : A) → k < n → slice_get xs k ≡ Some a → P k a) → (k : ℕ) (a : A) → k < n + 1 → slice_get xs k ≡ Some a → P k a
one_more {A} P xs n i x e lt read here all k a below at = elim (cases_lt k n) [
  | inl less ↦ all k a less at
  | inr from ↦
      let same : k ≡ n = omega arith in
      let there : slice_get xs i ≡ Some x = slice_get_read xs (length xs) i x refl (omega arith) read in
      let found : slice_get xs i ≡ Some a = subst (λ (j : ℕ). slice_get xs j ≡ Some a) (same ∙ sym e) at in
      subst (λ (j : ℕ). P j a) (sym same) (subst (P n) (same_some x a (sym there ∙ found)) here)
]
