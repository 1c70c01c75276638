-- A request that is refused, and one that begins a call.
use Rattle.std.proofs.Common.{◌≡◌, ◌≢◌, ◌⊎◌, inl, inr, ℕ, ◌<◌, ◌≤◌, Bool, true, false, nat_lt, not, if◌then◌else◌, Option, Some, None, IfSome, is_some, List, refl, sym, ap, subst, ◌∙◌, arith}
use Rattle.std.proofs.lemmas.Bool.Decides.{nat_tests}
use Rattle.sci_ops.specs.declared.goals.Goal.{Goal}
use Rattle.sci_cache.specs.declared.refusals.NodeRefusal.{NodeRefusal}
use Rattle.sci_cache.specs.declared.requests.Request.{Request}
use Rattle.sci_cache.specs.Requests.{line_of, goal_of, is_evict, has_bad_word}
use Rattle.sci_cache.specs.Residents.{is_resident, used, displaced_by, AreBelow}
use Rattle.sci_cache.specs.Nodes.{NodeState, node_state, node_with, node_used, call_with, victim_with, residents_with, refusal_of, IsLine, IsSoundCall}
use Rattle.sci_cache.proofs.Ordered.{below_displaced, displaced_apart}

pub if_so : {A : Type 0} (b : Bool) (x y : A) → b ≡ true → (if b then x else y) ≡ x
if_so b x y h = ap (λ (a : Bool). if a then x else y) h

pub if_not : {A : Type 0} (b : Bool) (x y : A) → b ≡ false → (if b then x else y) ≡ y
if_not b x y h = ap (λ (a : Bool). if a then x else y) h

inside : (x n : ℕ) → x < n → not (nat_lt x n) ≡ false
inside x n h = let e : nat_lt x n ≡ true = grind (arith, nat_tests, h) in ap not e

outside : (x n : ℕ) → n ≤ x → not (nat_lt x n) ≡ true
outside x n h = let e : nat_lt x n ≡ false = grind (arith, nat_tests, h) in ap not e

pub no_bad_word : (b : Bool) → (b ≡ true → false ≡ true) → b ≡ false
no_bad_word true h = sym (h refl)
no_bad_word false h = refl

pub not_refused : (o : Option NodeRefusal) (e : NodeRefusal) → o ≡ Some e → o ≡ None → ⊥
not_refused o e h k = cc

-- what is said of the node as it stands inside
module _ (n now : NodeState) (view : n ≡ now) (r : Request) where
  at_now : (o : Option NodeRefusal) → refusal_of n r ≡ o → refusal_of now r ≡ o
  at_now o h = subst (λ (k : NodeState). refusal_of k r ≡ o) view h

  pub refused_open : is_some n.call ≡ true → refusal_of now r ≡ Some NodeRefusal.CallOpen
  refused_open h = at_now _ (if_so (is_some n.call) _ _ h)

  pub refused_line : is_some n.call ≡ false → n.lines ≤ line_of r → refusal_of now r ≡ Some NodeRefusal.BadLine
  refused_line h k = at_now _ (if_not (is_some n.call) _ _ h ∙ if_so (not (nat_lt (line_of r) n.lines)) _ _ (outside (line_of r) n.lines k))

  pub refused_word : is_some n.call ≡ false → line_of r < n.lines → has_bad_word r ≡ true → refusal_of now r ≡ Some NodeRefusal.BadWord
  refused_word h k b = at_now _ (if_not (is_some n.call) _ _ h ∙ if_not (not (nat_lt (line_of r) n.lines)) _ _ (inside (line_of r) n.lines k) ∙ if_so (has_bad_word r) _ _ b)

  pub accepted : is_some n.call ≡ false → line_of r < n.lines → has_bad_word r ≡ false → refusal_of now r ≡ None
  accepted h k b = at_now _ (if_not (is_some n.call) _ _ h ∙ if_not (not (nat_lt (line_of r) n.lines)) _ _ (inside (line_of r) n.lines k) ∙ if_not (has_bad_word r) _ _ b)

  -- a line that the table names takes no memory
  pub had_memory : {line : ℕ} {P : Type 0} → line ≡ line_of r → is_evict r ≡ false → (is_resident line n.residents ≡ true → P) → (is_evict r ≡ true) ⊎ (is_resident (line_of r) now.residents ≡ true) → P
  had_memory same other named (inl evict) = absurd (let e = sym other ∙ evict in cc)
  had_memory {line = line} same other named (inr resident) =
      named (ap (λ (k : ℕ). is_resident k n.residents) same ∙ subst (λ (k : NodeState). is_resident (line_of r) k.residents ≡ true) (sym view) resident)

  pub used_evict : is_evict r ≡ true → now ≡ node_used now r
  used_evict h = ap (λ (xs : List ℕ). record now { residents = xs }) (sym (if_so (is_evict r) now.residents _ h))

  pub victim_evict : is_evict r ≡ true → None ≡ victim_with now r
  victim_evict h = sym (if_so (is_evict r) _ _ h)

  -- the call that it makes is sound, since its line and its victim are
  sound_by : line_of r < n.lines → IsLine n.lines (victim_with n r) → IsSoundCall now.lines (Some (call_with now r))
  sound_by inside victim = subst (λ (k : NodeState). IsSoundCall k.lines (Some (call_with k r))) view (inside, victim)

  pub sound_evict : is_evict r ≡ true → line_of r < n.lines → IsSoundCall now.lines (Some (call_with now r))
  sound_evict h inside = sound_by inside (subst (λ (o : Option ℕ). IsLine n.lines o) (sym (if_so (is_evict r) _ _ h)) tt)

  pub sound_used : is_evict r ≡ false → line_of r < n.lines → AreBelow n.lines n.residents → IsSoundCall now.lines (Some (call_with now r))
  sound_used other inside below = sound_by inside (subst (λ (o : Option ℕ). IsLine n.lines o) (sym (if_not (is_evict r) _ _ other)) (below_displaced n.lines (line_of r) n.capacity n.residents below))

  module _ (line : ℕ) (same : line ≡ line_of r) (other : is_evict r ≡ false) where
    pub victim_used : (victim : Option ℕ) → victim ≡ displaced_by n.capacity line n.residents → victim ≡ victim_with now r
    victim_used victim d = d ∙ ap (λ (k : ℕ). displaced_by n.capacity k n.residents) same ∙ sym (if_not (is_evict r) _ _ other) ∙ ap (λ (k : NodeState). victim_with k r) view

    pub used_line : (capacity : ℕ) (xs : List ℕ) → capacity ≡ n.capacity → xs ≡ used n.capacity line n.residents → node_state n.id n.lines capacity n.keeps xs n.call ≡ node_used now r
    used_line capacity xs e f =
        let all : xs ≡ residents_with n r = f ∙ ap (λ (k : ℕ). used n.capacity k n.residents) same ∙ sym (if_not (is_evict r) _ _ other) in
        (λ i. node_state n.id n.lines (e i) n.keeps (all i) n.call) ∙ ap (λ (k : NodeState). node_used k r) view

none_bad : (a b d : Bool) → ◌≡◌ {A = Option NodeRefusal} (if a then Some NodeRefusal.CallOpen else (if b then Some NodeRefusal.BadLine else (if d then Some NodeRefusal.BadWord else None))) None → d ≡ true → ⊥
none_bad true b d h is = let e = h in cc
none_bad false true d h is = let e = h in cc
none_bad false false true h is = let e = h in cc
none_bad false false false h is = let e = is in cc

-- a request that is accepted names a word
pub has_word : (n : NodeState) (r : Request) → refusal_of n r ≡ None → has_bad_word r ≡ true → ⊥
has_word n r h is = none_bad (is_some n.call) (not (nat_lt (line_of r) n.lines)) (has_bad_word r) h is

module _ (n : NodeState) (r : Request) (line : ℕ) (goal : Goal) (victim : Option ℕ) (same : line ≡ line_of r) (is : goal ≡ goal_of r) (out : victim ≡ victim_with n r) where
  pub call_made : record { line = line; goal = goal; victim = victim } ≡ call_with n r
  call_made = λ i. record { line = same i; goal = is i; victim = out i }

  -- that call is opened
  pub opened : (m : NodeState) → m ≡ node_used n r → record m { call = Some record { line = line; goal = goal; victim = victim } } ≡ node_with n r
  opened m h = λ i. record (h i) { call = Some (call_made i) }

none_line : (a b d : Bool) → ◌≡◌ {A = Option NodeRefusal} (if a then Some NodeRefusal.CallOpen else (if not b then Some NodeRefusal.BadLine else (if d then Some NodeRefusal.BadWord else None))) None → b ≡ true
none_line true b d h = absurd (let e = h in cc)
none_line false true d h = refl
none_line false false d h = absurd (let e = h in cc)

less : (x n : ℕ) → nat_lt x n ≡ true → x < n
less x n h = grind (arith, nat_tests, h)

-- a request that is accepted names a line
pub has_line : (n : NodeState) (r : Request) → refusal_of n r ≡ None → line_of r < n.lines
has_line n r h = less (line_of r) n.lines (none_line (is_some n.call) (nat_lt (line_of r) n.lines) (has_bad_word r) h)

-- of the lines as the node has them inside
pub line_before : (n now : NodeState) → n ≡ now → (r : Request) → refusal_of now r ≡ None → line_of r < n.lines
line_before n now view r h = subst (λ (k : NodeState). line_of r < k.lines) (sym view) (has_line now r h)

line_with : (lines : ℕ) (b : Bool) (o : Option ℕ) → IsLine lines o → IsLine lines (if b then None else o)
line_with lines true o h = tt
line_with lines false o h = h

-- the line that it puts out is one that there is
pub inside_with : (n : NodeState) (r : Request) → AreBelow n.lines n.residents → IsLine n.lines (victim_with n r)
inside_with n r below = line_with n.lines (is_evict r) (displaced_by n.capacity (line_of r) n.residents) (below_displaced n.lines (line_of r) n.capacity n.residents below)

apart_with : (line : ℕ) (b : Bool) (o : Option ℕ) → IfSome o (λ x. line ≢ x) → IfSome (if b then None else o) (λ x. line ≢ x)
apart_with line true o h = tt
apart_with line false o h = h

-- and another
pub victim_apart : (n : NodeState) (r : Request) → IfSome (victim_with n r) (λ x. line_of r ≢ x)
victim_apart n r = apart_with (line_of r) (is_evict r) (displaced_by n.capacity (line_of r) n.residents) (displaced_apart (line_of r) n.capacity n.residents)
