-- Where every pending step is Idle, all slots are at home and the list is exact.
use Rattle.std.proofs.Common.{◌≡◌, ◌⊎◌, ◌≢◌, ◌↔◌, ℕ, ◌<◌, ◌≤◌, Bool, true, false, Option, Some, None, List, Contains, refl, sym, ap, ⊎_elim, ◌∙◌, arith}
use Rattle.std.proofs.lemmas.Bool.{cases_lt, cases_Bool}
use Rattle.sci_words.specs.declared.tags.Kind.{Kind}
use Rattle.sci_words.specs.declared.memory.MemState.{MemState}
use Rattle.sci_core.specs.declared.lines.Line.{Line}
use Rattle.sci_core.specs.declared.pending.Pending.{Pending}
use Rattle.sci_core.specs.State.{State, invalid}
use Rattle.sci_core.specs.Shape.{Phase, shape, phase_of, flag_of}
use Rattle.sci_core.specs.Law.{Law, Witness, Below, suits, may_be_outside, is_front, is_body, is_valid, is_dirty_front}
use Rattle.sci_core.specs.Chain.{IsPath, forward}
use Rattle.sci_core.specs.Exact.{is_closed_kind, IsExact}
use Rattle.sci_core.specs.Step.{line_in}
use Rattle.sci_core.proofs.ReadBack.Ranked.{Stands, stands}
use Rattle.sci_core.proofs.ReadBack.Chain.{chain_of_law}
use Rattle.sci_core.proofs.ReadBack.BackLinks.{back_links_of_law}
use Rattle.sci_core.proofs.ReadBack.LastFront.{not_both}

-- who is below the number of nodes is Idle, and so is everyone else
pub all_idle : (n : ℕ) (s : State) → ((i : ℕ) → i < n → s.steps i ≡ Pending.Idle) → ((i : ℕ) → n ≤ i → (s.tags i ≡ invalid) × (s.steps i ≡ Pending.Idle)) → (i : ℕ) → s.steps i ≡ Pending.Idle
all_idle n s h u i = ⊎_elim (λ l. h i l) (λ l. (u i l).1) (cases_lt i n)

idle_kinds : (p : Phase) (k : Kind) → p ≡ Phase.Idle → suits p k ≡ true → k ≢ Kind.Purged → is_closed_kind k ≡ true
idle_kinds p k e h n = grind (arith, e, h, n)

settled_front : (k : Kind) → is_closed_kind k ≡ true → is_front k ≡ true → (k ≡ Kind.Fresh) ⊎ (k ≡ Kind.Dirty)
settled_front k h f = grind (arith, h, f)

settled_body : (k : Kind) → is_closed_kind k ≡ true → is_body k ≡ true → k ≡ Kind.Valid
settled_body k h f = grind (arith, h, f)

settled_valid : (k : Kind) → is_closed_kind k ≡ true → k ≢ Kind.Invalid → is_valid k ≡ true
settled_valid k h f = grind (arith, h, f)

settled_not_roll : (k : Kind) → is_closed_kind k ≡ true → k ≢ Kind.Roll
settled_not_roll k h e = grind (arith, h, e)

settled_not_purging : (k : Kind) → is_closed_kind k ≡ true → k ≢ Kind.Purging
settled_not_purging k h e = grind (arith, h, e)

outside_invalid : (p : Phase) (k : Kind) → p ≡ Phase.Idle → is_closed_kind k ≡ true → may_be_outside p k ≡ true → k ≡ Kind.Invalid
outside_invalid p k e h m = grind (arith, e, h, m)

fresh_not_gone : (p : Phase) (k : Kind) (f : Bool) → k ≡ Kind.Fresh → is_dirty_front k p f ≡ true → ⊥
fresh_not_gone p k f e h = grind (arith, e, h)

fresh_or : (m : MemState) → m ≢ MemState.Home → m ≢ MemState.Gone → m ≡ MemState.Fresh
fresh_or m h q = grind (arith, h, q)

gone_or : (m : MemState) → m ≢ MemState.Home → m ≢ MemState.Fresh → m ≡ MemState.Gone
gone_or m h q = grind (arith, h, q)

some_line : (f : Option Line) → f ≢ None → (l : Line) × (f ≡ Some l)
some_line None n = absurd (n refl)
some_line (Some l) n = (l, refl)

module _ (s : State) (g : Witness) (o : Law (shape s) g) (idle : (i : ℕ) → s.steps i ≡ Pending.Idle) where
  phase_idle : (i : ℕ) → phase_of (s.steps i) ≡ Phase.Idle
  phase_idle i = ap phase_of (idle i)

  not_phase : (i : ℕ) (p : Phase) → phase_of (s.steps i) ≡ p → p ≢ Phase.Idle → ⊥
  not_phase i p e n = n (sym e ∙ phase_idle i)

  -- memory isn't lent, and its line is at home
  pub not_lent : s.memory.lent ≡ false
  not_lent = ⊎_elim (λ e. absurd (let h = o.slots.borrower_has e in let q = phase_idle g.borrower in let o : ℕ = 0 in grind (arith, h, q))) (λ e. e) (cases_Bool s.memory.lent)

  pub memory_at_home : (l : Line) × (s.memory_slot ≡ Some l)
  memory_at_home = some_line s.memory_slot (o.slots.memory_home not_lent)

  -- no tag is held, and every slot is at home
  pub not_held : (i : ℕ) → (s.tags i).held ≡ false
  not_held i =
      ⊎_elim
      (λ e. absurd (let q = phase_idle i in let c = o.slots.held_by i e in let d = phase_idle (g.copier i) in let o : ℕ = 0 in grind (arith, c, d, q)))
      (λ e. e)
      (cases_Bool (s.tags i).held)

  pub at_home : (i : ℕ) → (l : Line) × (s.slots i ≡ Some l)
  at_home i = some_line (s.slots i) (o.slots.at_home i (rw (idle i) refl) (not_held i))

  not_purged : (i : ℕ) → (s.tags i).kind ≢ Kind.Purged
  not_purged i k =
      ⊎_elim
      (λ p. let e = o.fronts.purged i p k in let q = phase_idle g.last_front in grind (arith, e, q))
      (λ z. let e = o.outside.cleared i (omega (arith, z)) k in let q = phase_idle (g.clearer i) in grind (arith, e, q))
      (cases_lt 0 (g.rank i))

  pub settled_kind : (i : ℕ) → is_closed_kind (s.tags i).kind ≡ true
  settled_kind i = idle_kinds (phase_of (s.steps i)) (s.tags i).kind (phase_idle i) (o.own.suited i) (not_purged i)

  -- the last front is the first entry
  low : (i : ℕ) → g.rank i ≤ g.rank g.last_front
  low i = ⊎_elim (λ l. absurd (let w = o.fronts.queue i l in let q = phase_idle i in let o : ℕ = 0 in grind (arith, w, q))) (λ l. l) (cases_lt (g.rank g.last_front) (g.rank i))

  front_is_last : (i : ℕ) → 0 < g.rank i → is_front (s.tags i).kind ≡ true → i ≡ g.last_front
  front_is_last i p f =
      let l = low i in
      let b = o.fronts.body i p in
      let n = not_both (s.tags i).kind f in
      o.order.apart i g.last_front p (let o : ℕ = 0 in grind (arith, l, b, n))

  not_home : (i : ℕ) → 0 < g.rank i → s.memory.state ≢ MemState.Home
  not_home i p h = let c = o.order.empty i (o.mode.home h) in omega (arith, c, p)

  memory_is : s.memory.state ≢ MemState.Gone → line_in s.memory_slot ≡ g.value
  memory_is n = let h = memory_at_home in rw h.1 (o.values.memory h.0 n h.1)

  module _ (nodes : List ℕ) (r : Stands g.rank nodes) where
    lists : (i : ℕ) → ((s.tags i).kind ≢ Kind.Invalid) ↔ Contains nodes i
    lists i = (
      (λ n. ⊎_elim (λ p. r.holds i p) (λ z. absurd (n (outside_invalid (phase_of (s.steps i)) (s.tags i).kind (phase_idle i) (settled_kind i) (o.outside.may_be i (omega (arith, z)))))) (cases_lt 0 (g.rank i))),
      (λ c. o.outside.kinds i (r.inside i c)),
    )

    first : (h : ℕ) → s.memory.forw ≡ Some h → ((s.tags h).kind ≡ Kind.Fresh) ⊎ ((s.tags h).kind ≡ Kind.Dirty)
    first h e = settled_front (s.tags h).kind (settled_kind h) (o.fronts.front h (o.order.head_in h e) (o.order.head_top h g.last_front e))

    later : (a b : ℕ) → Contains nodes a → (s.tags a).forw ≡ Some b → ((s.tags b).kind ≡ Kind.Valid) × ((s.tags b).back ≡ Some a)
    later a b c e =
        let p = r.inside a c in
        let l = o.order.next_below a b p e in
        let m = low a in
        let k = o.fronts.body b (o.order.next_in a b p e) (omega (arith, l, m)) in
        (settled_body (s.tags b).kind (settled_kind b) k, (back_links_of_law s g o nodes r).neighbour a b (c, e) k (settled_not_roll _ (settled_kind a)) (settled_not_purging _ (settled_kind a)))

    fresh : (i : ℕ) → Contains nodes i → (s.tags i).kind ≡ Kind.Fresh → s.memory.state ≡ MemState.Fresh
    fresh i c k =
        let p = r.inside i c in
        let e = front_is_last i p (rw k refl) in
        fresh_or s.memory.state (not_home i p) (λ h. fresh_not_gone (phase_of (s.steps g.last_front)) (s.tags g.last_front).kind (flag_of (s.steps g.last_front)) (rw (sym e) k) (o.mode.gone h))

    dirty : (i : ℕ) → Contains nodes i → (s.tags i).kind ≡ Kind.Dirty → s.memory.state ≡ MemState.Gone
    dirty i c k = let p = r.inside i c in gone_or s.memory.state (not_home i p) (λ h. o.mode.not_dirty i h p k)

    -- each line is the value
    line_is : (i : ℕ) → Contains nodes i → line_in (s.slots i) ≡ g.value
    line_is i c =
        let h = at_home i in
        let v = settled_valid (s.tags i).kind (settled_kind i) (o.outside.kinds i (r.inside i c)) in
        rw h.1 (o.values.sharer i h.0 v h.1)

-- the list is exact, and each line that counts is the value
pub exact_of_law : (n : ℕ) (s : State) (g : Witness) → Law (shape s) g → Below n (shape s) → ((i : ℕ) → s.steps i ≡ Pending.Idle) → (nodes : List ℕ) → IsPath s.memory.forw (forward s) nodes → IsExact n s.memory (line_in s.memory_slot) s.tags (λ i. line_in (s.slots i)) nodes
exact_of_law n s g o b idle nodes p =
    let r = stands s.memory.forw (forward s) g.rank o.order nodes p in
    let c = chain_of_law n s g o b nodes p r in
    record {
      settled = record { not_lent = not_lent s g o idle; not_held = λ i l. not_held s g o idle i; kinds = λ i l. settled_kind s g o idle i };
      ending = record { path = p; distinct = c.distinct; below = c.below };
      lists = λ i l. lists s g o idle nodes r i;
      linked = record { first = first s g o idle nodes r; later = later s g o idle nodes r };
      suits = record { fresh = fresh s g o idle nodes r; dirty = dirty s g o idle nodes r };
      equal = record {
        sharers = λ i j a d. line_is s g o idle nodes r i a ∙ sym (line_is s g o idle nodes r j d);
        of_memory = λ i a m. line_is s g o idle nodes r i a ∙ sym (memory_is s g o idle m);
      };
    }

pub line_at_rest : (s : State) (g : Witness) → Law (shape s) g → ((i : ℕ) → s.steps i ≡ Pending.Idle) → (nodes : List ℕ) → IsPath s.memory.forw (forward s) nodes → (i : ℕ) → Contains nodes i → line_in (s.slots i) ≡ g.value
line_at_rest s g o idle nodes p = line_is s g o idle nodes (stands s.memory.forw (forward s) g.rank o.order nodes p)

pub memory_at_rest : (s : State) (g : Witness) → Law (shape s) g → ((i : ℕ) → s.steps i ≡ Pending.Idle) → s.memory.state ≢ MemState.Gone → line_in s.memory_slot ≡ g.value
memory_at_rest s g o idle n = memory_is s g o idle n
