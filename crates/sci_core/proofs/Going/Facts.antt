-- What an allowed event says of the word that it found, and what the law says of slots.
use Rattle.std.proofs.Common.{◌≡◌, ◌≢◌, ◌⊎◌, ℕ, ◌<◌, Bool, true, false, cond, ◌&&◌, ◌||◌, not, Option, Some, None, refl, ap, inl, inr, arith, is_none}
use Rattle.std.proofs.lemmas.Bool.Decides.{nat_tests}
use Rattle.sci_words.specs.declared.tags.Kind.{Kind}
use Rattle.sci_words.specs.declared.tags.Tag.{Tag}
use Rattle.sci_words.specs.Tag.{tag_well_formed, link_below}
use Rattle.sci_core.specs.declared.lines.Line.{Line}
use Rattle.sci_core.specs.State.{State}
use Rattle.sci_core.specs.declared.pending.Pending.{Pending}
use Rattle.sci_core.specs.Shape.{Phase, shape, phase_of, line_of}
use Rattle.sci_core.specs.Law.{Witness, Law, has_slot, can_be_held, is_valid, suits}
use Rattle.sci_core.specs.Found.{names, is_fresh, is_dirty, is_settled_front, is_settled_body, is_settled, is_rolling, can_be_told, is_found}
use Rattle.sci_core.specs.Step.{line_in}

pub and_left : (a b : Bool) → (a && b) ≡ true → a ≡ true
and_left true b h = refl
and_left false b h = absurd (cc)

pub and_right : (a b : Bool) → (a && b) ≡ true → b ≡ true
and_right true b h = h
and_right false b h = absurd (cc)

pub not_true : (b : Bool) → not b ≡ true → b ≡ false
not_true true h = absurd (cc)
not_true false h = refl

pub or_cases : (a b : Bool) → (a || b) ≡ true → (a ≡ true) ⊎ (b ≡ true)
or_cases true b h = inl refl
or_cases false b h = inr h

-- the word that an event carries
pub record Found (kinds : Kind → Bool) (t : Tag) : Type 0 where
  pub kind : kinds t.kind ≡ true
  pub unheld : t.held ≡ false
  pub formed : tag_well_formed t ≡ true

pub found : (kinds : Kind → Bool) (t : Tag) → is_found kinds t ≡ true → Found kinds t
found kinds t h =
    let rest : (not t.held && tag_well_formed t) ≡ true = and_right (kinds t.kind) (not t.held && tag_well_formed t) h in
    record {
      kind = and_left (kinds t.kind) (not t.held && tag_well_formed t) h;
      unheld = not_true t.held (and_left (not t.held) (tag_well_formed t) rest);
      formed = and_right (not t.held) (tag_well_formed t) rest;
    }

pub fresh_kind : (k : Kind) → is_fresh k ≡ true → k ≡ Kind.Fresh
fresh_kind Kind.Fresh h = refl
fresh_kind _ h = absurd (cc)

pub dirty_kind : (k : Kind) → is_dirty k ≡ true → k ≡ Kind.Dirty
dirty_kind Kind.Dirty h = refl
dirty_kind _ h = absurd (cc)

pub body_kind : (k : Kind) → is_settled_body k ≡ true → k ≡ Kind.Valid
body_kind Kind.Valid h = refl
body_kind _ h = absurd (cc)

pub rolling_kind : (k : Kind) → is_rolling k ≡ true → k ≡ Kind.Roll
rolling_kind Kind.Roll h = refl
rolling_kind _ h = absurd (cc)

pub front_kind : (k : Kind) → is_settled_front k ≡ true → k ≡ cond (is_dirty k) Kind.Dirty Kind.Fresh
front_kind Kind.Fresh h = refl
front_kind Kind.Dirty h = refl
front_kind _ h = absurd (cc)

pub held_kind : (k : Kind) → is_settled k ≡ true → can_be_held k ≡ true
held_kind Kind.Fresh h = refl
held_kind Kind.Dirty h = refl
held_kind Kind.Valid h = refl
held_kind _ h = absurd (cc)

pub not_told : (k : Kind) → can_be_told k ≡ true → (k ≢ Kind.Purged) × (k ≢ Kind.Queued) × (k ≢ Kind.Invalid) × (k ≢ Kind.Convert)
not_told Kind.Fresh h = ((λ e. cc), (λ e. cc), (λ e. cc), (λ e. cc))
not_told Kind.Dirty h = ((λ e. cc), (λ e. cc), (λ e. cc), (λ e. cc))
not_told Kind.Valid h = ((λ e. cc), (λ e. cc), (λ e. cc), (λ e. cc))
not_told Kind.Purging h = ((λ e. cc), (λ e. cc), (λ e. cc), (λ e. cc))
not_told Kind.Leaving h = ((λ e. cc), (λ e. cc), (λ e. cc), (λ e. cc))
not_told Kind.Roll h = ((λ e. cc), (λ e. cc), (λ e. cc), (λ e. cc))
not_told _ h = absurd (cc)

pub named : (me : ℕ) (f : Option ℕ) → names me f ≡ true → f ≡ Some me
named me (Some x) h = grind (arith, nat_tests)
named me None h = absurd (cc)

pub not_named : (me : ℕ) (f : Option ℕ) → names me f ≡ false → f ≢ Some me
not_named me (Some x) h e = grind (arith, nat_tests)
not_named me None h e = cc

pub is_none_link : (f : Option ℕ) → is_none f ≡ true → f ≡ None
is_none_link None h = refl
is_none_link (Some x) h = absurd (cc)

pub below_link : (n : ℕ) (f : Option ℕ) → link_below n f ≡ true → (j : ℕ) → f ≡ Some j → j < n
below_link n (Some x) h j e = grind (arith, nat_tests)
below_link n None h j e = absurd (cc)

pub some_line : (o : Option Line) → o ≢ None → o ≡ Some (line_in o)
some_line (Some l) h = refl
some_line None h = absurd (h refl)

dirty_at : (p : Pending) (k : Kind) (h : Bool) → k ≡ Kind.Dirty → h ≡ false → suits (phase_of p) k ≡ true → (phase_of p ≡ Phase.Holding → h ≡ true) → has_slot (phase_of p) ≡ false
dirty_at p k h e u c0 c1 = grind (arith, nat_tests)

purging_line : (p : Pending) (k : Kind) (l v : Line) → phase_of p ≡ Phase.Purging → line_of p ≡ l → suits (phase_of p) k ≡ true → (is_valid k ≡ true → has_slot (phase_of p) ≡ true → line_of p ≡ v) → l ≡ v
purging_line p k l v h e c0 c1 = grind (arith, nat_tests)

-- a slot that no step and no held bit says is out
pub slot_home : (s : State) (g : Witness) → Law (shape s) g → (i : ℕ) → has_slot (phase_of (s.steps i)) ≡ false → (s.tags i).held ≡ false → s.slots i ≡ Some (line_in (s.slots i))
slot_home s g o i h u = some_line (s.slots i) (o.slots.at_home i h u)

pub memory_home : (s : State) (g : Witness) → Law (shape s) g → s.memory.lent ≡ false → s.memory_slot ≡ Some (line_in s.memory_slot)
memory_home s g o h = some_line s.memory_slot (o.slots.memory_home h)

-- an entry that is Dirty and not held has its slot at home
pub dirty_is_home : (s : State) (g : Witness) → Law (shape s) g → (i : ℕ) → (s.tags i).kind ≡ Kind.Dirty → (s.tags i).held ≡ false → has_slot (phase_of (s.steps i)) ≡ false
dirty_is_home s g o i k u =
    let c0 = o.own.suited i in
    let c1 = o.slots.holding i in
    let o : ℕ = 0 in
    dirty_at (s.steps i) (s.tags i).kind (s.tags i).held k u c0 c1

-- a purging node keeps the value
pub purging_value : (s : State) (g : Witness) → Law (shape s) g → (i : ℕ) (l : Line) (seen : Option (Option ℕ)) → s.steps i ≡ Pending.Purging l seen → l ≡ g.value
purging_value s g o i l seen e =
    let phase : phase_of (s.steps i) ≡ Phase.Purging = ap phase_of e in
    let line : line_of (s.steps i) ≡ l = ap line_of e in
    let c0 = o.own.suited i in
    let c1 = o.values.hand i in
    let o : ℕ = 0 in
    purging_line (s.steps i) (s.tags i).kind l g.value phase line c0 c1
