-- A line is at most so far from rest, and what leads nearer.
use Rattle.std.proofs.Common.{◌≡◌, ◌≢◌, ◌⊎◌, ◌<◌, ◌≤◌, ◌+◌, ◌*◌, ℕ, zero, suc, Bool, true, false, ◌&&◌, ◌||◌, not, Option, Some, None, List, refl, sym, ap, inl, inr, ⊎_elim, ◌∙◌, arith}
use Rattle.std.specs.Prelude.{cond}
use Rattle.std.proofs.lemmas.Bool.{cases_eq}
use Rattle.std.proofs.lemmas.Nat.{mul-le}
use Rattle.sci_words.specs.declared.tags.Kind.{Kind}
use Rattle.sci_words.specs.declared.tags.Tag.{Tag}
use Rattle.sci_words.specs.declared.memory.Mem.{Mem}
use Rattle.sci_core.specs.declared.lines.Line.{Line}
use Rattle.sci_core.specs.declared.pending.Pending.{Pending}
use Rattle.sci_core.specs.declared.rows.Change.{Change}
use Rattle.sci_core.specs.Costs.{of_kind, of_step, of_tag, total, measure}
use Rattle.sci_core.specs.Found.{is_rolling}
use Rattle.sci_core.specs.PendingStep.{IsOwnWord}
use Rattle.sci_core.specs.Run.{HasValue}
use Rattle.sci_core.specs.State.{State, update}
use Rattle.sci_core.specs.Step.{Finds, tags_after, memory_after}
use Rattle.sci_core.specs.Waiting.{is_purging}
use Rattle.sci_core.proofs.Going.Facts.{and_left, and_right, not_true, or_cases, rolling_kind}
use Rattle.sci_ops.specs.Ranking.{stirs, is_late, names_purger, is_loose, is_stale, is_stirring, count, ranking}
use Rattle.sci_ops.proofs.Ending.Counting.{count_max, updated, not_updated}

bit_mono : (a b : Bool) → (b ≡ true → a ≡ true) → cond b 1 0 ≤ cond a 1 0
bit_mono true true h = omega arith
bit_mono true false h = omega arith
bit_mono false false h = omega arith
bit_mono false true h = absurd (let e = h refl in cc)

pub count_mono : (f g : ℕ → Bool) (n : ℕ) → ((i : ℕ) → i < n → g i ≡ true → f i ≡ true) → count g n ≤ count f n
count_mono f g zero h = omega arith
count_mono f g (suc n) h =
    let rest : count g n ≤ count f n = count_mono f g n (λ i l. h i (omega (arith, l))) in
    let bit : cond (g n) 1 0 ≤ cond (f n) 1 0 = bit_mono (f n) (g n) (h n (omega arith)) in
    omega (arith, rest, bit)

pub count_drop : (f g : ℕ → Bool) (x n : ℕ) → x < n → f x ≡ true → g x ≡ false → ((i : ℕ) → i < n → g i ≡ true → f i ≡ true) → count g n < count f n
count_drop f g x zero l a b h = absurd (omega (arith, l))
count_drop f g x (suc n) l a b h =
    ⊎_elim
    (λ e.
    let rest : count g n ≤ count f n = count_mono f g n (λ i k. h i (omega (arith, k))) in
    let fn : f n ≡ true = ap f (sym e) ∙ a in
    let gn : g n ≡ false = ap g (sym e) ∙ b in
    rw (fn, gn) (omega (arith, rest)))
    (λ d.
    let rest : count g n < count f n = count_drop f g x n (omega (arith, l, d)) a b (λ i k. h i (omega (arith, k))) in
    let bit : cond (g n) 1 0 ≤ cond (f n) 1 0 = bit_mono (f n) (g n) (h n (omega arith)) in
    omega (arith, rest, bit))
    (cases_eq x n)

-- what a node is worth
held_worth : (k : Kind) → of_kind k ≤ 3
held_worth Kind.Fresh = omega arith
held_worth Kind.Dirty = omega arith
held_worth Kind.Valid = omega arith
held_worth _ = omega arith

worth : (p : Pending) (t : Tag) → IsOwnWord p t → of_tag t + of_step p ≤ 8
worth Pending.Idle t w = let k = held_worth t.kind in omega (arith, k)
worth (Pending.Holding u l) t w = let k = held_worth t.kind in omega (arith, k)
worth (Pending.Queueing f) t w = let k : of_tag t ≡ 0 = ap of_tag w in omega (arith, k)
worth (Pending.Fetching f d l) t w = let k : of_tag t ≡ 0 = ap of_tag w in omega (arith, k)
worth (Pending.InQueue f d c) t w = let k : of_tag t ≡ 0 = ap of_tag w.0 in omega (arith, k)
worth (Pending.Copying x u l) t w = let k : of_tag t ≡ 0 = ap of_tag w in omega (arith, k)
worth (Pending.Ready f d l) t w = let k : of_tag t ≡ 0 = ap of_tag w in omega (arith, k)
worth (Pending.Converting f true) t w = let k : of_tag t ≡ 0 = ap of_tag w in omega (arith, k)
worth (Pending.Converting f false) t w = let k : of_tag t ≡ 0 = ap of_tag w in omega (arith, k)
worth (Pending.Purging l q) t w = let k : of_tag t ≡ 0 = ap of_tag w in omega (arith, k)
worth (Pending.Advancing l x u) t w = let k : of_tag t ≡ 0 = ap of_tag w in omega (arith, k)
worth (Pending.Clearing l x u) t w = let k : of_tag t ≡ 0 = ap of_tag w in omega (arith, k)
worth (Pending.Leaving d l q) t w = let k : of_tag t ≡ 0 = ap of_tag w in omega (arith, k)
worth (Pending.Promoted d l x) t w = let k : of_tag t ≡ 0 = ap of_tag w in omega (arith, k)
worth (Pending.WritingBack l) t w = let k : of_tag t ≡ 0 = ap of_tag w in omega (arith, k)
worth (Pending.Parted f) t w = let k : of_tag t ≡ 0 = ap of_tag w in omega (arith, k)
worth (Pending.Rolling true q) t w = let k : of_tag t ≡ 0 = ap of_tag w in omega (arith, k)
worth (Pending.Rolling false q) t w = let k : of_tag t ≡ 0 = ap of_tag w in omega (arith, k)
worth (Pending.Unlinked f b) t w = let k : of_tag t ≡ 0 = ap of_tag w in omega (arith, k)

all_worth : (tags : ℕ → Tag) (steps : ℕ → Pending) → ((i : ℕ) → IsOwnWord (steps i) (tags i)) → (n : ℕ) → total of_tag tags n + total of_step steps n ≤ 8 * n
all_worth tags steps h zero = omega arith
all_worth tags steps h (suc n) =
    let one = worth (steps n) (tags n) (h n) in
    let rest = all_worth tags steps h n in
    omega (arith, one, rest)

-- a line is at most so far from rest
pub ranking_bound : (n : ℕ) (fits : List ℕ → Type 0) (s : State) (v : Line) → HasValue n fits s v → ranking n s ≤ n * n + 9 * n
ranking_bound n fits s v h =
    let left : measure n s ≤ 8 * n = all_worth s.tags s.steps h.lawful.steps.own_word n in
    let stirring : n * count (is_stirring s.steps) n ≤ n * n = mul-le n (count (is_stirring s.steps) n) n n (omega arith) (count_max (is_stirring s.steps) n) in
    let stale : count (is_stale s.memory.forw s.tags s.steps) n ≤ n = count_max (is_stale s.memory.forw s.tags s.steps) n in
    omega (arith, left, stirring, stale)

abbrev pub is_queueing : Pending → Bool
is_queueing (Pending.Queueing f) = true
is_queueing _ = false

pub not_late : (head : Option ℕ) (q : Pending) → is_queueing q ≡ false → is_late head q ≡ false
not_late head (Pending.Queueing f) h = absurd (cc)
not_late head _ h = refl

-- the change makes nobody stale: it keeps memory's link; or the kind and the back link of a tag; or it has nothing to do with
-- purging nodes and with Roll
abbrev pub Calm : Change → Type 0
Calm (Change.OfMemory before after) = after.forw ≡ before.forw
Calm (Change.OfTag x before after) = ((after.kind ≡ before.kind) × (after.back ≡ before.back)) ⊎ ((before.kind ≢ Kind.Purging) × (after.kind ≢ Kind.Roll))

not_purging : (k : Kind) → k ≢ Kind.Purging → is_purging k ≡ false
not_purging Kind.Purging h = absurd (h refl)
not_purging _ h = refl

pub both_true : (a b : Bool) → a ≡ true → b ≡ true → (a && b) ≡ true
both_true true b p q = q
both_true false b p q = absurd (cc)

pub or_left : (a b : Bool) → a ≡ true → (a || b) ≡ true
or_left true b q = refl
or_left false b q = absurd (cc)

pub or_right : (a b : Bool) → b ≡ true → (a || b) ≡ true
or_right true b q = refl
or_right false b q = q

module _ (tags : ℕ → Tag) (x : ℕ) (before after : Tag) (found : tags x ≡ before) (keeps : (after.kind ≡ before.kind) ⊎ (before.kind ≢ Kind.Purging)) where
  purger_before : (l : Option ℕ) → names_purger (update tags x after) l ≡ false → names_purger tags l ≡ false
  purger_before None h = refl
  purger_before (Some j) h =
      ⊎_elim
      (λ e.
      let was : (tags j).kind ≡ before.kind = ap (λ (i : ℕ). (tags i).kind) e ∙ ap (λ (t : Tag). t.kind) found in
      ⊎_elim
      (λ a.
      let is : (update tags x after j).kind ≡ (tags j).kind = ap (λ (i : ℕ). (update tags x after i).kind) e ∙ ap (λ (t : Tag). t.kind) (updated tags x after) ∙ a ∙ sym was in
      ap is_purging (sym is) ∙ h)
      (λ a. ap is_purging was ∙ not_purging before.kind a)
      keeps)
      (λ d. ap (λ (t : Tag). is_purging t.kind) (sym (not_updated tags x after j d)) ∙ h)
      (cases_eq j x)

  pub loose_as : (t u : Tag) → u.kind ≡ t.kind → u.back ≡ t.back → is_loose (update tags x after) u ≡ true → is_loose tags t ≡ true
  loose_as t u k b h =
      let rolls : is_rolling u.kind ≡ true = and_left (is_rolling u.kind) (not (names_purger (update tags x after) u.back)) h in
      let none : names_purger (update tags x after) u.back ≡ false = not_true (names_purger (update tags x after) u.back) (and_right (is_rolling u.kind) (not (names_purger (update tags x after) u.back)) h) in
      let was : names_purger tags t.back ≡ false = ap (names_purger tags) (sym b) ∙ purger_before u.back none in
      both_true (is_rolling t.kind) (not (names_purger tags t.back)) (ap is_rolling (sym k) ∙ rolls) (ap not was)

  pub loose_elsewhere : (i : ℕ) → i ≢ x → is_loose (update tags x after) (update tags x after i) ≡ true → is_loose tags (tags i) ≡ true
  loose_elsewhere i d h = let same = not_updated tags x after i d in loose_as (tags i) (update tags x after i) (ap (λ (t : Tag). t.kind) same) (ap (λ (t : Tag). t.back) same) h

calm_keeps : (x : ℕ) (before after : Tag) → Calm (Change.OfTag x before after) → (after.kind ≡ before.kind) ⊎ (before.kind ≢ Kind.Purging)
calm_keeps x before after calm = ⊎_elim (λ a. inl a.0) (λ a. inr a.0) calm

loose_before : (tags : ℕ → Tag) (x : ℕ) (before after : Tag) → tags x ≡ before → Calm (Change.OfTag x before after) → (i : ℕ) → is_loose (update tags x after) (update tags x after i) ≡ true → is_loose tags (tags i) ≡ true
loose_before tags x before after found calm i h =
    ⊎_elim
    (λ e.
    let at : update tags x after i ≡ after = ap (update tags x after) e ∙ updated tags x after in
    let was : tags i ≡ before = ap tags e ∙ found in
    ⊎_elim
    (λ a. loose_as tags x before after found (inl a.0) (tags i) (update tags x after i) (ap (λ (t : Tag). t.kind) at ∙ a.0 ∙ sym (ap (λ (t : Tag). t.kind) was)) (ap (λ (t : Tag). t.back) at ∙ a.1 ∙ sym (ap (λ (t : Tag). t.back) was)) h)
    (λ a. absurd (a.1 (ap (λ (t : Tag). t.kind) (sym at) ∙ rolling_kind (update tags x after i).kind (and_left (is_rolling (update tags x after i).kind) (not (names_purger (update tags x after) (update tags x after i).back)) h))))
    calm)
    (λ d. loose_elsewhere tags x before after found (calm_keeps x before after calm) i d h)
    (cases_eq i x)

-- what was loose after a calm change was so before it
pub loose_kept : (s : State) (c : Change) → Finds s c → Calm c → (i : ℕ) → is_loose (tags_after s.tags c) (tags_after s.tags c i) ≡ true → is_loose s.tags (s.tags i) ≡ true
loose_kept s (Change.OfMemory before after) found calm i h = h
loose_kept s (Change.OfTag x before after) found calm i h = loose_before s.tags x before after found calm i h

pub head_kept : (s : State) (c : Change) → Finds s c → Calm c → (memory_after s.memory c).forw ≡ s.memory.forw
head_kept s (Change.OfMemory before after) found calm = calm ∙ sym (ap (λ (m : Mem). m.forw) found)
head_kept s (Change.OfTag x before after) found calm = refl

-- who may be stale after it, though the actor's step is another
pub late_kept : (head next : Option ℕ) (steps : ℕ → Pending) (me : ℕ) (q : Pending) → next ≡ head → is_queueing q ≡ false → (i : ℕ) → is_late next (update steps me q i) ≡ true → is_late head (steps i) ≡ true
late_kept head next steps me q same still i h =
    ⊎_elim
    (λ e.
    let at : update steps me q i ≡ q = ap (update steps me q) e ∙ updated steps me q in
    let is : is_late next (update steps me q i) ≡ false = ap (is_late next) at ∙ not_late next q still in
    absurd (let o : true ≡ false = sym h ∙ is in cc))
    (λ d. ap (λ (l : Option ℕ). is_late l (steps i)) (sym same) ∙ ap (is_late next) (sym (not_updated steps me q i d)) ∙ h)
    (cases_eq i me)

pub stale_kept : (s : State) (c : Change) (me : ℕ) (q : Pending) → Finds s c → Calm c → is_queueing q ≡ false → (i : ℕ) → is_stale (memory_after s.memory c).forw (tags_after s.tags c) (update s.steps me q) i ≡ true → is_stale s.memory.forw s.tags s.steps i ≡ true
stale_kept s c me q found calm still i h =
    ⊎_elim
    (λ a. or_left (is_late s.memory.forw (s.steps i)) (is_loose s.tags (s.tags i)) (late_kept s.memory.forw (memory_after s.memory c).forw s.steps me q (head_kept s c found calm) still i a))
    (λ a. or_right (is_late s.memory.forw (s.steps i)) (is_loose s.tags (s.tags i)) (loose_kept s c found calm i a))
    (or_cases (is_late (memory_after s.memory c).forw (update s.steps me q i)) (is_loose (tags_after s.tags c) (tags_after s.tags c i)) h)

pub stirring_kept : (steps : ℕ → Pending) (me : ℕ) (q : Pending) → (stirs q ≡ true → stirs (steps me) ≡ true) → (i : ℕ) → is_stirring (update steps me q) i ≡ true → is_stirring steps i ≡ true
stirring_kept steps me q h i a =
    ⊎_elim
    (λ e. ap (λ (j : ℕ). stirs (steps j)) e ∙ h (ap stirs (sym (ap (update steps me q) e ∙ updated steps me q)) ∙ a))
    (λ d. ap stirs (sym (not_updated steps me q i d)) ∙ a)
    (cases_eq i me)

-- one that stirs no more makes up for all that may be stale
pub settled_less : (n m k a b c d : ℕ) → 1 + m ≤ k → a < b → c ≤ n → m + n * a + c < k + n * b + d
settled_less n m k a b c d h l stale =
    let more : n * (suc a) ≤ n * b = mul-le n (suc a) n b (omega arith) (omega (arith, l)) in
    omega (arith, h, more, stale)

pub calmed_less : (n m k a b c d : ℕ) → 1 + m ≤ k → a ≤ b → c ≤ d → m + n * a + c < k + n * b + d
calmed_less n m k a b c d h l stale =
    let more : n * a ≤ n * b = mul-le n a n b (omega arith) l in
    omega (arith, h, more, stale)

pub turned_less : (n m k a b c d : ℕ) → m ≤ k → a ≤ b → c < d → m + n * a + c < k + n * b + d
turned_less n m k a b c d h l stale =
    let more : n * a ≤ n * b = mul-le n a n b (omega arith) l in
    omega (arith, h, more, stale)
