-- A word has one code, and a code one word.
use Rattle.std.proofs.Common.{◌≡◌, ℕ, ◌+◌, ◌*◌, ◌/◌, ◌^◌, ◌-◌, ◌<◌, ◌≤◌, ◌≢◌, ◌&&◌, Bool, true, false, eqb, refl, sym, ap, ◌∙◌, arith, ne_eqb, Option, Some, None}
use Rattle.std.proofs.lemmas.Bool.Decides.{nat_tests}
use borrow.Author.Tests.{ltb-true}
use Rattle.sci_words.specs.declared.tags.Kind.{Kind}
use Rattle.sci_words.specs.declared.tags.Kind.TheVariants.{Invalid, Queued, Fresh, Dirty, Convert, Purging, Leaving, Valid, Roll, Purged}
use Rattle.sci_words.specs.declared.tags.Tag.{Tag}
use Rattle.sci_words.specs.declared.memory.Mem.{Mem}
use Rattle.sci_words.specs.declared.memory.MemState.{MemState}
use Rattle.sci_words.specs.declared.layouts.Layout.{Layout}
use Rattle.sci_words.specs.declared.layouts.Layout.TheVariants.{One, Two}
use Rattle.sci_words.specs.Codes.{kind_number, kind_of, state_number, state_of, tag_code_in, mem_code_in, tag_in, mem_in}
use Rattle.sci_words.specs.Layout.{link_width, no_link, bit, field, kind_field, held_field, forward_field, back_field, link_of, link_code}
use Rattle.sci_words.specs.Tag.{link_below, tag_links_below}
use Rattle.sci_words.specs.Mem.{mem_links_below}

pub kind_of-number : (k : Kind) → kind_of (kind_number k) ≡ k
kind_of-number Invalid = refl
kind_of-number Queued = refl
kind_of-number Fresh = refl
kind_of-number Dirty = refl
kind_of-number Convert = refl
kind_of-number Purging = refl
kind_of-number Leaving = refl
kind_of-number Valid = refl
kind_of-number Roll = refl
kind_of-number Purged = refl

kind_number_below : (k : Kind) → kind_number k < 16
kind_number_below Invalid = omega arith
kind_number_below Queued = omega arith
kind_number_below Fresh = omega arith
kind_number_below Dirty = omega arith
kind_number_below Convert = omega arith
kind_number_below Purging = omega arith
kind_number_below Leaving = omega arith
kind_number_below Valid = omega arith
kind_number_below Roll = omega arith
kind_number_below Purged = omega arith

pub state_of-number : (s : MemState) → state_of (state_number s) ≡ s
state_of-number MemState.Home = refl
state_of-number MemState.Fresh = refl
state_of-number MemState.Gone = refl

state_number_below : (s : MemState) → state_number s < 16
state_number_below MemState.Home = omega arith
state_number_below MemState.Fresh = omega arith
state_number_below MemState.Gone = omega arith

bit_back : (b : Bool) → eqb (bit b) 1 ≡ b
bit_back true = refl
bit_back false = refl

bit_below : (b : Bool) → bit b < 2
bit_below true = omega arith
bit_below false = omega arith

pub link_of-code : (l : Layout) (f : Option ℕ) → link_below (no_link l) f ≡ true → link_of l (link_code l f) ≡ f
link_of-code One None h = refl
link_of-code Two None h = refl
link_of-code One (Some x) h = let l : x < 255 = ltb-true x 255 h in let n : x ≢ 255 = omega arith in rw (ne_eqb x 255 n) refl
link_of-code Two (Some x) h = let l : x < 65535 = ltb-true x 65535 h in let n : x ≢ 65535 = omega arith in rw (ne_eqb x 65535 n) refl

pub link_code_below : (l : Layout) (f : Option ℕ) → link_below (no_link l) f ≡ true → link_code l f < 2 ^ link_width l
link_code_below One None h = omega arith
link_code_below Two None h = omega arith
link_code_below One (Some x) h = let l : x < 255 = ltb-true x 255 h in omega arith
link_code_below Two (Some x) h = let l : x < 65535 = ltb-true x 65535 h in omega arith

both : (a b : Bool) → (a && b) ≡ true → (a ≡ true) × (b ≡ true)
both true b h = (refl, h)
both false b h = cc

pub and_both : (a b : Bool) → a ≡ true → b ≡ true → (a && b) ≡ true
and_both a b p q = rw p q

-- the fields of a sum of numbers that fit their fields
abbrev tag_sum : Layout → ℕ → ℕ → ℕ → ℕ → ℕ
tag_sum l k b f r = k + 2 ^ 4 * b + 2 ^ link_width l * f + 2 ^ (2 * link_width l) * r

abbrev mem_sum : Layout → ℕ → ℕ → ℕ → ℕ
mem_sum l k b f = k + 2 ^ 4 * b + 2 ^ link_width l * f

abbrev TagFields : Layout → ℕ → ℕ → ℕ → ℕ → ℕ → Type 0
TagFields l w k b f r = (kind_field w ≡ k) × (held_field w ≡ b) × (forward_field l w ≡ f) × (back_field l w ≡ r) × (field 5 (link_width l - 5) w ≡ 0) × (w / 2 ^ (3 * link_width l) ≡ 0)

abbrev MemFields : Layout → ℕ → ℕ → ℕ → ℕ → Type 0
MemFields l w k b f = (kind_field w ≡ k) × (held_field w ≡ b) × (forward_field l w ≡ f) × (field 5 (link_width l - 5) w ≡ 0) × (w / 2 ^ (2 * link_width l) ≡ 0)

tag_fields_of_sum : (l : Layout) (k b f r : ℕ) → k < 16 → b < 2 → f < 2 ^ link_width l → r < 2 ^ link_width l → TagFields l (tag_sum l k b f r) k b f r
tag_fields_of_sum One k b f r p q s t = (omega arith, omega arith, omega arith, omega arith, omega arith, omega arith)
tag_fields_of_sum Two k b f r p q s t = (omega arith, omega arith, omega arith, omega arith, omega arith, omega arith)

mem_fields_of_sum : (l : Layout) (k b f : ℕ) → k < 16 → b < 2 → f < 2 ^ link_width l → MemFields l (mem_sum l k b f) k b f
mem_fields_of_sum One k b f p q s = (omega arith, omega arith, omega arith, omega arith, omega arith)
mem_fields_of_sum Two k b f p q s = (omega arith, omega arith, omega arith, omega arith, omega arith)

-- the fields of a tag's code
pub tag_fields_of_code : (l : Layout) (t : Tag) → tag_links_below (no_link l) t ≡ true → TagFields l (tag_code_in l t) (kind_number t.kind) (bit t.held) (link_code l t.forw) (link_code l t.back)
tag_fields_of_code l t h =
    let a = both (link_below (no_link l) t.forw) (link_below (no_link l) t.back) h in
    tag_fields_of_sum l (kind_number t.kind) (bit t.held) (link_code l t.forw) (link_code l t.back) (kind_number_below t.kind) (bit_below t.held) (link_code_below l t.forw a.0) (link_code_below l t.back a.1)

-- the fields of a tag's code say the tag
pub tag_in-code : (l : Layout) (t : Tag) → tag_links_below (no_link l) t ≡ true → tag_in l (tag_code_in l t) ≡ t
tag_in-code l t below =
    let a = both (link_below (no_link l) t.forw) (link_below (no_link l) t.back) below in
    let p = tag_fields_of_code l t below in
    let k : kind_of (kind_field (tag_code_in l t)) ≡ t.kind = ap kind_of p.0 ∙ kind_of-number t.kind in
    let h : eqb (held_field (tag_code_in l t)) 1 ≡ t.held = ap (λ (n : ℕ). eqb n 1) p.1 ∙ bit_back t.held in
    let f : link_of l (forward_field l (tag_code_in l t)) ≡ t.forw = ap (λ (n : ℕ). link_of l n) p.2 ∙ link_of-code l t.forw a.0 in
    let r : link_of l (back_field l (tag_code_in l t)) ≡ t.back = ap (λ (n : ℕ). link_of l n) p.3 ∙ link_of-code l t.back a.1 in
    λ i. record { kind = k i; held = h i; forw = f i; back = r i }

-- the fields of a memory word's code
pub mem_fields_of_code : (l : Layout) (m : Mem) → mem_links_below (no_link l) m ≡ true → MemFields l (mem_code_in l m) (state_number m.state) (bit m.lent) (link_code l m.forw)
mem_fields_of_code l m h =
    mem_fields_of_sum l (state_number m.state) (bit m.lent) (link_code l m.forw) (state_number_below m.state) (bit_below m.lent) (link_code_below l m.forw h)

-- the fields of a memory word's code say the memory word
pub mem_in-code : (l : Layout) (m : Mem) → mem_links_below (no_link l) m ≡ true → mem_in l (mem_code_in l m) ≡ m
mem_in-code l m below =
    let p = mem_fields_of_code l m below in
    let s : state_of (kind_field (mem_code_in l m)) ≡ m.state = ap state_of p.0 ∙ state_of-number m.state in
    let h : eqb (held_field (mem_code_in l m)) 1 ≡ m.lent = ap (λ (n : ℕ). eqb n 1) p.1 ∙ bit_back m.lent in
    let f : link_of l (forward_field l (mem_code_in l m)) ≡ m.forw = ap (λ (n : ℕ). link_of l n) p.2 ∙ link_of-code l m.forw below in
    λ i. record { state = s i; lent = h i; forw = f i }

-- tags whose links the layout has room for have the same code only if they are the same
pub one_tag : (l : Layout) (t u : Tag) → tag_links_below (no_link l) t ≡ true → tag_links_below (no_link l) u ≡ true → tag_code_in l t ≡ tag_code_in l u → t ≡ u
one_tag l t u h k e = sym (tag_in-code l t h) ∙ (ap (λ (w : ℕ). tag_in l w) e ∙ tag_in-code l u k)

-- memory words whose links the layout has room for have the same code only if they are the same
pub one_mem : (l : Layout) (m u : Mem) → mem_links_below (no_link l) m ≡ true → mem_links_below (no_link l) u ≡ true → mem_code_in l m ≡ mem_code_in l u → m ≡ u
one_mem l m u h k e = sym (mem_in-code l m h) ∙ (ap (λ (w : ℕ). mem_in l w) e ∙ mem_in-code l u k)

-- a code fits 64 bits
tag_sum_below : (l : Layout) (k b f r : ℕ) → k < 16 → b < 2 → f < 2 ^ link_width l → r < 2 ^ link_width l → tag_sum l k b f r < 2 ^ 64
tag_sum_below One k b f r p q s t = omega arith
tag_sum_below Two k b f r p q s t = omega arith

mem_sum_below : (l : Layout) (k b f : ℕ) → k < 16 → b < 2 → f < 2 ^ link_width l → mem_sum l k b f < 2 ^ 64
mem_sum_below One k b f p q s = omega arith
mem_sum_below Two k b f p q s = omega arith

pub tag_code_below : (l : Layout) (t : Tag) → tag_links_below (no_link l) t ≡ true → tag_code_in l t < 2 ^ 64
tag_code_below l t h =
    let a = both (link_below (no_link l) t.forw) (link_below (no_link l) t.back) h in
    tag_sum_below l (kind_number t.kind) (bit t.held) (link_code l t.forw) (link_code l t.back) (kind_number_below t.kind) (bit_below t.held) (link_code_below l t.forw a.0) (link_code_below l t.back a.1)

pub mem_code_below : (l : Layout) (m : Mem) → mem_links_below (no_link l) m ≡ true → mem_code_in l m < 2 ^ 64
mem_code_below l m h =
    mem_sum_below l (state_number m.state) (bit m.lent) (link_code l m.forw) (state_number_below m.state) (bit_below m.lent) (link_code_below l m.forw h)

-- links below n are below any greater number
pub link_further : (n m : ℕ) (f : Option ℕ) → n ≤ m → link_below n f ≡ true → link_below m f ≡ true
link_further n m None l h = refl
link_further n m (Some x) l h = let k : x < n = ltb-true x n h in let j : x < m = omega arith in grind (arith, nat_tests)

pub tag_links_further : (n m : ℕ) (t : Tag) → n ≤ m → tag_links_below n t ≡ true → tag_links_below m t ≡ true
tag_links_further n m t l h =
    let a = both (link_below n t.forw) (link_below n t.back) h in
    and_both (link_below m t.forw) (link_below m t.back) (link_further n m t.forw l a.0) (link_further n m t.back l a.1)
