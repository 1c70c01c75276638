-- The code of a word is read as that word.
use Rattle.std.proofs.Common.{◌≡◌, ℕ, ◌*◌, ◌/◌, ◌^◌, ◌-◌, ◌≤◌, ◌&&◌, ◌||◌, Bool, true, false, not, ◌==◌, Option, Some, None, is_some, refl, sym, ap, ◌∙◌, subst, arith, le-ltb}
use Rattle.std.proofs.lemmas.Bool.{and_parts}
use Rattle.sci_words.specs.declared.layouts.Layout.{Layout}
use Rattle.sci_words.specs.declared.tags.Kind.{Kind}
use Rattle.sci_words.specs.declared.tags.Tag.{Tag}
use Rattle.sci_words.specs.declared.memory.Mem.{Mem}
use Rattle.sci_words.specs.declared.memory.MemState.{MemState}
use Rattle.sci_words.specs.declared.refusals.WordRefusal.{WordRefusal}
use Rattle.sci_words.specs.declared.refusals.WordRefusal.TheVariants.{UnknownKind, SpareBits, LinkMissing, LinkUnwanted, HeldNotValid}
use Rattle.sci_words.specs.Refused.{tag_refused, mem_refused, lowest, tag_refusal_in, mem_refusal_in}
use Rattle.sci_words.specs.Codes.{kind_number, state_number, tag_in, mem_in, tag_code_in, mem_code_in}
use Rattle.sci_words.specs.Layout.{link_width, no_link as no_link_in, field, kind_field}
use Rattle.sci_words.specs.Tag.{is_invalid, misses_link, has_unwanted_link, is_held_wrongly, tag_well_formed, tag_links_below}
use Rattle.sci_words.specs.Mem.{misses_head, has_unwanted_head, mem_well_formed, mem_links_below}
use Rattle.sci_words.proofs.Codes.{tag_in-code, mem_in-code, tag_fields_of_code, mem_fields_of_code}
use Rattle.sci_core.specs.State.{invalid}
use Rattle.sci_dump.specs.Reading.{mem_of, tag_of, sharer}

not_true : (b : Bool) → not b ≡ true → b ≡ false
not_true true h = absurd (cc)
not_true false h = refl

none_applies : (p : WordRefusal → Bool) → p UnknownKind ≡ false → p SpareBits ≡ false → p LinkMissing ≡ false → p LinkUnwanted ≡ false → p HeldNotValid ≡ false → lowest p ≡ None
none_applies p a b d f g = rw (a, b, d, f, g) refl

kind_below : (k : Kind) → kind_number k ≤ 9
kind_below Kind.Invalid = omega arith
kind_below Kind.Queued = omega arith
kind_below Kind.Fresh = omega arith
kind_below Kind.Dirty = omega arith
kind_below Kind.Convert = omega arith
kind_below Kind.Purging = omega arith
kind_below Kind.Leaving = omega arith
kind_below Kind.Valid = omega arith
kind_below Kind.Roll = omega arith
kind_below Kind.Purged = omega arith

state_below : (s : MemState) → state_number s ≤ 2
state_below MemState.Home = omega arith
state_below MemState.Fresh = omega arith
state_below MemState.Gone = omega arith

no_spare : (a b : ℕ) → a ≡ 0 → b ≡ 0 → not ((a == 0) && (b == 0)) ≡ false
no_spare a b p q = rw (p, q) refl

mem_given : (r : Option WordRefusal) (x : Mem) → r ≡ None → elim r [ None ↦ Some x | Some e ↦ None ] ≡ Some x
mem_given r x h = rw h refl

pub mem_own : (l : Layout) (m : Mem) → mem_well_formed m ≡ true → mem_links_below (no_link_in l) m ≡ true → mem_of l (mem_code_in l m) ≡ Some m
mem_own l m formed links =
    let w = mem_code_in l m in
    let p = and_parts (not (misses_head m)) (not (has_unwanted_head m)) formed in
    let fields = mem_fields_of_code l m links in
    let kind : kind_field w ≤ 2 = subst (λ (n : ℕ). n ≤ 2) (sym fields.0) (state_below m.state) in
    let meant : mem_in l w ≡ m = mem_in-code l m links in
    let none : mem_refusal_in l w ≡ None =
    none_applies (mem_refused l w) (le-ltb 2 (kind_field w) kind) (no_spare (field 5 (link_width l - 5) w) (w / 2 ^ (2 * link_width l)) fields.3 fields.4)
    (subst (λ (x : Mem). misses_head x ≡ false) (sym meant) (not_true (misses_head m) p.0)) (subst (λ (x : Mem). has_unwanted_head x ≡ false) (sym meant) (not_true (has_unwanted_head m) p.1)) refl in
    mem_given (mem_refusal_in l w) (mem_in l w) none ∙ ap (λ (x : Mem). Some x) meant

tag_given : (r : Option WordRefusal) (x : Tag) → r ≡ None → is_invalid x.kind ≡ false → sharer r x ≡ Some x
tag_given r x h other = rw (h, other) refl

pub tag_own : (l : Layout) (t : Tag) → tag_well_formed t ≡ true → tag_links_below (no_link_in l) t ≡ true → is_invalid t.kind ≡ false → tag_of l (tag_code_in l t) ≡ Some t
unfolding tag_of
tag_own l t formed links other =
    let w = tag_code_in l t in
    let p = and_parts (not (misses_link t) && not (has_unwanted_link t)) (not (is_held_wrongly t)) formed in
    let q = and_parts (not (misses_link t)) (not (has_unwanted_link t)) p.0 in
    let fields = tag_fields_of_code l t links in
    let kind : kind_field w ≤ 9 = subst (λ (n : ℕ). n ≤ 9) (sym fields.0) (kind_below t.kind) in
    let meant : tag_in l w ≡ t = tag_in-code l t links in
    let none : tag_refusal_in l w ≡ None =
    none_applies (tag_refused l w) (le-ltb 9 (kind_field w) kind) (no_spare (field 5 (link_width l - 5) w) (w / 2 ^ (3 * link_width l)) fields.4 fields.5)
    (subst (λ (x : Tag). misses_link x ≡ false) (sym meant) (not_true (misses_link t) q.0)) (subst (λ (x : Tag). has_unwanted_link x ≡ false) (sym meant) (not_true (has_unwanted_link t) q.1))
    (subst (λ (x : Tag). is_held_wrongly x ≡ false) (sym meant) (not_true (is_held_wrongly t) p.1)) in
    tag_given (tag_refusal_in l w) (tag_in l w) none (subst (λ (x : Tag). is_invalid x.kind ≡ false) (sym meant) other) ∙ ap (λ (x : Tag). Some x) meant

-- an Invalid tag has no links, and isn't held
no_link : (f : Option ℕ) → is_some f ≡ false → f ≡ None
no_link None h = refl
no_link (Some x) h = absurd (cc)

invalid_kind : (k : Kind) → is_invalid k ≡ true → k ≡ Kind.Invalid
invalid_kind Kind.Invalid h = refl
invalid_kind Kind.Queued h = absurd (cc)
invalid_kind Kind.Fresh h = absurd (cc)
invalid_kind Kind.Dirty h = absurd (cc)
invalid_kind Kind.Convert h = absurd (cc)
invalid_kind Kind.Purging h = absurd (cc)
invalid_kind Kind.Leaving h = absurd (cc)
invalid_kind Kind.Valid h = absurd (cc)
invalid_kind Kind.Roll h = absurd (cc)
invalid_kind Kind.Purged h = absurd (cc)

parts_of_invalid : (held forw back : Bool) → (not ((true && back) || (true && forw)) && not (held && true)) ≡ true → (held ≡ false) × (forw ≡ false) × (back ≡ false)
parts_of_invalid false false false h = (refl, refl, refl)
parts_of_invalid true false false h = absurd (cc)
parts_of_invalid false true false h = absurd (cc)
parts_of_invalid true true false h = absurd (cc)
parts_of_invalid false false true h = absurd (cc)
parts_of_invalid true false true h = absurd (cc)
parts_of_invalid false true true h = absurd (cc)
parts_of_invalid true true true h = absurd (cc)

formed_invalid : (k : Kind) (held : Bool) (forw back : Option ℕ) → k ≡ Kind.Invalid → tag_well_formed (record { kind = k; held = held; forw = forw; back = back }) ≡ true → (held ≡ false) × (is_some forw ≡ false) × (is_some back ≡ false)
formed_invalid k held forw back e h =
    parts_of_invalid held (is_some forw) (is_some back) (subst (λ (x : Kind). tag_well_formed (record { kind = x; held = held; forw = forw; back = back }) ≡ true) e h)

pub only_invalid : (t : Tag) → tag_well_formed t ≡ true → is_invalid t.kind ≡ true → t ≡ invalid
only_invalid t formed it =
    let k = invalid_kind t.kind it in
    let (held, forw, back) = formed_invalid t.kind t.held t.forw t.back k formed in
    let f = no_link t.forw forw in
    let b = no_link t.back back in
    λ i. record { kind = k i; held = held i; forw = f i; back = b i }
