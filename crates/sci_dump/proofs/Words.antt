-- The word that is read has the code that was read, and the code of a word is read as that word.
use Rattle.std.proofs.Common.{◌≡◌, ℕ, ◌+◌, ◌*◌, ◌/◌, ◌%◌, ◌^◌, ◌-◌, ◌<◌, ◌≤◌, Bool, true, false, not, ◌==◌, Option, Some, None, refl, sym, ap, ◌∙◌, subst, arith, inl, inr, ltb-false, eqb-true}
use Rattle.std.proofs.lemmas.Bool.{and_parts, cases_Bool}
use Rattle.sci_words.specs.declared.layouts.Layout.{Layout}
use Rattle.sci_words.specs.declared.layouts.Layout.TheVariants.{One, Two}
use Rattle.sci_words.specs.declared.tags.Tag.{Tag}
use Rattle.sci_words.specs.declared.memory.Mem.{Mem}
use Rattle.sci_words.specs.declared.refusals.WordRefusal.{WordRefusal}
use Rattle.sci_words.specs.declared.refusals.WordRefusal.TheVariants.{UnknownKind, SpareBits, LinkMissing, LinkUnwanted, HeldNotValid}
use Rattle.sci_words.specs.Refused.{tag_refused, mem_refused, lowest, tag_refusal_in, mem_refusal_in}
use Rattle.sci_words.specs.Codes.{kind_number, kind_of, state_number, state_of, tag_in, mem_in, tag_code_in, mem_code_in}
use Rattle.sci_words.specs.Layout.{link_width, no_link, bit, kind_field, held_field, forward_field, back_field, link_of, link_code, spare_bits_clear}
use Rattle.sci_words.specs.Tag.{is_invalid}
use Rattle.sci_dump.specs.Reading.{mem_of, tag_of, sharer}
use Rattle.sci_dump.proofs.Deciding.{each_more}
use Rattle.sci_dump.proofs.Inverting.{some_of, not_none}

not_some : {A : Type 0} (x : A) → ◌≡◌ {A = Option A} (Some x) None → ⊥
not_some x e = cc

-- where nothing applies, no one does
found_none : (p : WordRefusal → Bool) → lowest p ≡ None → (p UnknownKind ≡ false) × (p SpareBits ≡ false) × (p LinkMissing ≡ false) × (p LinkUnwanted ≡ false) × (p HeldNotValid ≡ false)
found_none p h = elim (cases_Bool (p UnknownKind)) [
  | inl a ↦ absurd (not_some UnknownKind (let e : lowest p ≡ Some UnknownKind = rw a refl in sym e ∙ h))
  | inr a ↦ elim (cases_Bool (p SpareBits)) [
    | inl b ↦ absurd (not_some SpareBits (let e : lowest p ≡ Some SpareBits = rw (a, b) refl in sym e ∙ h))
    | inr b ↦ elim (cases_Bool (p LinkMissing)) [
      | inl d ↦ absurd (not_some LinkMissing (let e : lowest p ≡ Some LinkMissing = rw (a, b, d) refl in sym e ∙ h))
      | inr d ↦ elim (cases_Bool (p LinkUnwanted)) [
        | inl f ↦ absurd (not_some LinkUnwanted (let e : lowest p ≡ Some LinkUnwanted = rw (a, b, d, f) refl in sym e ∙ h))
        | inr f ↦ elim (cases_Bool (p HeldNotValid)) [
          | inl g ↦ absurd (not_some HeldNotValid (let e : lowest p ≡ Some HeldNotValid = rw (a, b, d, f, g) refl in sym e ∙ h))
          | inr g ↦ (a, b, d, f, g)
        ]
      ]
    ]
  ]
]

not_false : (b : Bool) → not b ≡ false → b ≡ true
not_false true h = refl
not_false false h = absurd (cc)

pub each_below_1 : (P : ℕ → Type 0) → P 0 → (i : ℕ) → i < 1 → P i
each_below_1 P p i lt = let e : 0 ≡ i = omega arith in subst P e p

state_number_of : (n : ℕ) → n < 3 → state_number (state_of n) ≡ n
state_number_of =
    let P : ℕ → Type 0 = λ n. state_number (state_of n) ≡ n in
    each_more P 2 (each_more P 1 (each_below_1 P refl) refl) refl

kind_number_of : (n : ℕ) → n < 10 → kind_number (kind_of n) ≡ n
kind_number_of =
    let P : ℕ → Type 0 = λ n. kind_number (kind_of n) ≡ n in
    each_more P 9 (each_more P 8 (each_more P 7 (each_more P 6 (each_more P 5 (each_more P 4 (each_more P 3 (each_more P 2 (each_more P 1 (each_below_1 P refl) refl) refl) refl) refl) refl) refl) refl) refl) refl

bit_of : (n : ℕ) → n < 2 → bit (n == 1) ≡ n
bit_of = let P : ℕ → Type 0 = λ n. bit (n == 1) ≡ n in each_more P 1 (each_below_1 P refl) refl

link_code_of : (l : Layout) (n : ℕ) → link_code l (link_of l n) ≡ n
link_code_of l n = elim (cases_Bool (n == no_link l)) [
  | inl none ↦ rw none (sym (eqb-true n (no_link l) none))
  | inr some ↦ rw some refl
]

spare_parts : (l : Layout) (word end : ℕ) → not (spare_bits_clear l end word) ≡ false → (word / 2 ^ 5 % 2 ^ (link_width l - 5) ≡ 0) × (word / 2 ^ end ≡ 0)
spare_parts l word end h =
    let p = and_parts (word / 2 ^ 5 % 2 ^ (link_width l - 5) == 0) (word / 2 ^ end == 0) (not_false (spare_bits_clear l end word) h) in
    (eqb-true (word / 2 ^ 5 % 2 ^ (link_width l - 5)) 0 p.0, eqb-true (word / 2 ^ end) 0 p.1)

mem_fields : (l : Layout) (w k b f : ℕ) → k ≡ kind_field w → b ≡ held_field w → f ≡ forward_field l w → w / 2 ^ 5 % 2 ^ (link_width l - 5) ≡ 0 → w / 2 ^ (2 * link_width l) ≡ 0 → k + 2 ^ 4 * b + 2 ^ link_width l * f ≡ w
mem_fields One w k b f p q r gap end = omega (arith, p, q, r, gap, end)
mem_fields Two w k b f p q r gap end = omega (arith, p, q, r, gap, end)

tag_fields : (l : Layout) (w k b f r : ℕ) → k ≡ kind_field w → b ≡ held_field w → f ≡ forward_field l w → r ≡ back_field l w → w / 2 ^ 5 % 2 ^ (link_width l - 5) ≡ 0 → w / 2 ^ (3 * link_width l) ≡ 0
    → k + 2 ^ 4 * b + 2 ^ link_width l * f + 2 ^ (2 * link_width l) * r ≡ w
tag_fields One w k b f r p q s t gap end = omega (arith, p, q, s, t, gap, end)
tag_fields Two w k b f r p q s t gap end = omega (arith, p, q, s, t, gap, end)

below_2 : (w : ℕ) → held_field w < 2
below_2 w = omega arith

mem_found : (r : Option WordRefusal) (x y : Mem) → elim r [ None ↦ Some x | Some e ↦ None ] ≡ Some y → (r ≡ None) × (x ≡ y)
mem_found None x y h = (refl, some_of x y h)
mem_found (Some e) x y h = absurd (not_none y h)

pub mem_code_read : (l : Layout) (word : ℕ) (m : Mem) → mem_of l word ≡ Some m → mem_code_in l m ≡ word
mem_code_read l word m h =
    let (none, is) = mem_found (mem_refusal_in l word) (mem_in l word) m h in
    let (known, spare, _, _, _) = found_none (mem_refused l word) none in
    let (gap, end) = spare_parts l word (2 * link_width l) spare in
    let k = state_number_of (kind_field word) (let le : kind_field word ≤ 2 = ltb-false 2 (kind_field word) known in omega (arith, le)) in
    ap (mem_code_in l) (sym is) ∙ mem_fields l word _ _ _ k (bit_of (held_field word) (below_2 word)) (link_code_of l (forward_field l word)) gap end

tag_found : (r : Option WordRefusal) (x y : Tag) → sharer r x ≡ Some y → (r ≡ None) × (is_invalid x.kind ≡ false) × (x ≡ y)
tag_found None x y h = elim (cases_Bool (is_invalid x.kind)) [
  | inl it ↦ absurd (not_none y (let e : sharer None x ≡ None = rw it refl in sym e ∙ h))
  | inr other ↦ (refl, other, some_of x y (let e : sharer None x ≡ Some x = rw other refl in sym e ∙ h))
]
tag_found (Some e) x y h = absurd (not_none y h)

pub tag_code_read : (l : Layout) (word : ℕ) (t : Tag) → tag_of l word ≡ Some t → (is_invalid t.kind ≡ false) × (tag_code_in l t ≡ word)
unfolding tag_of
tag_code_read l word t h =
    let (none, other, is) = tag_found (tag_refusal_in l word) (tag_in l word) t h in
    let (known, spare, _, _, _) = found_none (tag_refused l word) none in
    let (gap, end) = spare_parts l word (3 * link_width l) spare in
    let k = kind_number_of (kind_field word) (let le : kind_field word ≤ 9 = ltb-false 9 (kind_field word) known in omega (arith, le)) in (
      subst (λ (u : Tag). is_invalid u.kind ≡ false) is other,
      ap (tag_code_in l) (sym is) ∙ tag_fields l word _ _ _ _ k (bit_of (held_field word) (below_2 word)) (link_code_of l (forward_field l word)) (link_code_of l (back_field l word)) gap end,
    )
