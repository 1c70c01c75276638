-- Reading a word: which refusal is the lowest, and which word the fields mean.
use Rattle.std.proofs.Common.{◌≡◌, ℕ, ◌+◌, ◌*◌, ◌/◌, ◌^◌, ◌-◌, ◌<◌, ◌≢◌, ◌&&◌, not, cond, Bool, true, false, eqb, ltb, IfOk, refl, sym, ap, subst, ◌∙◌, arith, ne_eqb, zero, suc, Option, Some, None, Result, Ok, Err}
use Rattle.std.specs.Bool.{if◌then◌else◌}
use Rattle.std.specs.Result.{result_err}
use Rattle.sci_words.specs.declared.tags.Kind.{Kind}
use Rattle.sci_words.specs.declared.tags.Kind.TheVariants.{Invalid, Queued, Fresh, Dirty, Convert, Purging, Leaving, Valid, Roll, Purged}
use Rattle.sci_words.specs.declared.tags.Tag.{Tag}
use Rattle.sci_words.specs.declared.memory.Mem.{Mem}
use Rattle.sci_words.specs.declared.memory.MemState.{MemState}
use Rattle.sci_words.specs.declared.refusals.WordRefusal.{WordRefusal}
use Rattle.sci_words.specs.declared.refusals.WordRefusal.TheVariants.{UnknownKind, SpareBits, LinkMissing, LinkUnwanted, HeldNotValid}
use Rattle.sci_words.specs.declared.layouts.Layout.{Layout}
use Rattle.sci_words.specs.declared.layouts.Layout.TheVariants.{One, Two}
use Rattle.sci_words.specs.Codes.{kind_number, kind_of, state_number, state_of, tag_code_in, mem_code_in, tag_in, mem_in, fits_tag_in, fits_mem_in}
use Rattle.sci_words.specs.Layout.{link_width, no_link, bit, field, kind_field, held_field, forward_field, back_field, link_of}
use Rattle.sci_words.specs.Refused.{lowest, tag_refused, mem_refused, tag_refusal_in, mem_refusal_in}
use Rattle.sci_words.specs.Tag.{misses_link, has_unwanted_link, is_held_wrongly, tag_well_formed, tag_links_below}
use Rattle.sci_words.specs.Mem.{misses_head, has_unwanted_head, mem_well_formed, mem_links_below}
use Rattle.sci_words.proofs.Codes.{tag_fields_of_code, mem_fields_of_code, tag_in-code, mem_in-code, one_tag, one_mem}

some_not_none : {A : Type 0} (x : A) → Some x ≡ None → ⊥
some_not_none x e = cc

-- the lowest refusal, by the first that applies
pub unknown_first : (applies : WordRefusal → Bool) → applies UnknownKind ≡ true → Some UnknownKind ≡ lowest applies
unknown_first applies u = rw u refl

pub spare_next : (applies : WordRefusal → Bool) → applies UnknownKind ≡ false → applies SpareBits ≡ true → Some SpareBits ≡ lowest applies
spare_next applies u s = rw (u, s) refl

none_applies : (applies : WordRefusal → Bool) → applies UnknownKind ≡ false → applies SpareBits ≡ false → applies LinkMissing ≡ false → applies LinkUnwanted ≡ false → applies HeldNotValid ≡ false → lowest applies ≡ None
none_applies applies u s m l h = rw (u, s, m, l, h) refl

-- what a check answers
abbrev pub checked : Bool → Bool → Bool → Result Unit WordRefusal
checked m l h = cond m (Err LinkMissing) (cond l (Err LinkUnwanted) (cond h (Err HeldNotValid) (Ok tt)))

err_checked : (m l h : Bool) → result_err (checked m l h) ≡ cond m (Some LinkMissing) (cond l (Some LinkUnwanted) (cond h (Some HeldNotValid) None))
err_checked true l h = refl
err_checked false true h = refl
err_checked false false true = refl
err_checked false false false = refl

check_next : (applies : WordRefusal → Bool) (r : Result Unit WordRefusal) → applies UnknownKind ≡ false → applies SpareBits ≡ false
    → r ≡ checked (applies LinkMissing) (applies LinkUnwanted) (applies HeldNotValid) → result_err r ≡ lowest applies
check_next applies r u s e = rw (u, s, e) (err_checked (applies LinkMissing) (applies LinkUnwanted) (applies HeldNotValid))

pub none_found : (m l h : Bool) → Ok tt ≡ checked m l h → (not m && not l && not h) ≡ true
none_found true l h e = cc
none_found false true h e = cc
none_found false false true e = cc
none_found false false false e = refl

pub neither_found : (m l : Bool) → Ok tt ≡ checked m l false → (not m && not l) ≡ true
neither_found true l e = cc
neither_found false true e = cc
neither_found false false e = refl

none_of : (m l h : Bool) → (not m && not l && not h) ≡ true → (m ≡ false) × (l ≡ false) × (h ≡ false)
none_of true l h e = cc
none_of false true h e = cc
none_of false false true e = cc
none_of false false false e = (refl, refl, refl)

-- whether a number is that of a kind or a state, by the answer of the function that reads it
if_none : {A : Type 0} (b : Bool) (a : A) → None ≡ (if b then None else Some a) → b ≡ true
if_none true a e = refl
if_none false a e = cc

if_some : {A : Type 0} (b : Bool) (x a : A) → Some x ≡ (if b then None else Some a) → (b ≡ false) × (a ≡ x)
if_some true x a e = absurd (some_not_none x e)
if_some false x a e = (refl, cc)

pub none_above : {A : Type 0} (top n m : ℕ) (a : A) → n ≡ m → None ≡ (if ltb top n then None else Some a) → ltb top m ≡ true
none_above top n m a e h = ap (ltb top) (sym e) ∙ if_none (ltb top n) a h

pub some_within : {A : Type 0} (top n m : ℕ) (x a : A) → n ≡ m → Some x ≡ (if ltb top n then None else Some a) → ltb top m ≡ false
some_within top n m x a e h = ap (ltb top) (sym e) ∙ (if_some (ltb top n) x a h).0

-- whether the spare bits are clear
and_false : (b : Bool) → not (b && false) ≡ true
and_false true = refl
and_false false = refl

pub low_bits : (a b : ℕ) → a ≢ 0 → not (eqb a 0 && eqb b 0) ≡ true
low_bits a b n = rw (ne_eqb a 0 n) refl

pub high_bits : (a b : ℕ) → b ≢ 0 → not (eqb a 0 && eqb b 0) ≡ true
high_bits a b n = rw (ne_eqb b 0 n) (and_false (eqb a 0))

no_bits : (a b : ℕ) → a ≡ 0 → b ≡ 0 → not (eqb a 0 && eqb b 0) ≡ false
no_bits a b p q = rw (p, q) refl

-- a bit that is read is the bit
bit_of : (n : ℕ) → n < 2 → bit (eqb n 1) ≡ n
bit_of zero l = refl
bit_of (suc zero) l = refl
bit_of (suc (suc n)) l = omega arith

-- what is known of a word once its kind is read and its spare bits are clear: the tag that its fields mean, or the memory word
abbrev pub MeansTag : Layout → ℕ → Tag → Type 0
MeansTag l w t = (tag_refused l w UnknownKind ≡ false) × (tag_refused l w SpareBits ≡ false) × (tag_in l w ≡ t)

abbrev pub MeansMem : Layout → ℕ → Mem → Type 0
MeansMem l w m = (mem_refused l w UnknownKind ≡ false) × (mem_refused l w SpareBits ≡ false) × (mem_in l w ≡ m)

held_read : (w h : ℕ) → h ≡ held_field w → eqb (held_field w) 1 ≡ eqb h 1
held_read w h e = ap (λ (x : ℕ). eqb x 1) (sym e)

link_read : (l : Layout) (n x : ℕ) (f : Option ℕ) → x ≡ n → f ≡ link_of l x → link_of l n ≡ f
link_read l n x f e d = ap (λ (y : ℕ). link_of l y) (sym e) ∙ sym d

-- from the numbers that were read from the fields
pub means_tag : (l : Layout) (w : ℕ) (k : Kind) (n g z h nf nb : ℕ) (f b : Option ℕ)
    → n ≡ kind_field w → Some k ≡ (if ltb 9 n then None else Some (kind_of n)) → g ≡ field 5 (link_width l - 5) w → g ≡ 0 → z ≡ w / 2 ^ (3 * link_width l) → z ≡ 0
    → h ≡ held_field w → nf ≡ forward_field l w → f ≡ link_of l nf → nb ≡ back_field l w → b ≡ link_of l nb
    → MeansTag l w (record { kind = k; held = eqb h 1; forw = f; back = b })
means_tag l w k n g z h nf nb f b en ek eg g0 ez z0 eh enf ef enb eb =
    let found = if_some (ltb 9 n) k (kind_of n) ek in
    let is_kind : kind_of (kind_field w) ≡ k = ap kind_of (sym en) ∙ found.1 in
    let is_held = held_read w h eh in
    let is_forw = link_read l (forward_field l w) nf f enf ef in
    let is_back = link_read l (back_field l w) nb b enb eb in
    (ap (ltb 9) (sym en) ∙ found.0, no_bits (field 5 (link_width l - 5) w) (w / 2 ^ (3 * link_width l)) (sym eg ∙ g0) (sym ez ∙ z0), λ i. record { kind = is_kind i; held = is_held i; forw = is_forw i; back = is_back i })

pub means_mem : (l : Layout) (w : ℕ) (s : MemState) (n g z h nf : ℕ) (f : Option ℕ)
    → n ≡ kind_field w → Some s ≡ (if ltb 2 n then None else Some (state_of n)) → g ≡ field 5 (link_width l - 5) w → g ≡ 0 → z ≡ w / 2 ^ (2 * link_width l) → z ≡ 0
    → h ≡ held_field w → nf ≡ forward_field l w → f ≡ link_of l nf
    → MeansMem l w (record { state = s; lent = eqb h 1; forw = f })
means_mem l w s n g z h nf f en es eg g0 ez z0 eh enf ef =
    let found = if_some (ltb 2 n) s (state_of n) es in
    let is_state : state_of (kind_field w) ≡ s = ap state_of (sym en) ∙ found.1 in
    let is_lent = held_read w h eh in
    let is_forw = link_read l (forward_field l w) nf f enf ef in
    (ap (ltb 2) (sym en) ∙ found.0, no_bits (field 5 (link_width l - 5) w) (w / 2 ^ (2 * link_width l)) (sym eg ∙ g0) (sym ez ∙ z0), λ i. record { state = is_state i; lent = is_lent i; forw = is_forw i })

-- what a check of it answers is the lowest refusal
pub tag_checked : (l : Layout) (w : ℕ) (t : Tag) (r : Result Unit WordRefusal) → MeansTag l w t → r ≡ checked (misses_link t) (has_unwanted_link t) (is_held_wrongly t) → result_err r ≡ tag_refusal_in l w
tag_checked l w t r h e =
    check_next (tag_refused l w) r h.0 h.1 (subst (λ (u : Tag). r ≡ checked (misses_link u) (has_unwanted_link u) (is_held_wrongly u)) (sym h.2) e)

pub mem_checked : (l : Layout) (w : ℕ) (m : Mem) (r : Result Unit WordRefusal) → MeansMem l w m → r ≡ checked (misses_head m) (has_unwanted_head m) false → result_err r ≡ mem_refusal_in l w
mem_checked l w m r h e =
    check_next (mem_refused l w) r h.0 h.1 (subst (λ (u : Mem). r ≡ checked (misses_head u) (has_unwanted_head u) false) (sym h.2) e)

-- its code is the word
pub tag_code_read : (l : Layout) (w k h f b g z : ℕ) → k ≡ kind_field w → g ≡ field 5 (link_width l - 5) w → g ≡ 0 → z ≡ w / 2 ^ (3 * link_width l) → z ≡ 0
    → h ≡ held_field w → f ≡ forward_field l w → b ≡ back_field l w → k + 2 ^ 4 * bit (eqb h 1) + 2 ^ link_width l * f + 2 ^ (2 * link_width l) * b ≡ w
tag_code_read One w k h f b g z ek eg g0 ez z0 eh ef eb = let c : bit (eqb h 1) ≡ h = bit_of h (omega (arith, eh)) in omega arith
tag_code_read Two w k h f b g z ek eg g0 ez z0 eh ef eb = let c : bit (eqb h 1) ≡ h = bit_of h (omega (arith, eh)) in omega arith

pub mem_code_read : (l : Layout) (w k h f g z : ℕ) → k ≡ kind_field w → g ≡ field 5 (link_width l - 5) w → g ≡ 0 → z ≡ w / 2 ^ (2 * link_width l) → z ≡ 0
    → h ≡ held_field w → f ≡ forward_field l w → k + 2 ^ 4 * bit (eqb h 1) + 2 ^ link_width l * f ≡ w
mem_code_read One w k h f g z ek eg g0 ez z0 eh ef = let c : bit (eqb h 1) ≡ h = bit_of h (omega (arith, eh)) in omega arith
mem_code_read Two w k h f g z ek eg g0 ez z0 eh ef = let c : bit (eqb h 1) ≡ h = bit_of h (omega (arith, eh)) in omega arith

-- a code is not refused
ltb_kind : (k : Kind) → ltb 9 (kind_number k) ≡ false
ltb_kind Invalid = refl
ltb_kind Queued = refl
ltb_kind Fresh = refl
ltb_kind Dirty = refl
ltb_kind Convert = refl
ltb_kind Purging = refl
ltb_kind Leaving = refl
ltb_kind Valid = refl
ltb_kind Roll = refl
ltb_kind Purged = refl

two_parts : (a b : Bool) → (a && b) ≡ true → (a ≡ true) × (b ≡ true)
two_parts true b h = (refl, h)
two_parts false b h = cc

tag_not_refused : (l : Layout) (t : Tag) → fits_tag_in l t ≡ true → tag_refusal_in l (tag_code_in l t) ≡ None
tag_not_refused l t fits =
    let w : ℕ = tag_code_in l t in
    let a = two_parts (tag_well_formed t) (tag_links_below (no_link l) t) fits in
    let p = tag_fields_of_code l t a.1 in
    let n = none_of (misses_link t) (has_unwanted_link t) (is_held_wrongly t) a.0 in
    let e = tag_in-code l t a.1 in
    none_applies (tag_refused l w) (ap (ltb 9) p.0 ∙ ltb_kind t.kind) (no_bits (field 5 (link_width l - 5) w) (w / 2 ^ (3 * link_width l)) p.4 p.5)
    (ap misses_link e ∙ n.0) (ap has_unwanted_link e ∙ n.1) (ap is_held_wrongly e ∙ n.2)

ltb_state : (s : MemState) → ltb 2 (state_number s) ≡ false
ltb_state MemState.Home = refl
ltb_state MemState.Fresh = refl
ltb_state MemState.Gone = refl

neither_of : (m l : Bool) → (not m && not l) ≡ true → (m ≡ false) × (l ≡ false)
neither_of true l e = cc
neither_of false true e = cc
neither_of false false e = (refl, refl)

mem_not_refused : (l : Layout) (m : Mem) → fits_mem_in l m ≡ true → mem_refusal_in l (mem_code_in l m) ≡ None
mem_not_refused l m fits =
    let w : ℕ = mem_code_in l m in
    let a = two_parts (mem_well_formed m) (mem_links_below (no_link l) m) fits in
    let p = mem_fields_of_code l m a.1 in
    let n = neither_of (misses_head m) (has_unwanted_head m) a.0 in
    let e = mem_in-code l m a.1 in
    none_applies (mem_refused l w) (ap (ltb 2) p.0 ∙ ltb_state m.state) (no_bits (field 5 (link_width l - 5) w) (w / 2 ^ (2 * link_width l)) p.3 p.4)
    (ap misses_head e ∙ n.0) (ap has_unwanted_head e ∙ n.1) refl

-- what is read of a code is its word
pub tag_of_code : (l : Layout) (w : ℕ) (r : Result Tag WordRefusal) → result_err r ≡ tag_refusal_in l w → IfOk r (λ t. tag_code_in l t ≡ w) → IfOk r (λ t. fits_tag_in l t ≡ true)
    → (t : Tag) → fits_tag_in l t ≡ true → tag_code_in l t ≡ w → r ≡ Ok t
tag_of_code l w (Ok u) e c k t h d = ap Ok (one_tag l u t (two_parts (tag_well_formed u) (tag_links_below (no_link l) u) k).1 (two_parts (tag_well_formed t) (tag_links_below (no_link l) t) h).1 (c ∙ sym d))
tag_of_code l w (Err x) e c k t h d = absurd (some_not_none x (e ∙ ap (tag_refusal_in l) (sym d) ∙ tag_not_refused l t h))

pub mem_of_code : (l : Layout) (w : ℕ) (r : Result Mem WordRefusal) → result_err r ≡ mem_refusal_in l w → IfOk r (λ m. mem_code_in l m ≡ w) → IfOk r (λ m. fits_mem_in l m ≡ true)
    → (m : Mem) → fits_mem_in l m ≡ true → mem_code_in l m ≡ w → r ≡ Ok m
mem_of_code l w (Ok u) e c k m h d = ap Ok (one_mem l u m (two_parts (mem_well_formed u) (mem_links_below (no_link l) u) k).1 (two_parts (mem_well_formed m) (mem_links_below (no_link l) m) h).1 (c ∙ sym d))
mem_of_code l w (Err x) e c k m h d = absurd (some_not_none x (e ∙ ap (mem_refusal_in l) (sym d) ∙ mem_not_refused l m h))
