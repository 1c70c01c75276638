-- What stands in front of the first word, from one byte to the next.
use mir.Val.{bool_byte}
use Rattle.std.proofs.Common.{◌≤◌, take, get_or, ◌≡◌, ◌≢◌, ◌⊎◌, ℕ, ◌+◌, ◌<◌, Bool, true, false, eqb, List, [], ◌∷◌, ◌++◌, length, codes, Option, None, Some, MatchOption, refl, sym, ap, ◌∙◌, append_assoc, append-nil, length-append, arith, subst, inl, inr, if◌then◌else◌, ◌==◌}
use Rattle.std.specs.List.{list_all}
use Rattle.std.specs.Str.Lines.{lines, strip_carriage_return}
use Rattle.std.proofs.lemmas.Bool.{eqb-true}
use Rattle.std.proofs.lemmas.List.{take_more}
use Rattle.std.proofs.lemmas.List.Elements.{All-cons, All-nil, All-append}
use Rattle.sci_script.specs.Words.{is_blank, is_skipped}
use Rattle.sci_script.specs.Format.{entries_from}
use Rattle.sci_serve.specs.Kinds.{AreSkipped, ends_word, first_word}
use Rattle.sci_serve.specs.Gathered.{IsBefore, IsSaid, StandsAt}
use Rattle.sci_serve.specs.declared.kinds.Place.{Place}
use Rattle.sci_serve.specs.declared.kinds.Place.TheVariants.{Start, Blank, Comment}
use Rattle.sci_script.proofs.Lines.{lines_at}
use Rattle.sci_script.proofs.Reading.{entries_skip}
use Rattle.sci_serve.proofs.Skipping.{ends_skipped, goes_on, said_blank, said_start}

-- a line that ends there is one more that is skipped
line_skipped : (place : Place) (line : List ℕ) → IsBefore place line → AreSkipped 1 (line ++ 10 ∷ [])
line_skipped place line h n text =
    ap (λ (l : List ℕ). entries_from n (lines l)) (append_assoc line (10 ∷ []) text) ∙ ap (entries_from n) (lines_at line text (goes_on place line h))
    ∙ entries_skip n (strip_carriage_return line) (lines text) (is_skipped (strip_carriage_return line)) refl (ends_skipped place line h)

skipped_both : (a b : ℕ) (xs ys : List ℕ) → AreSkipped a xs → AreSkipped b ys → AreSkipped (a + b) (xs ++ ys)
skipped_both a b xs ys h k n text =
    ap (λ (l : List ℕ). entries_from n (lines l)) (append_assoc xs ys text) ∙ h n (ys ++ text) ∙ k (n + a) text
    ∙ ap (λ (m : ℕ). entries_from m (lines text)) (omega arith)

-- ---- no history begins so

Other : List ℕ → Type 0
Other text = first_word text ≢ codes "scihistory"

ends_other : (b : ℕ) → ends_word b ≡ true → (text : List ℕ) → first_word (b ∷ text) ≢ codes "scihistory"
ends_other b ends text e = let none : first_word (b ∷ text) ≡ [] = rw ends refl in absurd (cc)

mark_other : (text : List ℕ) → first_word (35 ∷ text) ≢ codes "scihistory"
mark_other text e = absurd (cc)

other_more : (silent : List ℕ) (b : ℕ) → (0 < length silent) ⊎ ((text : List ℕ) → first_word (b ∷ text) ≢ codes "scihistory") → (0 < length silent → (text : List ℕ) → first_word (silent ++ text) ≢ codes "scihistory")
    → (text : List ℕ) → first_word ((silent ++ b ∷ []) ++ text) ≢ codes "scihistory"
other_more [] b (inl some) h text = absurd (omega arith)
other_more [] b (inr first) h text = first text
other_more (c ∷ silent) b first h text = subst (λ (l : List ℕ). first_word l ≢ codes "scihistory") (sym (append_assoc (c ∷ silent) (b ∷ []) text)) (h (omega arith) (b ∷ text))

-- ---- the place behind a byte

stands_on : (place next : Place) (byte : ℕ) (silent : List ℕ) (count : ℕ) → eqb byte 10 ≡ false → ((line : List ℕ) → IsBefore place line → IsBefore next (line ++ byte ∷ []))
    → (0 < length silent) ⊎ ((text : List ℕ) → first_word (byte ∷ text) ≢ codes "scihistory") → StandsAt place silent count → StandsAt next (silent ++ byte ∷ []) (count + (if byte == 10 then 1 else 0))
stands_on place next byte silent count end goes first h = record {
  whole = h.whole;
  line = h.line ++ byte ∷ [];
  is = ap (λ (l : List ℕ). l ++ byte ∷ []) h.is ∙ append_assoc h.whole h.line (byte ∷ []);
  skipped = subst (λ (m : ℕ). AreSkipped m h.whole) (rw end (omega arith)) h.skipped;
  before = goes h.line h.before;
  other = λ _. other_more silent byte first h.other;
}

-- ended there, they are one line more
pub end_skipped : (place : Place) (silent : List ℕ) (count : ℕ) → StandsAt place silent count → AreSkipped (count + 1) (silent ++ 10 ∷ [])
end_skipped place silent count h =
    let joined : silent ++ 10 ∷ [] ≡ h.whole ++ (h.line ++ 10 ∷ []) = ap (λ (l : List ℕ). l ++ 10 ∷ []) h.is ∙ append_assoc h.whole h.line (10 ∷ []) in
    subst (AreSkipped (count + 1)) (sym joined) (skipped_both count 1 h.whole (h.line ++ 10 ∷ []) h.skipped (line_skipped place h.line h.before))

pub stands_end : (place : Place) (byte : ℕ) → eqb byte 10 ≡ true → (silent : List ℕ) (count : ℕ) → StandsAt place silent count → StandsAt Start (silent ++ byte ∷ []) (count + (if byte == 10 then 1 else 0))
stands_end place byte end silent count h =
    let is : byte ≡ 10 = eqb-true byte 10 end in
    rw is
    (record {
      whole = silent ++ 10 ∷ [];
      line = [];
      is = sym (append-nil (silent ++ 10 ∷ []));
      skipped = end_skipped place silent count h;
      before = refl;
      other = λ _. other_more silent 10 (inr (ends_other 10 refl)) h.other;
    })

-- within a comment, behind its mark
comment_some : (silent : List ℕ) (count : ℕ) → StandsAt Comment silent count → 0 < length silent
comment_some silent count h = omega (arith, ap length h.is, length-append h.whole h.line, ap length h.before.1)

comment_more : (byte : ℕ) → eqb byte 10 ≡ false → (line : List ℕ) → IsBefore Comment line → IsBefore Comment (line ++ byte ∷ [])
comment_more byte end line h = (
  h.0 ++ byte ∷ [],
  ap (λ (l : List ℕ). l ++ byte ∷ []) h.1,
  All-append (λ (b : ℕ). eqb b 10 ≡ false) h.0 (byte ∷ []) h.2 (All-cons (λ (b : ℕ). eqb b 10 ≡ false) byte [] end (All-nil (λ (b : ℕ). eqb b 10 ≡ false))),
)

pub stands_comment : (byte : ℕ) → eqb byte 10 ≡ false → (silent : List ℕ) (count : ℕ) → StandsAt Comment silent count → StandsAt Comment (silent ++ byte ∷ []) (count + (if byte == 10 then 1 else 0))
stands_comment byte end silent count h = stands_on Comment Comment byte silent count end (comment_more byte end) (inl (comment_some silent count h)) h

mark_before : (line : List ℕ) → IsBefore Start line → IsBefore Comment (line ++ 35 ∷ [])
mark_before line h = ([], rw h refl, All-nil (λ (b : ℕ). eqb b 10 ≡ false))

pub stands_mark : (byte : ℕ) → eqb byte 35 ≡ true → (silent : List ℕ) (count : ℕ) → StandsAt Start silent count → StandsAt Comment (silent ++ byte ∷ []) (count + (if byte == 10 then 1 else 0))
stands_mark byte mark silent count h =
    rw (eqb-true byte 35 mark) (stands_on Start Comment 35 silent count refl mark_before (inr mark_other) h)

-- what a byte behind blanks alone comes to
abbrev pub BehindBlanks : ℕ → Option Place → Type 0
BehindBlanks byte found = MatchOption found ((is_blank byte ≡ false) × (eqb byte 13 ≡ false))
    (λ next. (ends_word byte ≡ true) × ((line : List ℕ) → list_all is_blank line ≡ true → IsBefore next (line ++ byte ∷ [])))

abbrev pub LeadsTo : Place → ℕ → Option Place → Type 0
LeadsTo place byte found = MatchOption found (IsSaid place byte)
    (λ next. (silent : List ℕ) → (count : ℕ) → StandsAt place silent count → StandsAt next (silent ++ byte ∷ []) (count + (if byte == 10 then 1 else 0)))

abbrev HasBlanks : Place → Type 0
HasBlanks place = (line : List ℕ) → IsBefore place line → list_all is_blank line ≡ true

found_blanks : (place : Place) (byte : ℕ) (found : Option Place) → eqb byte 10 ≡ false → HasBlanks place → (is_blank byte ≡ false → eqb byte 13 ≡ false → IsSaid place byte) → BehindBlanks byte found
    → LeadsTo place byte found
found_blanks place byte None end blanks said h = said h.0 h.1
found_blanks place byte (Some next) end blanks said h =
    λ silent count at. stands_on place next byte silent count end (λ line before. h.1 line (blanks line before)) (inr (ends_other byte h.0)) at

pub start_found : (byte : ℕ) (found : Option Place) → eqb byte 10 ≡ false → eqb byte 35 ≡ false → BehindBlanks byte found → LeadsTo Start byte found
start_found byte found end mark h = found_blanks Start byte found end (λ line before. rw before refl) (λ other return. said_start byte end other return mark) h

pub blank_found : (byte : ℕ) (found : Option Place) → eqb byte 10 ≡ false → BehindBlanks byte found → LeadsTo Blank byte found
blank_found byte found end h = found_blanks Blank byte found end (λ line before. before.1) (λ other return. said_blank byte end other return) h

-- ---- the place behind the next byte of these

byte_is : (b : Bool) → bool_byte b ≡ (if b then 1 else 0)
byte_is true = refl
byte_is false = refl

byte_most : (b : Bool) → bool_byte b ≤ 1
byte_most true = omega arith
byte_most false = omega arith

pub most_one : (add : ℕ) (b : Bool) → add ≡ bool_byte b → add ≤ 1
most_one add b e = rw e (byte_most b)

pub stands_next : (place next : Place) (silent bytes : List ℕ) (at count add : ℕ) → at < length bytes → add ≡ bool_byte (eqb (get_or bytes at 0) 10)
    → ((s : List ℕ) → (n : ℕ) → StandsAt place s n → StandsAt next (s ++ get_or bytes at 0 ∷ []) (n + (if get_or bytes at 0 == 10 then 1 else 0)))
    → StandsAt place (silent ++ take at bytes) count → StandsAt next (silent ++ take (at + 1) bytes) (count + add)
stands_next place next silent bytes at count add inside is goes h =
    let joined : (silent ++ take at bytes) ++ get_or bytes at 0 ∷ [] ≡ silent ++ take (at + 1) bytes =
    append_assoc silent (take at bytes) (get_or bytes at 0 ∷ []) ∙ ap (λ (l : List ℕ). silent ++ l) (sym (take_more bytes at 0 inside)) in
    let many : count + (if get_or bytes at 0 == 10 then 1 else 0) ≡ count + add = ap (λ (m : ℕ). count + m) (sym (is ∙ byte_is (eqb (get_or bytes at 0) 10))) in
    subst (λ (l : List ℕ). StandsAt next l (count + add)) joined
    (subst (λ (m : ℕ). StandsAt next ((silent ++ take at bytes) ++ get_or bytes at 0 ∷ []) m) many (goes (silent ++ take at bytes) count h))
