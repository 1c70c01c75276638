-- The lines of what a command prints, and of the answer with it.
use Rattle.std.proofs.Common.{◌≡◌, ℕ, zero, suc, ◌+◌, ◌-◌, ◌<◌, ◌||◌, ◌≢◌, Bool, true, false, true≢false, not, eqb, eq-eqb, ltb, lt-ltb, All, List, [], ◌∷◌, ◌++◌, length, length-append, get_or, slice_index, take, codes, bytes_eq, flat_map, refl, sym, ap, ap₂, subst, ◌∙◌, append_assoc, arith, if◌then◌else◌}
use Rattle.std.specs.List.{list_all, list_any}
use Rattle.std.specs.Io.BufRead.{take_through, drop_through, ends_with_byte}
use Rattle.std.specs.Str.Lines.{lines, strip_carriage_return}
use Rattle.std.proofs.BufReadLemmas.{drop_through-append, take_through-append}
use Rattle.std.proofs.lemmas.Bool.{and_from, and_parts, or_from}
use Rattle.std.proofs.lemmas.List.Folds.{list_any-append}
use Rattle.std.proofs.lemmas.Grind.{flat_map-append}
use Rattle.sci_dump.proofs.FieldsBack.{whole_front}
use Rattle.sci_script.proofs.Lines.{lines_at}
use Rattle.sci_logs.specs.Streams.{without_end}
use Rattle.sci_laws.specs.Accepted.{unless_ok, without_ok, is_refusal, refuses}
use Rattle.sci_laws.specs.ReadBack.{IsPlain, is_kept}
use Rattle.sci_laws.proofs.Plain.{Each, ended_line, AreOwn}

un_not : (x : Bool) → not x ≡ true → x ≡ false
un_not true h = absurd (cc)
un_not false h = refl

kept_byte : (b : ℕ) → is_kept b ≡ true → (eqb b 10 ≡ false) × (eqb b 13 ≡ false)
kept_byte b k = let q = and_parts (not (eqb b 10)) (not (eqb b 13)) k in (un_not (eqb b 10) q.0, un_not (eqb b 13) q.1)

plain_parts : (b : ℕ) (bytes : List ℕ) → IsPlain (b ∷ bytes) → (is_kept b ≡ true) × IsPlain bytes
plain_parts b bytes p = and_parts (is_kept b) (list_all is_kept bytes) p

-- plain bytes in front of a line feed are a line
feed_at : (bytes : List ℕ) → IsPlain bytes → (i d : ℕ) → i < length bytes → eqb (get_or bytes i d) 10 ≡ false
feed_at [] p i d lt = absurd (omega (arith, lt))
feed_at (b ∷ bytes) p zero d lt = (kept_byte b (plain_parts b bytes p).0).0
feed_at (b ∷ bytes) p (suc i) d lt = feed_at bytes (plain_parts b bytes p).1 i d (omega (arith, lt))

return_at : (bytes : List ℕ) (i : ℕ) → IsPlain bytes → eqb (slice_index bytes i) 13 ≡ false
return_at [] i p = refl
return_at (b ∷ bytes) zero p = (kept_byte b (plain_parts b bytes p).0).1
return_at (b ∷ bytes) (suc i) p = return_at bytes i (plain_parts b bytes p).1

if_not : (b : Bool) (x y : List ℕ) → b ≡ false → (if b then x else y) ≡ y
if_not true x y h = absurd (cc)
if_not false x y h = refl

stays : (line : List ℕ) → IsPlain line → strip_carriage_return line ≡ line
stays line p = if_not (eqb (slice_index line (length line - 1)) 13) (take (length line - 1) line) line (return_at line (length line - 1) p)

pub first_line : (line rest : List ℕ) → IsPlain line → lines ((line ++ codes "\n") ++ rest) ≡ line ∷ lines rest
first_line line rest p =
    ap lines (append_assoc line (codes "\n") rest) ∙ lines_at line rest (feed_at line p) ∙ ap (λ (l : List ℕ). l ∷ lines rest) (stays line p)

own_lines : (own : List (List ℕ)) (rest : List ℕ) → Each own → lines (flat_map ended_line own ++ rest) ≡ own ++ lines rest
own_lines [] rest each = refl
own_lines (line ∷ own) rest each =
    ap lines (append_assoc (ended_line line) (flat_map ended_line own) rest) ∙ first_line line (flat_map ended_line own ++ rest) each.0.0 ∙ ap (λ (l : List (List ℕ)). line ∷ l) (own_lines own rest each.1)

keeps : (line : List ℕ) → bytes_eq line (codes "ok") ≡ false → unless_ok line ≡ ended_line line
keeps line h = rw h refl

kept_own : (own : List (List ℕ)) → Each own → flat_map unless_ok own ≡ flat_map ended_line own
kept_own [] each = refl
kept_own (line ∷ own) each = ap₂ (λ (a b : List ℕ). a ++ b) (keeps line each.0.1) (kept_own own each.1)

none_refuses : (own : List (List ℕ)) → Each own → list_any is_refusal own ≡ false
none_refuses [] each = refl
none_refuses (line ∷ own) each = or_from (is_refusal line) (list_any is_refusal own) each.0.2 (none_refuses own each.1)

-- the lines of an answer, and those behind it
answer_lines : (own : List (List ℕ)) (rest : List ℕ) → Each own → lines ((flat_map ended_line own ++ codes "ok\n") ++ rest) ≡ own ++ (codes "ok" ∷ lines rest)
answer_lines own rest each =
    ap lines (append_assoc (flat_map ended_line own) (codes "ok\n") rest) ∙ own_lines own (codes "ok\n" ++ rest) each ∙ ap (λ (l : List (List ℕ)). own ++ l) (first_line (codes "ok") rest refl)

without_answer : (own : List (List ℕ)) (rest : List ℕ) → Each own → without_ok ((flat_map ended_line own ++ codes "ok\n") ++ rest) ≡ flat_map ended_line own ++ without_ok rest
without_answer own rest each =
    ap (flat_map unless_ok) (answer_lines own rest each) ∙ flat_map-append unless_ok own (codes "ok" ∷ lines rest) ∙ ap (λ (l : List ℕ). l ++ without_ok rest) (kept_own own each)

pub without_more : (printed rest : List ℕ) → AreOwn printed → without_ok ((printed ++ codes "ok\n") ++ rest) ≡ printed ++ without_ok rest
without_more printed rest (own, each, is) = subst (λ (l : List ℕ). without_ok ((l ++ codes "ok\n") ++ rest) ≡ l ++ without_ok rest) (sym is) (without_answer own rest each)

pub refuses_more : (printed rest : List ℕ) → AreOwn printed → refuses ((printed ++ codes "ok\n") ++ rest) ≡ refuses rest
refuses_more printed rest (own, each, is) =
    subst (λ (l : List ℕ). refuses ((l ++ codes "ok\n") ++ rest) ≡ refuses rest) (sym is)
    (ap (list_any is_refusal) (answer_lines own rest each) ∙ list_any-append is_refusal own (codes "ok" ∷ lines rest) ∙ ap (λ (b : Bool). b || refuses rest) (none_refuses own each))

-- a plain line in front of more, as a reader up to its line feed has it
no_feed : (line : List ℕ) → IsPlain line → All (λ (b : ℕ). b ≢ 10) line
no_feed line p = λ i d low e. true≢false (sym (eq-eqb (get_or line i d) 10 e) ∙ feed_at line p i d low)

pub first_through : (line rest : List ℕ) → IsPlain line → take_through 10 ((line ++ codes "\n") ++ rest) ≡ line ++ codes "\n"
first_through line rest p = ap (take_through 10) (append_assoc line (codes "\n") rest) ∙ take_through-append 10 line (codes "\n" ++ rest) (no_feed line p)

pub rest_through : (line rest : List ℕ) → IsPlain line → drop_through 10 ((line ++ codes "\n") ++ rest) ≡ rest
rest_through line rest p = ap (drop_through 10) (append_assoc line (codes "\n") rest) ∙ drop_through-append 10 line (codes "\n" ++ rest) (no_feed line p)

last_byte : (line : List ℕ) (b : ℕ) → slice_index (line ++ b ∷ []) (length line) ≡ b
last_byte [] b = refl
last_byte (x ∷ line) b = last_byte line b

if_so : (b : Bool) (x y : List ℕ) → b ≡ true → (if b then x else y) ≡ x
if_so true x y h = refl
if_so false x y h = absurd (cc)

pub whole_line : (line : List ℕ) → IsPlain line → without_end (line ++ codes "\n") ≡ line
whole_line line p =
    let all = line ++ codes "\n" in
    let long = length-append line (codes "\n") in
    let n : length all - 1 ≡ length line = omega (arith, long) in
    let last : eqb (slice_index all (length all - 1)) 10 ≡ true = eq-eqb (slice_index all (length all - 1)) 10 (ap (slice_index all) n ∙ last_byte line 10) in
    let ends : ends_with_byte 10 all ≡ true = and_from (ltb 0 (length all)) (eqb (slice_index all (length all - 1)) 10) (lt-ltb 0 (length all) (omega (arith, long))) last in
    if_so (ends_with_byte 10 all) (strip_carriage_return (take (length all - 1) all)) all ends
    ∙ ap (λ (k : ℕ). strip_carriage_return (take k all)) n ∙ ap strip_carriage_return (whole_front line (codes "\n")) ∙ stays line p
