-- Which lines are skipped, by what stands in front of a place in them.
use Rattle.std.proofs.Common.{◌≡◌, ℕ, suc, ◌-◌, Bool, true, false, cond, ◌||◌, eqb, List, [], ◌∷◌, ◌++◌, All, length, get_or, take, refl, sym, ap, ◌∙◌, append_assoc, append-nil, arith, subst}
use Rattle.std.specs.List.{list_all}
use Rattle.std.specs.Str.Lines.{strip_carriage_return}
use Rattle.std.proofs.lemmas.Bool.{and_left, and_parts, and_right}
use Rattle.std.proofs.lemmas.Bool.Decides.{nat_tests}
use Rattle.std.proofs.lemmas.List.Elements.{All-cons, All-nil, All-append}
use Rattle.sci_script.specs.Words.{is_blank, is_skipped}
use Rattle.sci_serve.specs.Gathered.{IsBefore, IsSaid}
use Rattle.sci_serve.specs.declared.kinds.Place.{Place}
use Rattle.sci_serve.specs.declared.kinds.Place.TheVariants.{Start, Blank, Comment, Return}

or_none : (a b : Bool) → a ≡ false → b ≡ false → (a || b) ≡ false
or_none true b e f = e
or_none false b e f = f

or_second : (a b : Bool) → b ≡ true → (a || b) ≡ true
or_second true b e = refl
or_second false b e = e

blank_goes_on : (b : ℕ) → is_blank b ≡ true → eqb b 10 ≡ false
blank_goes_on b h = grind (arith, nat_tests)

blank_no_return : (b : ℕ) → is_blank b ≡ true → eqb b 13 ≡ false
blank_no_return b h = grind (arith, nat_tests)

blank_no_mark : (b : ℕ) → is_blank b ≡ true → eqb b 35 ≡ false
blank_no_mark b h = grind (arith, nat_tests)

-- ---- a carriage return at the end of a line

at_last : (line : List ℕ) (n : ℕ) → length line - 1 ≡ n → strip_carriage_return line ≡ cond (eqb (get_or line n 0) 13) (take n line) line
at_last line n e = ap (λ (k : ℕ). cond (eqb (get_or line k 0) 13) (take k line) line) e

onto : (b : ℕ) (t : Bool) (x y : List ℕ) → cond t (b ∷ x) (b ∷ y) ≡ b ∷ cond t x y
onto b true x y = refl
onto b false x y = refl

pub strip_one : (b : ℕ) → strip_carriage_return (b ∷ []) ≡ cond (eqb b 13) [] (b ∷ [])
strip_one b = at_last (b ∷ []) 0 (omega arith)

pub strip_more : (b c : ℕ) (line : List ℕ) → strip_carriage_return (b ∷ (c ∷ line)) ≡ b ∷ strip_carriage_return (c ∷ line)
strip_more b c line =
    at_last (b ∷ (c ∷ line)) (suc (length line)) (omega arith) ∙ onto b (eqb (get_or (c ∷ line) (length line) 0) 13) (take (length line) (c ∷ line)) (c ∷ line)
    ∙ ap (λ (l : List ℕ). b ∷ l) (sym (at_last (c ∷ line) (length line) (omega arith)))

pub strip_behind : (front : List ℕ) (b : ℕ) (more : List ℕ) → strip_carriage_return (front ++ b ∷ more) ≡ front ++ strip_carriage_return (b ∷ more)
strip_behind [] b more = refl
strip_behind (f ∷ []) b more = strip_more f b more
strip_behind (f ∷ (g ∷ front)) b more = strip_more f g (front ++ b ∷ more) ∙ ap (λ (l : List ℕ). f ∷ l) (strip_behind (g ∷ front) b more)

blanks_stay : (line : List ℕ) → list_all is_blank line ≡ true → strip_carriage_return line ≡ line
blanks_stay [] h = refl
blanks_stay (b ∷ []) h = strip_one b ∙ rw (blank_no_return b (and_parts (is_blank b) true h).0) refl
blanks_stay (b ∷ (c ∷ line)) h =
    strip_more b c line ∙ ap (λ (l : List ℕ). b ∷ l) (blanks_stay (c ∷ line) (and_parts (is_blank b) (list_all is_blank (c ∷ line)) h).1)

return_goes : (line : List ℕ) → strip_carriage_return (line ++ 13 ∷ []) ≡ line
return_goes line = strip_behind line 13 [] ∙ ap (λ (l : List ℕ). line ++ l) (strip_one 13) ∙ append-nil line

-- ---- lines that are skipped

blanks_go_on : (line : List ℕ) → list_all is_blank line ≡ true → All (λ b. eqb b 10 ≡ false) line
blanks_go_on [] h = All-nil (λ (b : ℕ). eqb b 10 ≡ false)
blanks_go_on (b ∷ line) h =
    let (here, more) = and_parts (is_blank b) (list_all is_blank line) h in
    All-cons (λ (x : ℕ). eqb x 10 ≡ false) b line (blank_goes_on b here) (blanks_go_on line more)

-- no line ends in front of a place
pub goes_on : (place : Place) (line : List ℕ) → IsBefore place line → All (λ b. eqb b 10 ≡ false) line
goes_on Start line h = subst (All (λ (b : ℕ). eqb b 10 ≡ false)) (sym h) (All-nil (λ (b : ℕ). eqb b 10 ≡ false))
goes_on Blank line h = blanks_go_on line h.1
goes_on Comment line h = subst (All (λ (b : ℕ). eqb b 10 ≡ false)) (sym h.1) (All-cons (λ (x : ℕ). eqb x 10 ≡ false) 35 h.0 refl h.2)
goes_on Return line h =
    let P = λ (b : ℕ). eqb b 10 ≡ false in
    subst (All P) (sym h.1) (All-append P h.0 (13 ∷ []) (blanks_go_on h.0 h.2) (All-cons P 13 [] refl (All-nil P)))

blanks_skipped : (line : List ℕ) → list_all is_blank line ≡ true → is_skipped line ≡ true
blanks_skipped line h = or_second (eqb (get_or line 0 0) 35) (list_all is_blank line) h

comment_stays : (more : List ℕ) → is_skipped (strip_carriage_return (35 ∷ more)) ≡ true
comment_stays [] = refl
comment_stays (b ∷ more) = ap is_skipped (strip_more 35 b more)

-- a line that ends there is skipped
pub ends_skipped : (place : Place) (line : List ℕ) → IsBefore place line → is_skipped (strip_carriage_return line) ≡ true
ends_skipped Start line h = rw h refl
ends_skipped Blank line h = ap is_skipped (blanks_stay line h.1) ∙ blanks_skipped line h.1
ends_skipped Comment line h = rw h.1 (comment_stays h.0)
ends_skipped Return line h = ap (λ (l : List ℕ). is_skipped (strip_carriage_return l)) h.1 ∙ ap is_skipped (return_goes h.0) ∙ blanks_skipped h.0 h.2

-- ---- lines that are not

all_stops : (front : List ℕ) (b : ℕ) (more : List ℕ) → is_blank b ≡ false → list_all is_blank (front ++ b ∷ more) ≡ false
all_stops [] b more h = and_left (is_blank b) (list_all is_blank more) h
all_stops (f ∷ front) b more h = and_right (is_blank f) (list_all is_blank (front ++ b ∷ more)) (all_stops front b more h)

behind_said : (front : List ℕ) (b : ℕ) (more : List ℕ) → list_all is_blank front ≡ true → is_blank b ≡ false → (length front ≡ 0 → eqb b 35 ≡ false) → is_skipped (front ++ b ∷ more) ≡ false
behind_said [] b more blanks other mark = or_none (eqb b 35) (list_all is_blank (b ∷ more)) (mark refl) (all_stops [] b more other)
behind_said (f ∷ front) b more blanks other mark =
    or_none (eqb f 35) (list_all is_blank (f ∷ (front ++ b ∷ more))) (blank_no_mark f (and_parts (is_blank f) (list_all is_blank front) blanks).0) (all_stops (f ∷ front) b more other)

-- more stands behind the byte, or it is no carriage return
strip_said : (front : List ℕ) (b c : ℕ) (more : List ℕ) → list_all is_blank front ≡ true → is_blank b ≡ false → (length front ≡ 0 → eqb b 35 ≡ false)
    → is_skipped (strip_carriage_return (front ++ b ∷ (c ∷ more))) ≡ false
strip_said front b c more blanks other mark =
    ap is_skipped (strip_behind front b (c ∷ more) ∙ ap (λ (l : List ℕ). front ++ l) (strip_more b c more)) ∙ behind_said front b (strip_carriage_return (c ∷ more)) blanks other mark

both_said : (front : List ℕ) (b : ℕ) (more : List ℕ) → list_all is_blank front ≡ true → is_blank b ≡ false → (length front ≡ 0 → eqb b 35 ≡ false) → eqb b 13 ≡ false
    → (is_skipped (front ++ b ∷ more) ≡ false) × (is_skipped (strip_carriage_return (front ++ b ∷ more)) ≡ false)
both_said front b [] blanks other mark return =
    let whole : strip_carriage_return (b ∷ []) ≡ b ∷ [] = strip_one b ∙ rw return refl in
    let said = behind_said front b [] blanks other mark in
    (said, ap is_skipped (strip_behind front b [] ∙ ap (λ (l : List ℕ). front ++ l) whole) ∙ said)
both_said front b (c ∷ more) blanks other mark return = (behind_said front b (c ∷ more) blanks other mark, strip_said front b c more blanks other mark)

pub said_start : (b : ℕ) → eqb b 10 ≡ false → is_blank b ≡ false → eqb b 13 ≡ false → eqb b 35 ≡ false → IsSaid Start b
said_start b end other return mark = (end, λ line more is. rw is (both_said [] b more refl other (λ _. mark) return))

pub said_blank : (b : ℕ) → eqb b 10 ≡ false → is_blank b ≡ false → eqb b 13 ≡ false → IsSaid Blank b
said_blank b end other return = (end, λ line more h. both_said line b more h.1 other (λ e. absurd (omega (arith, e, h.0))) return)

pub said_return : (b : ℕ) → eqb b 10 ≡ false → IsSaid Return b
said_return b end = (
  end,
  λ line more h.
      let is : line ++ b ∷ more ≡ h.0 ++ 13 ∷ (b ∷ more) = ap (λ (l : List ℕ). l ++ b ∷ more) h.1 ∙ append_assoc h.0 (13 ∷ []) (b ∷ more) in
      rw is (behind_said h.0 13 (b ∷ more) h.2 refl (λ _. refl), strip_said h.0 13 b more h.2 refl (λ _. refl)),
)
