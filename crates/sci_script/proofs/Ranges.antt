-- The numbers of a line, word by word.
use Rattle.std.proofs.Common.{◌≡◌, ℕ, suc, ◌+◌, ◌-◌, ◌<◌, ◌≤◌, ◌&&◌, ◌∷◌, ◌++◌, List, [], length, get_or, set, take, drop, map, replicate, true, false, Bool, nat_le, Option, Some, None, unwrap_or, if◌then◌else◌, refl, sym, ap, subst, ◌∙◌, arith}
use Rattle.std.proofs.Math.Seq.{take-length}
use Rattle.std.proofs.lemmas.Bool.Decides.{nat_tests}
use Rattle.std.proofs.lemmas.List.{append_assoc, drop_more, drop_all, drop-map, get_or_append_left, get_or-map, length-map, length-take-le, map-append, set_at, take_more}
use Rattle.sci_script.specs.declared.commands.Size.{Size}
use Rattle.sci_script.specs.declared.reasons.Reason.{Reason}
use Rattle.sci_script.specs.declared.verbs.Argument.{Argument}
use Rattle.sci_script.specs.Grammar.{AreFrom, at, is_within, number_reason, numbers_of, range_of, range_reason, value_of}
use Rattle.sci_script.specs.Words.{number_of}

drop_map_more : {X Y : Type 0} (f : X → Y) (xs : List X) (i : ℕ) (d : X) → i < length xs → drop i (map f xs) ≡ f (get_or xs i d) ∷ drop (i + 1) (map f xs)
drop_map_more {X} {Y} f xs i d lt =
    drop-map f i xs ∙ ap (λ (l : List X). map f l) (drop_more xs i d lt) ∙ ap (λ (l : List Y). f (get_or xs i d) ∷ l) (sym (drop-map f (i + 1) xs))

-- a word in its range is gone past
pub number_goes_on : (k : ℕ) (size : Size) (argument : Argument) (wanted : List Argument) (word : List ℕ) (words : List (List ℕ)) → is_within (range_of size argument) (number_of word) ≡ true
    → number_reason k size (argument ∷ wanted) (word ∷ words) ≡ number_reason (k + 1) size wanted words
unfolding number_reason
number_goes_on k size argument wanted word words within = rw within refl

pub number_stops : (k : ℕ) (size : Size) (argument : Argument) (wanted : List Argument) (word : List ℕ) (words : List (List ℕ)) → is_within (range_of size argument) (number_of word) ≡ false
    → number_reason k size (argument ∷ wanted) (word ∷ words) ≡ Some (range_reason k (range_of size argument) word)
unfolding number_reason
number_stops k size argument wanted word words out = rw out refl

pub number_none : (k : ℕ) (size : Size) (words : List (List ℕ)) → number_reason k size [] words ≡ None
unfolding number_reason
number_none k size words = refl

-- one more word that is a number in its range; the lists are as long
pub number_turn : {X : Type 0} (f : X → List ℕ) (xs : List X) (wanted : List Argument) (size : Size) (i : ℕ) (a : Argument) (d : X) (total : Option Reason) → i < length wanted → i < length xs
    → is_within (range_of size (get_or wanted i a)) (number_of (f (get_or xs i d))) ≡ true
    → number_reason (i + 2) size (drop i wanted) (drop i (map f xs)) ≡ total → number_reason ((i + 1) + 2) size (drop (i + 1) wanted) (drop (i + 1) (map f xs)) ≡ total
number_turn f xs wanted size i a d total here there within so_far =
    let next : (i + 2) + 1 ≡ (i + 1) + 2 = omega arith in
    let one : number_reason (i + 2) size (get_or wanted i a ∷ drop (i + 1) wanted) (f (get_or xs i d) ∷ drop (i + 1) (map f xs)) ≡ total = rw (drop_more wanted i a here, drop_map_more f xs i d there) at so_far in
    let more = number_goes_on (i + 2) size (get_or wanted i a) (drop (i + 1) wanted) (f (get_or xs i d)) (drop (i + 1) (map f xs)) within in
    subst (λ (k : ℕ). number_reason k size (drop (i + 1) wanted) (drop (i + 1) (map f xs)) ≡ total) next (sym more ∙ one)

pub number_fault : {X : Type 0} (f : X → List ℕ) (xs : List X) (wanted : List Argument) (size : Size) (i : ℕ) (a : Argument) (d : X) (total : Option Reason) → i < length wanted → i < length xs
    → is_within (range_of size (get_or wanted i a)) (number_of (f (get_or xs i d))) ≡ false
    → number_reason (i + 2) size (drop i wanted) (drop i (map f xs)) ≡ total → Some (range_reason (i + 2) (range_of size (get_or wanted i a)) (f (get_or xs i d))) ≡ total
number_fault f xs wanted size i a d total here there out so_far =
    let one : number_reason (i + 2) size (get_or wanted i a ∷ drop (i + 1) wanted) (f (get_or xs i d) ∷ drop (i + 1) (map f xs)) ≡ total = rw (drop_more wanted i a here, drop_map_more f xs i d there) at so_far in
    sym (number_stops (i + 2) size (get_or wanted i a) (drop (i + 1) wanted) (f (get_or xs i d)) (drop (i + 1) (map f xs)) out) ∙ one

pub number_over : (ws : List (List ℕ)) (wanted : List Argument) (size : Size) (i : ℕ) (total : Option Reason) → length wanted ≤ i
    → number_reason (i + 2) size (drop i wanted) (drop i ws) ≡ total → None ≡ total
number_over ws wanted size i total all so_far =
    let none : drop i wanted ≡ [] = drop_all i wanted all in
    let one : number_reason (i + 2) size [] (drop i ws) ≡ total = rw none at so_far in
    sym (number_none (i + 2) size (drop i ws)) ∙ one

-- the numbers of the first i words, with zeros behind them
abbrev pub first_numbers : ℕ → List (List ℕ) → List ℕ
first_numbers i words = map value_of (take i words) ++ replicate (10 - i) 0

zeros_more : (i n : ℕ) → n ≡ suc i → replicate {A = ℕ} n 0 ≡ 0 ∷ replicate {A = ℕ} i 0
zeros_more i n is = subst (λ (k : ℕ). replicate {A = ℕ} k 0 ≡ 0 ∷ replicate {A = ℕ} i 0) (sym is) refl

pub numbers_more : (words : List (List ℕ)) (i : ℕ) (value : ℕ) → i < length words → length words ≤ 10 → value ≡ value_of (get_or words i []) → set (first_numbers i words) i value ≡ first_numbers (i + 1) words
numbers_more words i value inside few is =
    let front = map value_of (take i words) in
    let long : length front ≡ i = length-map (take i words) value_of ∙ length-take-le i words (omega (arith, inside)) in
    let split : first_numbers i words ≡ front ++ 0 ∷ replicate (10 - (i + 1)) 0 = ap (λ (l : List ℕ). front ++ l) (zeros_more (10 - (i + 1)) (10 - i) (omega (arith, inside, few))) in
    let put : set (first_numbers i words) i value ≡ front ++ value ∷ replicate (10 - (i + 1)) 0 = ap (λ (l : List ℕ). set l i value) split ∙ set_at front 0 (replicate (10 - (i + 1)) 0) value i long in
    let more : map value_of (take (i + 1) words) ≡ front ++ value ∷ [] = ap (map value_of) (take_more words i [] inside) ∙ map-append value_of (take i words) (get_or words i [] ∷ []) ∙ ap (λ (v : ℕ). front ++ v ∷ []) (sym is) in
    put ∙ sym (append_assoc front (value ∷ []) (replicate (10 - (i + 1)) 0)) ∙ ap (λ (l : List ℕ). l ++ replicate (10 - (i + 1)) 0) (sym more)

pub all_numbers : (words : List (List ℕ)) (i : ℕ) (ns : List ℕ) → i ≡ length words → ns ≡ first_numbers i words → ns ≡ numbers_of words
all_numbers words i ns is h = h ∙ ap (λ (k : ℕ). first_numbers k words) is ∙ ap (λ (l : List (List ℕ)). map value_of l ++ replicate (10 - length words) 0) (take-length words)

-- each word that is gone past is a number in its range
either : (b : Bool) (more : Option Reason) (reason : Reason) → (if b then more else Some reason) ≡ None → (b ≡ true) × (more ≡ None)
either true more reason h = (refl, h)
either false more reason h = absurd (cc)

one_in : (k : ℕ) (size : Size) (argument : Argument) (wanted : List Argument) (word : List ℕ) (words : List (List ℕ)) → number_reason k size (argument ∷ wanted) (word ∷ words) ≡ None
    → (is_within (range_of size argument) (number_of word) ≡ true) × (number_reason (k + 1) size wanted words ≡ None)
unfolding number_reason
one_in k size argument wanted word words none = either (is_within (range_of size argument) (number_of word)) (number_reason (k + 1) size wanted words) (range_reason k (range_of size argument) word) none

within_by : (range : ℕ × ℕ) (value : Option ℕ) → is_within range value ≡ true → (range.0 ≤ unwrap_or value 0) × (unwrap_or value 0 ≤ range.1)
within_by range None h = absurd (cc)
within_by range (Some v) h = (grind (arith, nat_tests, h), grind (arith, nat_tests, h))

pub all_in : (k j : ℕ) (size : Size) (wanted : List Argument) (words : List (List ℕ)) (ns : List ℕ) → length wanted ≡ length words → number_reason k size wanted words ≡ None
    → ((m : ℕ) → m < length words → at ns (j + m) ≡ value_of (get_or words m [])) → AreFrom size j wanted ns
all_in k j size [] words ns long none are = tt
all_in k j size (argument ∷ wanted) [] ns long none are = absurd (cc)
all_in k j size (argument ∷ wanted) (word ∷ words) ns long none are =
    let (here, more) = one_in k size argument wanted word words none in
    let (low, high) = within_by (range_of size argument) (number_of word) here in
    let is : at ns j ≡ value_of word = subst (λ (m : ℕ). at ns m ≡ value_of word) (omega arith) (are 0 (omega arith)) in (
      subst (λ (v : ℕ). (range_of size argument).0 ≤ v) (sym is) low,
      subst (λ (v : ℕ). v ≤ (range_of size argument).1) (sym is) high,
      all_in (k + 1) (j + 1) size wanted words ns (omega (arith, long)) more
          (λ m inside. subst (λ (i : ℕ). at ns i ≡ value_of (get_or words m [])) (omega arith) (are (suc m) (omega (arith, inside)))),
    )

number_here : (words : List (List ℕ)) (m : ℕ) → m < length words → at (numbers_of words) m ≡ value_of (get_or words m [])
number_here words m inside =
    get_or_append_left (map value_of words) (replicate (10 - length words) 0) 0 m (omega (arith, inside, length-map words value_of)) ∙ get_or-map value_of words m [] 0 inside

pub numbers_in : (k : ℕ) (size : Size) (wanted : List Argument) (words : List (List ℕ)) → length wanted ≡ length words → number_reason k size wanted words ≡ None → AreFrom size 0 wanted (numbers_of words)
numbers_in k size wanted words long none = all_in k 0 size wanted words (numbers_of words) long none (λ m inside. subst (λ (i : ℕ). at (numbers_of words) i ≡ value_of (get_or words m [])) (omega arith) (number_here words m inside))
