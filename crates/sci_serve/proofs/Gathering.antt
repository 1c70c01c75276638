-- What was read of an input, and which text it begins.
use Rattle.std.proofs.Common.{◌≡◌, ◌≢◌, ◌⊎◌, ℕ, ◌+◌, ◌-◌, ◌<◌, ◌≤◌, Bool, true, false, cond, ◌&&◌, eqb, ltb, List, [], ◌∷◌, ◌++◌, length, get_or, take, drop, codes, refl, sym, ap, ◌∙◌, append_assoc, append-nil, length-append, arith, subst, inl, inr, if◌then◌else◌, lit<, Option, None, Some, IfSome, Result, Ok, Err, OnOk, is_ok}
use Rattle.std.specs.Global.{Vec}
use Rattle.std.specs.Io.KnownBytes.{Consumes, IsAtEnd}
use Rattle.std.specs.List.{list_all}
use Rattle.std.specs.Str.{bytes_eq}
use Rattle.std.specs.Str.Lines.{lines}
use Rattle.std.proofs.lemmas.Bool.{and_parts, and_right, cases_Bool, cases_lt, le-ltb, lt-ltb, ne_eqb}
use Rattle.std.proofs.lemmas.List.{get_or-drop, get_or_append_left, length-drop, length-take-le, take-append-drop, take_all}
use Rattle.std.proofs.lemmas.Slice.Eq.{bytes_eq-Decides}
use Rattle.sci_script.specs.Words.{is_blank, is_skipped}
use Rattle.sci_script.specs.Format.{entries_from}
use Rattle.sci_serve.specs.Kinds.{AreAsGood, AreSkipped, StandFor, ends_word, first_word, kind_of, word_of}
use Rattle.sci_serve.specs.Gathered.{IsBefore, IsGathered, IsSaid, IsTold, StandsAt, is_start, is_told}
use Rattle.sci_serve.specs.declared.kinds.Kind.{Kind}
use Rattle.sci_serve.specs.declared.kinds.Kind.TheVariants.{Dump, History, Log}
use Rattle.sci_serve.specs.declared.kinds.Gathered.{Gathered}
use Rattle.sci_serve.specs.declared.kinds.Place.{Place}
use Rattle.sci_serve.specs.declared.kinds.Place.TheVariants.{Start, Blank, Comment, Return}
use Rattle.sci_script.proofs.Lines.{lines_last}
use Rattle.sci_script.proofs.Reading.{entries_end, entries_skip}
use Rattle.sci_serve.proofs.Passing.{end_skipped}
use Rattle.sci_serve.proofs.Skipping.{goes_on}
use Rattle.sci_serve.proofs.Wording.{word_at, word_found, word_known}

-- ---- nothing yet

pub nothing_gathered : (silent word : Vec ℕ) → silent.items ≡ [] → word.items ≡ [] → IsGathered (record { place = Start; lines = 0; passed = 0; silent = silent; word = word }) []
nothing_gathered silent word none empty = record {
  silent = [];
  is = sym empty;
  stands = record { whole = []; line = []; is = refl; skipped = λ n text. ap (λ (m : ℕ). entries_from m (lines text)) (omega arith); before = refl; other = λ some. absurd (omega arith) };
  fewer = omega arith;
  many = refl;
  kept = none;
  said = λ some. absurd (omega (arith, some, ap length empty));
}

-- ---- more bytes

pub word_more : (o p : Gathered) (seen bytes : List ℕ) → 0 < length o.word.items → p.place ≡ o.place → p.lines ≡ o.lines → p.passed ≡ o.passed → p.silent ≡ o.silent
    → p.word.items ≡ o.word.items ++ bytes → IsGathered o seen → IsGathered p (seen ++ bytes)
word_more o p seen bytes some place lines passed silent word h =
    let first : get_or p.word.items 0 0 ≡ get_or o.word.items 0 0 = ap (λ (l : List ℕ). get_or l 0 0) word ∙ get_or_append_left o.word.items bytes 0 0 some in
    record {
      silent = h.silent;
      is = ap (λ (l : List ℕ). l ++ bytes) h.is ∙ append_assoc h.silent o.word.items bytes ∙ ap (λ (l : List ℕ). h.silent ++ l) (sym word);
      stands = rw (place, lines) h.stands;
      fewer = rw (lines, passed) h.fewer;
      many = passed ∙ h.many;
      kept = ap (λ (v : Vec ℕ). v.items) silent ∙ h.kept;
      said = λ _. rw (place, first) (h.said some);
    }

kept_more : (silent bytes kept next : List ℕ) → kept ≡ (if ltb 1048576 (length silent) then [] else silent) → next ≡ (if ltb 1048576 (length (silent ++ bytes)) then [] else kept ++ bytes)
    → next ≡ (if ltb 1048576 (length (silent ++ bytes)) then [] else silent ++ bytes)
kept_more silent bytes kept next is e = elim (cases_lt 1048576 (length (silent ++ bytes))) [
  | inl long ↦ let b = lt-ltb 1048576 (length (silent ++ bytes)) long in rw b (rw b at e)
  | inr short ↦
      let b : ltb 1048576 (length (silent ++ bytes)) ≡ false = le-ltb 1048576 (length (silent ++ bytes)) short in
      let d : ltb 1048576 (length silent) ≡ false = le-ltb 1048576 (length silent) (omega (arith, short, length-append silent bytes)) in
      let all : kept ≡ silent = rw d at is in
      rw b (let f : next ≡ kept ++ bytes = rw b at e in f ∙ ap (λ (l : List ℕ). l ++ bytes) all)
]

pub passed_more : (o p : Gathered) (seen bytes : List ℕ) (count : ℕ) → count ≤ length bytes → o.word.items ≡ []
    → ((silent : List ℕ) → StandsAt o.place silent o.lines → StandsAt p.place (silent ++ take count bytes) p.lines) → p.lines ≤ p.passed → p.passed ≡ o.passed + count
    → p.silent.items ≡ (if ltb 1048576 p.passed then [] else o.silent.items ++ take count bytes) → p.word.items ≡ drop count bytes
    → (count < length bytes → IsSaid p.place (get_or bytes count 0)) → IsGathered o seen → IsGathered p (seen ++ bytes)
passed_more o p seen bytes count fits none stands fewer passed kept word said h =
    let many : p.passed ≡ length (h.silent ++ take count bytes) = omega (arith, passed, h.many, length-append h.silent (take count bytes), length-take-le count bytes fits) in
    let same : count + 0 ≡ count = omega arith in
    record {
      silent = h.silent ++ take count bytes;
      is =
          ap (λ (l : List ℕ). l ++ bytes) (h.is ∙ ap (λ (l : List ℕ). h.silent ++ l) none ∙ append-nil h.silent) ∙ ap (λ (l : List ℕ). h.silent ++ l) (sym (take-append-drop count bytes))
          ∙ sym (append_assoc h.silent (take count bytes) (drop count bytes)) ∙ ap (λ (l : List ℕ). (h.silent ++ take count bytes) ++ l) (sym word);
      stands = stands h.silent h.stands;
      fewer = fewer;
      many = many;
      kept = kept_more h.silent (take count bytes) o.silent.items p.silent.items h.kept (subst (λ (n : ℕ). p.silent.items ≡ (if ltb 1048576 n then [] else o.silent.items ++ take count bytes)) many kept);
      said = λ some. subst (λ (b : ℕ). IsSaid p.place b) (sym (ap (λ (l : List ℕ). get_or l 0 0) word ∙ get_or-drop count bytes 0 0 ∙ ap (λ (n : ℕ). get_or bytes n 0) same)) (said (omega (arith, some, ap length word, length-drop count bytes)));
    }

abbrev pub with_word : Gathered → Vec ℕ → Gathered
with_word o word = record { place = o.place; lines = o.lines; passed = o.passed; silent = o.silent; word = word }

-- what is passed over, kept, and put behind
pub added : (o m k : Gathered) (seen bytes : List ℕ) (count : ℕ) (word : Vec ℕ) → count ≤ length bytes → o.word.items ≡ []
    → ((silent : List ℕ) → StandsAt o.place silent o.lines → StandsAt m.place (silent ++ take count bytes) m.lines) → m.lines ≤ m.passed → m.passed ≡ o.passed + count → m.silent ≡ o.silent
    → m.word ≡ o.word → (count < length bytes → IsSaid m.place (get_or bytes count 0)) → k.silent.items ≡ (if ltb 1048576 k.passed then [] else m.silent.items ++ take count bytes)
    → k.place ≡ m.place → k.lines ≡ m.lines → k.passed ≡ m.passed → k.word ≡ m.word → word.items ≡ k.word.items ++ drop count bytes → IsGathered o seen → IsGathered (with_word k word) (seen ++ bytes)
added o m k seen bytes count word fits none stands fewer passed silent same said kept place lines many as_was is h =
    let p : Gathered = with_word k word in
    passed_more o p seen bytes count fits none (λ s at. rw (place, lines) (stands s at)) (rw (lines, many) fewer) (many ∙ passed)
    (kept ∙ ap (λ (v : Vec ℕ). cond (ltb 1048576 k.passed) [] (v.items ++ take count bytes)) silent) (is ∙ ap (λ (l : List ℕ). l ++ drop count bytes) (ap (λ (v : Vec ℕ). v.items) (as_was ∙ same) ∙ none))
    (λ more. rw place (said more)) h

pub rest_taken : (bytes : List ℕ) (count : ℕ) → take (length bytes - count) (drop count bytes) ≡ drop count bytes
rest_taken bytes count = take_all (length bytes - count) (drop count bytes) (omega (arith, length-drop count bytes))

pub if_ok : {A E : Type 0} (r : Result A E) (P : Type 0) → (is_ok r ≡ true → P) → OnOk r P
if_ok (Ok x) P h = h refl
if_ok (Err e) P h = tt

-- ---- which text it begins

ends_none : (b : ℕ) (text : List ℕ) → ends_word b ≡ true → bytes_eq (first_word (b ∷ text)) (codes "memory") ≡ false
ends_none b text ends = rw ends refl

blanks_none : (line text : List ℕ) → 0 < length line → list_all is_blank line ≡ true → bytes_eq (first_word (line ++ text)) (codes "memory") ≡ false
blanks_none [] text some blanks = absurd (omega arith)
blanks_none (b ∷ line) text some blanks = ends_none b (line ++ text) (rw (and_parts (is_blank b) (list_all is_blank line) blanks).0 refl)

return_none : (blanks text : List ℕ) → list_all is_blank blanks ≡ true → bytes_eq (first_word ((blanks ++ 13 ∷ []) ++ text)) (codes "memory") ≡ false
return_none [] text h = refl
return_none (b ∷ blanks) text h = ends_none b ((blanks ++ 13 ∷ []) ++ text) (rw (and_parts (is_blank b) (list_all is_blank blanks) h).0 refl)

-- only at the beginning of a line
none_there : (place : Place) (line text : List ℕ) → is_start place ≡ false → IsBefore place line → bytes_eq (first_word (line ++ text)) (codes "memory") ≡ false
none_there Start line text other before = absurd (cc)
none_there Blank line text other before = blanks_none line text before.0 before.1
none_there Comment line text other before = rw before.1 refl
none_there Return line text other before = rw before.1 (return_none before.0 text before.2)

memory_there : (place : Place) (line word rest : List ℕ) → IsBefore place line → IsTold word rest
    → bytes_eq (first_word (line ++ (word ++ rest))) (codes "memory") ≡ (is_start place && bytes_eq (first_word word) (codes "memory"))
memory_there Start line word rest before told = rw before (word_known word rest (codes "memory") told (lit< tt))
memory_there Blank line word rest before told = none_there Blank line (word ++ rest) refl before
memory_there Comment line word rest before told = none_there Comment line (word ++ rest) refl before
memory_there Return line word rest before told = none_there Return line (word ++ rest) refl before

line_alone : (n : ℕ) (place : Place) (line : List ℕ) → is_start place ≡ false → 0 < length line → IsBefore place line → bytes_eq (word_of (entries_from n (lines line))) (codes "memory") ≡ false
line_alone n place line other some before =
    let Found = λ (l : List (ℕ × List ℕ)). bytes_eq (word_of l) (codes "memory") in
    ap (λ (l : List (List ℕ)). bytes_eq (word_of (entries_from n l)) (codes "memory")) (lines_last line some (goes_on place line before))
    ∙ elim (cases_Bool (is_skipped line)) [
      | inl same ↦ ap Found (entries_skip n line [] (is_skipped line) refl same ∙ entries_end (n + 1))
      | inr other' ↦
          ap (λ (l : List ℕ). bytes_eq l (codes "memory")) (word_found n line [] other' ∙ ap first_word (sym (append-nil line))) ∙ none_there place line [] other before
    ]

at_end : (n : ℕ) (place : Place) (line : List ℕ) → IsBefore place line → bytes_eq (word_of (entries_from n (lines line))) (codes "memory") ≡ false
at_end n Start line before = rw before (ap (λ (l : List (ℕ × List ℕ)). bytes_eq (word_of l) (codes "memory")) (entries_end n))
at_end n Blank line before = line_alone n Blank line refl before.0 before
at_end n Comment line before = line_alone n Comment line refl (omega (arith, ap length before.1)) before
at_end n Return line before = line_alone n Return line refl (omega (arith, ap length before.1, length-append before.0 (13 ∷ []))) before

log_known : (n : ℕ) (place : Place) (line word rest : List ℕ) → IsBefore place line → (0 < length word → IsSaid place (get_or word 0 0)) → IsTold word rest
    → bytes_eq (word_of (entries_from n (lines (line ++ (word ++ rest))))) (codes "memory") ≡ (is_start place && bytes_eq (first_word word) (codes "memory"))
log_known n place line [] rest before said (inl none) =
    ap (λ (l : List ℕ). bytes_eq (word_of (entries_from n (lines (line ++ l)))) (codes "memory")) none ∙ ap (λ (l : List ℕ). bytes_eq (word_of (entries_from n (lines l))) (codes "memory")) (append-nil line)
    ∙ at_end n place line before ∙ sym (and_right (is_start place) false refl)
log_known n place line [] rest before said (inr told) = absurd (cc)
log_known n place line (b ∷ word) rest before said told =
    ap (λ (l : List ℕ). bytes_eq l (codes "memory")) (word_at n place line b (word ++ rest) before (said (omega arith))) ∙ memory_there place line (b ∷ word) rest before told

unequal : (xs ys : List ℕ) → xs ≢ ys → bytes_eq xs ys ≡ false
unequal xs ys ne = elim (cases_Bool (bytes_eq xs ys)) [ inl same ↦ absurd (ne ((bytes_eq-Decides xs ys).0 same)) | inr other ↦ other ]

history_known : (silent word rest : List ℕ) (passed : ℕ) → passed ≡ length silent → IsTold word rest → (0 < length silent → (text : List ℕ) → first_word (silent ++ text) ≢ codes "scihistory")
    → bytes_eq (first_word (silent ++ (word ++ rest))) (codes "scihistory") ≡ (eqb passed 0 && bytes_eq (first_word word) (codes "scihistory"))
history_known [] word rest passed many told other = rw many (word_known word rest (codes "scihistory") told (lit< tt))
history_known (b ∷ silent) word rest passed many told other =
    let some : eqb passed 0 ≡ false = ne_eqb passed 0 (λ e. absurd (omega (arith, many, e))) in
    unequal (first_word ((b ∷ silent) ++ (word ++ rest))) (codes "scihistory") (other (omega arith) (word ++ rest)) ∙ rw some refl

abbrev pub kind_by : Bool → Bool → Kind
kind_by history log = if history then History else (if log then Log else Dump)

-- the kind of an input, by what was read of it
pub kind_is : (o : Gathered) (seen rest : List ℕ) → IsGathered o seen → IsTold o.word.items rest
    → kind_of (seen ++ rest) ≡ kind_by (eqb o.passed 0 && bytes_eq (first_word o.word.items) (codes "scihistory")) (is_start o.place && bytes_eq (first_word o.word.items) (codes "memory"))
kind_is o seen rest h told =
    let s = h.stands in
    let text : seen ++ rest ≡ h.silent ++ (o.word.items ++ rest) = ap (λ (l : List ℕ). l ++ rest) h.is ∙ append_assoc h.silent o.word.items rest in
    let whole : seen ++ rest ≡ s.whole ++ (s.line ++ (o.word.items ++ rest)) = text ∙ ap (λ (l : List ℕ). l ++ (o.word.items ++ rest)) s.is ∙ append_assoc s.whole s.line (o.word.items ++ rest) in
    let history = ap (λ (l : List ℕ). bytes_eq (first_word l) (codes "scihistory")) text ∙ history_known h.silent o.word.items rest o.passed h.many told s.other in
    let log =
    ap (λ (l : List ℕ). bytes_eq (word_of (entries_from 1 (lines l))) (codes "memory")) whole
    ∙ ap (λ (l : List (ℕ × List ℕ)). bytes_eq (word_of l) (codes "memory")) (s.skipped 1 (s.line ++ (o.word.items ++ rest)))
    ∙ log_known (1 + o.lines) o.place s.line o.word.items rest s.before h.said told in
    ap (λ (b : Bool). kind_by b (bytes_eq (word_of (entries_from 1 (lines (seen ++ rest)))) (codes "memory"))) history
    ∙ ap (kind_by (eqb o.passed 0 && bytes_eq (first_word o.word.items) (codes "scihistory"))) log

pub kind_found : (o : Gathered) (seen rest : List ℕ) (kind : Kind) (history log : Bool) → history ≡ (eqb o.passed 0 && bytes_eq (first_word o.word.items) (codes "scihistory"))
    → log ≡ (is_start o.place && bytes_eq (first_word o.word.items) (codes "memory")) → kind ≡ kind_by history log → IsGathered o seen → IsTold o.word.items rest → kind ≡ kind_of (seen ++ rest)
kind_found o seen rest kind history log is_history is_log is h told =
    is ∙ ap (λ (b : Bool). kind_by b log) is_history ∙ ap (kind_by (eqb o.passed 0 && bytes_eq (first_word o.word.items) (codes "scihistory"))) is_log ∙ sym (kind_is o seen rest h told)

-- ---- what stands for bytes that aren't kept

log_starts : (history : Bool) (place : Place) (said : Bool) → Log ≡ kind_by history (is_start place && said) → place ≡ Start
log_starts true place said e = absurd (cc)
log_starts false Start said e = refl
log_starts false Blank said e = absurd (cc)
log_starts false Comment said e = absurd (cc)
log_starts false Return said e = absurd (cc)

whole_skipped : (place : Place) (silent : List ℕ) (count : ℕ) → place ≡ Start → StandsAt place silent count → AreSkipped count silent
whole_skipped place silent count start h =
    let none : h.line ≡ [] = subst (λ (p : Place). IsBefore p h.line) start h.before in
    subst (AreSkipped count) (sym (h.is ∙ ap (λ (l : List ℕ). h.whole ++ l) none ∙ append-nil h.whole)) h.skipped

as_good : (o : Gathered) (seen rest : List ℕ) (kind : Kind) (feeds : ℕ) → (h : IsGathered o seen) → IsTold o.word.items rest → kind ≡ kind_of (seen ++ rest) → (kind ≡ Log → feeds ≡ o.lines)
    → ((kind ≡ Log → ⊥) → feeds ≡ o.passed) → AreAsGood kind feeds h.silent
as_good o seen rest Log feeds h told is log other =
    let start = log_starts _ o.place _ (is ∙ kind_is o seen rest h told) in
    rw (log refl) (whole_skipped o.place h.silent o.lines start h.stands)
as_good o seen rest Dump feeds h told is log other = other (λ e. cc) ∙ h.many
as_good o seen rest History feeds h told is log other = other (λ e. cc) ∙ h.many

pub stands_for : (o : Gathered) (seen rest : List ℕ) (kind : Kind) (feeds : ℕ) → IsGathered o seen → IsTold o.word.items rest → kind ≡ kind_of (seen ++ rest) → 1048576 < o.passed
    → (kind ≡ Log → feeds ≡ o.lines) → ((kind ≡ Log → ⊥) → feeds ≡ o.passed) → (gone : List ℕ) × (seen ≡ gone ++ (o.silent.items ++ o.word.items)) × StandFor kind feeds gone
stands_for o seen rest kind feeds h told is long log other =
    let b : ltb 1048576 (length h.silent) ≡ true = lt-ltb 1048576 (length h.silent) (omega (arith, long, h.many)) in
    let none : o.silent.items ≡ [] = rw b at h.kept in (
      h.silent,
      h.is ∙ ap (λ (l : List ℕ). h.silent ++ (l ++ o.word.items)) (sym none),
      inr (omega (arith, long, h.many), (o.lines + 1, end_skipped o.place h.silent o.lines h.stands), as_good o seen rest kind feeds h told is log other),
    )

pub stands_none : (o : Gathered) (seen : List ℕ) (kind : Kind) → IsGathered o seen → o.passed ≤ 1048576 → (gone : List ℕ) × (seen ≡ gone ++ (o.silent.items ++ o.word.items)) × StandFor kind 0 gone
stands_none o seen kind h short =
    let b : ltb 1048576 (length h.silent) ≡ false = le-ltb 1048576 (length h.silent) (omega (arith, short, h.many)) in
    let all : o.silent.items ≡ h.silent = rw b at h.kept in
    ([], h.is ∙ ap (λ (l : List ℕ). l ++ o.word.items) (sym all), inl (refl, refl))

-- ---- what follows of the input

pub begun_kind : (old new : Option (List ℕ)) (seen : List ℕ) (kind : Kind) → Consumes old new seen → IfSome new (λ rest. kind ≡ kind_of (seen ++ rest)) → IfSome old (λ input. kind ≡ kind_of input)
begun_kind None new seen kind consumed h = tt
begun_kind (Some input) None seen kind consumed h = absurd consumed
begun_kind (Some input) (Some rest) seen kind consumed h = h ∙ ap kind_of (sym consumed)

pub told_rest : (new : Option (List ℕ)) (word : List ℕ) (P : List ℕ → Type 0) → IsAtEnd new ⊎ (is_told word ≡ true) → ((rest : List ℕ) → IsTold word rest → P rest) → IfSome new P
told_rest None word P told h = tt
told_rest (Some rest) word P (inl end) h = h rest (inl end)
told_rest (Some rest) word P (inr told) h = h rest (inr told)
