-- Lines that are answered one after the other, and what parts of lines hold.
use Rattle.std.proofs.Common.{◌≡◌, ℕ, ◌+◌, ◌<◌, Bool, true, false, eqb, List, [], ◌∷◌, ◌++◌, All, length, take, drop, Option, Some, None, Result, Ok, Err, is_ok, OnOk, OnErr, IfErr, IfSome, refl, sym, ap, ◌∙◌, subst, append_assoc, inl, inr, arith}
use Rattle.std.proofs.lemmas.List.{append-nil}
use Rattle.std.proofs.lemmas.List.Elements.{All-append}
use Rattle.std.proofs.Math.Seq.{take-append_seam, take-append-add}
use Rattle.std.proofs.KnownBytes.{Consumes-trans}
use Rattle.std.specs.Io.KnownBytes.{Consumes}
use Rattle.std.specs.Str.Lines.{lines, strip_carriage_return}
use Rattle.sci_script.proofs.Lines.{lines_at, lines_last}
use Rattle.sci_script.specs.declared.refusals.ScriptRefusal.{ScriptRefusal}
use Rattle.sci_script.specs.Talks.{Standing, Silent}
use Rattle.sci_serve.specs.declared.faults.SimFault.TheVariants.{CannotRead, CannotWrite}
use Rattle.sci_serve.specs.Talked.{ending_line, line_by, IsAccepted, IsRefused, Answers, Talks, StopsTalking, Ends, Begins}

pub talks_none : (s : Standing) → Talks s [] [] s
talks_none s = (refl, refl)

pub talks_one : (s t : Standing) (line text : List ℕ) → Answers s line text t → Talks s (line ∷ []) text t
talks_one s t line text now = (text, [], t, now, (refl, refl), sym (append-nil text))

pub talks_join : (s mid t : Standing) (xs ys : List (List ℕ)) (a b : List ℕ) → Talks s xs a mid → Talks mid ys b t → Talks s (xs ++ ys) (a ++ b) t
talks_join s mid t [] ys a b before now = subst (λ (x : List ℕ). Talks s ys (x ++ b) t) (sym before.0) (subst (λ (m : Standing). Talks m ys b t) before.1 now)
talks_join s mid t (line ∷ xs) ys a b before now = (
  before.0,
  before.1 ++ b,
  before.2,
  before.3,
  talks_join before.2 mid t xs ys before.1 b before.4 now,
  ap (λ (x : List ℕ). x ++ b) before.5 ∙ append_assoc before.0 before.1 b,
)

-- more bytes behind those that ended some lines
pub ends_more : (part one two left last : List ℕ) (xs ys : List (List ℕ)) → Ends part one xs left → Ends left two ys last → Ends part (one ++ two) (xs ++ ys) last
ends_more part one two left last xs ys first second = λ more.
    ap (λ (l : List ℕ). lines (part ++ l)) (append_assoc one two more) ∙ first (two ++ more) ∙ ap (λ (l : List (List ℕ)). xs ++ l) (second more) ∙ sym (append_assoc xs ys (lines (last ++ more)))

pub ends_none : (part : List ℕ) → Ends part [] [] part
ends_none part = λ more. refl

-- bytes without a line end
pub ends_part : (part bytes : List ℕ) → Ends part bytes [] (part ++ bytes)
ends_part part bytes = λ more. ap lines (sym (append_assoc part bytes more))

-- bytes with one line end, behind them
pub ends_one : (part bytes : List ℕ) → All (λ b. eqb b 10 ≡ false) part → All (λ b. eqb b 10 ≡ false) bytes → Ends part (bytes ++ 10 ∷ []) (strip_carriage_return (part ++ bytes) ∷ []) []
ends_one part bytes p q = λ more.
    ap (λ (l : List ℕ). lines (part ++ l)) (append_assoc bytes (10 ∷ []) more) ∙ ap lines (sym (append_assoc part bytes (10 ∷ more)))
    ∙ lines_at (part ++ bytes) more (All-append (λ b. eqb b 10 ≡ false) part bytes p q)

pub begins_ended : (part bytes left rest : List ℕ) (ended : List (List ℕ)) → Ends part bytes ended left → Begins part (bytes ++ rest) ended
begins_ended part bytes left rest ended h = λ more.
    (lines (left ++ (rest ++ more)), ap (λ (l : List ℕ). lines (part ++ l)) (append_assoc bytes rest more) ∙ h (rest ++ more))

-- a last line without an end
pub talks_part : (s t : Standing) (part text : List ℕ) (r : Bool) → r ≡ eqb (length part) 0 → r ≡ false → All (λ b. eqb b 10 ≡ false) part → Answers s part text t → Talks s (lines part) text t
talks_part s t [] text r is some none now = absurd (let e = is in let f = some in cc)
talks_part s t (b ∷ part) text r is some none now = subst (λ (l : List (List ℕ)). Talks s l text t) (sym (lines_last (b ∷ part) (omega arith) none)) (talks_one s t (b ∷ part) text now)

-- what is printed in front of the answer's end
abbrev pub printed_by : Result Unit ScriptRefusal → List ℕ → List ℕ
printed_by (Ok done) printed = printed
printed_by (Err e) printed = []

pub printed_ok : (said : Result Unit ScriptRefusal) (printed : List ℕ) → is_ok said ≡ true → printed_by said printed ≡ printed
printed_ok (Ok done) printed h = refl
printed_ok (Err e) printed h = absurd (let f = h in cc)

pub printed_err : (said : Result Unit ScriptRefusal) (printed : List ℕ) → is_ok said ≡ false → printed_by said printed ≡ []
printed_err (Ok done) printed h = absurd (let f = h in cc)
printed_err (Err e) printed h = refl

-- what was said is answered
pub answered : (said : Result Unit ScriptRefusal) (s t : Standing) (is_ended : Bool) (K : List ℕ → Type 0) (printed : List ℕ) → OnOk said ((seen : List ℕ) → K seen → IsAccepted s (line_by is_ended seen) printed t)
    → IfErr said (λ e. (seen : List ℕ) → K seen → IsRefused s (line_by is_ended seen) e t) → (seen : List ℕ) → K seen → Answers s (line_by is_ended seen) (printed_by said printed ++ ending_line said) t
answered (Ok done) s t is_ended K printed ok err seen k = inl (printed, ok seen k, refl)
answered (Err e) s t is_ended K printed ok err seen k = inr (e, err seen k, refl)

pub on_err : {X E : Type 0} (r : Result X E) (P : Type 0) → P → OnErr r P
on_err (Ok x) P h = tt
on_err (Err e) P h = h

pub on_err_then : {X E : Type 0} (r : Result X E) (P Q : Type 0) → OnErr r P → (P → Q) → OnErr r Q
on_err_then (Ok x) P Q h f = tt
on_err_then (Err e) P Q h f = f h

-- what is so of what a reader gave and any more, is so of what it had
pub of_front : (a b : Option (List ℕ)) (seen : List ℕ) (P : List ℕ → Type 0) → Consumes a b seen → ((more : List ℕ) → P (seen ++ more)) → IfSome a P
of_front None b seen P h each = tt
of_front (Some x) None seen P h each = absurd h
of_front (Some x) (Some y) seen P h each = subst P (sym h) (each y)

-- the answers to the first lines of an input
pub stops_reading : (input text : List ℕ) (t : Standing) (ended others : List (List ℕ)) → lines input ≡ ended ++ others → Talks Silent ended text t → StopsTalking CannotRead input text
stops_reading input text t ended others is talked =
    (length ended, t, subst (λ (l : List (List ℕ)). Talks Silent l text t) (sym (ap (take (length ended)) is ∙ take-append_seam ended others)) talked)

pub stops_writing : (input text written : List ℕ) (n : ℕ) (t : Standing) (ended others : List (List ℕ)) → lines input ≡ ended ++ others → Talks Silent ended text t → written ≡ take n text
    → StopsTalking CannotWrite input written
stops_writing input text written n t ended others is talked front =
    (length ended, n, text, t, subst (λ (l : List (List ℕ)). Talks Silent l text t) (sym (ap (take (length ended)) is ∙ take-append_seam ended others)) talked, front)

-- past a line end
pub moved : (all front rest line behind : List ℕ) → all ≡ front ++ rest → rest ≡ line ++ 10 ∷ behind → all ≡ (front ++ (line ++ 10 ∷ [])) ++ behind
moved all front rest line behind is cut =
    is ∙ ap (λ (l : List ℕ). front ++ l) (cut ∙ sym (append_assoc line (10 ∷ []) behind)) ∙ sym (append_assoc front (line ++ 10 ∷ []) behind)

-- what is left behind the last line end
pub ends_last : (part all front rest left : List ℕ) (ended : List (List ℕ)) → all ≡ front ++ rest → Ends part front ended left → Ends part all ended (left ++ rest)
ends_last part all front rest left ended is ends =
    subst (λ (l : List ℕ). Ends part l ended (left ++ rest)) (sym is)
    (subst (λ (l : List (List ℕ)). Ends part (front ++ rest) l (left ++ rest)) (append-nil ended) (ends_more part front rest left (left ++ rest) ended [] ends (ends_part left rest)))

-- the lines of all that was read
pub lines_read : (seen left : List ℕ) (ended : List (List ℕ)) → Ends [] seen ended left → lines seen ≡ ended ++ lines left
lines_read seen left ended ends = ap lines (sym (append-nil seen)) ∙ ends [] ∙ ap (λ (l : List ℕ). ended ++ lines l) (append-nil left)

-- the answers to all that was read, with its last line
pub talks_read : (seen left text last : List ℕ) (ended : List (List ℕ)) (mid t : Standing) → Ends [] seen ended left → Talks Silent ended text mid → Talks mid (lines left) last t → Talks Silent (lines seen) (text ++ last) t
talks_read seen left text last ended mid t ends before now =
    subst (λ (l : List (List ℕ)). Talks Silent l (text ++ last) t) (sym (lines_read seen left ended ends)) (talks_join Silent mid t ended (lines left) text last before now)

-- some lines of what was read, and of what comes behind it
pub lines_begun : (seen bytes left more : List ℕ) (ended begun : List (List ℕ)) → Ends [] seen ended left → Begins left bytes begun → (others : List (List ℕ)) × (lines ((seen ++ bytes) ++ more) ≡ (ended ++ begun) ++ others)
lines_begun seen bytes left more ended begun ends begins =
    let (others, is) = begins more in
    (others, ap lines (append_assoc seen bytes more) ∙ ends (bytes ++ more) ∙ ap (λ (l : List (List ℕ)). ended ++ l) is ∙ sym (append_assoc ended begun others))

-- where a write fails, a front of the answers to the first lines was written
pub stops_hearing : (input text last : List ℕ) (n : ℕ) (mid t : Standing) (ended begun others : List (List ℕ)) → lines input ≡ (ended ++ begun) ++ others → Talks Silent ended text mid → Talks mid begun last t
    → StopsTalking CannotWrite input (text ++ take n last)
stops_hearing input text last n mid t ended begun others is before now =
    stops_writing input (text ++ last) (text ++ take n last) (length text + n) t (ended ++ begun) others is (talks_join Silent mid t ended begun text last before now) (sym (take-append-add text last n))

-- a read that gave nothing
pub Consumes-still : (a b c : Option (List ℕ)) (seen : List ℕ) → Consumes a b seen → Consumes b c [] → Consumes a c seen
Consumes-still a b c seen before now = subst (λ (l : List ℕ). Consumes a c l) (append-nil seen) (Consumes-trans a b c seen [] before now)
