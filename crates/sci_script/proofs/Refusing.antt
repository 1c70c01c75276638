-- A line that isn't read is refused 16 or 17.
use Rattle.std.proofs.Common.{◌≡◌, ℕ, ◌+◌, ◌==◌, List, [], ◌∷◌, length, Bool, true, false, not, Option, Some, None, Result, Ok, Err, if◌then◌else◌, refl, sym, ap, subst, ◌∙◌}
use Rattle.std.specs.List.{list_all}
use Rattle.std.specs.Str.Lines.{lines}
use Rattle.sci_script.specs.declared.commands.Opening.{Opening}
use Rattle.sci_script.specs.declared.commands.Size.{Size}
use Rattle.sci_script.specs.declared.commands.Step.{Step}
use Rattle.sci_script.specs.declared.places.Place.{Place}
use Rattle.sci_script.specs.declared.reasons.Reason.{Reason}
use Rattle.sci_script.specs.declared.reasons.Reason.TheVariants.{BadByte, Early, Late, Words, Number, Digits, WaitsFor, Unended}
use Rattle.sci_script.specs.declared.refusals.ScriptRefusal.{ScriptRefusal}
use Rattle.sci_script.specs.declared.said.Read.{Read}
use Rattle.sci_script.specs.declared.verbs.Argument.{Argument}
use Rattle.sci_script.specs.declared.verbs.Verb.{Verb}
use Rattle.sci_script.specs.declared.unread.Unread.{Unread}
use Rattle.sci_script.specs.declared.unread.Unread.TheVariants as reasons
use Rattle.sci_script.specs.Causes.{IsRefusedFor, refused_for}
use Rattle.sci_script.specs.Format.{Fails, Lacks, Sayings, ended, entries_from, on_line, reading_of, refusal_of, refused, script_of, unsaid, with_lines, with_read}
use Rattle.sci_script.specs.Grammar.{arguments_of, is_first, is_in_time, is_within, line_read, named_read, number_reason, numbers_of, range_of, range_reason, said_by, unless, verb_of, verb_read, words_read}
use Rattle.sci_script.specs.Words.{is_long, is_plain, number_of, words_of}
use Rattle.sci_script.proofs.Reading.{lines_stop}

-- such a reason is of no 18
abbrev pub IsOfReader : Reason → Type 0
IsOfReader (WaitsFor node whom) = ⊥
IsOfReader (Unended node) = ⊥
IsOfReader reason = Unit {0}

pub fails_for : (X : Type 0) (n : ℕ) (reason : Reason) → IsOfReader reason → Fails {Y = X} (refused_for n reason) (Err (refused_for n reason))
fails_for X n (WaitsFor node whom) h = absurd h
fails_for X n (Unended node) h = absurd h
fails_for X n reason h = refl

-- what isn't taken has such a reason
abbrev AreOfReader : {X : Type 0} → Result X Reason → Type 0
AreOfReader (Ok x) = Unit {0}
AreOfReader (Err reason) = IsOfReader reason

long_of : (b : Bool) (k low high : ℕ) → IsOfReader (if b then Digits k else Number k low high)
long_of true k low high = tt
long_of false k low high = tt

early_of : (X : Type 0) (b : Bool) → AreOfReader {X = X} (Err (if b then Early else Late))
early_of X true = tt
early_of X false = tt

either_of : {X : Type 0} (b : Bool) (r s : Result X Reason) → AreOfReader r → AreOfReader s → AreOfReader (if b then r else s)
either_of true r s h k = h
either_of false r s h k = k

abbrev IsReasonOfReader : Option Reason → Type 0
IsReasonOfReader None = Unit {0}
IsReasonOfReader (Some reason) = IsOfReader reason

some_of : (b : Bool) (more : Option Reason) (reason : Reason) → IsReasonOfReader more → IsOfReader reason → IsReasonOfReader (if b then more else Some reason)
some_of true more reason h k = h
some_of false more reason h k = k

number_of_reader : (k : ℕ) (size : Size) (wanted : List Argument) (words : List (List ℕ)) → IsReasonOfReader (number_reason k size wanted words)
unfolding number_reason
number_of_reader k size [] words = tt
number_of_reader k size (argument ∷ wanted) [] = tt
number_of_reader k size (argument ∷ wanted) (word ∷ words) =
    some_of (is_within (range_of size argument) (number_of word)) (number_reason (k + 1) size wanted words) (range_reason k (range_of size argument) word) (number_of_reader (k + 1) size wanted words)
    (long_of (is_long word) k (range_of size argument).0 (range_of size argument).1)

unless_of : (why : Option Reason) (said : Read) → IsReasonOfReader why → AreOfReader (unless why said)
unless_of None said h = tt
unless_of (Some reason) said h = h

verb_of_reader : (place : Place) (verb : Verb) (args : List (List ℕ)) → AreOfReader (verb_read place verb args)
unfolding verb_read
verb_of_reader place verb args =
    either_of (not (is_in_time verb place.stand)) _ _ (early_of Read (is_first place.stand))
    (either_of (length (arguments_of verb) == length args) _ _
    (unless_of (number_reason 2 place.size (arguments_of verb) args) (said_by place.size verb (numbers_of args)) (number_of_reader 2 place.size (arguments_of verb) args)) tt)

named_of_reader : (place : Place) (verb : Option Verb) (args : List (List ℕ)) → AreOfReader (named_read place verb args)
named_of_reader place None args = tt
named_of_reader place (Some verb) args = verb_of_reader place verb args

words_of_reader : (place : Place) (words : List (List ℕ)) → AreOfReader (words_read place words)
words_of_reader place [] = tt
words_of_reader place (name ∷ args) = named_of_reader place (verb_of name) args

line_of_reader : (place : Place) (line : List ℕ) → AreOfReader (line_read place line)
line_of_reader place line = either_of (list_all is_plain line) (words_read place (words_of line)) (Err BadByte) (words_of_reader place (words_of line)) tt

line_fails : (place : Place) (line : List ℕ) (reason : Reason) → line_read place line ≡ Err reason → IsOfReader reason
line_fails place line reason is = subst (λ (r : Result Read Reason). AreOfReader r) is (line_of_reader place line)

same_err : (n m : ℕ) (r s : Reason) → ◌≡◌ {A = Result Sayings (ℕ × Reason)} (Err (n, r)) (Err (m, s)) → r ≡ s
same_err n m r s e = let both : (n, r) ≡ (m, s) = cc in ap (λ (x : ℕ × Reason). x.1) both

lines_by : (s : Sayings) (n m : ℕ) (entries : List (ℕ × List ℕ)) (reason : Reason) (r : Result Read Reason) → AreOfReader r → ((read : Read) → with_lines (with_read s n read) entries ≡ Err (m, reason) → IsOfReader reason)
    → ◌≡◌ {A = Result Sayings (ℕ × Reason)} (elim r [
      | Ok read ↦ with_lines (with_read s n read) entries
      | Err why ↦ Err (n, why)
    ]) (Err (m, reason)) → IsOfReader reason
lines_by s n m entries reason (Ok read) of on e = on read e
lines_by s n m entries reason (Err why) of on e = subst IsOfReader (same_err n m why reason e) of

lines_fail : (s : Sayings) (entries : List (ℕ × List ℕ)) (n : ℕ) (reason : Reason) → with_lines s entries ≡ Err (n, reason) → IsOfReader reason
unfolding with_lines
lines_fail s [] n reason e = absurd (cc)
lines_fail s (entry ∷ entries) n reason e =
    lines_by s entry.0 n entries reason (line_read s.place entry.1) (line_of_reader s.place entry.1) (λ read more. lines_fail (with_read s entry.0 read) entries n reason more) e

abbrev Script : Type 0
Script = Size × ℕ × List Opening × List Step

end_by : (b : Bool) (end n : ℕ) (script : Script) (reason : Reason) → ◌≡◌ {A = Result Script (ℕ × Reason)} (if b then Err (end, Early) else Ok script) (Err (n, reason)) → IsOfReader reason
end_by true end n script reason e = let both : (end, Early) ≡ (n, reason) = cc in subst IsOfReader (ap (λ (x : ℕ × Reason). x.1) both) tt
end_by false end n script reason e = absurd (cc)

ended_fails : (end n : ℕ) (r : Result Sayings (ℕ × Reason)) (reason : Reason) → ((m : ℕ) (why : Reason) → r ≡ Err (m, why) → IsOfReader why) → ended end r ≡ Err (n, reason) → IsOfReader reason
ended_fails end n (Ok s) reason of e = end_by (is_first s.place.stand) end n _ reason e
ended_fails end n (Err why) reason of e = let both : why ≡ (n, reason) = cc in subst IsOfReader (ap (λ (x : ℕ × Reason). x.1) both) (of why.0 why.1 refl)

reading_fails : (text : List ℕ) (n : ℕ) (reason : Reason) → reading_of text ≡ Err (n, reason) → IsOfReader reason
unfolding reading_of
reading_fails text n reason e = ended_fails _ n (with_lines unsaid (entries_from 1 (lines text))) reason (λ m why is. lines_fail unsaid (entries_from 1 (lines text)) m why is) e

-- a text that is read is a script, and one that isn't is refused
pub script_ok : (text : List ℕ) (script : Script) → reading_of text ≡ Ok script → script_of text ≡ Ok script
unfolding script_of
script_ok text script is = ap refused is

pub no_refusal : (text : List ℕ) (script : Script) (e : ScriptRefusal) → script_of text ≡ Ok script → script_of text ≡ Err e → ⊥
no_refusal text script e is refused = let both : ◌≡◌ {A = Result Script ScriptRefusal} (Ok script) (Err e) = sym is ∙ refused in cc

pub script_fails : (text : List ℕ) (unread : Unread) → Lacks unread (reading_of text) → Fails (refusal_of unread) (script_of text)
unfolding script_of
script_fails text reasons.OutOfMemory h = tt
script_fails text (reasons.Refused n reason) h =
    subst (λ (r : Result Script (ℕ × Reason)). Fails (refused_for n reason) (refused r)) (sym h) (fails_for Script n reason (reading_fails text n reason h))

pub script_refused : (text : List ℕ) (n : ℕ) (reason : Reason) (e : ScriptRefusal) → reading_of text ≡ Err (n, reason) → script_of text ≡ Err e → IsRefusedFor e (Some reason)
unfolding script_of
script_refused text n reason e h is =
    let same : ◌≡◌ {A = Result Script ScriptRefusal} (Err (refused_for n reason)) (Err e) = sym (ap refused h) ∙ is in
    let one : refused_for n reason ≡ e = cc in (n, reason, refl, sym one)

-- so is a text of which a line isn't taken
on_line_err : (n m : ℕ) (r : Result Read Reason) (reason : Reason) → on_line n r ≡ Err (m, reason) → (r ≡ Err reason) × (n ≡ m)
on_line_err n m (Ok read) reason e = absurd (cc)
on_line_err n m (Err why) reason e =
    let both : (n, why) ≡ (m, reason) = cc in (ap (λ (x : ℕ × Reason). Err x.1) both, ap (λ (x : ℕ × Reason). x.0) both)

pub line_lacks : (text : List ℕ) (s : Sayings) (n : ℕ) (line : List ℕ) (entries : List (ℕ × List ℕ)) (unread : Unread) → Lacks unread (on_line n (line_read s.place line))
    → with_lines s ((n, line) ∷ entries) ≡ with_lines unsaid (entries_from 1 (lines text)) → Lacks unread (reading_of text)
unfolding reading_of
line_lacks text s n line entries reasons.OutOfMemory h left = tt
line_lacks text s n line entries (reasons.Refused m reason) h left =
    let (is, same) = on_line_err n m (line_read s.place line) reason h in
    let stops : with_lines unsaid (entries_from 1 (lines text)) ≡ Err (n, reason) = sym left ∙ lines_stop s n line entries reason is in
    ap (ended (length (lines text) + 1)) stops ∙ ap (λ (k : ℕ). Err (k, reason)) same
