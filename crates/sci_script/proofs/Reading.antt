-- Lines that are read one after another.
use Rattle.std.proofs.Common.{◌≡◌, ℕ, ◌+◌, ◌∷◌, List, [], length, true, false, Bool, Result, Ok, Err, IfOk, if◌then◌else◌, refl, sym, ap, ◌∙◌}
use Rattle.std.specs.Str.Lines.{lines}
use Rattle.sci_script.specs.declared.commands.Size.{Size}
use Rattle.sci_script.specs.declared.commands.Opening.{Opening}
use Rattle.sci_script.specs.declared.commands.Step.{Step}
use Rattle.sci_script.specs.declared.reasons.Reason.{Reason}
use Rattle.sci_script.specs.declared.reasons.Reason.TheVariants.{Early}
use Rattle.sci_script.specs.declared.refusals.ScriptRefusal.{ScriptRefusal}
use Rattle.sci_script.specs.declared.said.Read.{Read}
use Rattle.sci_script.specs.Words.{is_skipped}
use Rattle.sci_script.specs.Format.{Sayings, ended, entries_from, on_line, reading_of, refused, script_of, unsaid, with_lines, with_read}
use Rattle.sci_script.specs.Grammar.{is_first, line_read}

pub entries_skip : (n : ℕ) (line : List ℕ) (lines : List (List ℕ)) (r : Bool) → r ≡ is_skipped line → r ≡ true → entries_from n (line ∷ lines) ≡ entries_from (n + 1) lines
unfolding entries_from
entries_skip n line lines r is h = let skipped : is_skipped line ≡ true = sym is ∙ h in rw skipped refl

pub entries_found : (n : ℕ) (line : List ℕ) (lines : List (List ℕ)) (r : Bool) → r ≡ is_skipped line → r ≡ false → entries_from n (line ∷ lines) ≡ (n, line) ∷ entries_from (n + 1) lines
unfolding entries_from
entries_found n line lines r is h = let kept : is_skipped line ≡ false = sym is ∙ h in rw kept refl

pub entries_end : (n : ℕ) → entries_from n [] ≡ []
unfolding entries_from
entries_end n = refl

pub same_ok : {A E : Type 0} (x y : A) → ◌≡◌ {A = Result A E} (Ok x) (Ok y) → x ≡ y
same_ok x y e = cc

pub if_ok_then : {X E : Type 0} (r : Result X E) (P Q : X → Type 0) → IfOk r P → ((x : X) → P x → Q x) → IfOk r Q
if_ok_then (Ok x) P Q h f = f x h
if_ok_then (Err e) P Q h f = tt

-- the first line is taken, or not
pub lines_more : (s : Sayings) (n : ℕ) (line : List ℕ) (entries : List (ℕ × List ℕ)) (read : Read) → line_read s.place line ≡ Ok read → with_lines s ((n, line) ∷ entries) ≡ with_lines (with_read s n read) entries
unfolding with_lines
lines_more s n line entries read is = rw (is, with_lines) refl

pub lines_stop : (s : Sayings) (n : ℕ) (line : List ℕ) (entries : List (ℕ × List ℕ)) (reason : Reason) → line_read s.place line ≡ Err reason → with_lines s ((n, line) ∷ entries) ≡ Err (n, reason)
unfolding with_lines
lines_stop s n line entries reason is = rw (is, with_lines) refl

pub lines_end : (s : Sayings) → with_lines s [] ≡ Ok s
unfolding with_lines
lines_end s = refl

first_by : (s : Sayings) (n : ℕ) (entries : List (ℕ × List ℕ)) (f : Sayings) (r : Result Read Reason) → ◌≡◌ {A = Result Sayings (ℕ × Reason)} (elim r [
  | Ok read ↦ with_lines (with_read s n read) entries
  | Err reason ↦ Err (n, reason)
]) (Ok f) → (read : Read) × (r ≡ Ok read) × (with_lines (with_read s n read) entries ≡ Ok f)
first_by s n entries f (Ok read) e = (read, refl, e)
first_by s n entries f (Err reason) e = absurd (cc)

on_line_ok : (n : ℕ) (r : Result Read Reason) (read : Read) → on_line n r ≡ Ok read → r ≡ Ok read
on_line_ok n (Ok said) read e = cc
on_line_ok n (Err reason) read e = absurd (cc)

-- a line that is taken is gone past
pub line_taken : (s : Sayings) (n : ℕ) (line : List ℕ) (entries : List (ℕ × List ℕ)) (read : Read) → on_line n (line_read s.place line) ≡ Ok read → with_lines s ((n, line) ∷ entries) ≡ with_lines (with_read s n read) entries
line_taken s n line entries read e = lines_more s n line entries read (on_line_ok n (line_read s.place line) read e)

-- behind the last line all is read
pub all_read : (text : List ℕ) (s : Sayings) (entries : List (ℕ × List ℕ)) (end : ℕ) → with_lines s entries ≡ with_lines unsaid (entries_from 1 (lines text)) → entries ≡ [] → end ≡ length (lines text) + 1
    → ended end (Ok s) ≡ reading_of text
unfolding reading_of
all_read text s entries end left none is =
    let said : Ok s ≡ with_lines unsaid (entries_from 1 (lines text)) = sym (lines_end s) ∙ ap (with_lines s) (sym none) ∙ left in
    ap (λ (e : ℕ). ended e (Ok s)) is ∙ ap (ended (length (lines text) + 1)) said

-- of lines that are all taken the first is
pub first_read : (s : Sayings) (entry : ℕ × List ℕ) (entries : List (ℕ × List ℕ)) (f : Sayings) → with_lines s (entry ∷ entries) ≡ Ok f
    → (read : Read) × (line_read s.place entry.1 ≡ Ok read) × (with_lines (with_read s entry.0 read) entries ≡ Ok f)
unfolding with_lines
first_read s entry entries f e = first_by s entry.0 entries f (line_read s.place entry.1) e

pub no_lines : (s f : Sayings) → with_lines s [] ≡ Ok f → s ≡ f
unfolding with_lines
no_lines s f e = same_ok s f e

-- a script is what all its lines say
ended_by : (end : ℕ) (b : Bool) (f : Sayings) (script : Size × ℕ × List Opening × List Step) → ◌≡◌ {A = Result (Size × ℕ × List Opening × List Step) (ℕ × Reason)} (if b then Err (end, Early) else Ok (f.place.size, f.capacity, f.openings, f.steps)) (Ok script)
    → (f.place.size, f.capacity, f.openings, f.steps) ≡ script
ended_by end true f script e = absurd (cc)
ended_by end false f script e = same_ok _ script e

ended_of : (end : ℕ) (r : Result Sayings (ℕ × Reason)) (script : Size × ℕ × List Opening × List Step) → ended end r ≡ Ok script
    → (f : Sayings) × (r ≡ Ok f) × ((f.place.size, f.capacity, f.openings, f.steps) ≡ script)
ended_of end (Err why) script e = absurd (cc)
ended_of end (Ok f) script e = (f, refl, ended_by end (is_first f.place.stand) f script e)

refused_ok : {X : Type 0} (r : Result X (ℕ × Reason)) (x : X) → refused r ≡ Ok x → r ≡ Ok x
refused_ok (Ok y) x e = cc
refused_ok (Err why) x e = absurd (cc)

pub said_of : (input : List ℕ) (script : Size × ℕ × List Opening × List Step) → script_of input ≡ Ok script
    → (f : Sayings) × (with_lines unsaid (entries_from 1 (lines input)) ≡ Ok f) × ((f.place.size, f.capacity, f.openings, f.steps) ≡ script)
unfolding script_of reading_of
said_of input script e = ended_of _ _ script (refused_ok _ script e)
