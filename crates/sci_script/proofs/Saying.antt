-- A script's lines, said one by one, print what the script prints.
use Rattle.std.proofs.Common.{◌≡◌, ℕ, ◌+◌, List, [], ◌∷◌, ◌++◌, Bool, true, false, Result, Ok, refl, sym, ap, subst, ◌∙◌, append_assoc}
use Rattle.std.specs.Str.Lines.{lines}
use Rattle.std.proofs.lemmas.List.{append-nil}
use Rattle.sci_script.specs.declared.commands.Size.{Size}
use Rattle.sci_script.specs.declared.commands.Opening.{Opening}
use Rattle.sci_script.specs.declared.commands.Step.{Step}
use Rattle.sci_script.specs.declared.commands.Command.{Command}
use Rattle.sci_script.specs.declared.reasons.Reason.{Reason}
use Rattle.sci_script.specs.declared.said.Read.{Read}
use Rattle.sci_script.specs.declared.said.Read.TheVariants as reads
use Rattle.sci_script.specs.Format.{Sayings, entries_from, script_of, unsaid, with_lines, with_read}
use Rattle.sci_script.specs.Grammar.{first_place, line_read}
use Rattle.sci_script.specs.Request.{no_words, words_after}
use Rattle.sci_script.specs.Run.{PrintsAll}
use Rattle.sci_script.specs.ScriptText.{Opens, IsTextOf}
use Rattle.sci_script.specs.Shared.{Shared, shared_is_open, shared_does}
use Rattle.sci_script.specs.Talks.{Standing, Silent, Gathering, Going, Accepts, AcceptsBy, Says, Takes, anew, heard}
use Rattle.sci_script.specs.Words.{is_skipped}
use Rattle.sci_script.proofs.Fitting.{behind_commands, late_line}
use Rattle.sci_script.proofs.Reading.{entries_skip, entries_found, entries_end, first_read, no_lines, said_of}

pub decide : {X : Type 0} (b : Bool) → (b ≡ true → X) → (b ≡ false → X) → X
decide true f g = f refl
decide false f g = g refl

-- one line more in front
more_said : (s mid : Standing) (line : List ℕ) (lines : List (List ℕ)) (first rest : List ℕ) → Accepts s line first mid → Says mid lines rest → Says s (line ∷ lines) (first ++ rest)
more_said s mid line lines first rest a r = (first ∷ r.0, r.1, (first, r.0, mid, a, r.2, refl), ap (λ (text : List ℕ). first ++ text) r.3)

skipped : (s : Standing) (line : List ℕ) (lines : List (List ℕ)) (text : List ℕ) → is_skipped line ≡ true → Says s lines text → Says s (line ∷ lines) text
skipped s line lines text skip r = more_said s s line lines [] text (subst (λ (b : Bool). AcceptsBy b s line [] s) (sym skip) (refl, refl)) r

-- what a line of a script says it says in a talk
pub heard_as : (said : Sayings) (line : List ℕ) (read : Read) → line_read said.place line ≡ Ok read → heard (Gathering said) line ≡ Ok read
heard_as said line read is = ap (λ (r : Result Read Reason). anew r (line_read first_place line)) is

accepted : (s t : Standing) (line text : List ℕ) (read : Read) → is_skipped line ≡ false → heard s line ≡ Ok read → Takes s read text t → Accepts s line text t
accepted s t line text read kept is k = subst (λ (b : Bool). AcceptsBy b s line text t) (sym kept) (read, is, k)

-- lines behind a command, and what they say: commands
abbrev pub Commands : Size → List (ℕ × List ℕ) → List Step → Type 0
Commands size [] steps = steps ≡ []
Commands size (entry ∷ entries) steps = (command : Command) × (more : List Step) × (line_read (behind_commands size) entry.1 ≡ Ok (reads.Command command)) × Commands size entries more
    × (steps ≡ record { number = entry.0; command = command } ∷ more)

abbrev pub commanded : Size → ℕ → List Opening → List Step → Sayings
commanded size capacity openings steps = record { place = behind_commands size; capacity = capacity; openings = openings; steps = steps }

pub commands_of : (size : Size) (capacity : ℕ) (openings : List Opening) (front : List Step) (entries : List (ℕ × List ℕ)) (f : Sayings) → with_lines (commanded size capacity openings front) entries ≡ Ok f
    → (steps : List Step) × Commands size entries steps × (f ≡ commanded size capacity openings (front ++ steps))
commands_of size capacity openings front [] f e =
    ([], refl, sym (no_lines (commanded size capacity openings front) f e) ∙ ap (commanded size capacity openings) (sym (append-nil front)))
commands_of size capacity openings front (entry ∷ entries) f e =
    let s = commanded size capacity openings front in
    let (read, is, more) = first_read s entry entries f e in
    let (command, same) = late_line size entry.1 read is in
    let step : Step = record { number = entry.0; command = command } in
    let (steps, are, to) = commands_of size capacity openings (front ++ step ∷ []) entries f (subst (λ (r : Read). with_lines (with_read s entry.0 r) entries ≡ Ok f) same more) in
    (step ∷ steps, (command, steps, is ∙ ap (λ (r : Read). Ok r) same, are, refl), to ∙ ap (commanded size capacity openings) (append_assoc front (step ∷ []) steps))

-- behind the first command
going : (lines : List (List ℕ)) (n : ℕ) (size : Size) (shown : List ℕ) (s t : Shared) (steps : List Step) (text : List ℕ) → Commands size (entries_from n lines) steps
    → PrintsAll shared_is_open shared_does shown s steps text t → Says (Going size shown s) lines text
going [] n size shown s t steps text c p =
    let none = subst (λ (es : List (ℕ × List ℕ)). Commands size es steps) (entries_end n) c in
    let q = subst (λ (ss : List Step). PrintsAll shared_is_open shared_does shown s ss text t) none p in
    ([], Going size shown s, (refl, refl), sym q.0)
going (line ∷ lines) n size shown s t steps text c p = decide (is_skipped line)
    (λ skip. skipped (Going size shown s) line lines text skip
    (going lines (n + 1) size shown s t steps text (subst (λ (es : List (ℕ × List ℕ)). Commands size es steps) (entries_skip n line lines (is_skipped line) refl skip) c) p))
    (λ kept.
    let (command, more, is, are, all) = subst (λ (es : List (ℕ × List ℕ)). Commands size es steps) (entries_found n line lines (is_skipped line) refl kept) c in
    let q = subst (λ (ss : List Step). PrintsAll shared_is_open shared_does shown s ss text t) all p in
    let after = words_after shown command in
    subst (Says (Going size shown s) (line ∷ lines)) (sym q.5)
    (more_said (Going size shown s) (Going size after q.2) line lines q.0 q.1
    (accepted (Going size shown s) (Going size after q.2) line q.0 (reads.Command command) kept is (q.2, q.3, refl)) (going lines (n + 1) size after q.2 t more q.1 are q.4)))

-- the first line that says something
front_said : (line : List ℕ) (lines : List (List ℕ)) (n : ℕ) (s f : Sayings) (from to : Shared) (text : List ℕ) (read : Read) → s.steps ≡ [] → is_skipped line ≡ false → line_read s.place line ≡ Ok read
    → with_lines (with_read s n read) (entries_from (n + 1) lines) ≡ Ok f → Opens f.place.size f.capacity f.openings from → PrintsAll shared_is_open shared_does no_words from f.steps text to
    → ((next : Sayings) → next.steps ≡ [] → with_lines next (entries_from (n + 1) lines) ≡ Ok f → Says (Gathering next) lines text)
    → Says (Gathering s) (line ∷ lines) text
front_said line lines n s f from to text (reads.Memory size) none kept is more o p on =
    let next = with_read s 1 (reads.Memory size) in
    more_said (Gathering s) (Gathering next) line lines [] text (accepted (Gathering s) (Gathering next) line [] (reads.Memory size) kept (heard_as s line (reads.Memory size) is) (refl, refl)) (on next refl more)
front_said line lines n s f from to text (reads.Capacity capacity) none kept is more o p on =
    let next = with_read s 1 (reads.Capacity capacity) in
    more_said (Gathering s) (Gathering next) line lines [] text (accepted (Gathering s) (Gathering next) line [] (reads.Capacity capacity) kept (heard_as s line (reads.Capacity capacity) is) (refl, refl)) (on next none more)
front_said line lines n s f from to text (reads.Open opening) none kept is more o p on =
    let next = with_read s 1 (reads.Open opening) in
    more_said (Gathering s) (Gathering next) line lines [] text (accepted (Gathering s) (Gathering next) line [] (reads.Open opening) kept (heard_as s line (reads.Open opening) is) (refl, refl)) (on next none more)
front_said line lines n s f from to text (reads.Command command) none kept is more o p on =
    let size = s.place.size in
    let step : Step = record { number = n; command = command } in
    let (steps, are, all) = commands_of size s.capacity s.openings (s.steps ++ step ∷ []) (entries_from (n + 1) lines) f more in
    let behind : f ≡ commanded size s.capacity s.openings (step ∷ steps) = all ∙ ap (λ (ss : List Step). commanded size s.capacity s.openings ((ss ++ step ∷ []) ++ steps)) none in
    let opened = subst (λ (x : Sayings). Opens x.place.size x.capacity x.openings from) behind o in
    let q = subst (λ (x : Sayings). PrintsAll shared_is_open shared_does no_words from x.steps text to) behind p in
    let after = words_after no_words command in
    subst (Says (Gathering s) (line ∷ lines)) (sym q.5)
    (more_said (Gathering s) (Going size after q.2) line lines q.0 q.1
    (accepted (Gathering s) (Going size after q.2) line q.0 (reads.Command command) kept (heard_as s line (reads.Command command) is) (from, q.2, opened, q.3, refl)) (going lines (n + 1) size after q.2 to steps q.1 are q.4))

-- lines of which none is behind a command yet
said : (lines : List (List ℕ)) (n : ℕ) (s f : Sayings) (from to : Shared) (text : List ℕ) → s.steps ≡ [] → with_lines s (entries_from n lines) ≡ Ok f
    → Opens f.place.size f.capacity f.openings from → PrintsAll shared_is_open shared_does no_words from f.steps text to → Says (Gathering s) lines text
said [] n s f from to text none e o p =
    let same = no_lines s f (ap (with_lines s) (sym (entries_end n)) ∙ e) in
    let q = subst (λ (ss : List Step). PrintsAll shared_is_open shared_does no_words from ss text to) (ap (λ (x : Sayings). x.steps) (sym same) ∙ none) p in
    ([], Gathering s, (refl, refl), sym q.0)
said (line ∷ lines) n s f from to text none e o p = decide (is_skipped line)
    (λ skip. skipped (Gathering s) line lines text skip (said lines (n + 1) s f from to text none (ap (with_lines s) (sym (entries_skip n line lines (is_skipped line) refl skip)) ∙ e) o p))
    (λ kept.
    let (read, is, more) = first_read s (n, line) (entries_from (n + 1) lines) f (ap (with_lines s) (sym (entries_found n line lines (is_skipped line) refl kept)) ∙ e) in
    front_said line lines n s f from to text read none kept is more o p (λ next left on. said lines (n + 1) next f from to text left on o p))

pub of_script : (input text : List ℕ) (script : Size × ℕ × List Opening × List Step) → script_of input ≡ Ok script → IsTextOf script.0 script.1 script.2 script.3 text → Says Silent (lines input) text
of_script input text script e t =
    let (f, all, is) = said_of input script e in
    said (lines input) 1 unsaid f t.0 t.1 text refl all (subst (λ (q : Size × ℕ × List Opening × List Step). Opens q.0 q.1 q.2 t.0) (sym is) t.2)
    (subst (λ (q : Size × ℕ × List Opening × List Step). PrintsAll shared_is_open shared_does no_words t.0 q.3 text t.1) (sym is) t.3)
