-- What a script's lines print, said one by one, is the script's text.
use Rattle.std.proofs.Common.{◌≡◌, ℕ, ◌+◌, List, [], ◌∷◌, ◌++◌, Bool, true, false, None, Ok, refl, sym, ap, subst, ◌∙◌}
use Rattle.std.specs.List.{flat_map}
use Rattle.std.specs.Str.Lines.{lines}
use Rattle.sci_core.specs.State.{opened}
use Rattle.sci_cache.specs.Nodes.{node_state}
use Rattle.sci_script.specs.declared.commands.Size.{Size}
use Rattle.sci_script.specs.declared.commands.Opening.{Opening}
use Rattle.sci_script.specs.declared.commands.Step.{Step}
use Rattle.sci_script.specs.declared.said.Read.{Read}
use Rattle.sci_script.specs.declared.said.Read.TheVariants as reads
use Rattle.sci_script.specs.Format.{Sayings, entries_from, script_of, unsaid, with_lines, with_read}
use Rattle.sci_script.specs.Grammar.{line_read}
use Rattle.sci_script.specs.Openings.{zeros, content_of}
use Rattle.sci_script.specs.Request.{no_words, words_after}
use Rattle.sci_script.specs.Run.{PrintsAll}
use Rattle.sci_script.specs.ScriptText.{IsTextOf, Opens}
use Rattle.sci_script.specs.Shared.{Shared, shared_is_open, shared_does}
use Rattle.sci_script.specs.Talks.{Standing, Silent, Gathering, Going, Accepts, AcceptsBy, AcceptsAll, Says, Takes, heard}
use Rattle.sci_script.specs.Words.{is_skipped}
use Rattle.sci_script.proofs.Reading.{entries_skip, entries_found, entries_end, first_read, no_lines, said_of, same_ok}
use Rattle.sci_script.proofs.Saying.{Commands, commanded, commands_of, decide, heard_as}

-- what the parts are together
abbrev together : List (List ℕ) → List ℕ
together parts = flat_map (λ (part : List ℕ). part) parts

-- a skipped line prints nothing and leads nowhere, and another is read
skips : (s mid : Standing) (line first : List ℕ) → is_skipped line ≡ true → Accepts s line first mid → (first ≡ []) × (mid ≡ s)
skips s mid line first skip a = subst (λ (b : Bool). AcceptsBy b s line first mid) skip a

takes : (s mid : Standing) (line first : List ℕ) (read : Read) → is_skipped line ≡ false → heard s line ≡ Ok read → Accepts s line first mid → Takes s read first mid
takes s mid line first read kept is a =
    let (found, found_is, k) = subst (λ (b : Bool). AcceptsBy b s line first mid) kept a in
    subst (λ (r : Read). Takes s r first mid) (same_ok found read (sym found_is ∙ is)) k

-- behind a skipped line
past : (s mid : Standing) (line first : List ℕ) (lines rest : List (List ℕ)) (t : Standing) → is_skipped line ≡ true → Accepts s line first mid → AcceptsAll mid lines rest t → AcceptsAll s lines rest t × (together (first ∷ rest) ≡ together rest)
past s mid line first lines rest t skip a all =
    let k = skips s mid line first skip a in
    (subst (λ (m : Standing). AcceptsAll m lines rest t) k.1 all, ap (λ (f : List ℕ). f ++ together rest) k.0)

-- behind the first command
heard_going : (lines : List (List ℕ)) (n : ℕ) (size : Size) (shown : List ℕ) (s : Shared) (steps : List Step) (parts : List (List ℕ)) (u : Standing) → Commands size (entries_from n lines) steps
    → AcceptsAll (Going size shown s) lines parts u → (t : Shared) × PrintsAll shared_is_open shared_does shown s steps (together parts) t
heard_going [] n size shown s steps parts u c a =
    let none = subst (λ (es : List (ℕ × List ℕ)). Commands size es steps) (entries_end n) c in
    subst (λ (ss : List Step). (t : Shared) × PrintsAll shared_is_open shared_does shown s ss (together parts) t) (sym none) (s, (ap together a.0, refl))
heard_going (line ∷ lines) n size shown s steps parts u c (first, rest, mid, a, all, is) =
    subst (λ (ps : List (List ℕ)). (t : Shared) × PrintsAll shared_is_open shared_does shown s steps (together ps) t) (sym is) (decide (is_skipped line)
    (λ skip.
    let p = past (Going size shown s) mid line first lines rest u skip a all in
    subst (λ (text : List ℕ). (t : Shared) × PrintsAll shared_is_open shared_does shown s steps text t) (sym p.1)
    (heard_going lines (n + 1) size shown s steps rest u (subst (λ (es : List (ℕ × List ℕ)). Commands size es steps) (entries_skip n line lines (is_skipped line) refl skip) c) p.0))
    (λ kept.
    let (command, more, said, are, these) = subst (λ (es : List (ℕ × List ℕ)). Commands size es steps) (entries_found n line lines (is_skipped line) refl kept) c in
    let (e, printed, to) = takes (Going size shown s) mid line first (reads.Command command) kept said a in
    let after = words_after shown command in
    let rest_of = heard_going lines (n + 1) size after e more rest u are (subst (λ (m : Standing). AcceptsAll m lines rest u) to all) in
    subst (λ (ss : List Step). (t : Shared) × PrintsAll shared_is_open shared_does shown s ss (together (first ∷ rest)) t) (sym these)
    (rest_of.0, (first, together rest, e, printed, rest_of.1, refl))))

-- lines that nobody has used, and nodes without a call
unused : Size → ℕ → List Opening → Shared
unused size capacity openings = record { width = size.nodes; lines = λ line. opened size.nodes (content_of line zeros openings); nodes = λ node. node_state node size.lines capacity false [] None }

opens_unused : (size : Size) (capacity : ℕ) (openings : List Opening) → Opens size capacity openings (unused size capacity openings)
unfolding unused
opens_unused size capacity openings = record { width = refl; lines = λ line low. refl; nodes = λ node low. refl }

-- what lines say that say this
abbrev IsTextBehind : Sayings → List ℕ → Type 0
IsTextBehind f text = IsTextOf f.place.size f.capacity f.openings f.steps text

-- the first line that says something
heard_front : (line first : List ℕ) (lines rest : List (List ℕ)) (n : ℕ) (s f : Sayings) (read : Read) (mid u : Standing) → s.steps ≡ [] → is_skipped line ≡ false → line_read s.place line ≡ Ok read
    → with_lines (with_read s n read) (entries_from (n + 1) lines) ≡ Ok f → Takes (Gathering s) read first mid → AcceptsAll mid lines rest u
    → ((next : Sayings) → next.steps ≡ [] → with_lines next (entries_from (n + 1) lines) ≡ Ok f → AcceptsAll (Gathering next) lines rest u → IsTextBehind f (together rest))
    → IsTextBehind f (together (first ∷ rest))
heard_front line first lines rest n s f (reads.Memory size) mid u none kept is more k all on =
    subst (λ (t : List ℕ). IsTextBehind f (t ++ together rest)) (sym k.0) (on (with_read s 1 (reads.Memory size)) refl more (subst (λ (m : Standing). AcceptsAll m lines rest u) k.1 all))
heard_front line first lines rest n s f (reads.Capacity capacity) mid u none kept is more k all on =
    subst (λ (t : List ℕ). IsTextBehind f (t ++ together rest)) (sym k.0) (on (with_read s 1 (reads.Capacity capacity)) none more (subst (λ (m : Standing). AcceptsAll m lines rest u) k.1 all))
heard_front line first lines rest n s f (reads.Open opening) mid u none kept is more k all on =
    subst (λ (t : List ℕ). IsTextBehind f (t ++ together rest)) (sym k.0) (on (with_read s 1 (reads.Open opening)) none more (subst (λ (m : Standing). AcceptsAll m lines rest u) k.1 all))
heard_front line first lines rest n s f (reads.Command command) mid u none kept is more (from, e, opened, printed, to) all on =
    let size = s.place.size in
    let step : Step = record { number = n; command = command } in
    let (steps, are, these) = commands_of size s.capacity s.openings (s.steps ++ step ∷ []) (entries_from (n + 1) lines) f more in
    let behind : f ≡ commanded size s.capacity s.openings (step ∷ steps) = these ∙ ap (λ (ss : List Step). commanded size s.capacity s.openings ((ss ++ step ∷ []) ++ steps)) none in
    let rest_of = heard_going lines (n + 1) size (words_after no_words command) e steps rest u are (subst (λ (m : Standing). AcceptsAll m lines rest u) to all) in
    subst (λ (x : Sayings). IsTextBehind x (together (first ∷ rest))) (sym behind) (from, rest_of.0, opened, (first, together rest, e, printed, rest_of.1, refl))

-- lines of which none is behind a command yet
heard_lines : (lines : List (List ℕ)) (n : ℕ) (s f : Sayings) (parts : List (List ℕ)) (u : Standing) → s.steps ≡ [] → with_lines s (entries_from n lines) ≡ Ok f → AcceptsAll (Gathering s) lines parts u
    → IsTextBehind f (together parts)
heard_lines [] n s f parts u none e a =
    let same = no_lines s f (ap (with_lines s) (sym (entries_end n)) ∙ e) in
    let from = unused f.place.size f.capacity f.openings in
    let nothing = ap (λ (x : Sayings). x.steps) (sym same) ∙ none in
    (from, from, opens_unused f.place.size f.capacity f.openings, subst (λ (ss : List Step). PrintsAll shared_is_open shared_does no_words from ss (together parts) from) (sym nothing) (ap together a.0, refl))
heard_lines (line ∷ lines) n s f parts u none e (first, rest, mid, a, all, is) =
    subst (λ (ps : List (List ℕ)). IsTextBehind f (together ps)) (sym is) (decide (is_skipped line)
    (λ skip.
    let p = past (Gathering s) mid line first lines rest u skip a all in
    subst (IsTextBehind f) (sym p.1) (heard_lines lines (n + 1) s f rest u none (ap (with_lines s) (sym (entries_skip n line lines (is_skipped line) refl skip)) ∙ e) p.0))
    (λ kept.
    let (read, reads, more) = first_read s (n, line) (entries_from (n + 1) lines) f (ap (with_lines s) (sym (entries_found n line lines (is_skipped line) refl kept)) ∙ e) in
    heard_front line first lines rest n s f read mid u none kept reads more (takes (Gathering s) mid line first read kept (heard_as s line read reads) a) all
    (λ next left on these. heard_lines lines (n + 1) next f rest u left on these)))

pub heard_script : (input text : List ℕ) (script : Size × ℕ × List Opening × List Step) → script_of input ≡ Ok script → Says Silent (lines input) text → IsTextOf script.0 script.1 script.2 script.3 text
heard_script input text script e (parts, u, all, is) =
    let (f, these, same) = said_of input script e in
    subst (λ (q : Size × ℕ × List Opening × List Step). IsTextOf q.0 q.1 q.2 q.3 text) same (subst (IsTextBehind f) is (heard_lines (lines input) 1 unsaid f parts u refl these all))
