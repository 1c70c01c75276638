-- What holds between a desk before each of its calls and behind it holds between it before a script's commands and behind them.
use Rattle.std.proofs.Common.{◌≡◌, ◌∙◌, ℕ, zero, suc, ◌+◌, ◌<◌, ◌&&◌, Bool, true, false, List, [], ◌∷◌, Option, Some, None, take, refl, sym, ap, subst, arith, inl, inr, ⊎_elim, ltb-true, eqb-true}
use Rattle.std.proofs.lemmas.Bool.{and_from, and_parts}
use Rattle.std.specs.List.{list_all}
use Rattle.std.specs.Prelude.{slice_get}
use Rattle.sci_words.specs.declared.tags.Tag.{Tag}
use Rattle.sci_ops.specs.declared.answers.Turn.{Turn as Outcome}
use Rattle.sci_cache.specs.declared.requests.Request as a_request
use Rattle.sci_cache.specs.Requests.{line_of}
use Rattle.sci_script.specs.declared.commands.Size.{Size}
use Rattle.sci_script.specs.declared.commands.Step.{Step}
use Rattle.sci_script.specs.declared.commands.Command.{Command}
use Rattle.sci_script.specs.declared.commands.Command.TheVariants.{Begin, Turn, Done, Rest, End, List as ListLine, Tag as ShowTag, Show}
use Rattle.sci_script.specs.declared.desk.Toward.{Toward}
use Rattle.sci_script.specs.declared.refusals.ScriptRefusal.{ScriptRefusal}
use Rattle.sci_script.specs.declared.refusals.ScriptRefusal.TheVariants.{OutOfMemory, BadCommand, BadNumber, NotDone, WriteFailed}
use Rattle.sci_script.specs.Event.{Event, Began, Turned, Rested, SawMem, SawTag, Saw}
use Rattle.sci_script.specs.Request.{asked, no_words, words_after}
use Rattle.sci_script.specs.Run.{Unended, Calms, CalmsTo, RestsLines, RestsNot, CallEnds, EndsOpenBy, EndsOpen, EndsTo, IsLost, IsUnended, Leaves, Repeats, Loads, StopsAt, Walked, Prints, PrintsAll}
use Rattle.sci_script.specs.Size.{AreIn, IsIn, is_in}
use Rattle.sci_laws.specs.FollowedTurns.{IsOfLine}

-- a call of nodes and lines that there are; a request is as the script has it
abbrev pub Within : Size → (ℕ → a_request.Request → Type 0) → Event → Type 0
Within size asks (Began node request) = asks node request
Within size asks (Turned node turn) = node < size.nodes
Within size asks (Rested line toward) = line < size.lines
Within size asks event = Unit {0}

abbrev pub Asks : (ℕ → a_request.Request → Type 0) → Command → Type 0
Asks asks (Begin node line request) = asks node (asked line request)
Asks asks command = Unit {0}

abbrev pub AllAsk : (ℕ → a_request.Request → Type 0) → List Step → Type 0
AllAsk asks [] = Unit {0}
AllAsk asks (step ∷ steps) = Asks asks step.command × AllAsk asks steps

abbrev MatchStep : Size → Option Step → Type 0
MatchStep size None = Unit {0}
MatchStep size (Some step) = IsIn size step.command

-- what holds of all commands holds of the first, and of the one behind them
abbrev test : Size → Step → Bool
test size step = is_in size step.command

in_front : (size : Size) (k : ℕ) (steps : List Step) → AreIn size steps → AreIn size (take k steps)
in_front size zero steps h = refl
in_front size (suc k) [] h = refl
in_front size (suc k) (step ∷ steps) h =
    let (now, more) = and_parts (test size step) (list_all (test size) steps) h in and_from (test size step) (list_all (test size) (take k steps)) now (in_front size k steps more)

in_there : (size : Size) (k : ℕ) (steps : List Step) (step : Step) → AreIn size steps → slice_get steps k ≡ Some step → IsIn size step.command
in_there size k [] step h is = absurd (let e = is in cc)
in_there size zero (first ∷ steps) step h is =
    let (now, more) = and_parts (test size first) (list_all (test size) steps) h in subst (λ (o : Option Step). MatchStep size o) is now
in_there size (suc k) (first ∷ steps) step h is = let (now, more) = and_parts (test size first) (list_all (test size) steps) h in in_there size k steps step more is

ask_front : (asks : ℕ → a_request.Request → Type 0) (k : ℕ) (steps : List Step) → AllAsk asks steps → AllAsk asks (take k steps)
ask_front asks zero steps h = tt
ask_front asks (suc k) [] h = tt
ask_front asks (suc k) (step ∷ steps) h = (h.0, ask_front asks k steps h.1)

module _ {S : Type 0} (is_open : S → ℕ → Bool) (does : S → Event → S → Type 0) (size : Size) (asks : ℕ → a_request.Request → Type 0) (R : S → S → Type 0)
    (same : (s : S) → R s s) (more : (s m t : S) → R s m → R m t → R s t) (each : (s : S) (event : Event) (t : S) → Within size asks event → does s event t → R s t) where
  stays : (s t : S) → t ≡ s → R s t
  stays s t e = subst (λ (x : S). R s x) (sym e) (same s)

  unended : (node n : ℕ) (s t : S) → node < size.nodes → Unended does node n s t → R s t
  unfolding Unended
  unended node zero s t at h = stays s t h
  unended node (suc n) s t at h = more s h.0 t (unended node n s h.0 at h.2) (each h.0 (Turned node h.1) t at h.4)

  calms : (line n : ℕ) (s t : S) → line < size.lines → Calms does line n s t → R s t
  unfolding Calms
  calms line zero s t at h = stays s t h
  calms line (suc n) s t at h = more s h.0 t (calms line n s h.0 at h.2) (each h.0 (Rested line (Toward.Turned h.1)) t at h.3)

  rests : (m : ℕ) (s t : S) → m < size.lines + 1 → RestsLines does m s t → R s t
  unfolding RestsLines
  rests zero s t at h = stays s t h
  rests (suc m) s t at h =
      let low : m < size.lines = omega (arith, at) in
      let (n, mid, calm, last) = h.2 in
      more s h.0 t (rests m s h.0 (omega (arith, at)) h.1) (more h.0 mid t (calms m n h.0 mid low calm) (each mid (Rested m Toward.Reached) t low last))

  ends_call : (words : List ℕ) (node : ℕ) (s : S) (text : List ℕ) (t : S) → node < size.nodes → CallEnds does words node s text t → R s t
  ends_call words node s text t at (n, few, mid, turns, o, end, last, is) = more s mid t (unended node n s mid at turns) (each mid (Turned node o) t at last)

  ends_by : (b : Bool) (words : List ℕ) (node : ℕ) (s : S) (text : List ℕ) (t : S) → node < size.nodes → EndsOpenBy b does words node s text t → R s t
  ends_by true words node s text t at h = ends_call words node s text t at h
  ends_by false words node s text t at h = stays s t h.1

  ends : (words : List ℕ) (m : ℕ) (s : S) (text : List ℕ) (t : S) → m < size.nodes + 1 → EndsOpen is_open does words m s text t → R s t
  unfolding EndsOpen
  ends words zero s text t at h = stays s t h.1
  ends words (suc m) s text t at h =
      more s h.0 t (ends words m s h.1 h.0 (omega (arith, at)) h.3) (ends_by (is_open h.0 m) words m h.0 h.2 t (omega (arith, at)) h.4)

  repeats : (event : Event) (n : ℕ) (s t : S) → Within size asks event → Repeats does event n s t → R s t
  unfolding Repeats
  repeats event zero s t at h = stays s t h
  repeats event (suc n) s t at h = more s h.0 t (repeats event n s h.0 at h.1) (each h.0 event t at h.2)

  loads : (none some : Event) (s t : S) → Within size asks none → Within size asks some → Loads does none some s t → R s t
  loads none some s t at there (n, few, mid, tries, last) = more s mid t (repeats none n s mid at tries) (each mid some t there last)

  walked : (line : ℕ) (from : Option ℕ) (entries : List (ℕ × Tag)) (next : Option ℕ) (s t : S) → Walked does line from entries next s t → R s t
  unfolding Walked
  walked line from [] next s t h = stays s t h.1
  walked line None (entry ∷ entries) next s t h = absurd h
  walked line (Some node) (entry ∷ entries) next s t h =
      more s h.0 t (loads (SawTag line node None) (SawTag line node (Some h.1)) s h.0 tt tt h.2) (walked line h.1.forw entries next h.0 t h.4)

  pub prints : (words : List ℕ) (s : S) (command : Command) (text : List ℕ) (t : S) → IsIn size command → Asks asks command → Prints is_open does words s command text t → R s t
  prints words s (Begin node line request) text t at ask h = each s (Began node (asked line request)) t ask h.1
  prints words s (Turn node) text t at ask h = each s (Turned node h.1) t (ltb-true node size.nodes at) h.2
  prints words s (Done node) text t at ask (called, n, few, mid, turns, o, end, last, is) =
      let node_in = ltb-true node size.nodes at in more s mid t (unended node n s mid node_in turns) (each mid (Turned node o) t node_in last)
  prints words s (Rest lines) text t at ask h = rests lines s t (let e = eqb-true lines size.lines at in omega (arith, e)) h.0
  prints words s (End nodes lines) text t at ask (mid, rest, end) =
      let all = and_parts _ _ at in
      more s mid t (rests lines s mid (let e = eqb-true lines size.lines all.1 in omega (arith, e)) rest) (ends words nodes mid text t (let e = eqb-true nodes size.nodes all.0 in omega (arith, e)) end)
  prints words s (ListLine line) text t at ask (mid, mem, entries, load, walk, is) =
      more s mid t (loads (SawMem line None) (SawMem line (Some mem)) s mid tt tt load) (walked line mem.forw entries None mid t walk)
  prints words s (ShowTag line node) text t at ask (tag, load, is) = loads (SawTag line node None) (SawTag line node (Some tag)) s t tt tt load
  prints words s (Show what) text t at ask (look, saw, is) = each s (Saw what look) t tt saw

  pub prints_all : (words : List ℕ) (s : S) (steps : List Step) (text : List ℕ) (t : S) → AreIn size steps → AllAsk asks steps → PrintsAll is_open does words s steps text t → R s t
  prints_all words s [] text t at ask h = stays s t h.1
  prints_all words s (step ∷ steps) text t at ask (first, rest, mid, now, behind, is) =
      let all = and_parts _ _ at in more s mid t (prints words s step.command first mid all.0 ask.0 now) (prints_all (words_after words step.command) mid steps rest t all.1 ask.1 behind)

  rests_not : (m : ℕ) (s t : S) → m < size.lines + 1 → RestsNot does m s t → R s t
  rests_not m s t at (line, low, mid, rested, (n, still, calm, last)) =
      let there : line < size.lines = omega (arith, at, low) in
      more s mid t (rests line s mid (omega (arith, there)) rested) (more mid still t (calms line n mid still there calm) (each still (Rested line Toward.Unknown) t there last))

  lost : (nodes line : ℕ) (from : Option ℕ) (s t : S) → IsLost does nodes line from s t → R s t
  lost nodes line from s t (entries, node, mid, walk, end) =
      more s mid t (walked line from entries (Some node) s mid walk) (⊎_elim (λ a. repeats (SawTag line node None) 100000 mid t tt a) (λ b. stays mid t b.1) end)

  unfinished : (nodes : ℕ) (s : S) (command : Command) (t : S) → IsIn size command → IsUnended is_open does nodes s command t → R s t
  unfinished nodes s (Done node) t at h = unended node 100000 s t (ltb-true node size.nodes at) h.1
  unfinished nodes s (Rest lines) t at h = rests_not lines s t (let e = eqb-true lines size.lines at in omega (arith, e)) h
  unfinished nodes s (End ends_at lines) t at h =
      let all = and_parts _ _ at in
      let few : lines < size.lines + 1 = let e = eqb-true lines size.lines all.1 in omega (arith, e) in
      ⊎_elim (λ a. rests_not lines s t few a)
      (λ b. let (node, low, words, text, rested, mid, rest, ended, called, turns) = b in
      let inside : node < size.nodes = let e = eqb-true ends_at size.nodes all.0 in omega (arith, e, low) in
      more s mid t (more s rested mid (rests lines s rested few rest) (ends words node rested text mid (omega (arith, inside)) ended)) (unended node 100000 mid t inside turns)) h
  unfinished nodes s (ListLine line) t at h =
      ⊎_elim (λ a. repeats (SawMem line None) 100000 s t tt a)
      (λ b. let (mid, mem, load, walk) = b in more s mid t (loads (SawMem line None) (SawMem line (Some mem)) s mid tt tt load) (lost nodes line mem.forw mid t walk)) h
  unfinished nodes s (ShowTag line node) t at h = repeats (SawTag line node None) 100000 s t tt h
  unfinished nodes s command t at h = absurd h

  pub leaves : (nodes : ℕ) (s : S) (steps : List Step) (e : ScriptRefusal) (text : List ℕ) (t : S) → IsOfLine e → AreIn size steps → AllAsk asks steps → Leaves is_open does nodes s steps e text t → R s t
  leaves nodes s steps OutOfMemory text t of_line at ask h = absurd of_line
  leaves nodes s steps WriteFailed text t of_line at ask h = absurd of_line
  leaves nodes s steps (BadNumber n) text t of_line at ask h = absurd h
  leaves nodes s steps (BadCommand n) text t of_line at ask (k, mid, step, printed, there, stop) =
      more s mid t (prints_all no_words s (take k steps) text mid (in_front size k steps at) (ask_front asks k steps ask) printed) (stays mid t stop.2)
  leaves nodes s steps (NotDone n) text t of_line at ask (k, mid, step, printed, there, stop) =
      more s mid t (prints_all no_words s (take k steps) text mid (in_front size k steps at) (ask_front asks k steps ask) printed) (unfinished nodes mid step.command t (in_there size k steps step at there) stop.1)
