-- What the commands of a script print over a desk, which may choose. This project's profile.
-- is_open s node: whether the node's call is open; does s event t: the call may give its answer and go from s to t; words: for
-- each node the word that its last load is to show.
use Rattle.std.specs.Prelude.{◌≡◌, ◌⊎◌, ℕ, zero, suc, ◌<◌, Bool, true, false, List, [], ◌∷◌, ◌++◌, length, take, Option, Some, None, slice_get, slice_index}
use Rattle.sci_words.specs.declared.memory.Mem.{Mem}
use Rattle.sci_words.specs.declared.tags.Tag.{Tag}
use Rattle.sci_ops.specs.declared.answers.Turn.{Turn as Outcome}
use Rattle.sci_script.specs.declared.commands.Step.{Step}
use Rattle.sci_script.specs.declared.commands.Command.{Command}
use Rattle.sci_script.specs.declared.commands.Command.TheVariants.{Begin, Turn, Done, Rest, End, List as ListLine, Tag as ShowTag, Show}
use Rattle.sci_script.specs.declared.refusals.ScriptRefusal.{ScriptRefusal}
use Rattle.sci_script.specs.declared.refusals.ScriptRefusal.TheVariants.{OutOfMemory, BadCommand, BadNumber, NotDone, WriteFailed}
use Rattle.sci_script.specs.declared.desk.Look.{Look}
use Rattle.sci_script.specs.declared.desk.Toward.{Toward}
use Rattle.sci_script.specs.Event.{Event, Began, Turned, Rested, SawMem, SawTag, Saw, IsEnd, IsNoEnd}
use Rattle.sci_script.specs.Request.{asked, no_words, words_after}
use Rattle.sci_script.specs.Text.{turn_text, list_line, tag_line, look_line}

-- n turns of the node's call, none of which ends it
unfoldable pub Unended : {S : Type 0} → (S → Event → S → Type 0) → ℕ → ℕ → S → S → Type 0
Unended does node zero s t = t ≡ s
Unended {S} does node (suc n) s t = (mid : S) × (o : Outcome) × Unended does node n s mid × IsNoEnd o × does mid (Turned node o) t

-- n turns towards rest on the line
unfoldable pub Calms : {S : Type 0} → (S → Event → S → Type 0) → ℕ → ℕ → S → S → Type 0
Calms does line zero s t = t ≡ s
Calms {S} does line (suc n) s t = (mid : S) × (node : ℕ) × Calms does line n s mid × does mid (Rested line (Toward.Turned node)) t

-- the line takes turns towards rest, and then this is so
abbrev pub CalmsTo : {S : Type 0} → (S → Event → S → Type 0) → ℕ → Toward → S → S → Type 0
CalmsTo {S} does line toward s t = (n : ℕ) × (mid : S) × Calms does line n s mid × does mid (Rested line toward) t

-- the first m lines are brought to rest, one after another
unfoldable pub RestsLines : {S : Type 0} → (S → Event → S → Type 0) → ℕ → S → S → Type 0
RestsLines does zero s t = t ≡ s
RestsLines {S} does (suc m) s t = (mid : S) × RestsLines does m s mid × CalmsTo does m Toward.Reached mid t

-- of one of the first m lines it isn't known who moves
abbrev pub RestsNot : {S : Type 0} → (S → Event → S → Type 0) → ℕ → S → S → Type 0
RestsNot {S} does m s t = (line : ℕ) × (line < m) × (mid : S) × RestsLines does line s mid × CalmsTo does line Toward.Unknown mid t

-- the node's call is taken to its end, which prints this text
abbrev pub CallEnds : {S : Type 0} → (S → Event → S → Type 0) → List ℕ → ℕ → S → List ℕ → S → Type 0
CallEnds {S} does words node s text t = (n : ℕ) × (n < 100000) × (mid : S) × Unended does node n s mid × (o : Outcome) × IsEnd o × does mid (Turned node o) t × (text ≡ turn_text node (slice_index words node) o)

-- so it is where it is open; else nothing is printed, and all stays
abbrev pub EndsOpenBy : {S : Type 0} → Bool → (S → Event → S → Type 0) → List ℕ → ℕ → S → List ℕ → S → Type 0
EndsOpenBy true does words node s text t = CallEnds does words node s text t
EndsOpenBy false does words node s text t = (text ≡ []) × (t ≡ s)

-- the open calls of the first m nodes are taken to their ends, one after another
unfoldable pub EndsOpen : {S : Type 0} → (S → ℕ → Bool) → (S → Event → S → Type 0) → List ℕ → ℕ → S → List ℕ → S → Type 0
EndsOpen is_open does words zero s text t = (text ≡ []) × (t ≡ s)
EndsOpen {S} is_open does words (suc m) s text t = (mid : S) × (first last : List ℕ) × EndsOpen is_open does words m s first mid × EndsOpenBy (is_open mid m) does words m mid last t × (text ≡ first ++ last)

-- the node's call isn't taken to its end, or memory is refused for the text of its end
abbrev pub EndStops : {S : Type 0} → (S → Event → S → Type 0) → List ℕ → ℕ → ℕ → S → ScriptRefusal → S → Type 0
EndStops does words number node s OutOfMemory t = (last : List ℕ) × CallEnds does words node s last t
EndStops does words number node s (NotDone n) t = (n ≡ number) × Unended does node 100000 s t
EndStops does words number node s _ t = ⊥

-- behind rest and the ends of some of the first m calls, the next is open, and this is so of it
abbrev pub EndsTo : {S : Type 0} → (S → ℕ → Bool) → (S → Event → S → Type 0) → ℕ → ℕ → S → (ℕ → S → Type 0) → Type 0
EndsTo {S} is_open does m lines s next = (node : ℕ) × (node < m) × (words text : List ℕ) × (rested mid : S) × RestsLines does lines s rested × EndsOpen is_open does words node rested text mid × (is_open mid node ≡ true) × next node mid

-- n times in a row this call with this answer
unfoldable pub Repeats : {S : Type 0} → (S → Event → S → Type 0) → Event → ℕ → S → S → Type 0
Repeats does event zero s t = t ≡ s
Repeats {S} does event (suc n) s t = (mid : S) × Repeats does event n s mid × does mid event t

-- a load that is not to be had fewer than 100,000 times in a row, and then is
abbrev pub Loads : {S : Type 0} → (S → Event → S → Type 0) → Event → Event → S → S → Type 0
Loads {S} does none some s t = (n : ℕ) × (n < 100000) × (mid : S) × Repeats does none n s mid × does mid some t

-- along the sharing list of a line, these entries lead from the link `from` to the link `next`
unfoldable pub Walked : {S : Type 0} → (S → Event → S → Type 0) → ℕ → Option ℕ → List (ℕ × Tag) → Option ℕ → S → S → Type 0
Walked does line from [] next s t = (next ≡ from) × (t ≡ s)
Walked does line None (entry ∷ entries) next s t = ⊥
Walked {S} does line (Some node) (entry ∷ entries) next s t = (mid : S) × (tag : Tag) × Loads does (SawTag line node None) (SawTag line node (Some tag)) s mid
    × (entry ≡ (node, tag)) × Walked does line tag.forw entries next mid t

-- from s, the command may print this text and go on to t
abbrev pub Prints : {S : Type 0} → (S → ℕ → Bool) → (S → Event → S → Type 0) → List ℕ → S → Command → List ℕ → S → Type 0
Prints is_open does words s (Begin node line request) text t = (is_open s node ≡ false) × does s (Began node (asked line request)) t × (text ≡ [])
Prints is_open does words s (Turn node) text t = (is_open s node ≡ true) × (o : Outcome) × does s (Turned node o) t × (text ≡ turn_text node (slice_index words node) o)
Prints {S} is_open does words s (Done node) text t = (is_open s node ≡ true) × (n : ℕ) × (n < 100000) × (mid : S) × Unended does node n s mid × (o : Outcome) × IsEnd o × does mid (Turned node o) t
    × (text ≡ turn_text node (slice_index words node) o)
Prints is_open does words s (Rest lines) text t = RestsLines does lines s t × (text ≡ [])
Prints {S} is_open does words s (End nodes lines) text t = (mid : S) × RestsLines does lines s mid × EndsOpen is_open does words nodes mid text t
Prints {S} is_open does words s (ListLine line) text t = (mid : S) × (mem : Mem) × (entries : List (ℕ × Tag)) × Loads does (SawMem line None) (SawMem line (Some mem)) s mid
    × Walked does line mem.forw entries None mid t × (text ≡ list_line line mem entries)
Prints is_open does words s (ShowTag line node) text t = (tag : Tag) × Loads does (SawTag line node None) (SawTag line node (Some tag)) s t × (text ≡ tag_line line node tag)
Prints is_open does words s (Show ask) text t = (look : Look) × does s (Saw ask look) t × (text ≡ look_line look)

-- the commands print this text, one after the other
abbrev pub PrintsAll : {S : Type 0} → (S → ℕ → Bool) → (S → Event → S → Type 0) → List ℕ → S → List Step → List ℕ → S → Type 0
PrintsAll is_open does words s [] text t = (text ≡ []) × (t ≡ s)
PrintsAll {S} is_open does words s (step ∷ steps) text t = (first rest : List ℕ) × (mid : S) × Prints is_open does words s step.command first mid
    × PrintsAll is_open does (words_after words step.command) mid steps rest t × (text ≡ first ++ rest)

-- a call begun while the node's call is open, and a turn without a call
abbrev pub IsOutOfPlace : {S : Type 0} → (S → ℕ → Bool) → S → Command → Type 0
IsOutOfPlace is_open s (Begin node line request) = is_open s node ≡ true
IsOutOfPlace is_open s (Turn node) = is_open s node ≡ false
IsOutOfPlace is_open s (Done node) = is_open s node ≡ false
IsOutOfPlace is_open s command = ⊥

-- from s to t, a walk along these links comes to an entry whose tag is not to be had, or to more entries than nodes
abbrev pub IsLost : {S : Type 0} → (S → Event → S → Type 0) → ℕ → ℕ → Option ℕ → S → S → Type 0
IsLost {S} does nodes line from s t = (entries : List (ℕ × Tag)) × (node : ℕ) × (mid : S) × Walked does line from entries (Some node) s mid
    × (Repeats does (SawTag line node None) 100000 mid t ⊎ ((length entries ≡ nodes) × (t ≡ mid)))

-- a command that doesn't end, from s to t: 100,000 turns, a word that is not to be had, or a list whose links don't end
abbrev pub IsUnended : {S : Type 0} → (S → ℕ → Bool) → (S → Event → S → Type 0) → ℕ → S → Command → S → Type 0
IsUnended is_open does nodes s (Done node) t = (is_open s node ≡ true) × Unended does node 100000 s t
IsUnended is_open does nodes s (Rest lines) t = RestsNot does lines s t
IsUnended is_open does nodes s (End ends lines) t = RestsNot does lines s t ⊎ EndsTo is_open does ends lines s (λ node mid. Unended does node 100000 mid t)
IsUnended {S} is_open does nodes s (ListLine line) t = Repeats does (SawMem line None) 100000 s t
    ⊎ ((mid : S) × (mem : Mem) × Loads does (SawMem line None) (SawMem line (Some mem)) s mid × IsLost does nodes line mem.forw mid t)
IsUnended is_open does nodes s (ShowTag line node) t = Repeats does (SawTag line node None) 100000 s t
IsUnended is_open does nodes s command t = ⊥

-- neither `rest` nor `end`
abbrev pub IsNoRest : Command → Type 0
IsNoRest (Rest lines) = ⊥
IsNoRest (End nodes lines) = ⊥
IsNoRest _ = Unit {0}

-- from s to t, a walk along these links, wherever it came
abbrev pub Walks : {S : Type 0} → (S → Event → S → Type 0) → ℕ → Option ℕ → S → S → Type 0
Walks does line from s t = (entries : List (ℕ × Tag)) × (next : Option ℕ) × Walked does line from entries next s t

-- what a command did before memory was refused, from s to t: its turns or its loads, and else nothing; how far the walk along a
-- list came is open
abbrev pub WantsMemory : {S : Type 0} → (S → ℕ → Bool) → (S → Event → S → Type 0) → S → Command → S → Type 0
WantsMemory is_open does s (Begin node line request) t = (is_open s node ≡ false) × (t ≡ s)
WantsMemory is_open does s (Turn node) t = (is_open s node ≡ true) × (o : Outcome) × does s (Turned node o) t
WantsMemory {S} is_open does s (Done node) t = (is_open s node ≡ true) × (n : ℕ) × (n < 100000) × (mid : S) × Unended does node n s mid × (o : Outcome) × IsEnd o × does mid (Turned node o) t
WantsMemory is_open does s (Rest lines) t = ⊥
WantsMemory is_open does s (End nodes lines) t = EndsTo is_open does nodes lines s (λ node mid. (words last : List ℕ) × CallEnds does words node mid last t)
WantsMemory {S} is_open does s (ListLine line) t = (mid : S) × (mem : Mem) × Loads does (SawMem line None) (SawMem line (Some mem)) s mid × Walks does line mem.forw mid t
WantsMemory is_open does s (ShowTag line node) t = (tag : Tag) × Loads does (SawTag line node None) (SawTag line node (Some tag)) s t
WantsMemory is_open does s (Show ask) t = t ≡ s

-- how one command fails
abbrev pub StopsAt : {S : Type 0} → (S → ℕ → Bool) → (S → Event → S → Type 0) → ℕ → S → Step → ScriptRefusal → S → Type 0
StopsAt is_open does nodes s step OutOfMemory t = WantsMemory is_open does s step.command t
StopsAt is_open does nodes s step (BadCommand n) t = (n ≡ step.number) × IsOutOfPlace is_open s step.command × (t ≡ s)
StopsAt is_open does nodes s step (NotDone n) t = (n ≡ step.number) × IsUnended is_open does nodes s step.command t
StopsAt is_open does nodes s step e t = ⊥

-- what is written where a run fails: the text of the commands before, or, where the writer failed, a front of the text of some, and
-- not all of it
abbrev pub Leaves : {S : Type 0} → (S → ℕ → Bool) → (S → Event → S → Type 0) → ℕ → S → List Step → ScriptRefusal → List ℕ → S → Type 0
Leaves is_open does nodes s steps (BadNumber n) written t = ⊥
Leaves {S} is_open does nodes s steps WriteFailed written t = (k : ℕ) × (text : List ℕ) × (n : ℕ) × PrintsAll is_open does no_words s (take k steps) text t × (n < length text) × (written ≡ take n text)
Leaves {S} is_open does nodes s steps refusal written t = (k : ℕ) × (mid : S) × (step : Step) × PrintsAll is_open does no_words s (take k steps) written mid
    × (slice_get steps k ≡ Some step) × StopsAt is_open does nodes mid step refusal t
