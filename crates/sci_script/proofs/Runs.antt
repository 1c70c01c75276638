-- One more turn, one more entry, one more command.
use Rattle.std.proofs.Common.{◌≡◌, ℕ, zero, suc, ◌+◌, ◌<◌, ◌≤◌, Bool, true, false, List, length, get_or, take, [], ◌∷◌, ◌++◌, Option, Some, None, Result, IfErr, is_some, inr, refl, sym, ap, subst, ◌∙◌, append_assoc, arith}
use Rattle.std.proofs.lemmas.List.{append-nil, take_more, take_all}
use Rattle.std.proofs.lemmas.List.Sums.{AllPass-from_list_all}
use Rattle.std.proofs.lemmas.Option.{slice_get_read}
use Rattle.std.specs.Prelude.{slice_get}
use Rattle.sci_words.specs.declared.tags.Tag.{Tag}
use Rattle.sci_script.specs.declared.commands.Size.{Size}
use Rattle.sci_script.specs.declared.commands.Step.{Step}
use Rattle.sci_script.specs.declared.commands.Command.{Command}
use Rattle.sci_script.specs.declared.commands.Command.TheVariants.{End}
use Rattle.sci_script.specs.declared.desk.Toward.{Toward}
use Rattle.sci_ops.specs.declared.answers.Turn.{Turn}
use Rattle.sci_script.specs.declared.refusals.ScriptRefusal.{ScriptRefusal}
use Rattle.sci_script.specs.declared.refusals.ScriptRefusal.TheVariants.{OutOfMemory, BadCommand, BadNumber, NotDone, WriteFailed}
use Rattle.sci_script.specs.Event.{Event, Turned, Rested, SawTag, IsNoEnd}
use Rattle.sci_script.specs.Request.{no_words, words_after}
use Rattle.sci_script.specs.Size.{AreIn, IsIn, is_in}
use Rattle.sci_script.specs.Run.{Unended, Calms, CalmsTo, RestsLines, EndsOpenBy, EndsOpen, EndStops, Repeats, Loads, Walked, IsLost, Prints, PrintsAll, StopsAt, Leaves}

pub unended_none : {S : Type 0} (does : S → Event → S → Type 0) (node : ℕ) (s : S) → Unended does node 0 s s
unfolding Unended
unended_none does node s = refl

pub unended_more : {S : Type 0} (does : S → Event → S → Type 0) (node n : ℕ) (s mid t : S) (o : Turn) → Unended does node n s mid → IsNoEnd o → does mid (Turned node o) t → Unended does node (n + 1) s t
unfolding Unended
unended_more does node n s mid t o before no-end turned = let e : suc n ≡ n + 1 = omega arith in subst (λ k. Unended does node k s t) e (mid, o, before, no-end, turned)

pub repeats_none : {S : Type 0} (does : S → Event → S → Type 0) (event : Event) (s : S) → Repeats does event 0 s s
unfolding Repeats
repeats_none does event s = refl

pub repeats_more : {S : Type 0} (does : S → Event → S → Type 0) (event : Event) (n : ℕ) (s mid t : S) → Repeats does event n s mid → does mid event t → Repeats does event (n + 1) s t
unfolding Repeats
repeats_more does event n s mid t before now = let e : suc n ≡ n + 1 = omega arith in subst (λ k. Repeats does event k s t) e (mid, before, now)

-- turns that move end no call
pub moves_unended : {S : Type 0} (does : S → Event → S → Type 0) (node n : ℕ) (s t : S) → Repeats does (Turned node Turn.Moved) n s t → Unended does node n s t
unfolding Repeats Unended
moves_unended does node zero s t h = h
moves_unended does node (suc n) s t h = (h.0, Turn.Moved, moves_unended does node n s h.0 h.1, tt, h.2)

pub calms_none : {S : Type 0} (does : S → Event → S → Type 0) (line : ℕ) (s : S) → Calms does line 0 s s
unfolding Calms
calms_none does line s = refl

pub calms_more : {S : Type 0} (does : S → Event → S → Type 0) (line n node : ℕ) (s mid t : S) → Calms does line n s mid → does mid (Rested line (Toward.Turned node)) t → Calms does line (n + 1) s t
unfolding Calms
calms_more does line n node s mid t before now = let e : suc n ≡ n + 1 = omega arith in subst (λ (k : ℕ). Calms does line k s t) e (mid, node, before, now)

pub rests_none : {S : Type 0} (does : S → Event → S → Type 0) (s : S) → RestsLines does 0 s s
unfolding RestsLines
rests_none does s = refl

pub rests_more : {S : Type 0} (does : S → Event → S → Type 0) (m : ℕ) (s mid t : S) → RestsLines does m s mid → CalmsTo does m Toward.Reached mid t → RestsLines does (m + 1) s t
unfolding RestsLines
rests_more does m s mid t before now = let e : suc m ≡ m + 1 = omega arith in subst (λ (k : ℕ). RestsLines does k s t) e (mid, before, now)

pub ends_open_none : {S : Type 0} (is_open : S → ℕ → Bool) (does : S → Event → S → Type 0) (words text : List ℕ) (s : S) → text ≡ [] → EndsOpen is_open does words 0 s text s
unfolding EndsOpen
ends_open_none is_open does words text s e = (e, refl)

pub ends_open_more : {S : Type 0} (is_open : S → ℕ → Bool) (does : S → Event → S → Type 0) (words : List ℕ) (m : ℕ) (s mid t : S) (first last text : List ℕ) → EndsOpen is_open does words m s first mid
    → EndsOpenBy (is_open mid m) does words m mid last t → text ≡ first ++ last → EndsOpen is_open does words (m + 1) s text t
unfolding EndsOpen
ends_open_more is_open does words m s mid t first last text before now is = let e : suc m ≡ m + 1 = omega arith in subst (λ (k : ℕ). EndsOpen is_open does words k s text t) e (mid, first, last, before, now, is)

-- a call that isn't taken to its end behind rest and others
pub end_stops : {S : Type 0} (is_open : S → ℕ → Bool) (does : S → Event → S → Type 0) (words text : List ℕ) (nodes lines number node : ℕ) (s rested mid t : S) (e : ScriptRefusal) → node < nodes → RestsLines does lines s rested
    → EndsOpen is_open does words node rested text mid → (is_open mid node ≡ true) × EndStops does words number node mid e t → StopsAt is_open does nodes s (record { number = number; command = End nodes lines }) e t
end_stops is_open does words text nodes lines number node s rested mid t OutOfMemory below rest before h = (node, below, words, text, rested, mid, rest, before, h.0, (words, h.1.0, h.1.1))
end_stops is_open does words text nodes lines number node s rested mid t (NotDone n) below rest before h = (h.1.0, inr (node, below, words, text, rested, mid, rest, before, h.0, h.1.1))
end_stops is_open does words text nodes lines number node s rested mid t _ below rest before h = absurd h.1

pub walked_none : {S : Type 0} (does : S → Event → S → Type 0) (line : ℕ) (head : Option ℕ) (s : S) → Walked does line head [] head s s
unfolding Walked
walked_none does line head s = (refl, refl)

pub walked_more : {S : Type 0} (does : S → Event → S → Type 0) (line node : ℕ) (head : Option ℕ) (es : List (ℕ × Tag)) (tag : Tag) (s mid t : S) → Walked does line head es (Some node) s mid
    → Loads does (SawTag line node None) (SawTag line node (Some tag)) mid t → Walked does line head (es ++ (node, tag) ∷ []) tag.forw s t
unfolding Walked
walked_more does line node head [] tag s mid t before seen =
    subst (λ (f : Option ℕ). Walked does line f ((node, tag) ∷ []) tag.forw s t) before.0
    (t, tag, subst (λ m. Loads does (SawTag line node None) (SawTag line node (Some tag)) m t) before.1 seen, refl, (refl, refl))
walked_more does line node None (e ∷ es) tag s mid t before seen = absurd before
walked_more does line node (Some n) (e ∷ es) tag s mid t before seen =
    (before.0, before.1, before.2, before.3, walked_more does line node before.1.forw es tag before.0 mid t before.4 seen)

-- a walk that has taken as many entries as there are nodes
pub lost_behind : {S : Type 0} (does : S → Event → S → Type 0) (nodes line : ℕ) (head next : Option ℕ) (es : List (ℕ × Tag)) (s t : S) → is_some next ≡ true → length es ≡ nodes → Walked does line head es next s t
    → IsLost does nodes line head s t
lost_behind does nodes line head None es s t more all before = absurd (cc)
lost_behind does nodes line head (Some node) es s t more all before = (es, node, t, before, inr (all, refl))

pub walked_out : {S : Type 0} (does : S → Event → S → Type 0) (line : ℕ) (head next : Option ℕ) (es : List (ℕ × Tag)) (s t : S) → is_some next ≡ false → Walked does line head es next s t → Walked does line head es None s t
walked_out does line head None es s t no-more before = before
walked_out does line head (Some node) es s t no-more before = absurd (cc)

-- the words to be shown after these commands
abbrev pub words_behind : List ℕ → List Step → List ℕ
words_behind words [] = words
words_behind words (step ∷ steps) = words_behind (words_after words step.command) steps

pub words_more : (words : List ℕ) (steps : List Step) (step : Step) → words_behind words (steps ++ step ∷ []) ≡ words_after (words_behind words steps) step.command
words_more words [] step = refl
words_more words (first ∷ steps) step = words_more (words_after words first.command) steps step

pub prints_none : {S : Type 0} (is_open : S → ℕ → Bool) (does : S → Event → S → Type 0) (words : List ℕ) (s : S) → PrintsAll is_open does words s [] [] s
prints_none is_open does words s = (refl, refl)

pub prints_more : {S : Type 0} (is_open : S → ℕ → Bool) (does : S → Event → S → Type 0) (words : List ℕ) (steps : List Step) (step : Step) (text last : List ℕ) (s mid t : S)
    → PrintsAll is_open does words s steps text mid → Prints is_open does (words_behind words steps) mid step.command last t → PrintsAll is_open does words s (steps ++ step ∷ []) (text ++ last) t
prints_more is_open does words [] step text last s mid t before now =
    (last, [], t, subst (λ m. Prints is_open does words m step.command last t) before.1 now, (refl, refl), ap (λ (x : List ℕ). x ++ last) before.0 ∙ sym (append-nil last))
prints_more is_open does words (first ∷ steps) step text last s mid t before now = (
  before.0,
  before.1 ++ last,
  before.2,
  before.3,
  prints_more is_open does (words_after words first.command) steps step before.1 last before.2 mid t before.4 now,
  ap (λ (x : List ℕ). x ++ last) before.5 ∙ append_assoc before.0 before.1 last,
)

-- one more of the commands of a list
pub run_step : {S : Type 0} (is_open : S → ℕ → Bool) (does : S → Event → S → Type 0) (words : List ℕ) (items steps : List Step) (i : ℕ) (d : Step) (written last : List ℕ) (s mid t : S) → items ≡ steps → i < length items
    → PrintsAll is_open does words s (take i steps) written mid → Prints is_open does (words_behind words (take i steps)) mid (get_or items i d).command last t
    → PrintsAll is_open does words s (take (i + 1) steps) (written ++ last) t
run_step {S} is_open does words items steps i d written last s mid t e lt before now =
    let from : PrintsAll is_open does words s (take i items) written mid = rw e before in
    let said : Prints is_open does (words_behind words (take i items)) mid (get_or items i d).command last t = subst (λ (l : List Step). Prints is_open does (words_behind words (take i l)) mid (get_or items i d).command last t) (sym e) now in
    let made : PrintsAll is_open does words s (take (i + 1) items) (written ++ last) t = rw (take_more items i d lt) (prints_more is_open does words (take i items) (get_or items i d) written last s mid t from said) in
    rw e at made

pub run_all : {S : Type 0} (is_open : S → ℕ → Bool) (does : S → Event → S → Type 0) (words : List ℕ) (items steps : List Step) (i : ℕ) (written : List ℕ) (s t : S) → items ≡ steps → length items ≤ i
    → PrintsAll is_open does words s (take i steps) written t → PrintsAll is_open does words s steps written t
run_all is_open does words items steps i written s t e le before =
    subst (λ (l : List Step). PrintsAll is_open does words s l written t) (take_all i steps (subst (λ (l : List Step). length l ≤ i) e le)) before

pub words_step : (words : List ℕ) (items steps : List Step) (i : ℕ) (d : Step) → items ≡ steps → i < length items
    → words_behind words (take (i + 1) steps) ≡ words_after (words_behind words (take i steps)) (get_or items i d).command
words_step words items steps i d e lt =
    let made : words_behind words (take (i + 1) items) ≡ words_after (words_behind words (take i items)) (get_or items i d).command = rw (take_more items i d lt) (words_more words (take i items) (get_or items i d)) in
    subst (λ (l : List Step). words_behind words (take (i + 1) l) ≡ words_after (words_behind words (take i l)) (get_or items i d).command) e made

-- a command that fails behind those that were run
pub step_is : (items steps : List Step) (i : ℕ) (x : Step) → items ≡ steps → i < length items → x ≡ get_or items i x → slice_get steps i ≡ Some x
step_is items steps i x e lt is = subst (λ (l : List Step). slice_get l i ≡ Some x) e (slice_get_read items (length items) i x refl lt is)

pub stops_here : {S : Type 0} (is_open : S → ℕ → Bool) (does : S → Event → S → Type 0) (nodes : ℕ) (s mid t : S) (steps : List Step) (k : ℕ) (step : Step) (written : List ℕ) (e : ScriptRefusal)
    → PrintsAll is_open does no_words s (take k steps) written mid → slice_get steps k ≡ Some step → StopsAt is_open does nodes mid step e t → Leaves is_open does nodes s steps e written t
stops_here is_open does nodes s mid t steps k step written OutOfMemory printed at stop = (k, mid, step, printed, at, stop)
stops_here is_open does nodes s mid t steps k step written (BadCommand n) printed at stop = (k, mid, step, printed, at, stop)
stops_here is_open does nodes s mid t steps k step written (BadNumber n) printed at stop = absurd stop
stops_here is_open does nodes s mid t steps k step written (NotDone n) printed at stop = (k, mid, step, printed, at, stop)
stops_here is_open does nodes s mid t steps k step written WriteFailed printed at stop = absurd stop

pub command_fits : (size has : Size) (items steps : List Step) (i : ℕ) (x : Step) → AreIn size steps → items ≡ steps → i < length items → x ≡ get_or items i x → has ≡ size → IsIn has x.command
command_fits size has items steps i x fits e lt is same =
    let all : AreIn size items = subst (λ (l : List Step). AreIn size l) (sym e) fits in
    let at : IsIn size (get_or items i x).command = AllPass-from_list_all (λ (step : Step). is_in size step.command) items all i x lt in
    subst (λ (s : Size). IsIn s x.command) (sym same) (subst (λ (step : Step). IsIn size step.command) (sym is) at)

-- a command that stops is that of its step
pub stopped : {S T : Type 0} (is_open : S → ℕ → Bool) (does : S → Event → S → Type 0) (nodes : ℕ) (s t : S) (step : Step) (command : Command) (result : Result T ScriptRefusal) → step.command ≡ command
    → IfErr result (λ e. StopsAt is_open does nodes s (record { number = step.number; command = command }) e t) → IfErr result (λ e. StopsAt is_open does nodes s step e t)
stopped is_open does nodes s t step command result is h = subst (λ (k : Command). IfErr result (λ e. StopsAt is_open does nodes s (record { number = step.number; command = k }) e t)) (sym is) h
