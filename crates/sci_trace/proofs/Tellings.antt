-- One more command of a run that tells of its turns.
use Rattle.std.proofs.Common.{◌≡◌, ◌∙◌, ◌<◌, ◌+◌, ◌⊎◌, inl, inr, ℕ, Bool, true, false, List, [], ◌∷◌, ◌++◌, length, get_or, take, Option, refl, sym, ap, subst, append_assoc}
use Rattle.std.proofs.lemmas.List.{append-nil, take_more}
use Rattle.sci_words.specs.declared.memory.Mem.{Mem}
use Rattle.sci_words.specs.declared.tags.Tag.{Tag}
use Rattle.sci_core.specs.declared.stages.Stage.{Stage}
use Rattle.sci_core.specs.Stage.{stage_of}
use Rattle.sci_ops.specs.declared.answers.Turn.{Turn}
use Rattle.sci_ops.specs.declared.goals.Goal.{Goal}
use Rattle.sci_script.specs.declared.commands.Step.{Step}
use Rattle.sci_script.specs.declared.commands.Command.{Command}
use Rattle.sci_script.specs.declared.refusals.ScriptRefusal.{ScriptRefusal}
use Rattle.sci_script.specs.declared.desk.Toward.{Toward}
use Rattle.sci_port.specs.declared.watching.Passed.{Passed}
use Rattle.sci_script.specs.Event.{Event, Turned, IsEnd, IsNoEnd}
use Rattle.sci_script.specs.Request.{words_after}
use Rattle.sci_script.specs.Run.{Repeats, Prints, StopsAt}
use Rattle.sci_script.specs.Shared.{Shared, shared_does}
use Rattle.sci_script.specs.Waiting.{goal_at_work}
use Rattle.sci_script.proofs.Runs.{repeats_none, repeats_more, words_behind}
use Rattle.sci_trace.specs.Lists.{walked}
use Rattle.sci_trace.specs.Notes.{Told, line_of_turn}
use Rattle.sci_trace.specs.declared.texts.Wait.{Wait}
use Rattle.sci_trace.specs.Texts.{note_line}
use Rattle.sci_trace.specs.Telling.{Telling, telling, is_wait, IsWait, AddsTold, AddsLine, AddsRestLine, AddsNone, telling_is_open, tells, TellsAll}

-- what a run does that tells of its turns, the lines and nodes do
pub told_does : (s : Telling) (event : Event) (t : Telling) → tells s event t → shared_does s.shared event t.shared
told_does s event t h = h.0

-- a line that was added tells of this
pub told_line : (node : ℕ) (goal : Option Goal) (passed : Passed) (stage : Stage) (wait : Option Wait) (mem : Mem) (entries : List (ℕ × Tag)) (before after : List ℕ) (cut still : Bool) (W : Option Wait → Type 0) (step : Stage) (word : Mem) (tags : ℕ → Tag) (width : ℕ)
    → W wait → stage ≡ step → mem ≡ word → entries ≡ walked tags width mem.forw
    → (still ≡ true) ⊎ ((still ≡ cut) × (after ≡ before ++ note_line node goal passed stage wait mem entries))
    → (still ≡ true) ⊎ ((still ≡ cut) × (told : Told) × (told.node ≡ node) × (told.goal ≡ goal) × (told.passed ≡ passed) × W told.wait × (told.stage ≡ step) × (told.mem ≡ word) × (told.entries ≡ walked tags width told.mem.forw) × (after ≡ before ++ line_of_turn told))
told_line node goal passed stage wait mem entries before after cut still W step word tags width waits stands is along (inl h) = inl h
told_line node goal passed stage wait mem entries before after cut still W step word tags width waits stands is along (inr (kept, added)) =
    let told : Told = record { node = node; goal = goal; passed = passed; wait = wait; stage = stage; mem = mem; entries = entries } in
    inr (kept, told, refl, refl, refl, waits, stands, is, along, added)

-- a turn's line is added: the desk stands as the turn left it, and the line tells what passed
pub adds_told : (P : Shared → Passed → Type 0) (s mid t : Shared) (node : ℕ) (goal : Option Goal) (turn : Turn) (times : ℕ) (q : Passed) (before after : List ℕ) (cut still : Bool) → t ≡ mid → P mid q → goal ≡ goal_at_work (s.nodes node).call
    → (still ≡ true) ⊎ ((still ≡ cut) × (told : Told) × (told.node ≡ node) × (told.goal ≡ goal) × (told.passed ≡ q) × IsWait turn mid q.line node times told.wait × (told.stage ≡ stage_of ((mid.lines q.line).steps node)) × (told.mem ≡ (mid.lines q.line).memory) × (told.entries ≡ walked (mid.lines q.line).tags mid.width told.mem.forw) × (after ≡ before ++ line_of_turn told))
    → AddsTold (P t) (record { shared = s; notes = before; is_cut = cut }) node turn times (record { shared = t; notes = after; is_cut = still })
adds_told P s mid t node goal turn times q before after cut still same passes works (inl h) = inl h
adds_told P s mid t node goal turn times q before after cut still same passes works (inr (kept, told, of, aims, passed, waits, step, mem, along, added)) =
    subst (λ (x : Shared). AddsTold (P x) (record { shared = s; notes = before; is_cut = cut }) node turn times (record { shared = x; notes = after; is_cut = still })) (sym same)
    (inr (
      kept,
      told,
      (
        of,
        aims ∙ works,
        subst (λ (p : Passed). P mid p) (sym passed) passes,
        subst (λ (p : Passed). IsWait turn mid p.line node times told.wait) (sym passed) waits,
        subst (λ (p : Passed). told.stage ≡ stage_of ((mid.lines p.line).steps node)) (sym passed) step,
        subst (λ (p : Passed). told.mem ≡ (mid.lines p.line).memory) (sym passed) mem,
        subst (λ (p : Passed). told.entries ≡ walked (mid.lines p.line).tags mid.width told.mem.forw) (sym passed) along,
      ),
      added,
    ))

-- where nobody took a turn towards rest, nothing is told
pub no_rest_line : (s : Telling) (line : ℕ) (toward : Toward) (t : Telling) → ((node : ℕ) → toward ≡ Toward.Turned node → ⊥) → AddsNone s t → AddsRestLine s line toward t
no_rest_line s line (Toward.Turned node) t none h = absurd (none node refl)
no_rest_line s line Toward.Reached t none h = h
no_rest_line s line Toward.Unknown t none h = h

-- what doesn't wait stands for itself
once : (s : Telling) (node : ℕ) (turn : Turn) (times : ℕ) (t : Telling) → is_wait turn ≡ false → AddsLine s node turn times t → AddsLine s node turn 1 t
once s node Turn.Moved times t no-wait h = h
once s node (Turn.Done answer) times t no-wait h = h
once s node Turn.Waiting times t no-wait h = absurd (cc)

pub tells_once : (s : Telling) (node : ℕ) (turn : Turn) (times : ℕ) (t : Telling) → is_wait turn ≡ false → shared_does s.shared (Turned node turn) t.shared → AddsLine s node turn times t → tells s (Turned node turn) t
tells_once s node turn times t no-wait does added = (does, once s node turn times t no-wait added)

-- the end of a call is no wait
pub end_no_wait : (turn : Turn) → IsEnd turn → is_wait turn ≡ false
end_no_wait Turn.Moved end = absurd end
end_no_wait Turn.Waiting end = absurd end
end_no_wait (Turn.Done answer) end = refl

pub wait_is : (turn : Turn) → is_wait turn ≡ true → turn ≡ Turn.Waiting
wait_is Turn.Moved waits = absurd (cc)
wait_is Turn.Waiting waits = refl
wait_is (Turn.Done answer) waits = absurd (cc)

-- from no line and none refused, to none refused
pub told_so : (words : List ℕ) (command : Command) (text : List ℕ) (s t : Shared) (before after : List ℕ) (cut still : Bool) → before ≡ [] → cut ≡ false → still ≡ false
    → Prints telling_is_open tells words (record { shared = s; notes = before; is_cut = cut }) command text (record { shared = t; notes = after; is_cut = still })
    → Prints telling_is_open tells words (telling s []) command text (telling t after)
told_so words command text s t before after cut still none whole kept h =
    subst (λ (b : Bool). Prints telling_is_open tells words (telling s []) command text (record { shared = t; notes = after; is_cut = b })) kept
    (subst (λ (b : Bool). Prints telling_is_open tells words (record { shared = s; notes = []; is_cut = b }) command text (record { shared = t; notes = after; is_cut = still })) whole
    (subst (λ (l : List ℕ). Prints telling_is_open tells words (record { shared = s; notes = l; is_cut = cut }) command text (record { shared = t; notes = after; is_cut = still })) none h))

-- the same of a command that fails
pub told_stops : (nodes : ℕ) (step : Step) (e : ScriptRefusal) (s t : Shared) (before after : List ℕ) (cut still : Bool) → before ≡ [] → cut ≡ false → still ≡ false
    → StopsAt telling_is_open tells nodes (record { shared = s; notes = before; is_cut = cut }) step e (record { shared = t; notes = after; is_cut = still })
    → StopsAt telling_is_open tells nodes (telling s []) step e (telling t after)
told_stops nodes step e s t before after cut still none whole kept h =
    subst (λ (b : Bool). StopsAt telling_is_open tells nodes (telling s []) step e (record { shared = t; notes = after; is_cut = b })) kept
    (subst (λ (b : Bool). StopsAt telling_is_open tells nodes (record { shared = s; notes = []; is_cut = b }) step e (record { shared = t; notes = after; is_cut = still })) whole
    (subst (λ (l : List ℕ). StopsAt telling_is_open tells nodes (record { shared = s; notes = l; is_cut = cut }) step e (record { shared = t; notes = after; is_cut = still })) none h))

abbrev pub telling_in : Shared → List ℕ → Bool → Telling
telling_in s notes cut = record { shared = s; notes = notes; is_cut = cut }

-- with lines in front, which were written before
abbrev pub with_front : List ℕ → Telling → Telling
with_front put s = telling_in s.shared (put ++ s.notes) s.is_cut

same_telling : (s t : Shared) (before after : List ℕ) (cut still : Bool) → s ≡ t → before ≡ after → cut ≡ still → telling_in s before cut ≡ telling_in t after still
same_telling s t before after cut still same is kept =
    ap (λ (x : Shared). telling_in x before cut) same ∙ ap (λ (x : List ℕ). telling_in t x cut) is ∙ ap (λ (x : Bool). telling_in t after x) kept

-- a turn's line is added behind these too
adds_front : (put : List ℕ) (node : ℕ) (turn : Turn) (times : ℕ) (s t : Telling) → AddsLine s node turn times t → AddsLine (with_front put s) node turn times (with_front put t)
adds_front put node turn times s t (inl h) = inl h
adds_front put node turn times s t (inr (kept, told, is, added)) = inr (kept, told, is, ap (λ (x : List ℕ). put ++ x) added ∙ sym (append_assoc put s.notes (line_of_turn told)))

adds_behind : (put : List ℕ) (node : ℕ) (turn : Turn) (s t : Telling) → tells s (Turned node turn) t → tells (with_front put s) (Turned node turn) (with_front put t)
adds_behind put node turn s t (does, added) = (does, adds_front put node turn 1 s t added)

-- a turn that is no end and doesn't wait
pub moved : (turn : Turn) → IsNoEnd turn → is_wait turn ≡ false → turn ≡ Turn.Moved
moved Turn.Moved no-end no-wait = refl
moved Turn.Waiting no-end no-wait = absurd (cc)
moved (Turn.Done answer) no-end no-wait = absurd no-end

-- no turn was taken, and no line told
pub moves_first : (node : ℕ) (s : Shared) (notes : List ℕ) (cut : Bool) → notes ≡ [] → cut ≡ false → Repeats tells (Turned node Turn.Moved) 0 (telling s []) (with_front [] (telling_in s notes cut))
moves_first node s notes cut none whole =
    subst (λ (x : Telling). Repeats tells (Turned node Turn.Moved) 0 (telling s []) x) (sym (same_telling s s notes [] cut false refl none whole)) (repeats_none tells (Turned node Turn.Moved) (telling s []))

-- one turn more, and then the first of the lines are written
pub moves_put : (node n : ℕ) (turn : Turn) (first s mid : Telling) (t : Shared) (put now notes : List ℕ) (cut : Bool) → Repeats tells (Turned node Turn.Moved) n first (with_front put s) → turn ≡ Turn.Moved → tells s (Turned node turn) mid
    → mid.notes ≡ now ++ notes → cut ≡ mid.is_cut → t ≡ mid.shared → Repeats tells (Turned node Turn.Moved) (n + 1) first (with_front (put ++ now) (telling_in t notes cut))
moves_put node n turn first s mid t put now notes cut before is turned parts kept same =
    subst (λ (x : Telling). Repeats tells (Turned node Turn.Moved) (n + 1) first x)
    (same_telling mid.shared t (put ++ mid.notes) ((put ++ now) ++ notes) mid.is_cut cut (sym same) (ap (λ (x : List ℕ). put ++ x) parts ∙ sym (append_assoc put now notes)) (sym kept))
    (repeats_more tells (Turned node Turn.Moved) n first (with_front put s) (with_front put mid) before
    (subst (λ (o : Turn). tells (with_front put s) (Turned node o) (with_front put mid)) is (adds_behind put node turn s mid turned)))

-- the last turn, whose line is written with those before
pub ends_behind : (put : List ℕ) (node : ℕ) (turn : Turn) (s mid : Telling) (t : Shared) → tells s (Turned node turn) mid → mid.is_cut ≡ false → t ≡ mid.shared
    → tells (with_front put s) (Turned node turn) (telling t (put ++ mid.notes))
ends_behind put node turn s mid t turned whole same =
    subst (λ (x : Telling). tells (with_front put s) (Turned node turn) x)
    (same_telling mid.shared t (put ++ mid.notes) (put ++ mid.notes) mid.is_cut false (sym same) refl whole) (adds_behind put node turn s mid turned)

-- a turn that waits, whose line is written with those before
pub waits_behind : (put : List ℕ) (node times : ℕ) (turn : Turn) (s mid : Telling) (t : Shared) → AddsLine s node turn times mid → turn ≡ Turn.Waiting → mid.is_cut ≡ false → t ≡ mid.shared
    → AddsLine (with_front put s) node Turn.Waiting times (telling t (put ++ mid.notes))
waits_behind put node times turn s mid t added is whole same =
    subst (λ (x : Telling). AddsLine (with_front put s) node Turn.Waiting times x)
    (same_telling mid.shared t (put ++ mid.notes) (put ++ mid.notes) mid.is_cut false (sym same) refl whole)
    (subst (λ (o : Turn). AddsLine (with_front put s) node o times (with_front put mid)) is (adds_front put node turn times s mid added))

-- the lines of turns that all moved are written
pub moves_behind : (node n : ℕ) (first s : Telling) (t : Shared) (put : List ℕ) → Repeats tells (Turned node Turn.Moved) n first (with_front put s) → s.is_cut ≡ false → t ≡ s.shared
    → Repeats tells (Turned node Turn.Moved) n first (telling t (put ++ s.notes))
moves_behind node n first s t put before whole same =
    subst (λ (x : Telling). Repeats tells (Turned node Turn.Moved) n first x) (same_telling s.shared t (put ++ s.notes) (put ++ s.notes) s.is_cut false (sym same) refl whole) before

pub tells_none : (words : List ℕ) (s : Shared) → TellsAll words s [] [] s
tells_none words s = (refl, refl)

tells_more : (words : List ℕ) (steps : List Step) (step : Step) (traced notes text : List ℕ) (s mid t : Shared) → TellsAll words s steps traced mid
    → Prints telling_is_open tells (words_behind words steps) (telling mid []) step.command text (telling t notes) → TellsAll words s (steps ++ step ∷ []) (traced ++ (notes ++ text)) t
tells_more words [] step traced notes text s mid t (none, same) now = (
  notes,
  text,
  [],
  t,
  subst (λ (m : Shared). Prints telling_is_open tells words (telling m []) step.command text (telling t notes)) same now,
  (refl, refl),
  ap (λ (x : List ℕ). x ++ (notes ++ text)) none ∙ sym (append-nil (notes ++ text)),
)
tells_more words (first ∷ steps) step traced notes text s mid t (told, printed, rest, next, now_first, behind, is) now = (
  told,
  printed,
  rest ++ (notes ++ text),
  next,
  now_first,
  tells_more (words_after words first.command) steps step rest notes text next mid t behind now,
  ap (λ (x : List ℕ). x ++ (notes ++ text)) is ∙ append_assoc (told ++ printed) rest (notes ++ text),
)

-- one more of the commands of a list
pub tells_step : (words : List ℕ) (items steps : List Step) (i : ℕ) (d : Step) (traced notes text : List ℕ) (s mid t : Shared) → items ≡ steps → i < length items → TellsAll words s (take i steps) traced mid
    → Prints telling_is_open tells (words_behind words (take i steps)) (telling mid []) (get_or items i d).command text (telling t notes)
    → TellsAll words s (take (i + 1) steps) ((traced ++ notes) ++ text) t
tells_step words items steps i d traced notes text s mid t e lt before now =
    let from : TellsAll words s (take i items) traced mid = rw e before in
    let said : Prints telling_is_open tells (words_behind words (take i items)) (telling mid []) (get_or items i d).command text (telling t notes) =
    subst (λ (l : List Step). Prints telling_is_open tells (words_behind words (take i l)) (telling mid []) (get_or items i d).command text (telling t notes)) (sym e) now in
    let made : TellsAll words s (take (i + 1) items) (traced ++ (notes ++ text)) t = rw (take_more items i d lt) (tells_more words (take i items) (get_or items i d) traced notes text s mid t from said) in
    subst (λ (x : List ℕ). TellsAll words s (take (i + 1) steps) x t) (sym (append_assoc traced notes text)) (rw e at made)
