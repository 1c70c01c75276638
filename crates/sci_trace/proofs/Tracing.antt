-- One more command of a traced run, and where it stops.
use Rattle.std.proofs.Common.{◌≡◌, ◌∙◌, ◌<◌, ◌+◌, ℕ, zero, suc, true, List, [], ◌++◌, inl, inr, arith, Some, Option, Result, IfErr, length, get_or, take, refl, sym, ap, subst, append-nil, append_assoc}
use Rattle.std.proofs.lemmas.List.Sums.{AllPass-from_list_all}
use Rattle.std.specs.Prelude.{slice_get}
use Rattle.sci_script.specs.declared.commands.Size.{Size}
use Rattle.sci_ops.specs.declared.answers.Turn.{Turn}
use Rattle.sci_script.specs.declared.commands.Command.{Command}
use Rattle.sci_script.specs.declared.commands.Command.TheVariants.{Done}
use Rattle.sci_script.specs.declared.commands.Step.{Step}
use Rattle.sci_script.specs.declared.refusals.ScriptRefusal.{ScriptRefusal}
use Rattle.sci_script.specs.declared.refusals.ScriptRefusal.TheVariants.{OutOfMemory, BadCommand, BadNumber, NotDone, WriteFailed}
use Rattle.sci_script.specs.Request.{no_words}
use Rattle.sci_script.specs.Event.{Turned}
use Rattle.sci_script.specs.Run.{StopsAt, Repeats, Unended, IsUnended}
use Rattle.sci_script.specs.Shared.{Shared, shared_is_open, shared_does}
use Rattle.sci_script.specs.Size.{is_in, IsIn, AreIn}
use Rattle.sci_script.proofs.Runs.{moves_unended, unended_more}
use Rattle.sci_script.proofs.Stuck.{unended_on, waits_again}
use Rattle.sci_script.proofs.Through.{stops_at, unended}
use Rattle.sci_trace.specs.Notes.{AreNotes}
use Rattle.sci_trace.specs.declared.coding.Coding.{Coding}
use Rattle.sci_trace.specs.Coding.{coded, IsFront}
use Rattle.sci_trace.specs.Traces.{NotesLeft, FailsAt, TracedTo, IsWrittenOf, StepLeaves, FormLeaves}
use Rattle.sci_trace.specs.Telling.{Telling, telling, telling_is_open, tells, AddsLine, TellsAll, TellsNoEnd}
use Rattle.sci_trace.proofs.Coded.{coded_append, coded_front}
use Rattle.sci_trace.proofs.Tellings.{told_does}
use Rattle.sci_trace.proofs.NoteLines.{notes_none, notes_append}

-- a command of a script is one of its nodes and lines
pub command_fits : (size has : Size) (items steps : List Step) (i : ℕ) (x : Step) → AreIn size steps → items ≡ steps → i < length items → x ≡ get_or items i x → has ≡ size → IsIn has x.command
command_fits size has items steps i x fit e lt is same =
    let all : AreIn size items = subst (λ (l : List Step). AreIn size l) (sym e) fit in
    let at : IsIn size (get_or items i x).command = AllPass-from_list_all (λ (step : Step). is_in size step.command) items all i x lt in
    subst (λ (z : Size). IsIn z x.command) (sym same) (subst (λ (step : Step). IsIn size step.command) (sym is) at)

-- what some commands tell is traced, where the writer fails behind it
pub traced_so : (nodes : ℕ) (steps : List Step) (k : ℕ) (traced : List ℕ) (s mid t : Shared) → TellsAll no_words s (take k steps) traced mid → TracedTo nodes steps s WriteFailed traced t
traced_so nodes steps k traced s mid t told = (k, mid, traced, [], told, notes_none, tt, sym (append-nil traced))

-- whatever the refusal was, this much was traced
pub traced_then : (nodes : ℕ) (steps : List Step) (e : ScriptRefusal) (traced : List ℕ) (s t : Shared) → TracedTo nodes steps s e traced t → TracedTo nodes steps s WriteFailed traced t
traced_then nodes steps e traced s t (k, mid, before, notes, told, are, fails, is) = (k, mid, before, notes, told, are, tt, is)

pub never_number : (nodes : ℕ) (steps : List Step) (n : ℕ) (traced : List ℕ) (s t : Shared) → TracedTo nodes steps s (BadNumber n) traced t → ⊥
never_number nodes steps n traced s t (k, mid, before, notes, told, are, fails, is) = fails

-- a front of what a command printed, behind all before it
pub text_cut : (coding : Coding) (nodes : ℕ) (steps : List Step) (k : ℕ) (traced text front : List ℕ) (s mid t : Shared) → TellsAll no_words s (take k steps) (traced ++ text) mid
    → IsFront (coded coding text) front → FormLeaves (coded coding) nodes steps s WriteFailed (coded coding traced ++ front) t
text_cut coding nodes steps k traced text front s mid t told cut = (traced ++ text, traced_so nodes steps k (traced ++ text) s mid t told, coded_front coding traced text front cut)

-- the lines of a `done` are traced on their own
abbrev pub IsOther : Command → Type 0
IsOther (Done node) = ⊥
IsOther command = Unit {0}

pub other_than : (command : Command) → ((node : ℕ) → command ≡ Done node → ⊥) → IsOther command
other_than (Done node) none = none node refl
other_than command none = tt

no_end_told : (nodes : ℕ) (command : Command) (s : Shared) (notes : List ℕ) (t : Shared) → IsOther command → IsUnended telling_is_open tells nodes (telling s []) command (telling t notes) → TellsNoEnd nodes command s notes t
no_end_told nodes (Done node) s notes t other h = absurd other
no_end_told nodes command s notes t other h = h

-- a command that tells of its turns fails as it does without
stops_so : (nodes : ℕ) (s : Shared) (step : Step) (notes : List ℕ) (e : ScriptRefusal) (t : Shared) → StopsAt telling_is_open tells nodes (telling s []) step e (telling t notes) → StopsAt shared_is_open shared_does nodes s step e t
stops_so nodes s step notes e t stop = stops_at (λ (x : Telling). x.shared) shared_is_open tells shared_does told_does nodes (telling s []) step e (telling t notes) stop

-- a command failed, whose turns' lines are written
pub step_left : (coding : Coding) (nodes : ℕ) (s : Shared) (step : Step) (notes : List ℕ) (e : ScriptRefusal) (t : Shared) → IsOther step.command → AreNotes notes → StopsAt telling_is_open tells nodes (telling s []) step e (telling t notes)
    → StepLeaves coding nodes s step e (coded coding notes) t
step_left coding nodes s step notes OutOfMemory t other are stop = (notes, are, tt, refl)
step_left coding nodes s step notes (BadCommand n) t other are stop = (notes, are, stop, refl)
step_left coding nodes s step notes (BadNumber n) t other are stop = absurd stop
step_left coding nodes s step notes (NotDone n) t other are stop = (notes, are, (stops_so nodes s step notes (NotDone n) t stop, no_end_told nodes step.command s notes t other stop.1), refl)
step_left coding nodes s step notes WriteFailed t other are stop = absurd stop

-- a turn waits behind so many, and each further turn up to the last waits too
hung : (node n times : ℕ) (s mid t : Shared) → n + times ≡ 100000 → 0 < times → Unended shared_does node n s mid → shared_does mid (Turned node Turn.Waiting) t → Unended shared_does node 100000 s t
hung node n zero s mid t sum some before now = absurd (omega (arith, some))
hung node n (suc k) s mid t sum some before now =
    let e : (n + 1) + k ≡ 100000 = omega (arith, sum) in
    subst (λ (m : ℕ). Unended shared_does node m s t) e
    (unended_on shared_does node (n + 1) k s t (unended_more shared_does node n s mid t Turn.Waiting before tt now) (waits_again mid t node now))

-- a call that waits doesn't end, and the line of its wait stands for the turns that it has left
pub hang_left : (coding : Coding) (nodes node number n times : ℕ) (s : Shared) (mid : Telling) (notes : List ℕ) (t : Shared) → AreNotes notes → shared_is_open s node ≡ true → n + times ≡ 100000 → 0 < times
    → Repeats tells (Turned node Turn.Moved) n (telling s []) mid → AddsLine mid node Turn.Waiting times (telling t notes) → shared_does mid.shared (Turned node Turn.Waiting) t
    → StepLeaves coding nodes s (record { number = number; command = Done node }) (NotDone number) (coded coding notes) t
hang_left coding nodes node number n times s mid notes t are still sum some before added now =
    let taken : Unended shared_does node n s mid.shared = unended (λ (x : Telling). x.shared) shared_is_open tells shared_does told_does node n (telling s []) mid (moves_unended tells node n (telling s []) mid before) in
    let all : Unended shared_does node 100000 s t = hung node n times s mid.shared t sum some taken now in
    (notes, are, ((refl, (still, all)), inr (n, times, mid, some, sum, before, now, added, waits_again mid.shared t node now)), refl)

-- nor does one whose turns all move, of which each has its line
pub moves_left : (coding : Coding) (nodes node number : ℕ) (s : Shared) (notes : List ℕ) (t : Shared) → AreNotes notes → shared_is_open s node ≡ true → Repeats tells (Turned node Turn.Moved) 100000 (telling s []) (telling t notes)
    → StepLeaves coding nodes s (record { number = number; command = Done node }) (NotDone number) (coded coding notes) t
moves_left coding nodes node number s notes t are still moves =
    let all : Unended shared_does node 100000 s t = unended (λ (x : Telling). x.shared) shared_is_open tells shared_does told_does node 100000 (telling s []) (telling t notes) (moves_unended tells node 100000 (telling s []) (telling t notes) moves) in
    (notes, are, ((refl, (still, all)), inl moves), refl)

-- behind lines that were written, others weren't all written
pub notes_left : (coding : Coding) (nodes : ℕ) (s : Shared) (step : Step) (put notes written : List ℕ) (e : ScriptRefusal) (t : Shared) → AreNotes put → AreNotes notes → NotesLeft coding e notes written
    → StepLeaves coding nodes s step e (coded coding put ++ written) t
notes_left coding nodes s step put notes written OutOfMemory t are also left = (put, are, tt, ap (λ (x : List ℕ). coded coding put ++ x) left ∙ append-nil (coded coding put))
notes_left coding nodes s step put notes written (BadCommand n) t are also left = absurd left
notes_left coding nodes s step put notes written (BadNumber n) t are also left = absurd left
notes_left coding nodes s step put notes written (NotDone n) t are also left = absurd left
notes_left coding nodes s step put notes written WriteFailed t are also left = (put ++ notes, notes_append put notes are also, tt, coded_front coding put notes written left)

-- what is said of a command's fields is said of it
pub of_command : {T : Type 0} (result : Result T ScriptRefusal) (P : Step → ScriptRefusal → Type 0) (step : Step) (command : Command) → step.command ≡ command
    → IfErr result (P (record { number = step.number; command = command })) → IfErr result (P step)
of_command result P step command is h = subst (λ (k : Command). IfErr result (P (record { number = step.number; command = k }))) (sym is) h

-- what is written of lines behind others
written_behind : (coding : Coding) (e : ScriptRefusal) (traced notes written : List ℕ) → IsWrittenOf e (coded coding notes) written → IsWrittenOf e (coded coding (traced ++ notes)) (coded coding traced ++ written)
written_behind coding WriteFailed traced notes written cut = coded_front coding traced notes written cut
written_behind coding e traced notes written is = ap (λ (x : List ℕ). coded coding traced ++ x) is ∙ sym (coded_append coding traced notes)

-- a command failed behind those that were traced
pub trace_leaves : (coding : Coding) (nodes : ℕ) (steps : List Step) (k : ℕ) (step : Step) (traced written : List ℕ) (e : ScriptRefusal) (s mid t : Shared) → TellsAll no_words s (take k steps) traced mid
    → slice_get steps k ≡ Some step → StepLeaves coding nodes mid step e written t → FormLeaves (coded coding) nodes steps s e (coded coding traced ++ written) t
trace_leaves coding nodes steps k step traced written e s mid t told at (notes, are, fails, is) =
    let next = subst (λ (x : Option Step). FailsAt nodes mid x e notes t) (sym at) fails in
    (traced ++ notes, (k, mid, traced, notes, told, are, next, refl), written_behind coding e traced notes written is)
