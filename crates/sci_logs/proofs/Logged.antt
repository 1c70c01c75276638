-- A run that is logged, and where it stops.
use Rattle.std.proofs.Common.{◌≡◌, ◌∙◌, ◌<◌, ℕ, Bool, true, false, List, [], ◌++◌, length, Result, Ok, Err, OnOk, IfErr, inl, inr, refl, sym, ap, subst}
use Rattle.sci_script.specs.declared.commands.Opening.{Opening}
use Rattle.sci_script.specs.declared.commands.Size.{Size}
use Rattle.sci_script.specs.declared.commands.Step.{Step}
use Rattle.sci_script.specs.declared.refusals.ScriptRefusal.{ScriptRefusal}
use Rattle.sci_script.specs.declared.refusals.ScriptRefusal.TheVariants.{OutOfMemory, BadCommand, BadNumber, NotDone, WriteFailed}
use Rattle.sci_script.specs.Event.{Event}
use Rattle.sci_script.specs.Request.{no_words}
use Rattle.sci_script.specs.Run.{PrintsAll, Leaves}
use Rattle.sci_script.specs.Shared.{Shared}
use Rattle.sci_script.specs.Wholes.{shared_of}
use Rattle.sci_script.proofs.Through.{prints_all, leaves}
use Rattle.sci_logs.specs.declared.log_desk.LogDesk.{LogDesk}
use Rattle.sci_logs.specs.TurnText.{log_head}
use Rattle.sci_logs.specs.Logging.{logging_of, logs, Logs, LogStops, LogLeaves, PutLeaves}
use Rattle.sci_trace.specs.NoteText.{note_bytes}
use Rattle.sci_trace.specs.Telling.{Telling, telling, telling_is_open}
use Rattle.sci_trace.proofs.Coded.{ok_then, err_then}
use Rattle.sci_trace.proofs.Tellings.{telling_in}

abbrev open_desk : LogDesk → ℕ → Bool
open_desk d node = telling_is_open (logging_of d) node

abbrev does_desk : LogDesk → Event → LogDesk → Type 0
does_desk d event e = logs (logging_of d) event (logging_of e)

whole_telling : (s : Shared) (has lines : List ℕ) (cut : Bool) → has ≡ lines → cut ≡ false → telling_in s has cut ≡ telling s lines
whole_telling s has lines cut is whole = ap (λ (x : List ℕ). telling_in s x cut) is ∙ ap (λ (x : Bool). telling_in s lines x) whole

-- a run of a desk whose log had its head, and has all lines
pub logged : (size : Size) (openings : List Opening) (steps : List Step) (old new : LogDesk) (text : List ℕ) → note_bytes old.log.text ≡ log_head size openings → old.log.is_cut ≡ false
    → new.log.is_cut ≡ false → PrintsAll open_desk does_desk no_words old steps text new → Logs size openings steps (shared_of old.desk) (note_bytes new.log.text) (shared_of new.desk)
logged size openings steps old new text head begun whole printed =
    let s = shared_of old.desk in
    let log = note_bytes new.log.text in
    let seen = prints_all logging_of telling_is_open does_desk logs (λ d event e h. h) no_words old steps text new printed in
    let from = subst (λ (x : Telling). PrintsAll telling_is_open logs no_words x steps text (logging_of new)) (whole_telling s (note_bytes old.log.text) (log_head size openings) old.log.is_cut head begun) seen in
    (text, subst (λ (x : Telling). PrintsAll telling_is_open logs no_words (telling s (log_head size openings)) steps text x) (whole_telling (shared_of new.desk) log log new.log.is_cut refl whole) from)

-- one that fails
pub log_stops : (size : Size) (openings : List Opening) (steps : List Step) (old new : LogDesk) (e : ScriptRefusal) (text : List ℕ) → note_bytes old.log.text ≡ log_head size openings
    → old.log.is_cut ≡ false → new.log.is_cut ≡ false → Leaves open_desk does_desk size.nodes old steps e text new
    → LogStops size openings steps (shared_of old.desk) e (note_bytes new.log.text) (shared_of new.desk)
log_stops size openings steps old new e text head begun whole left =
    let s = shared_of old.desk in
    let log = note_bytes new.log.text in
    let seen = leaves logging_of telling_is_open does_desk logs (λ d event f h. h) size.nodes old steps e text new left in
    let from = subst (λ (x : Telling). Leaves telling_is_open logs size.nodes x steps e text (logging_of new)) (whole_telling s (note_bytes old.log.text) (log_head size openings) old.log.is_cut head begun) seen in
    (text, subst (λ (x : Telling). Leaves telling_is_open logs size.nodes (telling s (log_head size openings)) steps e text x) (whole_telling (shared_of new.desk) log log new.log.is_cut refl whole) from)

left_as : (size : Size) (openings : List Opening) (steps : List Step) (old new : LogDesk) (ran : Result (Unit {0}) ScriptRefusal) (e : ScriptRefusal) (written : List ℕ)
    → note_bytes old.log.text ≡ log_head size openings → old.log.is_cut ≡ false → IfErr ran (λ r. (text : List ℕ) × Leaves open_desk does_desk size.nodes old steps r text new)
    → new.log.is_cut ≡ false → ran ≡ Err e → written ≡ note_bytes new.log.text → LogStops size openings steps (shared_of old.desk) e written (shared_of new.desk)
left_as size openings steps old new ran e written head begun err whole is all =
    let (text, left) = subst (λ (r : Result (Unit {0}) ScriptRefusal). IfErr r (λ x. (text : List ℕ) × Leaves open_desk does_desk size.nodes old steps x text new)) is err in
    subst (λ (l : List ℕ). LogStops size openings steps (shared_of old.desk) e l (shared_of new.desk)) (sym all) (log_stops size openings steps old new e text head begun whole left)

-- what is left of a log is that of the run
pub log_leaves : (size : Size) (openings : List Opening) (steps : List Step) (old new : LogDesk) (ran : Result (Unit {0}) ScriptRefusal) (e : ScriptRefusal) (written : List ℕ)
    → note_bytes old.log.text ≡ log_head size openings → old.log.is_cut ≡ false → OnOk ran ((text : List ℕ) × PrintsAll open_desk does_desk no_words old steps text new)
    → IfErr ran (λ r. (text : List ℕ) × Leaves open_desk does_desk size.nodes old steps r text new) → PutLeaves ran new.log.is_cut (note_bytes new.log.text) e written
    → LogLeaves size openings steps (shared_of old.desk) e written (shared_of new.desk)
log_leaves size openings steps old new ran OutOfMemory written head begun ok err put = put
log_leaves size openings steps old new ran (BadCommand n) written head begun ok err (whole, is, all) = left_as size openings steps old new ran (BadCommand n) written head begun err whole is all
log_leaves size openings steps old new ran (BadNumber n) written head begun ok err (whole, is, all) = left_as size openings steps old new ran (BadNumber n) written head begun err whole is all
log_leaves size openings steps old new ran (NotDone n) written head begun ok err (whole, is, all) = left_as size openings steps old new ran (NotDone n) written head begun err whole is all
log_leaves size openings steps old new (Ok x) WriteFailed written head begun (text, printed) err (whole, front) =
    (note_bytes new.log.text, front, inl (logged size openings steps old new text head begun whole printed))
log_leaves size openings steps old new (Err r) WriteFailed written head begun ok (text, left) (whole, front) =
    (note_bytes new.log.text, front, inr (r, log_stops size openings steps old new r text head begun whole left))

-- what a call says where it ends, and what one says that came to the same
pub ended_so : (ran result : Result (Unit {0}) ScriptRefusal) (P Q A R : Type 0) → OnOk result ((ran ≡ result) × Q × A) → OnOk ran P → (P → Q → A → R) → OnOk result R
ended_so ran (Ok x) P Q A R (same, q, a) p f = f (subst (λ (r : Result (Unit {0}) ScriptRefusal). OnOk r P) same p) q a
ended_so ran (Err e) P Q A R h p f = tt

-- the same of all that a run and the writing of its log say
pub log_left : (size : Size) (openings : List Opening) (steps : List Step) (old new : LogDesk) (ran : Result (Unit {0}) ScriptRefusal) (S : List ℕ → Type 0) (e : ScriptRefusal) (written : List ℕ)
    → note_bytes old.log.text ≡ log_head size openings → old.log.is_cut ≡ false → OnOk ran ((text : List ℕ) × PrintsAll open_desk does_desk no_words old steps text new × S text)
    → IfErr ran (λ r. (text : List ℕ) × Leaves open_desk does_desk size.nodes old steps r text new × S text) → PutLeaves ran new.log.is_cut (note_bytes new.log.text) e written
    → LogLeaves size openings steps (shared_of old.desk) e written (shared_of new.desk)
log_left size openings steps old new ran S e written head begun ok err put =
    log_leaves size openings steps old new ran e written head begun
    (ok_then ran ((text : List ℕ) × PrintsAll open_desk does_desk no_words old steps text new × S text) ((text : List ℕ) × PrintsAll open_desk does_desk no_words old steps text new) ok (λ h. (h.0, h.1)))
    (err_then ran (λ r. (text : List ℕ) × Leaves open_desk does_desk size.nodes old steps r text new × S text) (λ r. (text : List ℕ) × Leaves open_desk does_desk size.nodes old steps r text new) err (λ r h. (h.0, h.1))) put
